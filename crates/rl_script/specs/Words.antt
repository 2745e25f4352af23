-- What words must be: registers, operands, relations.
use Rattle.std.specs.Prelude.{ℕ, List, [], ◌∷◌, slice_index, drop, ◌==◌, option_map, ok_or, Result, Ok, Err, if◌then◌else◌, codes}
use Rattle.rl_text.specs.Meanings.{meaning}
use Rattle.rl_txn.specs.declared.op.Operand.{Operand}
use Rattle.rl_txn.specs.declared.op.Operand.TheVariants.{Reg, Num}
use Rattle.rl_txn.specs.declared.op.Rel.{Rel}
use Rattle.rl_txn.specs.declared.op.Rel.TheVariants.{Eq, Ne, Lt, Le, Gt, Ge}
use Rattle.rl_text.specs.Numbers.{number_of, number_within}
use Rattle.rl_events.specs.declared.kind.Kind.{Kind}
use Rattle.rl_events.specs.declared.kind.Kind.TheVariants.{Register, Relation}

-- a word that must be a register, `r0` to `r15`
unfoldable pub register : List ℕ → Result ℕ Kind
register word =
    if slice_index word 0 == 114 then number_within 0 15 Register Register (drop 1 word)
    else Err Register

-- a word that must be a register or a number
abbrev pub operand : List ℕ → Result Operand Kind
operand word = elim (register word) [
  | Ok r ↦ Ok (Reg r)
  | Err kind ↦ ok_or (option_map Num (number_of word)) Register
]

-- a word that must be a relation
abbrev pub relation : List ℕ → Result Rel Kind
relation word = ok_or (meaning {A = Rel}
    ((codes "eq", Eq) ∷ (codes "ne", Ne) ∷ (codes "lt", Lt) ∷ (codes "le", Le) ∷ (codes "gt", Gt) ∷ (codes "ge", Ge) ∷ []) word) Relation
