-- What the line of an op says, without its first word.
use Rattle.std.specs.Prelude.{ℕ, ◌-◌, ◌&&◌, List, [], ◌∷◌, length, ◌==◌, nat_le, Some, None, ok_or, Result, Ok, Err, if◌then◌else◌}
use Rattle.rl_base.specs.Results.{◌>>=◌}
use Rattle.rl_value.specs.Tables.{Table, table_named, columns_of}
use Rattle.rl_txn.specs.declared.op.Op.{Op}
use Rattle.rl_txn.specs.declared.op.Op.TheVariants as op
use Rattle.rl_events.specs.declared.kind.Kind.{Kind}
use Rattle.rl_events.specs.declared.kind.Kind.TheVariants.{Count, UnknownTable}
use Rattle.rl_events.specs.Forms.{Reading, one_word, two_words, three_words, four_words}
use Rattle.rl_events.specs.Words.{within}
use Rattle.rl_script.specs.declared.line.OpWord.{OpWord}
use Rattle.rl_script.specs.declared.line.OpWord.TheVariants as word
use Rattle.rl_script.specs.Words.{register, operand, relation}

-- the number of a table that is declared
abbrev pub known_table : List Table → List ℕ → Result ℕ Kind
known_table tables name = ok_or (table_named name tables) UnknownTable

-- the table of a line that gives a whole row: as many columns as it has, or 1 to 4 where it is not declared
abbrev pub table_for : List Table → List ℕ → (count : ℕ) → Result ℕ Kind
table_for tables name count = elim (table_named name tables) [
  | Some t ↦ if count == columns_of tables t then Ok t else Err Count
  | None ↦ if nat_le 1 count && nat_le count 4 then Err UnknownTable else Err Count
]

-- what each of some words is
unfoldable pub each_word : {A : Type 0} → (List ℕ → Result A Kind) → List (List ℕ) → Result (List A) Kind
each_word read [] = Ok []
each_word read (word ∷ words) = do
  x ← read word
  xs ← each_word read words
  Ok (x ∷ xs)

-- a word that must be a column of a table
abbrev pub column : List Table → ℕ → Reading ℕ
column tables t = within 0 (columns_of tables t - 1)

-- the op of a line, without its first word: so many words, and each what it must be
abbrev pub read_op : List Table → OpWord → List (List ℕ) → Result Op Kind
read_op tables word.Set words = two_words op.Set register operand words
read_op tables word.Add words = three_words op.Add register operand operand words
read_op tables word.Sub words = three_words op.Sub register operand operand words
read_op tables word.Mul words = three_words op.Mul register operand operand words
read_op tables word.Get (table ∷ key ∷ c ∷ d ∷ []) =
    known_table tables table >>= λ t. three_words (op.Get t) operand (column tables t) register (key ∷ c ∷ d ∷ [])
read_op tables word.Has words = three_words op.Has (known_table tables) operand register words
read_op tables word.Put (table ∷ key ∷ values) =
    table_for tables table (length values) >>= λ t. operand key >>= λ key. each_word operand values >>= λ values. Ok (op.Put t key values)
read_op tables word.Del words = two_words op.Del (known_table tables) operand words
read_op tables word.Scan (table ∷ key ∷ count ∷ c ∷ d ∷ []) =
    known_table tables table >>= λ t. four_words (op.Scan t) operand (within 1 256) (column tables t) register (key ∷ count ∷ c ∷ d ∷ [])
read_op tables word.Need words = three_words op.Need operand relation operand words
read_op tables word.Skip words = four_words op.Skip operand relation operand (within 1 64) words
read_op tables word.Out words = one_word op.Out operand words
read_op tables word words = Err Count
