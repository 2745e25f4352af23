-- What a transaction does on the rows: its ops in order, with its own writes seen.
use Rattle.std.specs.Prelude.{ℕ, ◌+◌, ◌-◌, ◌*◌, ◌%◌, ◌^◌, Bool, not, List, [], ◌∷◌, ◌++◌, map, slice_index, slice_set, sum_by, ◌==◌, nat_lt, nat_le, is_some, Option, Some, None, if◌then◌else◌, replicate, zero, suc}
use Rattle.std.specs.Option.{option_map_or}
use Rattle.std.specs.List.{range_with_len}
use Rattle.std.specs.FinMap as finite
use Rattle.rl_value.specs.Rows.{Rows, place_cmp}
use Rattle.rl_value.specs.Tables.{Table, size_of}
use Rattle.rl_txn.specs.declared.op.Operand.{Operand}
use Rattle.rl_txn.specs.declared.op.Operand.TheVariants.{Reg, Num}
use Rattle.rl_txn.specs.declared.op.Rel.{Rel}
use Rattle.rl_txn.specs.declared.op.Rel.TheVariants.{Eq, Ne, Lt, Le, Gt, Ge}
use Rattle.rl_txn.specs.declared.op.Op.{Op}
use Rattle.rl_txn.specs.declared.op.Op.TheVariants.{Set, Add, Sub, Mul, Get, Has, Put, Del, Scan, Need, Skip, Out}
use Rattle.rl_txn.specs.declared.write.End.{End}
use Rattle.rl_txn.specs.declared.write.End.TheVariants.{Done, Declined}
use Rattle.rl_txn.specs.declared.write.Reply.{Reply}
use Rattle.rl_txn.specs.declared.write.Write.{Write}

-- what a transaction has written so far: a row, or its absence, at some places (Silo's write set)
abbrev pub Overlay : Type 0
Overlay = finite.FinMap place_cmp (Option (List ℕ))

-- how far a transaction has come: its registers, its outputs, and what it has written
pub record Progress : Type 0 where
  pub regs : List ℕ
  pub outs : List ℕ
  pub written : Overlay

-- what an operand stands for
abbrev pub value_of : Progress → Operand → ℕ
value_of p (Reg r) = slice_index p.regs r
value_of p (Num n) = n

-- a register becomes a number
abbrev pub with_reg : Progress → ℕ → ℕ → Progress
with_reg p d x = record p { regs = slice_set p.regs d x }

-- a row, or its absence, is written at a key
abbrev pub with_row : Progress → ℕ → ℕ → Option (List ℕ) → Progress
with_row p t k row = record p { written = finite.insert p.written (t, k) row }

-- whether two numbers are in a relation
abbrev pub holds : Rel → ℕ → ℕ → Bool
holds Eq a b = a == b
holds Ne a b = not (a == b)
holds Lt a b = nat_lt a b
holds Le a b = nat_le a b
holds Gt a b = nat_lt b a
holds Ge a b = nat_le b a

-- the row at a place, as a transaction sees it
abbrev pub row_seen : Rows → Overlay → ℕ → ℕ → Option (List ℕ)
row_seen rows written t k = option_map_or (λ row. row) (finite.get written (t, k)) (finite.get rows (t, k))

-- a column of a row, and 0 of an absent one
abbrev pub column_of : Option (List ℕ) → ℕ → ℕ
column_of None c = 0
column_of (Some row) c = slice_index row c

-- the wrapping sum of a column over the rows of n keys
abbrev pub scan_sum : Rows → Overlay → ℕ → ℕ → ℕ → ℕ → ℕ
scan_sum rows written t k n c = sum_by (λ key. column_of (row_seen rows written t key) c) (range_with_len k n) % 2 ^ 64

-- the progress where a test holds, and nothing, which declines, where it fails
abbrev pub only_if : Bool → Progress → Option Progress
only_if test p = if test then Some p else None

-- what an op leaves, or nothing where it declines
unfoldable pub op_done : List Table → Rows → Op → Progress → Option Progress
op_done tables rows (Set d a) p = Some (with_reg p d (value_of p a))
op_done tables rows (Add d a b) p = Some (with_reg p d ((value_of p a + value_of p b) % 2 ^ 64))
op_done tables rows (Sub d a b) p = Some (with_reg p d ((value_of p a + (2 ^ 64 - value_of p b)) % 2 ^ 64))
op_done tables rows (Mul d a b) p = Some (with_reg p d ((value_of p a * value_of p b) % 2 ^ 64))
op_done tables rows (Get t k c d) p =
    only_if (nat_lt (value_of p k) (size_of tables t)) (with_reg p d (column_of (row_seen rows p.written t (value_of p k)) c))
op_done tables rows (Has t k d) p =
    only_if (nat_lt (value_of p k) (size_of tables t)) (with_reg p d (if is_some (row_seen rows p.written t (value_of p k)) then 1 else 0))
op_done tables rows (Put t k values) p =
    only_if (nat_lt (value_of p k) (size_of tables t)) (with_row p t (value_of p k) (Some (map (value_of p) values)))
op_done tables rows (Del t k) p =
    only_if (nat_lt (value_of p k) (size_of tables t)) (with_row p t (value_of p k) None)
op_done tables rows (Scan t k n c d) p =
    only_if (nat_le (value_of p k + n) (size_of tables t)) (with_reg p d (scan_sum rows p.written t (value_of p k) n c))
op_done tables rows (Need a rel b) p = only_if (holds rel (value_of p a) (value_of p b)) p
op_done tables rows (Skip a rel b n) p = Some p
op_done tables rows (Out a) p = Some (record p { outs = p.outs ++ value_of p a ∷ [] })

-- how many of the ops after it an op skips
abbrev pub passes : Op → Progress → ℕ
passes (Skip a rel b n) p = if holds rel (value_of p a) (value_of p b) then n else 0
passes op p = 0

-- the ops from the one of a number on, the first few of them skipped: what they leave, and how they
-- end
unfoldable pub ops_done : List Table → Rows → ℕ → ℕ → List Op → Progress → Progress × End
ops_done tables rows number skipped [] p = (p, Done)
ops_done tables rows number zero (op ∷ ops) p =
    option_map_or (λ next. ops_done tables rows (number + 1) (passes op p) ops next) (op_done tables rows op p) (p, Declined number)
ops_done tables rows number (suc skipped) (op ∷ ops) p = ops_done tables rows (number + 1) skipped ops p

-- nothing is done yet: all registers are 0
abbrev pub beginning : Progress
beginning = record { regs = replicate 16 0; outs = []; written = finite.empty }

-- an entry of what was written, as a write
abbrev pub write_of : (ℕ × ℕ) × Option (List ℕ) → Write
write_of e = record { table = e.0.0; key = e.0.1; row = e.1 }

-- the writes of a transaction that is done, one for each place, the last, in rising order; a
-- declined one has none
abbrev pub writes_of : Progress → End → List Write
writes_of p Done = map write_of (finite.entries p.written)
writes_of p (Declined op) = []

-- the reply and the writes of a transaction on some rows
unfoldable pub run : List Table → List Op → Rows → Reply × List Write
run tables txn rows =
    let end = ops_done tables rows 1 0 txn beginning in
    (record { outs = end.0.outs; end = end.1 }, writes_of end.0 end.1)
