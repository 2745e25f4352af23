-- What a transaction may name: tables and columns that are there, registers, and counts in range. What it answers and writes.
use Rattle.std.specs.Prelude.{◌≡◌, ℕ, ◌^◌, ◌<◌, ◌≤◌, List, [], length, All, AllPairs, sum_by, Option, IfSome, IsSomeAnd}
use Rattle.std.specs.declared.cmp.Ordering.TheVariants.{Less}
use Rattle.rl_base.specs.declared.limit.TheConstants.{OPS, REQUESTS, WORKERS}
use Rattle.rl_value.specs.Rows.{place_cmp}
use Rattle.rl_value.specs.Tables.{Table, size_of, columns_of}
use Rattle.rl_txn.specs.Serial.{request_of}
use Rattle.rl_txn.specs.declared.op.Operand.{Operand}
use Rattle.rl_txn.specs.declared.op.Operand.TheVariants.{Reg, Num}
use Rattle.rl_txn.specs.declared.op.Op.{Op}
use Rattle.rl_txn.specs.declared.item.Item.{Item}
use Rattle.rl_txn.specs.declared.write.End.{End}
use Rattle.rl_txn.specs.declared.write.End.TheVariants.{Done, Declined}
use Rattle.rl_txn.specs.declared.write.Reply.{Reply}
use Rattle.rl_txn.specs.declared.write.Write.{Write}
use Rattle.rl_txn.specs.declared.op.Op.TheVariants.{Set, Add, Sub, Mul, Get, Has, Put, Del, Scan, Need, Skip, Out}

-- a register is one of 16, and a number has 64 bits
abbrev pub OperandFits : Operand → Type 0
OperandFits (Reg r) = r < 16
OperandFits (Num n) = n < 2 ^ 64

-- what an op names is there, and its counts are in range
abbrev pub OpFits : List Table → Op → Type 0
OpFits tables (Set d a) = (d < 16) × OperandFits a
OpFits tables (Add d a b) = (d < 16) × OperandFits a × OperandFits b
OpFits tables (Sub d a b) = (d < 16) × OperandFits a × OperandFits b
OpFits tables (Mul d a b) = (d < 16) × OperandFits a × OperandFits b
OpFits tables (Get t k c d) =
    (t < length tables) × OperandFits k × (c < columns_of tables t) × (d < 16)
OpFits tables (Has t k d) = (t < length tables) × OperandFits k × (d < 16)
OpFits tables (Put t k values) =
    (t < length tables) × OperandFits k × All OperandFits values
    × (1 ≤ length values) × (length values ≤ 4) × (length values ≡ columns_of tables t)
OpFits tables (Del t k) = (t < length tables) × OperandFits k
OpFits tables (Scan t k n c d) =
    (t < length tables) × OperandFits k × (1 ≤ n) × (n ≤ 256) × (c < columns_of tables t) × (d < 16)
OpFits tables (Need a rel b) = OperandFits a × OperandFits b
OpFits tables (Skip a rel b n) = OperandFits a × OperandFits b × (1 ≤ n) × (n ≤ 64)
OpFits tables (Out a) = OperandFits a

-- a transaction has few enough ops, each of which fits
pub record TxnFits (tables : List Table) (txn : List Op) : Type 0 where
  pub each : All (OpFits tables) txn
  pub few : length txn ≤ OPS

-- the workers have few enough requests together, each of which fits
pub record ListsFit (tables : List Table) (lists : List (List (List Op))) : Type 0 where
  pub each : All (All (TxnFits tables)) lists
  pub workers : length lists ≤ WORKERS
  pub requests : sum_by length lists ≤ REQUESTS

-- a row, where there is one, has a table's columns
abbrev pub RowHas : (columns : ℕ) → Option (List ℕ) → Type 0
RowHas columns row = IfSome row (λ cells. length cells ≡ columns)

-- a write is at a key that is there, with its table's columns
abbrev pub WriteFits : List Table → Write → Type 0
WriteFits tables w =
    (w.table < length tables) × (w.key < size_of tables w.table)
    × RowHas (columns_of tables w.table) w.row

-- the place of a write is below that of another
abbrev pub IsPlaceBelow : Write → Write → Type 0
IsPlaceBelow v w = place_cmp (v.table, v.key) (w.table, w.key) ≡ Less

-- done, or declined by one of the ops
abbrev pub EndFits : List Op → End → Type 0
EndFits txn Done = Unit {0}
EndFits txn (Declined op) = (1 ≤ op) × (op ≤ length txn)

-- where a transaction was declined, there are no writes
abbrev pub WritesIfDone : End → List Write → Type 0
WritesIfDone Done writes = Unit {0}
WritesIfDone (Declined op) writes = writes ≡ []

-- what a transaction answers and writes: at most an output and a write for each op, an op of its own that declined it,
-- and writes that fit the tables, of which no two are at one place
pub record AnswerFits (tables : List Table) (txn : List Op) (reply : Reply) (writes : List Write) : Type 0 where
  pub outs : length reply.outs ≤ length txn
  pub end : EndFits txn reply.end
  pub few : length writes ≤ length txn
  pub done : WritesIfDone reply.end writes
  pub fit : All (WriteFits tables) writes
  pub rising : AllPairs IsPlaceBelow writes

-- an item answers and writes what fits its request
abbrev pub ItemFits : List Table → List (List (List Op)) → Item → Type 0
ItemFits tables lists item =
    IsSomeAnd (request_of lists item) (λ txn. AnswerFits tables txn item.reply item.writes)

-- what an item writes fits the tables
abbrev pub ItemWritesFit : List Table → Item → Type 0
ItemWritesFit tables item = All (WriteFits tables) item.writes
