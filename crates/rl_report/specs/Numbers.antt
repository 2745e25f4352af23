-- The numbers of a report fit their fields: 64 bits for seqs, words of records, messages, outputs and columns, and 32 bits for all
-- others. A report in memory has no other numbers.
use Rattle.std.specs.Prelude.{ℕ, ◌^◌, ◌<◌, ◌≤◌, length, All}
use Rattle.rl_txn.specs.declared.write.End.{End}
use Rattle.rl_txn.specs.declared.write.End.TheVariants.{Done, Declined}
use Rattle.rl_report.specs.declared.line.ItemLine.{ItemLine}
use Rattle.rl_report.specs.declared.line.RowLine.{RowLine}
use Rattle.rl_report.specs.declared.line.StreamLine.{StreamLine}
use Rattle.rl_report.specs.declared.block.RoleLine.{RoleLine}
use Rattle.rl_report.specs.declared.block.RoleLine.TheVariants.{Follower, Candidate, Opening, Leading}
use Rattle.rl_report.specs.declared.block.Head.{Head}
use Rattle.rl_report.specs.declared.block.Head.TheVariants.{Up, Down}
use Rattle.rl_report.specs.declared.block.Block.{Block}
use Rattle.rl_report.specs.declared.middle.Middle.{Middle}
use Rattle.rl_report.specs.declared.middle.Middle.TheVariants.{Locked, Changed, DeniedPromised, DeniedBallot, DeniedOrder, NoMessage, Opened, Shown}
use Rattle.rl_report.specs.declared.report.Report.{Report}

-- a number of 32 bits
abbrev pub IsShort : ℕ → Type 0
IsShort n = n < 2 ^ 32

-- a number of 64 bits
abbrev pub IsLong : ℕ → Type 0
IsLong n = n < 2 ^ 64

-- the op that declined
abbrev pub EndHasNumbers : End → Type 0
EndHasNumbers Done = Unit {0}
EndHasNumbers (Declined op) = IsShort op

-- an item
pub record ItemHasNumbers (x : ItemLine) : Type 0 where
  pub epoch : IsShort x.stamp.epoch
  pub seq : IsLong x.stamp.seq
  pub worker : IsShort x.worker
  pub index : IsShort x.index
  pub end : EndHasNumbers x.reply.end
  pub outs : All IsLong x.reply.outs

-- a row, which has one to four columns
pub record RowHasNumbers (x : RowLine) : Type 0 where
  pub key : IsShort x.key
  pub columns : All IsLong x.row
  pub some : 0 < length x.row
  pub few : length x.row ≤ 4

-- a stream
pub record StreamHasNumbers (x : StreamLine) : Type 0 where
  pub stream : IsShort x.stream
  pub ballot : IsShort x.ballot
  pub len : IsShort x.len
  pub known : IsShort x.known

-- a role
abbrev pub RoleHasNumbers : RoleLine → Type 0
RoleHasNumbers Follower = Unit {0}
RoleHasNumbers (Candidate epoch have need) = IsShort epoch × IsShort have × IsShort need
RoleHasNumbers (Opening epoch) = IsShort epoch
RoleHasNumbers (Leading epoch) = IsShort epoch

-- a state
abbrev pub HeadHasNumbers : Head → Type 0
HeadHasNumbers (Up promised role watermark at) = IsShort promised × RoleHasNumbers role × IsShort watermark.0 × IsLong watermark.1
HeadHasNumbers (Down promised) = IsShort promised
HeadHasNumbers head = Unit {0}

-- a node
pub record BlockHasNumbers (b : Block) : Type 0 where
  pub node : IsShort b.node
  pub head : HeadHasNumbers b.head
  pub streams : All StreamHasNumbers b.streams
  pub rows : All RowHasNumbers b.rows

-- what became of an event
abbrev pub MiddleHasNumbers : Middle → Type 0
MiddleHasNumbers (Locked e w i t k word) = IsShort e × IsShort w × IsShort i × IsShort k × IsLong word
MiddleHasNumbers (Changed e w i t k seen found) = IsShort e × IsShort w × IsShort i × IsShort k × IsLong seen × IsLong found
MiddleHasNumbers (DeniedPromised m n promised) = IsLong m × IsShort n × IsShort promised
MiddleHasNumbers (DeniedBallot m n ballot) = IsLong m × IsShort n × IsShort ballot
MiddleHasNumbers (DeniedOrder m n len) = IsLong m × IsShort n × IsShort len
MiddleHasNumbers (NoMessage m) = IsLong m
MiddleHasNumbers (Opened e n count) = IsShort e × IsShort n × IsShort count
MiddleHasNumbers (Shown block) = BlockHasNumbers block

-- a report, whose items can be counted
pub record HasNumbers (r : Report) : Type 0 where
  pub middle : All MiddleHasNumbers r.middle
  pub items : All ItemHasNumbers r.items
  pub count : IsLong (length r.items)
  pub tables : All RowHasNumbers r.tables
  pub blocks : All BlockHasNumbers r.blocks
