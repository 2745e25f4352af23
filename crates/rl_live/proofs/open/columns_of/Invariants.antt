use Rattle.rl_shared_replay.specs.Opening.{Wide}
use Rattle.rl_live.proofs.open.columns_of.Given as goal

-- the columns of the first records
abbrev pub invariant-loop-r : goal.invariant-loop-r
invariant-loop-r l = Wide l.schema l.layout l.r l.columns.items
