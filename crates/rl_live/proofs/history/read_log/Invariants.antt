use Rattle.std.proofs.Common.{take}
use Rattle.rl_live.specs.Run.{IsReadAs}
use Rattle.rl_live.proofs.history.read_log.Given as goal

-- the first slots are read
abbrev pub invariant-loop-bytes : goal.invariant-loop-bytes
invariant-loop-bytes l = IsReadAs (take l.bytes-index l.log) l.batches
