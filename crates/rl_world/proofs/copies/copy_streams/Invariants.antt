use Rattle.std.proofs.Common.{◌≡◌, take}
use Rattle.rl_world.proofs.copies.copy_streams.Given as goal

abbrev pub invariant-loop-stream : goal.invariant-loop-stream
invariant-loop-stream l = l.copy.items ≡ take l.stream-index l.stream-items
