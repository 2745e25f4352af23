use Rattle.std.proofs.Common.{◌≡◌, take}
use Rattle.rl_world.specs.Reported.{stream_lines_from}
use Rattle.rl_world.proofs.blocks.stream_lines.Given as goal

abbrev pub invariant-loop-i : goal.invariant-loop-i
invariant-loop-i l = l.lines.items ≡ stream_lines_from 1 (take l.i l.views)
