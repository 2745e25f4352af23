use Rattle.std.proofs.Common.{◌≡◌, take, length}
use Rattle.rl_cut.proofs.lasts.cut_to.Given as goal

abbrev pub invariant-loop-stamps : goal.invariant-loop-stamps
invariant-loop-stamps l = take l.len l.stamps ≡ take l.len l.fn.stamps

abbrev pub decreases-loop-stamps : goal.decreases-loop-stamps
decreases-loop-stamps l = length l.stamps
