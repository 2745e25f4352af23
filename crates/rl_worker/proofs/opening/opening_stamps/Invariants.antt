use Rattle.std.proofs.Common.{◌≡◌, take}
use Rattle.rl_worker.specs.Stamping.{opening_stamps}
use Rattle.rl_worker.proofs.opening.opening_stamps.Given as goal

abbrev pub invariant-loop-item : goal.invariant-loop-item
invariant-loop-item l = l.stamps.items ≡ opening_stamps l.layout (take l.item-index l.item-items)
