use Rattle.std.proofs.Common.{◌≡◌, take, map}
use Rattle.rl_cut.specs.Kept.{last_epoch}
use Rattle.rl_cut.proofs.Folds.{found}
use Rattle.rl_cut.proofs.lasts.least_epoch.Given as goal

abbrev pub invariant-loop-lasts : goal.invariant-loop-lasts
invariant-loop-lasts l = l.least ≡ found (map last_epoch (take l.lasts-index l.reached))
