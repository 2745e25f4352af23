use Rattle.std.proofs.Common.{◌≡◌, take, map}
use Rattle.rl_families.specs.Logs.{last_seq_among}
use Rattle.rl_cut.proofs.Folds.{found}
use Rattle.rl_cut.proofs.lasts.least_seq.Given as goal

abbrev pub invariant-loop-lasts : goal.invariant-loop-lasts
invariant-loop-lasts l = l.least ≡ found (map (λ ss. last_seq_among ss l.epoch) (take l.lasts-index l.reached))
