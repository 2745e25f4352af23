use Rattle.std.proofs.Common.{refl}
use Rattle.rl_live.proofs.SomeRun.{script, item, run, right}
use Rattle.rl_live.proofs.laws.some_run_is_right.Goals as goal

pub returns : goal.returns
returns c = record { script = script; run = run; item = item; items = refl; right = right }
