use Rattle.std.proofs.Common.{◌∙◌, ap}
use Rattle.rl_worker.specs.Phases.{asked}
use Rattle.rl_worker.specs.Opening.{outcome}
use Rattle.rl_worker.specs.Attempts.{Began}
use Rattle.rl_worker.proofs.worker.Worker.start.Goals as goal

pub returns-clause-begun : goal.returns-clause-begun
returns-clause-begun c = Began c.requires.rests
    c.run_on.ensures.undecided (c.run_on.ensures.phase ∙ ap (λ xs. asked c.args.self.now.index xs (outcome c.args.schema.now c.args.txn.now xs)) c.in_ok-reading.ensures.none)
