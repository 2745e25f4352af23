use Rattle.rl_events.specs.declared.event.Event.TheVariants.{Step}
use Rattle.rl_world.proofs.Happened.{as_run}
use Rattle.rl_world.proofs.run.Run.happen.Goals as goal

pub returns-in-Step-clause-runs : goal.returns-in-Step-clause-runs
returns-in-Step-clause-runs c =
    as_run c.args.self.now c.step.new.self c.args.e.now (Step c.in-Step.node c.in-Step.worker c.in-Step.count) c.in-Step.is c.step.result c.step.ensures.runs
