use Rattle.rl_app.specs.Sim.{IsSimReport}
use Rattle.rl_app.proofs.Simulated.{reports}
use Rattle.rl_app.proofs.sim.world_answer.Goals as goal

pub returns-in-Ok-clause-gives : goal.returns-in-Ok-clause-gives
returns-in-Ok-clause-gives c =
    reports IsSimReport c.args.script c.in-Ok.world c.in-Ok.ensures.ok c.report_answer.result c.report_answer.ensures.status c.report_answer.ensures.report
