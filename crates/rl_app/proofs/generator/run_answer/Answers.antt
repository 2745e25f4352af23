use Rattle.rl_app.specs.Sim.{AnswersWorld}
use Rattle.rl_app.specs.Summary.{IsSummary}
use Rattle.rl_app.proofs.Generated.{run_answers, passes}
use Rattle.rl_app.proofs.generator.run_answer.Goals as goal

pub returns-in-Ok : goal.returns-in-Ok
returns-in-Ok c =
    run_answers c.args.sizes c.in-Ok.script c.in-Ok.ensures.generated c.at_most.result c.at_most.ensures c.run_summary.result c.run_summary.ensures

pub returns-in-Err : goal.returns-in-Err
returns-in-Err c =
    passes (AnswersWorld (IsSummary c.args.sizes.requests)) c.args.sizes c.in-Err.refused c.in-Err.ensures.generated c.refused_answer.result c.refused_answer.ensures
