use Rattle.rl_app.specs.Gen.{IsPrinted}
use Rattle.rl_app.proofs.Generated.{answers, passes}
use Rattle.rl_app.proofs.generator.script_answer.Goals as goal

pub returns-in-Ok : goal.returns-in-Ok
returns-in-Ok c = answers IsPrinted c.args.sizes c.in-Ok.script c.in-Ok.ensures.generated c.printed_script.result c.printed_script.ensures

pub returns-in-Err : goal.returns-in-Err
returns-in-Err c = passes IsPrinted c.args.sizes c.in-Err.refused c.in-Err.ensures.generated c.refused_answer.result c.refused_answer.ensures
