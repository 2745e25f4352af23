use Rattle.rl_app.specs.Gen.{GivesRun}
use Rattle.rl_app.specs.Serve.{side}
use Rattle.rl_app.proofs.Served.{writes}
use Rattle.rl_app.proofs.generator.gen_run.Goals as goal

pub returns : goal.returns
returns g c =
    let sink = side g.K.Sink.held g.K.Sink.faults c.args.sink.now c.write_answer.new.sink in
    writes (GivesRun c.args.sizes) sink c.run_answer-answer.result c.write_answer.result.code c.run_answer-answer.ensures c.write_answer.ensures
