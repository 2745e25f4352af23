use Rattle.rl_app.specs.Serve.{Reads, side}
use Rattle.rl_app.proofs.Served.{writes, serves}
use Rattle.rl_app.proofs.serve.serve.Goals as goal

pub returns : goal.returns
returns g c =
    let answers = g.C.Command.answers c.args.command.now c.compose-answer.new.command in
    let source = side g.S.Source.left g.S.Source.faults c.args.source.now c.compose-answer.new.source in
    let sink = side g.K.Sink.held g.K.Sink.faults c.args.sink.now c.write_answer.new.sink in
    serves answers c.args.limit source sink c.write_answer.result.code
    (writes (Reads answers c.args.limit source) sink c.compose-answer.result c.write_answer.result.code c.compose-answer.ensures c.write_answer.ensures)
