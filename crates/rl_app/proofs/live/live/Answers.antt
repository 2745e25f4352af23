use Rattle.rl_base.specs.declared.limit.TheConstants.{SCRIPT}
use Rattle.rl_app.specs.Answers.{AnswersScript}
use Rattle.rl_app.specs.Live.{AnswersLive, ServesLive}
use Rattle.rl_app.specs.Serve.{Reads, side}
use Rattle.rl_app.proofs.Served.{writes, serves}
use Rattle.rl_app.proofs.live.live.Goals as goal

pub returns : goal.returns
returns g c =
    let made = c.compose-answer.new.made in
    let A = AnswersScript (AnswersLive made) in
    let source = side g.S.Source.left g.S.Source.faults c.args.source.now c.compose-answer.new.source in
    let sink = side g.K.Sink.held g.K.Sink.faults c.args.sink.now c.write_answer-status.new.sink in
    let status = c.write_answer-status.result.code in
    record {
      made = made;
      serves = serves A SCRIPT source sink status (writes (Reads A SCRIPT source) sink c.compose-answer.result status c.compose-answer.ensures c.write_answer-status.ensures);
      gives = c.given_at.ensures;
    }
