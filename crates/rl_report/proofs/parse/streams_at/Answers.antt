use Rattle.std.proofs.Common.{◌≡◌, ◌+◌, ◌∷◌, [], length, sym, ap, ◌∙◌, arith, length-append}
use Rattle.std.proofs.lemmas.Result.{err_from_is_err_and}
use Rattle.rl_report.specs.Read.{streams}
use Rattle.rl_report.specs.Words.{lines_in}
use Rattle.rl_report.proofs.Loops.{values_left, onto_nothing, left_more, left_wrong, left_done, stopped}
use Rattle.rl_report.proofs.Shorter.{more_streams, read_stream, streams_shorter}
use Rattle.rl_report.proofs.parse.streams_at.Goals as goal

pub streams-init : goal.streams-init
unfolding streams
streams-init c = record {
  same = ap (λ xs. values_left more_streams read_stream xs (lines_in c.args.text.now)) c.new-streams.ensures ∙ onto_nothing _;
  shorter = omega (arith, ap length c.new-streams.ensures);
}

pub returns-then-not-comes-clause-streams : goal.returns-then-not-comes-clause-streams
returns-then-not-comes-clause-streams c =
    let num : 1 + length c.streams.streams ≡ c.len.result + 1 = omega (arith, c.len.ensures) in
    sym c.streams.invariant.same ∙ left_done more_streams read_stream streams_shorter c.streams.streams (lines_in c.streams.rest.now) (ap (λ m. more_streams m (lines_in c.streams.rest.now)) num ∙ sym c.in_ok-comes.ensures ∙ c.if-not-comes.true)

pub returns-in_err-stream-clause-streams : goal.returns-in_err-stream-clause-streams
returns-in_err-stream-clause-streams c =
    let num : 1 + length c.streams.streams ≡ c.len.result + 1 = omega (arith, c.len.ensures) in
    let p = err_from_is_err_and c.from_residual-in_err-stream.result c.from_residual-in_err-stream.ensures.1 in
    rw (p.1, p.2) (stopped c.in_err-stream.field-0.0 _ _
    (λ fault wrong. sym c.streams.invariant.same ∙ left_wrong more_streams read_stream streams_shorter c.streams.streams (lines_in c.streams.rest.now) fault (ap (λ m. more_streams m (lines_in c.streams.rest.now)) num ∙ sym c.in_ok-comes.ensures ∙ c.if-not-comes.false) (ap (λ m. read_stream m (lines_in c.streams.rest.now)) num ∙ wrong)) c.in_err-stream.ensures.stream)

pub streams-preserved : goal.streams-preserved
streams-preserved c = let num : 1 + length c.streams.streams ≡ c.len.result + 1 = omega (arith, c.len.ensures) in record {
  same = left_more more_streams read_stream streams_shorter c.streams.streams c.push.new.self c.in_ok-stream.stream (lines_in c.streams.rest.now) (lines_in c.in_ok-stream.after.now) (ap (λ m. more_streams m (lines_in c.streams.rest.now)) num ∙ sym c.in_ok-comes.ensures ∙ c.if-not-comes.false) (ap (λ m. read_stream m (lines_in c.streams.rest.now)) num ∙ c.in_ok-stream.ensures.stream) c.in_ok-push.ensures.ok
      ∙ c.streams.invariant.same;
  shorter = omega (arith, c.streams.invariant.shorter, c.in_ok-stream.ensures.shorter, ap length c.in_ok-push.ensures.ok, length-append c.streams.streams (c.in_ok-stream.stream ∷ []));
}
