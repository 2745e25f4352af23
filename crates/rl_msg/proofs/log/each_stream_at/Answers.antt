use Rattle.std.proofs.Common.{◌≡◌, ℕ, List, ◌++◌, ◌∷◌, [], arith, length-append}
use Rattle.std.specs.List.{zip}
use Rattle.std.proofs.lemmas.Result.{err_from_is_err_and}
use Rattle.rl_fields.specs.Fields.{several}
use Rattle.rl_fields.proofs.Loops.{several-more, several-fails, several-done}
use Rattle.rl_msg.specs.Reading.{stream}
use Rattle.rl_msg.proofs.Zips.{zip-push}
use Rattle.rl_msg.proofs.log.each_stream_at.Goals as goal

pub returns-in_err-ballot-clause-streams : goal.returns-in_err-ballot-clause-streams
returns-in_err-ballot-clause-streams c =
    let p = err_from_is_err_and c.from_residual.result c.from_residual.ensures.1 in
    rw (p.1, p.2) (several-fails stream c.in_err-ballot.field-0.0 (zip c.loop-stream.ballots.items c.loop-stream.logs.items) c.args.count c.loop-stream._stream c.loop-stream.rest.now (several stream c.args.count c.args.bytes.now) c.loop-stream-test.true c.in_err-ballot.ensures c.loop-stream.invariant.1)

pub loop-stream-preserved : goal.loop-stream-preserved
loop-stream-preserved c =
    let bs = c.loop-stream.ballots.items in
    let ls = c.loop-stream.logs.items in
    let one : ℕ × List (List ℕ) = (c.in_ok-ballot.ballot, c.in_ok-ballot.log) in
    let ballots : c.push.new.self.items ≡ bs ++ c.in_ok-ballot.ballot ∷ [] = c.in_ok-push.ensures.items in
    let logs : c.push-in-loop-stream.new.self.items ≡ ls ++ c.in_ok-ballot.log ∷ [] = c.in_ok-push-2.ensures.items in
    let more = several-more stream (zip bs ls) c.args.count c.loop-stream._stream c.loop-stream.rest.now one c.in_ok-ballot.after.now (several stream c.args.count c.args.bytes.now) c.loop-stream-test.true c.in_ok-ballot.ensures c.loop-stream.invariant.1 in
    let same = c.loop-stream.invariant.0 in
    (rw (ballots, logs) (omega (arith, length-append bs (c.in_ok-ballot.ballot ∷ []), length-append ls (c.in_ok-ballot.log ∷ []))), rw (ballots, logs, zip-push bs ls c.in_ok-ballot.ballot c.in_ok-ballot.log same) more)

pub returns-clause-streams : goal.returns-clause-streams
returns-clause-streams c = rw (c.from_vec.ensures, c.from_vec-2.ensures) (several-done stream (zip c.loop-stream.ballots.items c.loop-stream.logs.items) c.args.count c.loop-stream._stream c.loop-stream.rest.now (several stream c.args.count c.args.bytes.now) c.loop-stream-test.false c.loop-stream.invariant.1)
