use Rattle.rl_msg.proofs.MsgLaws.{promise-zip}
use Rattle.rl_msg.proofs.decode.promise_at.Goals as goal

pub returns : goal.returns
returns c = promise-zip c.args.head c.args.bytes.now c.in_ok-ballots.ballots c.in_ok-ballots.logs c.in_ok-ballots.rest.now c.in_ok-ballots.ensures.as_many c.in_ok-ballots.ensures.streams
