use Rattle.rl_replay.proofs.Standing.{stands_still}
use Rattle.rl_replay.proofs.replica.Replica.play_item.Goals as goal

pub returns-in-Above-clause-state : goal.returns-in-Above-clause-state
returns-in-Above-clause-state c = stands_still c.args.self.now c.args.stream
