use Rattle.rl_node.proofs.Replays.{rows_of}
use Rattle.rl_node.proofs.node.Node.map.Goals as goal

pub returns-clause-fit : goal.returns-clause-fit
returns-clause-fit c = λ setup a x s f.
    rows_of setup a c.args.self.now x s f c.in-Up.running c.in-Up.is c.map.result.now c.map.ensures
