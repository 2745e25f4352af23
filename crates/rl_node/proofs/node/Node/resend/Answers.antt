use Rattle.rl_nodes.specs.Elections.{ticks, sends_again}
use Rattle.rl_node.specs.SetupOf.{setup_of}
use Rattle.rl_node.proofs.Elections.{resent}
use Rattle.rl_node.proofs.Outer.{fails_by}
use Rattle.rl_node.proofs.node.Node.resend.Goals as goal

pub returns-in_err-sends : goal.returns-in_err-sends
returns-in_err-sends c = λ a x s.
    let setup = setup_of c.args.setup.now in
    fails_by setup a c.args.self.now x c.requires.up s (ticks setup a x) c.from_residual.result c.from_residual.ensures.1

pub returns : goal.returns
returns c = λ a x s.
    let setup = setup_of c.args.setup.now in
    resent setup a c.args.self.now x c.in-Up.running c.in-Up.is s c.sending.result
    (λ p stands. c.sending.ensures (sends_again setup c.args.self.now.id p) (c.in_ok-sends.ensures p stands))
