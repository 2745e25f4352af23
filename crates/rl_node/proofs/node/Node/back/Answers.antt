use Rattle.rl_node.specs.SetupOf.{setup_of}
use Rattle.rl_node.proofs.Beginnings.{return_stands}
use Rattle.rl_node.proofs.node.Node.back.Goals as goal

pub returns-clause-ok : goal.returns-clause-ok
returns-clause-ok c = λ a x s.
    return_stands (setup_of c.args.setup.now) a c.args.self.now c.in_ok-new.field-0 x c.requires.down c.in_ok-new.ensures s
