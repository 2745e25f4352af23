use Rattle.rl_node.specs.SetupOf.{setup_of}
use Rattle.rl_node_tests.proofs.Keeping.{after_return}
use Rattle.rl_node_tests.proofs.group.return_node.Goals as goal

pub returns : goal.returns
returns c = after_return (setup_of c.args.setup.now) c.args.node.now c.back.new.self c.back.result c.requires c.back.ensures.ok c.back.ensures.err
