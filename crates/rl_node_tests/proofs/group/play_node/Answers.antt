use Rattle.rl_node.specs.SetupOf.{setup_of}
use Rattle.rl_node_tests.proofs.Keeping.{after_play}
use Rattle.rl_node_tests.proofs.group.play_node.Goals as goal

pub returns : goal.returns
returns c =
    after_play (setup_of c.args.setup.now) c.args.node.now c.play.new.self c.worker_of.result c.play.result c.requires.node
    c.play.ensures.done c.play.ensures.refused
