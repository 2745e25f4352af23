use Rattle.rl_nodes.specs.Works.{idles}
use Rattle.rl_node.specs.SetupOf.{setup_of}
use Rattle.rl_node_tests.proofs.Keeping.{after_call}
use Rattle.rl_node_tests.proofs.group.idle_node.Goals as goal

pub returns : goal.returns
returns c =
    let setup = setup_of c.args.setup.now in
    after_call setup c.args.node.now c.idle.new.self (λ a x. idles setup a x c.args.worker) c.idle.result c.requires.node
    c.idle.ensures.done c.idle.ensures.refused
