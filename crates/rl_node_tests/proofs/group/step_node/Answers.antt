use Rattle.rl_nodes.specs.Works.{steps}
use Rattle.rl_node.specs.Moves.{out_of}
use Rattle.rl_node.specs.SetupOf.{setup_of}
use Rattle.rl_node_tests.proofs.Keeping.{after_call}
use Rattle.rl_node_tests.proofs.group.step_node.Goals as goal

pub returns-in-Ok : goal.returns-in-Ok
returns-in-Ok c =
    let setup = setup_of c.args.setup.now in
    after_call setup c.args.node.now c.step.new.self (λ a x. steps setup a x c.args.worker) (out_of c.step.result) c.requires.node
    c.step.ensures.done c.step.ensures.refused

pub returns-in-Err : goal.returns-in-Err
returns-in-Err c =
    let setup = setup_of c.args.setup.now in
    after_call setup c.args.node.now c.step.new.self (λ a x. steps setup a x c.args.worker) (out_of c.step.result) c.requires.node
    c.step.ensures.done c.step.ensures.refused
