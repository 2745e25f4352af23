use Rattle.rl_nodes.specs.Handles.{handles}
use Rattle.rl_nodes.specs.Elections.{elects, ticks}
use Rattle.rl_nodes.specs.Works.{flushes}
use Rattle.rl_node.specs.SetupOf.{setup_of}
use Rattle.rl_node_tests.proofs.Keeping.{after_call}
use Rattle.rl_node_tests.proofs.group.call_node.Goals as goal

pub returns-in-Handle : goal.returns-in-Handle
returns-in-Handle c =
    let setup = setup_of c.args.setup.now in
    after_call setup c.args.node.now c.handle.new.self (λ a x. handles setup a x c.in-Handle.bytes.now) c.handle.result c.requires.node
    c.handle.ensures.done c.handle.ensures.refused

pub returns-in-Elect : goal.returns-in-Elect
returns-in-Elect c =
    let setup = setup_of c.args.setup.now in
    after_call setup c.args.node.now c.elect.new.self (elects setup) c.elect.result c.requires.node c.elect.ensures.done c.elect.ensures.refused

pub returns-in-Tick : goal.returns-in-Tick
returns-in-Tick c =
    let setup = setup_of c.args.setup.now in
    after_call setup c.args.node.now c.tick.new.self (ticks setup) c.tick.result c.requires.node c.tick.ensures.done c.tick.ensures.refused

pub returns-in-Flush : goal.returns-in-Flush
returns-in-Flush c =
    let setup = setup_of c.args.setup.now in
    after_call setup c.args.node.now c.flush.new.self (λ a x. flushes setup a x c.worker_of-in-Flush.result) c.flush.result c.requires.node
    c.flush.ensures.done c.flush.ensures.refused
