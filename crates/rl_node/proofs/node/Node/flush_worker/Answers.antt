use Rattle.rl_nodes.specs.Works.{flushes}
use Rattle.rl_node.specs.SetupOf.{setup_of}
use Rattle.rl_node.proofs.Elections.{is_part}
use Rattle.rl_node.proofs.LeadersTurns.{first_id, last_id, works_as}
use Rattle.rl_node.proofs.node.Node.flush_worker.Goals as goal

pub flush-requires-clause-first : goal.flush-requires-clause-first
flush-requires-clause-first c = first_id (setup_of c.args.setup.now) c.args.self.now c.requires.node

pub flush-requires-clause-last : goal.flush-requires-clause-last
flush-requires-clause-last c = last_id (setup_of c.args.setup.now) c.args.self.now c.requires.node

pub flush-requires-clause-part : goal.flush-requires-clause-part
flush-requires-clause-part c = is_part (setup_of c.args.setup.now) c.args.self.now c.in-Up.field-0 c.in-Up.is c.requires.node

pub returns-clause-tries : goal.returns-clause-tries
returns-clause-tries c = λ a x s.
    works_as (setup_of c.args.setup.now) a c.args.self.now x s c.requires.up c.in-Up.field-0 c.in-Up.is c.flush.new.self
    (λ k y. flushes (setup_of c.args.setup.now) k y c.args.worker) c.flush.result c.flush.ensures
