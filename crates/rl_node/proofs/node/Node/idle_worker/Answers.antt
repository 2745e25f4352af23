use Rattle.rl_nodes.specs.Works.{idles}
use Rattle.rl_node.specs.SetupOf.{setup_of}
use Rattle.rl_node.proofs.Elections.{is_part}
use Rattle.rl_node.proofs.LeadersTurns.{first_id, last_id, seq_left, works_as}
use Rattle.rl_node.proofs.node.Node.idle_worker.Goals as goal

pub idle-requires-clause-first : goal.idle-requires-clause-first
idle-requires-clause-first c = first_id (setup_of c.args.setup.now) c.args.self.now c.requires.node

pub idle-requires-clause-last : goal.idle-requires-clause-last
idle-requires-clause-last c = last_id (setup_of c.args.setup.now) c.args.self.now c.requires.node

pub idle-requires-clause-part : goal.idle-requires-clause-part
idle-requires-clause-part c = is_part (setup_of c.args.setup.now) c.args.self.now c.in-Up.field-0 c.in-Up.is c.requires.node

pub idle-requires-clause-next : goal.idle-requires-clause-next
idle-requires-clause-next c = seq_left c.args.self.now c.in-Up.field-0 c.in-Up.is c.requires.next

pub returns-clause-tries : goal.returns-clause-tries
returns-clause-tries c = λ a x s.
    works_as (setup_of c.args.setup.now) a c.args.self.now x s c.requires.up c.in-Up.field-0 c.in-Up.is c.idle.new.self
    (λ k y. idles (setup_of c.args.setup.now) k y c.args.worker) c.idle.result c.idle.ensures
