use Rattle.std.proofs.Common.{subst, IfOk}
use Rattle.rl_nodes.specs.Works.{steps}
use Rattle.rl_node.specs.Moves.{out_of, Tells}
use Rattle.rl_node.specs.SetupOf.{setup_of}
use Rattle.rl_node.proofs.Elections.{part_of, is_part}
use Rattle.rl_node.proofs.LeadersTurns.{first_id, last_id, seq_left, works_as}
use Rattle.rl_node.proofs.node.Node.make_step.Goals as goal

pub step-requires-clause-first : goal.step-requires-clause-first
step-requires-clause-first c = first_id (setup_of c.args.setup.now) c.args.self.now c.requires.node

pub step-requires-clause-last : goal.step-requires-clause-last
step-requires-clause-last c = last_id (setup_of c.args.setup.now) c.args.self.now c.requires.node

pub step-requires-clause-part : goal.step-requires-clause-part
step-requires-clause-part c = is_part (setup_of c.args.setup.now) c.args.self.now c.in-Up.field-0 c.in-Up.is c.requires.node

pub step-requires-clause-next : goal.step-requires-clause-next
step-requires-clause-next c = seq_left c.args.self.now c.in-Up.field-0 c.in-Up.is c.requires.next

pub returns-clause-tries : goal.returns-clause-tries
returns-clause-tries c = λ a x s.
    works_as (setup_of c.args.setup.now) a c.args.self.now x s c.requires.up c.in-Up.field-0 c.in-Up.is c.step.new.self
    (λ k y. steps (setup_of c.args.setup.now) k y c.args.worker) (out_of c.step.result) c.step.ensures.tries

pub returns-clause-told : goal.returns-clause-told
returns-clause-told c = λ a x s.
    let setup = setup_of c.args.setup.now in
    subst (λ k. IfOk c.step.result (Tells setup k x c.args.worker)) s.number
    (c.step.ensures.told x (part_of setup a c.args.self.now x c.in-Up.field-0 c.in-Up.is s))
