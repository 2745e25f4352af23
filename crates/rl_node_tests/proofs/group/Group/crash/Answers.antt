use Rattle.std.proofs.Common.{◌<◌, sym, subst}
use Rattle.rl_node_tests.proofs.Keeping.{member, one_changed}
use Rattle.rl_node_tests.proofs.group.Group.crash.Goals as goal

pub crash_node-requires : goal.crash_node-requires
crash_node-requires c = member c.self.inside c.place-at.result c.index_mut.result.now c.self.invariant (subst (λ k. c.place-at.result < k) (sym c.self.view_is) c.place-at.ensures) c.index_mut.ensures.value

pub invariant_of-self : goal.invariant_of-self
invariant_of-self c = one_changed c.self.inside c.place-at.result c.crash_node.new.node c.self.invariant c.crash_node.ensures
