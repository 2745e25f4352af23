use Rattle.std.proofs.Common.{◌<◌, sym, subst}
use Rattle.rl_node_tests.proofs.Keeping.{member, one_changed}
use Rattle.rl_node_tests.proofs.group.Group.play.Goals as goal

pub play_node-requires-clause-node : goal.play_node-requires-clause-node
play_node-requires-clause-node c = member c.self.inside c.place-at.result c.index_mut.result.now c.self.invariant (subst (λ k. c.place-at.result < k) (sym c.self.view_is) c.place-at.ensures) c.index_mut.ensures.value

pub invariant_of-self : goal.invariant_of-self
invariant_of-self c = one_changed c.self.inside c.place-at.result c.play_node.new.node c.self.invariant c.play_node.ensures
