use Rattle.std.proofs.Common.{◌<◌, sym, subst}
use Rattle.rl_node_tests.proofs.Keeping.{member}
use Rattle.rl_node_tests.proofs.group.Group.view.Goals as goal

pub view-requires-clause-node : goal.view-requires-clause-node
view-requires-clause-node c = member c.self.inside c.place.result c.index.result.now c.self.invariant (subst (λ k. c.place.result < k) (sym c.self.view_is) c.place.ensures) c.index.ensures
