use Rattle.std.proofs.Common.{◌<◌, None, sym, subst}
use Rattle.rl_nodes.specs.Elections.{lost}
use Rattle.rl_node.specs.SetupOf.{setup_of}
use Rattle.rl_node_tests.proofs.Keeping.{member, one_changed}
use Rattle.rl_node_tests.proofs.group.Group.lose.Goals as goal

pub invariant_of-self : goal.invariant_of-self
invariant_of-self c =
    let setup = setup_of c.self.inside.setup in
    let was = member c.self.inside c.place-at.result c.index_mut.result.now c.self.invariant (subst (λ k. c.place-at.result < k) (sym c.self.view_is) c.place-at.ensures) c.index_mut.ensures.value in
    one_changed c.self.inside c.place-at.result c.lose.new.self c.self.invariant
    (was.0, (record { node = lost setup was.1.node; failed = None }), c.lose.ensures setup was.0 was.1 was.2)
