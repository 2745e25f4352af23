use Rattle.std.proofs.Common.{None, sym, ap, subst, ◌+◌, ◌++◌, ◌∷◌, [], ◌∙◌}
use Rattle.std.proofs.lemmas.List.Elements.{All-nil}
use Rattle.rl_nodes.specs.Nodes.{new_node}
use Rattle.rl_nodes.specs.Setups.{SetupFits}
use Rattle.rl_node.specs.SetupOf.{setup_of}
use Rattle.rl_node.specs.Standing.{IsNode}
use Rattle.rl_node_tests.proofs.Keeping.{more_some, more_each}
use Rattle.rl_node_tests.proofs.group.Group.new.Goals as goal

pub loop-before-init : goal.loop-before-init
loop-before-init c =
    let setup = setup_of c.new-setup.result in
    let n = c.in_ok-new.field-0 in
    let is = c.in_ok-push.ensures.items ∙ ap (λ xs. xs ++ n ∷ []) c.new-list.ensures.items in
    record {
      some = more_some setup [] c.push.new.self.items n is;
      each = more_each setup [] c.push.new.self.items n is (All-nil (IsNode setup))
          (1, (record { node = new_node setup; failed = None }), c.in_ok-new.ensures);
    }

pub loop-before-preserved : goal.loop-before-preserved
loop-before-preserved c =
    let setup = setup_of c.new-setup.result in
    let n = c.in_ok-new-2.field-0 in
    let is = c.in_ok-push-2.ensures.items in
    record {
      some = more_some setup c.loop-before.list.items c.push-in-loop-before.new.self.items n is;
      each = more_each setup c.loop-before.list.items c.push-in-loop-before.new.self.items n is c.loop-before.invariant.each
          (c.loop-before.before + 1, (record { node = new_node setup; failed = None }), c.in_ok-new-2.ensures);
    }

pub invariant_of-result : goal.invariant_of-result
invariant_of-result c = record {
  fits = subst SetupFits (sym c.new-setup.ensures) (c.scripts_make_setups.ensures c.args.script c.requires);
  some = c.loop-before.invariant.some;
  each = c.loop-before.invariant.each;
}
