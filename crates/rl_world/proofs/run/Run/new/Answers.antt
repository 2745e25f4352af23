use Rattle.std.proofs.Common.{◌≡◌, ◌+◌, ◌<◌, List, [], ◌∷◌, length, get_or, length-append, sym, ap, subst, ◌∙◌, arith}
use Rattle.rl_nodes.specs.Calls.{Standing}
use Rattle.rl_nodes.specs.Nodes.{new_node}
use Rattle.rl_tables.specs.Numbers.{sizes_of}
use Rattle.rl_node.specs.SetupOf.{setup_of}
use Rattle.rl_node.specs.Standing.{Stands}
use Rattle.rl_node.specs.declared.node.Node.{Node}
use Rattle.rl_world.specs.Standing.{answers}
use Rattle.rl_world.specs.declared.run.Run.{Run}
use Rattle.rl_world.proofs.Beginning.{one_more, new_safe, new_stands}
use Rattle.rl_world.proofs.run.Run.new.Goals as goal

pub loop-before-preserved : goal.loop-before-preserved
loop-before-preserved c =
    let i = c.loop-before.invariant in
    let setup = setup_of c.args.setup in
    let x : Standing = answers (new_node setup) in
    let n : Node = c.in_ok-new.field-0 in
    let longer : length c.push.new.self.items ≡ length c.loop-before.list.items + length (n ∷ []) =
    ap (λ (xs : List Node). length xs) c.in_ok-push.ensures.items ∙ length-append c.loop-before.list.items (n ∷ []) in
    let counted : length c.loop-before.list.items ≡ c.loop-before.before = i.count in
    record {
      count = omega (arith, longer, counted);
      each = λ k d below.
          subst (λ (xs : List Node). Stands setup (k + 1) (get_or xs k d) x) (sym c.in_ok-push.ensures.items)
          (one_more setup x c.loop-before.list.items n c.loop-before.before i.count i.each c.in_ok-new.ensures k d below);
    }

pub returns-clause-safe : goal.returns-clause-safe
returns-clause-safe c =
    let i = c.loop-before.invariant in
    let r : Run = record { setup = c.args.setup; layout = c.in_ok-layout.layout; nodes = c.loop-before.list; told = c.new-3.result } in
    let all : c.loop-before.before ≡ (setup_of c.args.setup).nodes = omega (arith, c.loop-before-test.false, c.loop-before.auto.before-end, c.requires.nodes) in
    new_safe r c.requires.fits (i.count ∙ all) (λ k d below. i.each k d (subst (λ m. k < m) (sym all) below)) c.new-3.ensures (c.in_ok-layout.ensures ∙ ap sizes_of c.schema.ensures)

pub returns-clause-stands : goal.returns-clause-stands
returns-clause-stands c =
    let i = c.loop-before.invariant in
    let r : Run = record { setup = c.args.setup; layout = c.in_ok-layout.layout; nodes = c.loop-before.list; told = c.new-3.result } in
    let all : c.loop-before.before ≡ (setup_of c.args.setup).nodes = omega (arith, c.loop-before-test.false, c.loop-before.auto.before-end, c.requires.nodes) in
    new_stands r c.requires.fits (i.count ∙ all) (λ k d below. i.each k d (subst (λ m. k < m) (sym all) below)) c.new-3.ensures (c.in_ok-layout.ensures ∙ ap sizes_of c.schema.ensures)
