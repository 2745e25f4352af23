use Rattle.std.proofs.Common.{◌≡◌, ℕ, ◌<◌, List, ◌∷◌, ◌++◌, length, All, sym, ap, subst, ◌∙◌}
use Rattle.std.specs.Vec.Iter.{into_iter_items}
use Rattle.rl_world.proofs.Rows.{all_middle}
use Rattle.rl_world.proofs.blocks.lines_of.Goals as goal

pub name-requires : goal.name-requires
name-requires c =
    let rest = into_iter_items c.next.new.self in
    let whole : c.loop-entry.yielded ++ (c.in-Some.entry ∷ rest) ≡ c.args.rows =
    ap (λ z. c.loop-entry.yielded ++ z) (sym c.in-Some.ensures.steps.0) ∙ c.loop-entry.invariant.all in
    all_middle (λ (e : (ℕ × ℕ) × List ℕ). e.0.0 < length c.args.schema.now) c.loop-entry.yielded rest c.in-Some.entry
    (subst (All (λ (e : (ℕ × ℕ) × List ℕ). e.0.0 < length c.args.schema.now)) (sym whole) c.requires)
