use Rattle.std.proofs.Common.{ℕ, ◌<◌, List, length, All, sym, ap, subst, ◌∙◌}
use Rattle.std.specs.FinMap.{entries}
use Rattle.rl_world.proofs.Rows.{tables_there}
use Rattle.rl_world.proofs.blocks.row_lines.Goals as goal

pub lines_of-requires : goal.lines_of-requires
lines_of-requires c =
    let listed = c.in_ok-into_list.ensures ∙ ap entries c.in_ok-copy.ensures in
    subst (All (λ (e : (ℕ × ℕ) × List ℕ). e.0.0 < length c.args.schema.now)) (sym listed)
    (tables_there c.args.schema.now c.args.rows.now c.requires)
