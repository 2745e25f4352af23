use Rattle.std.proofs.Common.{[], ◌∷◌, ◌++◌, get_or, refl, ap, ◌∙◌}
use Rattle.rl_nodes.specs.declared.view.StreamView.{StreamView}
use Rattle.rl_world.proofs.Streams.{next_line}
use Rattle.rl_world.proofs.blocks.stream_lines.Goals as goal

pub loop-i-preserved : goal.loop-i-preserved
loop-i-preserved c =
    let none : StreamView = record { ballot = 0; len = 0; known = 0 } in
    next_line c.args.views.now c.loop-i.i none (get_or c.args.views.now c.loop-i.i none) c.loop-i.lines.items c.push.new.self.items c.loop-i-test.true refl c.loop-i.invariant
    (c.in_ok-push.ensures.items ∙ ap (λ x. c.loop-i.lines.items ++ x ∷ []) c.stream_line.ensures)
