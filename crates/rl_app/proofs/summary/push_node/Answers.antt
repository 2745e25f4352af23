use Rattle.std.proofs.Common.{[], ◌∷◌, codes, ap, ◌∙◌, ◌++◌}
use Rattle.std.specs.Fmt.{decimal}
use Rattle.std.specs.List.{flat_map}
use Rattle.std.specs.String.{string_bytes}
use Rattle.std.proofs.lemmas.Result.{on_ok_weaker}
use Rattle.rl_text.proofs.Texts.{line_joined}
use Rattle.rl_app.specs.Summary.{standing_words}
use Rattle.rl_app.proofs.summary.push_node.Goals as goal

pub returns : goal.returns
returns c =
    let b = c.args.block.now in
    on_ok_weaker c.push_standing.result
    (λ more. line_joined (codes "node") (decimal b.node ∷ []) (standing_words b.head b.rows) _ _ _ c.in_ok-write.ensures.bytes
    (more ∙ ap (λ rows. string_bytes c.write.new.self ++ flat_map (λ w. 32 ∷ w) (standing_words b.head rows)) c.as_slice.ensures))
    c.push_standing.ensures
