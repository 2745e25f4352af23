use Rattle.std.proofs.Common.{◌++◌, [], ◌∷◌, codes, ap, ◌∙◌}
use Rattle.std.specs.Fmt.{decimal}
use Rattle.std.specs.List.{flat_map}
use Rattle.std.specs.String.{string_bytes}
use Rattle.std.proofs.lemmas.Result.{on_ok_weaker}
use Rattle.rl_text.proofs.Texts.{line_more}
use Rattle.rl_script.proofs.printed.push_row_words.Goals as goal

pub returns : goal.returns
returns c =
    on_ok_weaker c.push_numbers.result
    (λ more. line_more decimal (codes "row") (c.args.name.now ∷ decimal c.args.key ∷ []) c.args.row.now _ _ _ c.in_ok-write.ensures.bytes
    (more ∙ ap (λ xs. string_bytes c.write.new.self ++ flat_map (λ n. 32 ∷ decimal n) xs) c.as_slice.ensures))
    c.push_numbers.ensures
