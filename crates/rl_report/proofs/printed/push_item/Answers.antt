use Rattle.std.proofs.Common.{◌++◌, [], ◌∷◌, codes, ap, ◌∙◌}
use Rattle.std.specs.Fmt.{decimal}
use Rattle.std.specs.List.{flat_map}
use Rattle.std.specs.String.{string_bytes}
use Rattle.std.proofs.lemmas.Result.{on_ok_weaker}
use Rattle.rl_text.proofs.Texts.{line_joined, line_more}
use Rattle.rl_report.specs.Printed.{end_words}
use Rattle.rl_report.proofs.printed.push_item.Goals as goal

pub returns : goal.returns
returns c =
    let x = c.args.item.now in
    let four = decimal x.stamp.epoch ∷ decimal x.stamp.seq ∷ decimal x.worker ∷ decimal x.index ∷ [] in
    let ended = line_joined (codes "item") four (end_words x.reply.end) _ _ _ c.in_ok-write.ensures.bytes c.in_ok-push_end.ensures in
    on_ok_weaker c.push_numbers.result
    (λ more. line_more decimal (codes "item") (four ++ end_words x.reply.end) x.reply.outs _ _ _ ended
    (more ∙ ap (λ xs. string_bytes c.push_end.new.out ++ flat_map (λ n. 32 ∷ decimal n) xs) c.as_slice.ensures))
    c.push_numbers.ensures
