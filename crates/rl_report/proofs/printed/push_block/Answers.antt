use Rattle.std.proofs.Common.{◌++◌, [], ◌∷◌, codes, map, ap, refl, ◌∙◌}
use Rattle.std.specs.Fmt.{decimal}
use Rattle.std.specs.String.{string_bytes}
use Rattle.std.proofs.lemmas.Result.{on_ok_weaker}
use Rattle.rl_text.specs.Printed.{text_of}
use Rattle.rl_text.proofs.Texts.{line_joined, line_ended, text_joined}
use Rattle.rl_report.specs.Printed.{head_words, stream_words, row_words, block_lines}
use Rattle.rl_report.proofs.printed.push_block.Goals as goal

pub returns : goal.returns
returns c =
    let b = c.args.block.now in
    let line = codes "node" ∷ decimal b.node ∷ head_words b.head in
    let first = line_ended line _ _ _ (line_joined (codes "node") (decimal b.node ∷ []) (head_words b.head) _ _ _ c.in_ok-write.ensures.bytes c.in_ok-push_head.ensures) c.in_ok-push_str.ensures.bytes in
    let streams = text_joined (line ∷ []) (map stream_words b.streams) (line ∷ map stream_words b.streams) _ _ _ refl first
    (c.in_ok-push_streams.ensures ∙ ap (λ xs. string_bytes c.push_str.new.self ++ text_of (map stream_words xs)) c.as_slice.ensures) in
    on_ok_weaker c.push_rows.result
    (λ more. text_joined (line ∷ map stream_words b.streams) (map row_words b.rows) (block_lines b) _ _ _ refl streams
    (more ∙ ap (λ xs. string_bytes c.push_streams.new.out ++ text_of (map row_words xs)) c.as_slice-2.ensures))
    c.push_rows.ensures
