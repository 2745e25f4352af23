use Rattle.std.proofs.Common.{◌++◌, [], ◌∷◌, codes, ap, sym, ◌∙◌, append-nil}
use Rattle.std.specs.Fmt.{decimal}
use Rattle.std.specs.List.{flat_map}
use Rattle.std.specs.String.{string_bytes}
use Rattle.std.proofs.lemmas.Result.{on_ok_weaker}
use Rattle.rl_text.proofs.Texts.{line_joined, line_more}
use Rattle.rl_report.proofs.printed.push_row.Goals as goal

pub returns : goal.returns
returns c =
    let x = c.args.row.now in
    let named = line_joined (codes "row") [] (x.table ∷ []) _ _ _ c.in_ok-push_str.ensures.bytes
    (c.in_ok-push_name.ensures ∙ ap (λ z. string_bytes c.push_str.new.self ++ 32 ∷ z) (sym (append-nil x.table))) in
    let keyed = line_joined (codes "row") (x.table ∷ []) (decimal x.key ∷ []) _ _ _ named
    (c.in_ok-write.ensures.bytes ∙ ap (λ z. string_bytes c.push_name.new.out ++ 32 ∷ z) (sym (append-nil (decimal x.key)))) in
    on_ok_weaker c.push_numbers.result
    (λ more. line_more decimal (codes "row") (x.table ∷ decimal x.key ∷ []) x.row _ _ _ keyed
    (more ∙ ap (λ xs. string_bytes c.write.new.self ++ flat_map (λ n. 32 ∷ decimal n) xs) c.as_slice.ensures))
    c.push_numbers.ensures
