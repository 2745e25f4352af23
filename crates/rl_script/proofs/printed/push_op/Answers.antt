use Rattle.std.proofs.Common.{◌++◌, [], ◌∷◌, codes, ap, sym, ◌∙◌}
use Rattle.std.specs.List.{flat_map}
use Rattle.std.specs.String.{string_bytes}
use Rattle.std.proofs.lemmas.Result.{on_ok_weaker}
use Rattle.rl_value.specs.Tables.{name_of}
use Rattle.rl_text.specs.Printed.{line_of}
use Rattle.rl_text.proofs.Texts.{line_more}
use Rattle.rl_script.specs.Printed.{op_words, operand_word}
use Rattle.rl_script.proofs.printed.push_op.Goals as goal

pub returns-in_ok-push_key-in-Put : goal.returns-in_ok-push_key-in-Put
returns-in_ok-push_key-in-Put c =
    on_ok_weaker c.push_operands.result
    (λ more. line_more operand_word (codes "put") (name_of c.args.schema.now c.in-Put.table ∷ operand_word c.in-Put.key ∷ []) c.in-Put.values _ _ _ c.in_ok-push_key-in-Put.ensures
    (more ∙ ap (λ xs. string_bytes c.push_key-in-Put.new.out ++ flat_map (λ a. 32 ∷ operand_word a) xs) c.as_slice.ensures)
    ∙ ap (λ op. string_bytes c.args.out.now ++ line_of (op_words c.args.schema.now op)) (sym c.in-Put.is))
    c.push_operands.ensures
