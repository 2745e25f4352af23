use Rattle.std.proofs.Common.{◌≡◌, ◌++◌, ap, ◌∙◌}
use Rattle.std.specs.String.{string_bytes}
use Rattle.rl_text.specs.Printed.{text_of}
use Rattle.rl_script.specs.Printed.{event_lines, printed}
use Rattle.rl_script.specs.Read.{read}
use Rattle.rl_script.proofs.PrintLemmas.{script_done}
use Rattle.rl_script.proofs.ScriptBack.{script_back}
use Rattle.rl_script.proofs.ShortBack.{printed_is_short}
use Rattle.rl_script.proofs.printed.print.Goals as goal

pub returns : goal.returns
returns c =
    let text : c.from_vec.result ≡ printed c.args.script.now =
    c.from_vec.ensures ∙ ap (λ v. v.items) c.into_bytes.ensures.value
    ∙ script_done c.args.script.now _ _ _ _ _ _ c.in_ok-out.ensures.ok c.in_ok-push_settings.ensures c.in_ok-push_tables.ensures c.in_ok-push_rows.ensures c.in_ok-push_lists.ensures
    (c.in_ok-push_events.ensures ∙ ap (λ events. string_bytes c.push_lists.new.out ++ text_of (event_lines events)) c.as_slice.ensures) in
    record { text = text; read = ap read text ∙ script_back c.args.script.now c.requires; short = rw text (printed_is_short c.args.script.now c.requires) }
