use Rattle.std.proofs.Common.{◌++◌, [], ◌∷◌, codes, ap, sym, ◌∙◌}
use Rattle.std.specs.Fmt.{decimal}
use Rattle.std.specs.String.{string_bytes}
use Rattle.std.proofs.lemmas.Result.{on_ok_weaker}
use Rattle.rl_text.specs.Printed.{text_of}
use Rattle.rl_text.proofs.Texts.{line_closed}
use Rattle.rl_report.specs.Printed.{middle_lines}
use Rattle.rl_report.proofs.printed.push_middle.Goals as goal

pub returns-in_ok-push_attempt-in-Changed : goal.returns-in_ok-push_attempt-in-Changed
returns-in_ok-push_attempt-in-Changed c =
    let x = c.in-Changed in
    on_ok_weaker c.push_cause-in-Changed.result
    (λ more. line_closed (codes "refused") (decimal x.epoch ∷ decimal x.worker ∷ decimal x.index ∷ [])
    (codes "changed" ∷ x.table ∷ decimal x.key ∷ decimal x.seen ∷ decimal x.found ∷ []) _ _ _ c.in_ok-push_attempt-in-Changed.ensures more
    ∙ ap (λ m. string_bytes c.args.out.now ++ text_of (middle_lines m)) (sym x.is))
    c.push_cause-in-Changed.ensures

pub returns-in-DeniedPromised : goal.returns-in-DeniedPromised
returns-in-DeniedPromised c =
    on_ok_weaker c.push_denied.result
    (λ more. more ∙ ap (λ m. string_bytes c.args.out.now ++ text_of (middle_lines m)) (sym c.in-DeniedPromised.is)) c.push_denied.ensures

pub returns-in-DeniedBallot : goal.returns-in-DeniedBallot
returns-in-DeniedBallot c =
    on_ok_weaker c.push_denied-in-DeniedBallot.result
    (λ more. more ∙ ap (λ m. string_bytes c.args.out.now ++ text_of (middle_lines m)) (sym c.in-DeniedBallot.is))
    c.push_denied-in-DeniedBallot.ensures
