use Rattle.std.proofs.Common.{◌≡◌, ℕ, ◌+◌, Ok, Err, ap, sym, ◌∙◌, arith, length, if◌then◌else◌}
use Rattle.std.specs.Prelude.{is_some}
use Rattle.std.proofs.lemmas.Bool.Decides.{nat_tests}
use Rattle.std.proofs.lemmas.List.{nil_from_length}
use Rattle.rl_text.specs.Text.{lines_of}
use Rattle.rl_events.specs.declared.kind.Kind.TheVariants.{Unended}
use Rattle.rl_script.specs.declared.fault.Problem.{Problem}
use Rattle.rl_script.specs.declared.fault.Problem.TheVariants.{Fault}
use Rattle.rl_script.specs.declared.draft.Draft.{Draft}
use Rattle.std.specs.Prelude.{Result}
use Rattle.rl_script.specs.Read.{read_lines}
use Rattle.rl_script.proofs.script.read_lines.Goals as goal

pub returns-then-is_some-clause-read : goal.returns-then-is_some-clause-read
unfolding read_lines
returns-then-is_some-clause-read c =
    let next : ℕ = c.lines.number + 1 in
    let none : length c.lines.rest.now ≡ 0 = grind (arith, nat_tests, c.lines-test.false, c.is_empty-in-lines.ensures) in
    let ended : Result Draft (ℕ × Problem) = if is_some c.lines.draft.current then Err (next, Fault Unended) else Ok c.lines.draft in
    let here : read_lines next c.lines.draft (lines_of c.lines.rest.now) ≡ ended = ap (λ text. read_lines next c.lines.draft (lines_of text)) (nil_from_length c.lines.rest.now none) in
    let unended : ended ≡ Err (next, Fault Unended) = ap (λ b. if b then Err (next, Fault Unended) else Ok c.lines.draft) (sym c.is_some.ensures ∙ c.if-is_some.true) in
    rw (c.at-then-is_some.ensures, c.from-then-is_some.ensures) (sym c.lines.invariant.same ∙ here ∙ unended)
