use Rattle.std.proofs.Common.{◌≡◌, ℕ, ◌<◌, ◌==◌, List, [], ◌∷◌, ◌++◌, length, sym, ◌∙◌, arith, length-append}
use Rattle.std.proofs.lemmas.Bool.Decides.{nat_tests}
use Rattle.std.specs.List.{before_first, after_first}
use Rattle.rl_text.specs.Text.{lines_of}
use Rattle.rl_check.proofs.InputLemmas.{FirstOf, passed_more, script_found, report_found, script_whole, report_none, count_whole}
use Rattle.rl_check.proofs.input.parts_of.Goals as goal

first : (rest line after : List ℕ) → lines_of rest ≡ line ∷ lines_of after → line ≡ before_first (λ b. b == 10) rest → after ≡ after_first (λ b. b == 10) rest → length after < length rest → FirstOf rest line after
first rest line after lines before behind shorter = record { lines = lines; before = before; behind = behind; shorter = shorter }

pub returns-then-eq-clause-script : goal.returns-then-eq-clause-script
returns-then-eq-clause-script c =
    let line = c.first_line.result.0.now in
    let after = c.first_line.result.1.now in
    let e = c.first_line.ensures in
    c.split_at.ensures.front ∙ script_found c.args.input.now c.lines.invariant.0 c.lines.rest.now line after c.lines.invariant.1
    (first c.lines.rest.now line after e.line e.before e.after e.shorter) (sym c.eq.ensures ∙ c.if-eq.true)

pub returns-then-eq-clause-report : goal.returns-then-eq-clause-report
returns-then-eq-clause-report c =
    let line = c.first_line.result.0.now in
    let after = c.first_line.result.1.now in
    let e = c.first_line.ensures in
    report_found c.args.input.now c.lines.invariant.0 c.lines.rest.now line after c.lines.invariant.1
    (first c.lines.rest.now line after e.line e.before e.after e.shorter) (sym c.eq.ensures ∙ c.if-eq.true)

pub lines-preserved : goal.lines-preserved
lines-preserved c =
    let passed : List (List ℕ) = c.lines.invariant.0 in
    let line = c.first_line.result.0.now in
    let after = c.first_line.result.1.now in
    let e = c.first_line.ensures in (
      passed ++ line ∷ [],
      passed_more c.args.input.now passed c.lines.rest.now line after c.lines.invariant.1 (first c.lines.rest.now line after e.line e.before e.after e.shorter) (sym c.eq.ensures ∙ c.if-eq.false),
      omega (arith, length-append passed (line ∷ []), c.lines.invariant.2),
    )

pub returns-clause-script : goal.returns-clause-script
returns-clause-script c =
    let none : length c.lines.rest.now ≡ 0 = grind (arith, nat_tests, c.lines-test.false, c.is_empty.ensures) in
    script_whole c.args.input.now c.lines.invariant.0 c.lines.rest.now c.lines.invariant.1 none

pub returns-clause-report : goal.returns-clause-report
returns-clause-report c =
    let none : length c.lines.rest.now ≡ 0 = grind (arith, nat_tests, c.lines-test.false, c.is_empty.ensures) in
    report_none c.args.input.now c.lines.invariant.0 c.lines.rest.now c.lines.invariant.1 none

pub returns-clause-lines : goal.returns-clause-lines
returns-clause-lines c =
    let none : length c.lines.rest.now ≡ 0 = grind (arith, nat_tests, c.lines-test.false, c.is_empty.ensures) in
    c.lines.invariant.2 ∙ count_whole c.args.input.now c.lines.invariant.0 c.lines.rest.now c.lines.invariant.1 none

pub returns-then-eq-clause-few : goal.returns-then-eq-clause-few
returns-then-eq-clause-few c = omega (arith, c.lines.invariant.1.within, c.lines.invariant.2)

pub returns-then-eq-clause-shorter : goal.returns-then-eq-clause-shorter
returns-then-eq-clause-shorter c = omega (arith, c.lines.invariant.1.within, c.first_line.ensures.shorter)

pub returns-clause-few : goal.returns-clause-few
returns-clause-few c = omega (arith, c.lines.invariant.1.within, c.lines.invariant.2)
