use Rattle.std.proofs.Common.{◌∷◌, [], not, length, sym, ap, ◌∙◌, arith, length-append}
use Rattle.std.proofs.lemmas.Result.{err_from_is_err_and}
use Rattle.rl_report.specs.Read.{refusals}
use Rattle.rl_report.specs.Words.{lines_in}
use Rattle.rl_report.proofs.Loops.{values_left, onto_nothing, left_more, left_wrong, left_done, stopped}
use Rattle.rl_report.proofs.Shorter.{before_items, read_refusal, refusals_shorter}
use Rattle.rl_report.proofs.parse.refusals_at.Goals as goal

pub refusals-init : goal.refusals-init
unfolding refusals
refusals-init c = record {
  same = ap (λ xs. values_left before_items read_refusal xs (lines_in c.args.text.now)) c.new-lines.ensures ∙ onto_nothing _;
  shorter = omega (arith, ap length c.new-lines.ensures);
}

pub returns-then-counted-clause-refusals : goal.returns-then-counted-clause-refusals
returns-then-counted-clause-refusals c =
    sym c.refusals.invariant.same ∙ left_done before_items read_refusal refusals_shorter c.refusals.lines (lines_in c.refusals.rest.now) (ap not (sym c.in_ok-counted.ensures ∙ c.if-counted.true))

pub returns-in_err-refused-clause-refusals : goal.returns-in_err-refused-clause-refusals
returns-in_err-refused-clause-refusals c =
    let p = err_from_is_err_and c.from_residual-in_err-refused.result c.from_residual-in_err-refused.ensures.1 in
    rw (p.1, p.2) (stopped c.in_err-refused.field-0.0 _ _
    (λ fault wrong. sym c.refusals.invariant.same ∙ left_wrong before_items read_refusal refusals_shorter c.refusals.lines (lines_in c.refusals.rest.now) fault (ap not (sym c.in_ok-counted.ensures ∙ c.if-counted.false)) wrong) c.in_err-refused.ensures.refused)

pub refusals-preserved : goal.refusals-preserved
refusals-preserved c = record {
  same = left_more before_items read_refusal refusals_shorter c.refusals.lines c.push.new.self c.in_ok-refused.refused (lines_in c.refusals.rest.now) (lines_in c.in_ok-refused.after.now) (ap not (sym c.in_ok-counted.ensures ∙ c.if-counted.false)) c.in_ok-refused.ensures.refused c.in_ok-push.ensures.ok
      ∙ c.refusals.invariant.same;
  shorter = omega (arith, c.refusals.invariant.shorter, c.in_ok-refused.ensures.shorter, ap length c.in_ok-push.ensures.ok, length-append c.refusals.lines (c.in_ok-refused.refused ∷ []));
}
