use Rattle.std.proofs.Common.{◌∷◌, [], not, length, sym, ap, ◌∙◌, arith, length-append}
use Rattle.std.proofs.lemmas.Result.{err_from_is_err_and}
use Rattle.rl_report.specs.Read.{effects}
use Rattle.rl_report.specs.Words.{lines_in}
use Rattle.rl_report.proofs.Loops.{values_left, onto_nothing, left_more, left_wrong, left_done, stopped}
use Rattle.rl_report.proofs.Shorter.{before_items, read_effect, effects_shorter}
use Rattle.rl_report.proofs.parse.effects_at.Goals as goal

pub effects-init : goal.effects-init
unfolding effects
effects-init c = record {
  same = ap (λ xs. values_left before_items read_effect xs (lines_in c.args.text.now)) c.new-lines.ensures ∙ onto_nothing _;
  shorter = omega (arith, ap length c.new-lines.ensures);
}

pub returns-then-counted-clause-effects : goal.returns-then-counted-clause-effects
returns-then-counted-clause-effects c =
    sym c.effects.invariant.same ∙ left_done before_items read_effect effects_shorter c.effects.lines (lines_in c.effects.rest.now) (ap not (sym c.in_ok-counted.ensures ∙ c.if-counted.true))

pub returns-in_err-effect-clause-effects : goal.returns-in_err-effect-clause-effects
returns-in_err-effect-clause-effects c =
    let p = err_from_is_err_and c.from_residual-in_err-effect.result c.from_residual-in_err-effect.ensures.1 in
    rw (p.1, p.2) (stopped c.in_err-effect.field-0.0 _ _
    (λ fault wrong. sym c.effects.invariant.same ∙ left_wrong before_items read_effect effects_shorter c.effects.lines (lines_in c.effects.rest.now) fault (ap not (sym c.in_ok-counted.ensures ∙ c.if-counted.false)) wrong) c.in_err-effect.ensures.effect)

pub effects-preserved : goal.effects-preserved
effects-preserved c = record {
  same = left_more before_items read_effect effects_shorter c.effects.lines c.push.new.self c.in_ok-effect.effect (lines_in c.effects.rest.now) (lines_in c.in_ok-effect.after.now) (ap not (sym c.in_ok-counted.ensures ∙ c.if-counted.false)) c.in_ok-effect.ensures.effect c.in_ok-push.ensures.ok
      ∙ c.effects.invariant.same;
  shorter = omega (arith, c.effects.invariant.shorter, c.in_ok-effect.ensures.shorter, ap length c.in_ok-push.ensures.ok, length-append c.effects.lines (c.in_ok-effect.effect ∷ []));
}
