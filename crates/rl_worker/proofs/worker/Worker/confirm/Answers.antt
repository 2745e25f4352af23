use Rattle.std.proofs.Common.{◌≡◌, ◌<◌, ◌∙◌, ap, sym, subst, length, arith, None}
use Rattle.std.specs.Result.{result_err}
use Rattle.rl_worker.specs.declared.act.Act.TheVariants as act
use Rattle.rl_worker.specs.declared.act.Moved as code
use Rattle.rl_worker.specs.declared.worker.Stage.TheVariants as stage
use Rattle.rl_worker.specs.Attempts.{IsAct, confirmed_phase}
use Rattle.rl_worker.specs.Workers.{IsReading, StageFits, stage_phase, reading_phase}
use Rattle.rl_worker.specs.Told.{found, word}
use Rattle.rl_worker.proofs.Commits.{found_is}
use Rattle.rl_worker.proofs.worker.Worker.confirm.Goals as goal

pub returns-clause-act : goal.returns-clause-act
returns-clause-act c =
    let tables = c.args.schema.now in
    let self = c.args.self.now in
    let recs = c.args.words.now.records.items in
    let reading = c.in-Reading.reading in
    let left = c.confirm.result in
    let was : self.stage ≡ stage.Reading reading = sym c.replace.ensures.value ∙ c.in-Reading.is in
    let fits : IsReading tables c.args.txn.now reading = subst (StageFits tables c.args.txn.now self) was c.requires.fits in
    let there : reading.next.rec < length recs = omega (arith, fits.next.0, c.requires.records.count) in
    let fx = found_is recs reading.next.rec c.index.result.now there c.index.ensures in
    let told : ◌≡◌ {A = code.Moved} c.by.result (record { act = act.Confirm reading.next.rec (word (found recs reading.next.rec)); refused = result_err left; ended = None }) =
    c.by.ensures ∙ ap (λ n. record { act = act.Confirm reading.next.rec n; refused = c.after_confirm-stage.result.1; ended = None }) (c.word-word.ensures ∙ ap word (sym fx))
    ∙ ap (λ f. record { act = act.Confirm reading.next.rec (word (found recs reading.next.rec)); refused = f; ended = None }) c.after_confirm-stage.ensures.refused in
    record {
      left = left;
      act = λ s w e. subst (λ z. IsAct s w e z (confirmed_phase self.index left) c.args.words.now c.args.words.now c.by.result) (sym (ap (stage_phase tables self.index) was))
          (subst (λ (t : code.Moved). IsAct s w e (reading_phase self.index reading) (confirmed_phase self.index left) c.args.words.now c.args.words.now t) (sym told) (c.confirm.ensures.act s w e self.index));
      ran = c.after_confirm-stage.ensures.phase;
    }
