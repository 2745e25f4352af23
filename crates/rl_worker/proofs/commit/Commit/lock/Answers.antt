use Rattle.std.proofs.Common.{◌≡◌, ◌<◌, Some, None, length, get_or, sum, arith, ap, ◌∙◌, subst, sym}
use Rattle.rl_tables.specs.Numbers.{record_of}
use Rattle.rl_base.specs.declared.refusal.Refusal.{Refusal}
use Rattle.rl_worker.specs.declared.act.Act.TheVariants as act
use Rattle.rl_worker.specs.declared.commit.Commit.{Commit}
use Rattle.rl_worker.specs.declared.words.Words.{Words}
use Rattle.rl_worker.specs.Opening.{install_of}
use Rattle.rl_worker.specs.Workers.{commit_phase}
use Rattle.rl_worker.specs.Attempts.{IsAct}
use Rattle.rl_worker.proofs.Commits.{found_is, locks, lock_refused}
use Rattle.rl_worker.proofs.commit.Commit.lock.Goals as goal
use Rattle.rl_worker.proofs.commit.Commit.lock.Goals.{in-None, in-Some}

pub returns-clause-act : goal.returns-clause-act
returns-clause-act c =
    let w = c.index-as_slice-held.result in
    let recs = c.args.words.now.records.items in
    let x = c.index_mut-record.result.now in
    let w_is : w ≡ get_or c.args.self.now.item.writes c.args.held w = rw c.as_slice.ensures at c.index-as_slice-held.is in
    let r_is : c.record-rec.result ≡ (install_of c.args.schema.now w).rec = c.record-rec.ensures.number ∙ ap (λ l. record_of l w.table w.key) c.requires.layout in
    let there : c.record-rec.result < length recs = omega (arith, c.record-rec.ensures.there, c.requires.records.count, ap sum c.requires.layout) in
    let fx = found_is recs c.record-rec.result x there c.index_mut-record.ensures.value in
    elim c.match-record.branch [
      | in-None v ↦ (λ s. subst (λ (z : Commit). IsAct s c.args.self.now.item.worker c.args.self.now.item.stamp.epoch (commit_phase c.args.schema.now c.args.self.now) (commit_phase c.args.schema.now z) c.args.words.now c.match-record.words c.by.result) (sym v.self-is)
          (locks c.args.schema.now c.args.self.now c.args.held w w_is c.requires.more s c.requires.part c.args.words.now c.match-record.words x c.record-rec.result r_is fx c.by.result
          (ap (λ (z : Words). z.next) v.words-is) v.in-None.is (ap (λ (z : Words). z.records.items) v.words-is)
          (c.by.ensures ∙ ap (λ f. record { act = act.Lock c.record-rec.result c.word-word.result; refused = f; ended = None }) v.refused-is ∙ ap (λ n. record { act = act.Lock c.record-rec.result n; refused = None; ended = None }) c.word-word.ensures)))
      | in-Some v ↦ (λ s. subst (λ (z : Commit). IsAct s c.args.self.now.item.worker c.args.self.now.item.stamp.epoch (commit_phase c.args.schema.now c.args.self.now) (commit_phase c.args.schema.now z) c.args.words.now c.match-record.words c.by.result) (sym v.self-is)
          (lock_refused c.args.schema.now c.args.self.now c.args.held w w_is c.requires.more s c.requires.part c.args.words.now c.match-record.words x c.record-rec.result r_is fx c.by.result
          (ap (λ (z : Words). z.next) v.words-is) v.in-Some.field-0 v.in-Some.is (ap (λ (z : Words). z.records.items) v.words-is)
          (c.by.ensures ∙ ap (λ f. record { act = act.Lock c.record-rec.result c.word-word.result; refused = f; ended = None }) v.refused-is ∙ ap (λ n. record { act = act.Lock c.record-rec.result n; refused = Some (Refusal.Locked c.record-rec.result n); ended = None }) c.word-word.ensures)))
    ]
