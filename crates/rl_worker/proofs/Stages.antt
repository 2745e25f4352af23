-- What a worker comes to by an act.
use Rattle.std.proofs.Common.{◌≡◌, ℕ, List, Bool, true, false, is_some, if◌then◌else◌, Option, Some, None, refl, sym, ap, ◌∙◌, subst}
use mathlib.Core.Bool.{false≢true}
use Rattle.rl_base.specs.declared.refusal.Refusal.{Refusal}
use Rattle.rl_value.specs.Tables.{Table}
use Rattle.rl_txn.specs.declared.item.Item.{Item}
use Rattle.rl_worker.specs.declared.act.Moved as code
use Rattle.rl_worker.specs.declared.commit.Commit.{Commit}
use Rattle.rl_worker.specs.declared.reading.Reading.{Reading}
use Rattle.rl_worker.specs.declared.words.Words.{Words}
use Rattle.rl_worker.specs.declared.worker.Stage.TheVariants as stage
use Rattle.rl_worker.specs.declared.worker.Worker.{Worker}
use Rattle.rl_worker.specs.Phases.{Rest, Wants, Setting}
use Rattle.rl_worker.specs.Workers.{reading_phase, commit_phase, phase_of_worker, CommitFits, decided_at}
use Rattle.rl_worker.specs.Attempts.{reading_left, IsAct, IsOfAttempt, IsCommitting, decided, is_over, ended_worker, finished, Commits}

pub left_rest : (q : ℕ) (r : Reading) (o : Option Refusal) → is_some o ≡ true → reading_left q r o ≡ Rest q
left_rest q r None e = absurd (false≢true e)
left_rest q r (Some f) e = refl

pub left_same : (q : ℕ) (r : Reading) (o : Option Refusal) → is_some o ≡ false → reading_left q r o ≡ reading_phase q r
left_same q r None e = refl
left_same q r (Some f) e = absurd (false≢true (sym e))

-- some setting
pub no_setting : Setting
no_setting = record { there = λ w q. false; ask = λ w q reads. Wants 0; base = 0; last = 0 }

-- a commit acted, and is over or goes on
pub committed : (tables : List Table) (old new : Worker) (words words' : Words) (was to d : Commit) (told : code.Moved) (item : Option Item) (b : Bool)
    → old.stage ≡ stage.Committing was → IsCommitting tables old old.stage
    → ((s : Setting) → IsAct s was.item.worker was.item.stamp.epoch (commit_phase tables was) (commit_phase tables to) words words' told)
    → IsOfAttempt was to → CommitFits tables to → d ≡ decided to → is_over d d.part ≡ b
    → new ≡ (if b then ended_worker old d else record old { stage = stage.Committing d }) → item ≡ (if b then decided_at (stage.Committing d) else None)
    → Commits tables old new words words' (record told { ended = item })
committed tables old new words words' was to d told item b old_is commits act attempt fits d_is over new_is ended_is =
    let mine : IsCommitting tables old (stage.Committing was) = subst (IsCommitting tables old) old_is commits in
    record {
      was = was;
      to = to;
      old_is = old_is;
      act = λ s.
          let a : IsAct s old.number old.epoch (phase_of_worker tables old) (commit_phase tables to) words words' told =
          subst (λ st. IsAct s old.number old.epoch (phase_of_worker tables (record old { stage = st })) (commit_phase tables to) words words' told) (sym old_is)
          (subst (λ n. IsAct s n old.epoch (commit_phase tables was) (commit_phase tables to) words words' told) mine.1
          (subst (λ e. IsAct s was.item.worker e (commit_phase tables was) (commit_phase tables to) words words' told) mine.3 (act s))) in
          record { phase = a.phase; recs = a.recs; next = a.next; refused = a.refused; act = a.act; ended = refl };
      attempt = attempt;
      fits = fits;
      new_is = new_is ∙ ap (λ c. if c then ended_worker old d else record old { stage = stage.Committing d }) (sym over) ∙ ap (finished old) d_is;
      ended = ended_is ∙ ap (λ c. if c then decided_at (stage.Committing d) else None) (sym over) ∙ ap (λ z. if is_over z z.part then decided_at (stage.Committing z) else None) d_is;
    }
