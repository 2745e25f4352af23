-- How an answer is written, and a call served.
use Rattle.std.proofs.Common.{◌≡◌, ℕ, ◌<◌, ◌≤◌, ◌⊎◌, inl, inr, List, [], length, Option, Some, None, IfSome, IfOk, MatchResult, Result, Ok, Err, refl, sym, subst, arith}
use Rattle.rl_base.specs.declared.memory.Memory.{Memory}
use Rattle.rl_app.specs.declared.answer.Answer.{Answer}
use Rattle.rl_app.specs.Serve.{Side, FaultsRose, memory_line, Delivers, Writes, Reads, Serves}

-- where no write failed the status is the one that was composed
kept : (sink : Side) (composed : ℕ) (text : List ℕ) (status : ℕ) → Delivers sink composed text status → (FaultsRose sink → ⊥) → status ≡ composed
kept sink composed text status (inl whole) fine = whole.0
kept sink composed text status (inr cut) fine = absurd (fine cut.1)

-- what was composed is written
pub writes : (A : ℕ → List ℕ → Type 0) (sink : Side) (answer : Result Answer Memory) (status : ℕ)
    → IfOk answer (λ a. A a.status.code a.text)
    → MatchResult answer (λ a. Delivers sink a.status.code a.text status) (λ _. Delivers sink 7 memory_line status)
    → Writes A sink status
writes A sink (Ok a) status composes delivers = record {
  composed = a.status.code;
  text = a.text;
  composes = inl composes;
  delivers = delivers;
  complete = λ fine. inl (subst (λ n. A n a.text) (sym (kept sink a.status.code a.text status delivers fine)) composes);
}
writes A sink (Err memory) status composes delivers = record {
  composed = 7;
  text = memory_line;
  composes = inr (refl, refl);
  delivers = delivers;
  complete = λ fine. inr (kept sink 7 memory_line status delivers fine);
}

module _ (A : List ℕ → ℕ → List ℕ → Type 0) (limit : ℕ) (source sink : Side) (status : ℕ) where
  Complete : List ℕ → Type 0
  Complete input = ((text : List ℕ) × A input status text) ⊎ (status ≡ 7)

  -- what was composed of an input within the limit is its answer, unless a read failed
  answered : (input text : List ℕ) → source.before ≡ Some input → length input ≤ limit → (FaultsRose source → ⊥) → Reads A limit source status text → A input status text
  answered input text tells within fine (inl answers) =
      let read = subst (λ (left : Option (List ℕ)). IfSome left (λ left. (left ≡ answers.input) × (source.after ≡ Some []))) tells answers.was_read in
      subst (λ xs. A xs status text) (sym read.0) answers.answer
  answered input text tells within fine (inr (inl long)) =
      let longer : limit < length input = subst (λ (left : Option (List ℕ)). IfSome left (λ left. limit < length left)) tells long.1 in
      absurd (omega (arith, within, longer))
  answered input text tells within fine (inr (inr fault)) = absurd (fine fault.1)

  -- a call that reads is served
  pub serves : Writes (Reads A limit source) sink status → Serves A limit source sink status
  serves w = record { writes = w; complete = complete source.before refl }
    where
      complete : (before : Option (List ℕ)) → source.before ≡ before → IfSome before (λ input. length input ≤ limit → (FaultsRose source → ⊥) → (FaultsRose sink → ⊥) → ((text : List ℕ) × A input status text) ⊎ (status ≡ 7))
      complete None tells = tt
      complete (Some input) tells = λ within fine_source fine_sink. elim (w.complete fine_sink) [
        | inl reads ↦ inl (w.text, answered input w.text tells within fine_source reads)
        | inr memory ↦ inr memory
      ]
