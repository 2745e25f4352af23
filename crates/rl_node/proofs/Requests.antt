-- The request that a worker of the code is at is that at which it is in the core.
use Rattle.std.proofs.Common.{◌≡◌, ◌⊎◌, ℕ, zero, suc, ◌-◌, ◌<◌, ◌≤◌, List, [], ◌∷◌, length, Bool, true, false, if◌then◌else◌, is_some, Option, Some, None, IsSomeAnd, refl, sym, ap, ◌∙◌, arith, inl, inr}
use Rattle.std.specs.Prelude.{not, nat_lt, slice_get}
use Rattle.std.specs.Option.{option_and_then}
use Rattle.std.proofs.lemmas.Bool.{cases_Bool, false≢true}
use Rattle.std.proofs.lemmas.Bool.Decides.{nat_tests}
use Rattle.rl_base.proofs.Tests.{lt_true, lt_false, true_lt}
use Rattle.rl_txn.specs.Serial.{numbered, request}
use Rattle.rl_txn.specs.declared.op.Op.{Op}
use Rattle.rl_value.specs.Tables.{Table}
use Rattle.rl_worker.specs.Acts.{Core, resting, phase_of, is_done}
use Rattle.rl_worker.specs.Opening.{setting_of}
use Rattle.rl_worker.specs.Phases.{Rest, Wanting, Loading, Setting}
use Rattle.rl_worker.specs.Workers.{part_phase, reading_phase, stage_phase, phase_of_worker, StageFits, is_resting, WorkerFits, next_of, number_of, decided_at, decided_item}
use Rattle.rl_worker.specs.declared.commit.Commit.{Commit}
use Rattle.rl_worker.specs.declared.commit.Part.{Part}
use Rattle.rl_worker.specs.declared.commit.Part.TheVariants as part
use Rattle.rl_worker.specs.declared.reading.Reading.{Reading}
use Rattle.rl_worker.specs.declared.worker.Stage.{Stage}
use Rattle.rl_worker.specs.declared.worker.Stage.TheVariants as stage
use Rattle.rl_worker.specs.declared.worker.Worker.{Worker}
use Rattle.rl_nodes.specs.Setups.{Setup}
use Rattle.rl_nodes.specs.Works.{request_in}
use Rattle.rl_node.specs.Standing.{AreWorksOf}
use Rattle.rl_node.specs.declared.part.Lead as leads
use Rattle.rl_node.specs.declared.part.Works.{Works}

-- ---- the request ----

at_reading : (q : ℕ) (r : Reading) → request_in (reading_phase q r) ≡ q
at_reading q r = go r.is_open
  where
    go : (b : Bool) → request_in (if b then Loading q r.reads.0 r.next.rec r.next.seen r.next.row else Wanting q r.reads.0 r.next.rec) ≡ q
    go true = refl
    go false = refl

at_part : (tables : List Table) (c : Commit) (p : Part) → request_in (part_phase tables c p) ≡ c.item.index
at_part tables c (part.Locking held) = refl
at_part tables c (part.Validating done) = refl
at_part tables c (part.Storing closed stored) = refl
at_part tables c (part.Refusing closed held) = refl

at_stage : (tables : List Table) (txn : List Op) (w : Worker) (st : Stage) → StageFits tables txn w st → request_in (stage_phase tables (next_of w) st) ≡ next_of w
at_stage tables txn w stage.Resting f = refl
at_stage tables txn w (stage.Reading r) f = at_reading (next_of w) r
at_stage tables txn w (stage.Committing c) f = at_part tables c c.part ∙ f.2

rests_there : (tables : List Table) (w : Worker) (st : Stage) → is_resting st ≡ true → request_in (stage_phase tables (next_of w) st) ≡ next_of w
rests_there tables w stage.Resting h = refl
rests_there tables w (stage.Reading r) h = absurd (cc)
rests_there tables w (stage.Committing c) h = absurd (cc)

pub at_request : (tables : List Table) (lists : List (List (List Op))) (w : Worker) → WorkerFits tables lists w → request_in (phase_of_worker tables w) ≡ next_of w
at_request tables lists w fits = elim (cases_Bool (is_resting w.stage)) [
  | inl rests ↦ rests_there tables w w.stage rests
  | inr runs ↦ some (request lists (number_of w) (next_of w)) (fits.stage runs)
]
  where
    some : (o : Option (List Op)) → IsSomeAnd o (λ txn. StageFits tables txn w w.stage) → request_in (phase_of_worker tables w) ≡ next_of w
    some None h = absurd h
    some (Some txn) h = at_stage tables txn w w.stage h

-- ---- whether it rests ----

resting_part : (tables : List Table) (c : Commit) (p : Part) → resting (part_phase tables c p) ≡ false
resting_part tables c (part.Locking held) = refl
resting_part tables c (part.Validating done) = refl
resting_part tables c (part.Storing closed stored) = refl
resting_part tables c (part.Refusing closed held) = refl

undecided_stage : (tables : List Table) (q : ℕ) (st : Stage) → resting (stage_phase tables q st) ≡ true → decided_at st ≡ None
undecided_stage tables q stage.Resting h = refl
undecided_stage tables q (stage.Reading r) h = refl
undecided_stage tables q (stage.Committing c) h = absurd (false≢true (sym (resting_part tables c c.part) ∙ h))

-- one that rests has decided nothing that has not ended
pub rests_undecided : (tables : List Table) (w : Worker) → resting (phase_of_worker tables w) ≡ true → decided_item w ≡ None
rests_undecided tables w h = undecided_stage tables (next_of w) w.stage h

rests_stage : (tables : List Table) (q : ℕ) (st : Stage) → resting (stage_phase tables q st) ≡ true → stage_phase tables q st ≡ Rest q
rests_stage tables q stage.Resting h = refl
rests_stage tables q (stage.Reading r) h = absurd (false≢true (sym (reads r.is_open) ∙ h))
  where
    reads : (b : Bool) → resting (if b then Loading q r.reads.0 r.next.rec r.next.seen r.next.row else Wanting q r.reads.0 r.next.rec) ≡ false
    reads true = refl
    reads false = refl
rests_stage tables q (stage.Committing c) h = absurd (false≢true (sym (resting_part tables c c.part) ∙ h))

-- it stands before its next request
pub rests_at : (tables : List Table) (w : Worker) → resting (phase_of_worker tables w) ≡ true → phase_of_worker tables w ≡ Rest (next_of w)
rests_at tables w h = rests_stage tables (next_of w) w.stage h

-- ---- whether a request is there ----

got : {X : Type 0} (xs : List X) (i : ℕ) → i < length xs → is_some (slice_get xs i) ≡ true
got [] i l = absurd (omega (arith, l))
got (x ∷ xs) zero l = refl
got (x ∷ xs) (suc i) l = got xs i (omega (arith, l))

not_got : {X : Type 0} (xs : List X) (i : ℕ) → length xs ≤ i → is_some (slice_get xs i) ≡ false
not_got [] i l = refl
not_got (x ∷ xs) zero l = absurd (omega (arith, l))
not_got (x ∷ xs) (suc i) l = not_got xs i (omega (arith, l))

module _ (lists : List (List (List Op))) (w : ℕ) (first : 1 ≤ w) (list : List (List Op)) (at : slice_get lists (w - 1) ≡ Some list) where
  numbered_at : (w : ℕ) → 1 ≤ w → numbered lists w ≡ slice_get lists (w - 1)
  numbered_at zero l = absurd (omega (arith, l))
  numbered_at (suc k) l = ap (slice_get lists) (omega arith)

  request_at : (q : ℕ) → request lists w q ≡ numbered list q
  request_at q = ap (option_and_then (λ (xs : List (List Op)). numbered xs q)) (numbered_at w first ∙ at)

  -- none of number 0, and none behind the list
  pub no_request : (q : ℕ) → (q ≡ 0) ⊎ (length list < q) → is_some (request lists w q) ≡ false
  no_request zero h = ap is_some (request_at zero)
  no_request (suc k) h = ap is_some (request_at (suc k)) ∙ not_got list k (elim h [ inl e ↦ absurd (omega (arith, e)) | inr l ↦ omega (arith, l) ])

  pub some_request : (q : ℕ) → 1 ≤ q → q ≤ length list → is_some (request lists w q) ≡ true
  some_request zero low high = absurd (omega (arith, low))
  some_request (suc k) low high = ap is_some (request_at (suc k)) ∙ got list k (omega (arith, high))

-- ---- whether a worker of the code is done ----

module _ (setup : Setup) (l : leads.Lead) (works : Works) (core : Core) (w : ℕ) (first : 1 ≤ w) (a : AreWorksOf setup l works core)
    (x : Worker) (at : slice_get works.workers.items (w - 1) ≡ Some x) (rests : resting (phase_of_worker setup.program.tables x) ≡ true)
    (list : List (List Op)) (has : slice_get setup.program.lists (w - 1) ≡ Some list) where
  abbrev S : Setting
  S = setting_of setup.program.tables setup.program.lists l.epoch

  at_rest : phase_of core w ≡ Rest (next_of x)
  at_rest = let is = a.each w x first at in ap (phase_of core) (sym is.number) ∙ is.stands.phase ∙ rests_at setup.program.tables x rests

  pub done_if : (next_of x ≡ 0) ⊎ (length list < next_of x) → true ≡ is_done S w (phase_of core w)
  done_if h = ap not (sym (no_request setup.program.lists w first list has (next_of x) h)) ∙ ap (is_done S w) (sym at_rest)

  pub not_done_if : 1 ≤ next_of x → next_of x ≤ length list → false ≡ is_done S w (phase_of core w)
  not_done_if low high = ap not (sym (some_request setup.program.lists w first list has (next_of x) low high)) ∙ ap (is_done S w) (sym at_rest)

  -- as the code tests it
  pub done_by_test : (len next : ℕ) → len ≡ length list → next ≡ next_of x → 1 ≤ next → nat_lt len next ≡ is_done S w (phase_of core w)
  done_by_test len next e is low = elim (lt_or_le len next) [
    | inl less ↦ lt_true len next less ∙ done_if (inr (omega (arith, less, e, is)))
    | inr more ↦ lt_false len next more ∙ not_done_if (omega (arith, low, is)) (omega (arith, more, e, is))
  ]
    where
      false_le : (n m : ℕ) → nat_lt n m ≡ false → m ≤ n
      false_le n m f = grind (arith, nat_tests)

      lt_or_le : (n m : ℕ) → (n < m) ⊎ (m ≤ n)
      lt_or_le n m = elim (cases_Bool (nat_lt n m)) [
        | inl t ↦ inl (true_lt n m t)
        | inr f ↦ inr (false_le n m f)
      ]
