-- A step of a worker is a step of the core.
use Rattle.std.proofs.Common.{◌≡◌, ℕ, zero, suc, ◌+◌, ◌<◌, ◌≤◌, List, [], ◌∷◌, ◌++◌, option_to_list, length, set, Bool, true, false, not, is_some, if◌then◌else◌, Option, Some, None, IfSome, IsSomeAnd, slice_get, sum_by, refl, sym, ap, ◌∙◌, subst, arith}
use mathlib.Core.Bool.{false≢true}
use Rattle.std.specs.Option.{option_map, option_map_or, option_and_then}
use Rattle.std.proofs.lemmas.List.{set-set, set-get_or}
use Rattle.std.proofs.lemmas.List.Sums.{sum_by-cons}
use Rattle.rl_value.specs.Tables.{Table}
use Rattle.rl_txn.specs.Fits.{ListsFit}
use Rattle.rl_txn.specs.Serial.{numbered, request}
use Rattle.rl_base.specs.declared.limit.TheConstants.{REQUESTS}
use Rattle.rl_txn.specs.declared.op.Op.{Op}
use Rattle.rl_worker.specs.declared.act.Act.TheVariants as act
use Rattle.rl_worker.specs.declared.act.Moved as code
use Rattle.rl_worker.specs.declared.commit.Commit.{Commit}
use Rattle.rl_worker.specs.declared.commit.Part.{Part}
use Rattle.rl_worker.specs.declared.commit.Part.TheVariants as part
use Rattle.rl_worker.specs.declared.reading.Reading.{Reading}
use Rattle.rl_worker.specs.declared.words.Words.{Words}
use Rattle.rl_worker.specs.declared.worker.Stage.{Stage}
use Rattle.rl_worker.specs.declared.worker.Stage.TheVariants as stage
use Rattle.rl_worker.specs.declared.worker.Worker.{Worker}
use Rattle.rl_worker.specs.Phases.{Read, Phase, Rest, Asking, Wanting, Loading, Locking, Validating, Storing, Refusing, Wants, Setting, asked}
use Rattle.rl_worker.specs.Acts.{Core, resting, target, micro, settle, step, begin, is_done}
use Rattle.rl_worker.proofs.Parts.{step_on}
use Rattle.rl_worker.specs.Opening.{outcome, setting_of}
use Rattle.rl_worker.specs.Workers.{core_item, part_phase, reading_phase, stage_phase, phase_of_worker, StageFits, is_resting, decided_at, decided_item, act_of_step, Stands, stamp_next, either, newly_decided, with_item, WorkerFits, Steps}
use Rattle.rl_worker.specs.Attempts.{IsAttemptOf, IsActed, Loaded, Confirmed, Committed, HasBegun, Began, Went}
use Rattle.rl_worker.specs.Told.{found, act_of}
use Rattle.rl_worker.proofs.CodeItems.{IsOf, stamp_by, CodeSteps, seen_steps}
use Rattle.rl_worker.specs.Acts as acts
use Rattle.rl_worker.proofs.Cores.{At, Settled, begun}
use Rattle.rl_worker.proofs.Stages.{no_setting}
use Rattle.rl_worker.proofs.Turns.{stepped}
use Rattle.rl_txn.specs.declared.item.Item as items

rest_part : (tables : List Table) (c : Commit) (p : Part) → resting (part_phase tables c p) ≡ false
rest_part tables c (part.Locking held) = refl
rest_part tables c (part.Validating done) = refl
rest_part tables c (part.Storing closed stored) = refl
rest_part tables c (part.Refusing closed held) = refl

rest_reading : (q : ℕ) (r : Reading) → resting (reading_phase q r) ≡ false
rest_reading q r = go r.is_open
  where
    go : (b : Bool) → resting (if b then Loading q r.reads.0 r.next.rec r.next.seen r.next.row else Wanting q r.reads.0 r.next.rec) ≡ false
    go true = refl
    go false = refl

pub rests : (tables : List Table) (q : ℕ) (st : Stage) → resting (stage_phase tables q st) ≡ is_resting st
rests tables q stage.Resting = refl
rests tables q (stage.Reading r) = rest_reading q r
rests tables q (stage.Committing c) = rest_part tables c c.part

pub is_rest : (st : Stage) → is_resting st ≡ true → st ≡ stage.Resting
is_rest stage.Resting h = refl
is_rest (stage.Reading r) h = absurd (false≢true h)
is_rest (stage.Committing c) h = absurd (false≢true h)

long_list : (lists : List (List (List Op))) (n : ℕ) (list : List (List Op)) → slice_get lists n ≡ Some list → length list ≤ sum_by length lists
long_list [] n list e = absurd (cc)
long_list (x ∷ xs) zero list e = let all = sum_by-cons length x xs in let same : x ≡ list = cc in omega (arith, ap length same)
long_list (x ∷ xs) (suc n) list e = let all = sum_by-cons length x xs in omega (arith, long_list xs n list e)

within_list : (list : List (List Op)) (n : ℕ) (txn : List Op) → slice_get list n ≡ Some txn → n < length list
within_list [] n txn e = absurd (cc)
within_list (x ∷ xs) zero txn e = omega arith
within_list (x ∷ xs) (suc n) txn e = omega (arith, within_list xs n txn e)

-- a request that is there has an index in range
pub index_few : (tables : List Table) (lists : List (List (List Op))) → ListsFit tables lists → (w q : ℕ) (txn : List Op) → request lists w q ≡ Some txn → q ≤ REQUESTS
index_few tables lists fits zero q txn e = absurd (cc)
index_few tables lists fits (suc w) q txn e = go (slice_get lists w) refl e
  where
    in_list : (list : List (List Op)) (k : ℕ) → numbered list k ≡ Some txn → k ≤ length list
    in_list list zero f = absurd (cc)
    in_list list (suc k) f = omega (arith, within_list list k txn f)

    go : (o : Option (List (List Op))) → slice_get lists w ≡ o → option_and_then (λ list. numbered list q) o ≡ Some txn → q ≤ REQUESTS
    go None f e = absurd (cc)
    go (Some list) f e = omega (arith, in_list list q e, long_list lists w list f, fits.requests)

-- what a worker asks is what its request does
pub asks_it : (tables : List Table) (lists : List (List (List Op))) (e w q : ℕ) (txn : List Op) → Some txn ≡ request lists w q → (reads : List Read)
    → (setting_of tables lists e).ask w q reads ≡ outcome tables txn reads
asks_it tables lists e w q txn r reads = ap (λ o. option_map_or (λ t. outcome tables t reads) o (Wants 0)) (sym r)

fits_it : (tables : List Table) (lists : List (List (List Op))) (w : Worker) (txn : List Op) → Some txn ≡ request lists w.number w.index → IsSomeAnd (request lists w.number w.index) (λ t. StageFits tables t w w.stage) → StageFits tables txn w w.stage
fits_it tables lists w txn r h = subst (λ o. IsSomeAnd o (λ t. StageFits tables t w w.stage)) (sym r) h

-- a worker of the lists keeps what its stage does
pub stage_fits : (tables : List Table) (lists : List (List (List Op))) (w : Worker) (txn : List Op) → Some txn ≡ request lists w.number w.index → WorkerFits tables lists w → StageFits tables txn w w.stage
stage_fits tables lists w txn r fits = go (is_resting w.stage) refl
  where
    go : (b : Bool) → is_resting w.stage ≡ b → StageFits tables txn w w.stage
    go true h = subst (StageFits tables txn w) (sym (is_rest w.stage h)) tt
    go false h = fits_it tables lists w txn r (fits.stage h)

not_done : (s : Setting) (w : ℕ) (p : Phase) → resting p ≡ false → is_done s w p ≡ false
not_done s w (Rest q) h = absurd (false≢true (sym h))
not_done s w (Asking q reads) h = refl
not_done s w (Wanting q reads r) h = refl
not_done s w (Loading q reads r seen loaded) h = refl
not_done s w (Locking q reads answer locked todo) h = refl
not_done s w (Validating q t done todo answer writes) h = refl
not_done s w (Storing item j todo) h = refl
not_done s w (Refusing q todo) h = refl

-- what an act tells of itself
pub tells : (tables : List Table) (txn : List Op) (old new : Worker) (words words' : Words) (told : code.Moved) → IsActed tables txn old new words words' told
    → told.act ≡ act_of words.next (phase_of_worker tables old) (found words.records.items (target (phase_of_worker tables old)))
tells tables txn old new words words' told (Loaded same reads attempt f none act) = (act no_setting 0 0).act
tells tables txn old new words words' told (Confirmed same reads attempt f none c) = (c.act no_setting 0 0).act
tells tables txn old new words words' told (Committed c) = (c.act no_setting).act

module _ (tables : List Table) (s : Setting) (old : Worker) (words : Words) (core : Core) (st : Stands tables old words core) where
  -- in an attempt
  on : is_resting old.stage ≡ false → step s core old.number ≡ settle s (settle s (micro s core old.number) old.number) old.number
  on h =
      let no : resting (acts.phase_of core old.number) ≡ false = ap resting st.phase ∙ rests tables old.index old.stage ∙ h in
      ap (λ b. if b then core else step_on s core old.number) (not_done s old.number (acts.phase_of core old.number) no)
      ∙ ap (λ b. settle s (settle s (micro s (if b then micro s (micro s core old.number) old.number else core) old.number) old.number) old.number) no

  in_attempt : (txn : List Op) (new : Worker) (words' : Words) (told : code.Moved) → is_resting old.stage ≡ false → ((reads : List Read) → s.ask old.number old.index reads ≡ outcome tables txn reads)
      → StageFits tables txn old old.stage → IsActed tables txn old new words words' told → CodeSteps tables old new words' told core (step s core old.number)
  in_attempt txn new words' told h asks fits acted = subst (CodeSteps tables old new words' told core) (sym (on h)) (stepped tables txn s old new words words' told core asks fits st acted)

  tells_on : (txn : List Op) (new : Worker) (words' : Words) (told : code.Moved) → is_resting old.stage ≡ false → IsActed tables txn old new words words' told → told.act ≡ act_of_step s words.next core old.number
  tells_on txn new words' told h acted =
      let no : resting (acts.phase_of core old.number) ≡ false = ap resting st.phase ∙ rests tables old.index old.stage ∙ h in
      let same : begin s core old.number ≡ core = ap (λ b. if b then micro s (micro s core old.number) old.number else core) no in
      tells tables txn old new words words' told acted
      ∙ ap (λ (p : Phase). act_of words.next p (found words.records.items (target p))) (sym st.phase)
      ∙ ap (λ rs. act_of words.next (acts.phase_of core old.number) (found rs (target (acts.phase_of core old.number)))) (sym st.recs)
      ∙ ap (λ (z : Core). act_of words.next (acts.phase_of z old.number) (found core.recs (target (acts.phase_of z old.number)))) (sym same)
      ∙ ap (λ b. if b then act.Rest else act_of words.next (acts.phase_of (begin s core old.number) old.number) (found core.recs (target (acts.phase_of (begin s core old.number) old.number))))
      (sym (not_done s old.number (acts.phase_of core old.number) no))

  module _ (rest : old.stage ≡ stage.Resting) (there : s.there old.number old.index ≡ true) where
    at : At core old.number (Rest old.index) words.records.items (stamp_next old.epoch words)
    at = record { recs = st.recs; next = st.next; there = st.there; phase = st.phase ∙ ap (stage_phase tables old.index) rest }

    after : Settled core (begin s core old.number) old.number (asked old.index [] (s.ask old.number old.index [])) None None words.records.items (stamp_next old.epoch words)
    after = begun s core old.number words.records.items (stamp_next old.epoch words) old.index at

    more : is_done s old.number (acts.phase_of core old.number) ≡ false
    more = ap (is_done s old.number) at.phase ∙ ap not there

    from : step s core old.number ≡ settle s (settle s (micro s (begin s core old.number) old.number) old.number) old.number
    from = ap (λ b. if b then core else step_on s core old.number) more

    module _ (txn : List Op) (w : Worker) (attempt : IsAttemptOf old w) (phase : phase_of_worker tables w ≡ asked old.index [] (outcome tables txn [])) (asks : (reads : List Read) → s.ask old.number old.index reads ≡ outcome tables txn reads) where
      began : phase_of_worker tables w ≡ asked old.index [] (s.ask old.number old.index [])
      began = phase ∙ ap (asked old.index []) (sym (asks []))

      stands : Stands tables w words (begin s core old.number)
      stands = record {
        recs = after.at.recs;
        next = after.at.next ∙ ap (λ e. stamp_next e words) (sym attempt.epoch);
        there = subst (λ n. n < length (begin s core old.number).workers) (sym attempt.number) after.at.there;
        phase = ap (acts.phase_of (begin s core old.number)) attempt.number ∙ after.at.phase ∙ sym began;
      }

      from_rest : (new : Worker) (words' : Words) (told : code.Moved) → StageFits tables txn w w.stage → decided_item w ≡ None → IsActed tables txn w new words words' told → CodeSteps tables old new words' told core (step s core old.number)
      from_rest new words' told fits none acted =
          let asks_w : (reads : List Read) → s.ask w.number w.index reads ≡ outcome tables txn reads = λ reads. ap (λ n. s.ask n w.index reads) attempt.number ∙ ap (λ n. s.ask old.number n reads) attempt.index ∙ asks reads in
          let t = stepped tables txn s w new words words' told (begin s core old.number) asks_w fits stands acted in
          let core' = settle s (settle s (micro s (begin s core old.number) w.number) w.number) w.number in
          let same : core' ≡ step s core old.number = ap (λ n. settle s (settle s (micro s (begin s core old.number) n) n) n) attempt.number ∙ sym from in
          let was : decided_item old ≡ None = ap decided_at rest in
          subst (CodeSteps tables old new words' told core) same (record {
            stands = t.stands;
            number = t.number ∙ attempt.number;
            epoch = t.epoch ∙ attempt.epoch;
            others = t.others ∙ ap (λ n. set (begin s core old.number).workers n (phase_of_worker tables new)) attempt.number ∙ ap (λ ws. set ws old.number (phase_of_worker tables new)) after.workers
                ∙ set-set core.workers old.number (asked old.index [] (s.ask old.number old.index [])) (phase_of_worker tables new);
            decided = t.decided ∙ ap (with_item (option_map (core_item tables) (newly_decided w new told))) after.decided
                ∙ ap (λ o. with_item (option_map (core_item tables) (if is_some o then None else either told.ended (decided_item new))) core.decided) (none ∙ sym was);
            kept = go (decided_item old) was;
            refusal = t.refusal;
            refusals = t.refusals ∙ ap (λ fs. option_to_list t.refusal ++ fs) after.refusals;
            refused = t.refused;
            of = of t.refusal t.of;
            stamped = subst (λ o. IfSome (if is_some o then None else either told.ended (decided_item new)) (IsOf old)) (none ∙ sym was)
                (to_old (newly_decided w new told) t.stamped);
            made = t.made ∙ ap (λ z. option_to_list (option_map stamp_by (newly_decided w new told)) ++ z) after.made
                ∙ ap (λ o. option_to_list (option_map stamp_by (if is_some o then None else either told.ended (decided_item new))) ++ core.made) (none ∙ sym was);
            ended = t.ended;
            core_ended = t.core_ended ∙ ap (λ z. option_to_list (option_map (core_item tables) told.ended) ++ z) after.ended;
            ended_of = to_old told.ended t.ended_of;
            index = t.index ∙ ap (λ n. n + (if is_some told.ended then 1 else 0)) attempt.index;
          })
        where
          to_old : (o : Option items.Item) → IfSome o (IsOf w) → IfSome o (IsOf old)
          to_old None h = tt
          to_old (Some x) h = (h.0 ∙ attempt.epoch, h.1 ∙ attempt.number, h.2 ∙ attempt.index)

          go : (o : Option items.Item) → o ≡ None → IfSome o (λ x. either told.ended (decided_item new) ≡ Some x)
          go None e = tt
          go (Some x) e = absurd (cc)

          of : (o : Option acts.CoreRefusal) → IfSome o (λ f. (f.worker ≡ w.number) × (f.index ≡ w.index)) → IfSome o (λ f. (f.worker ≡ old.number) × (f.index ≡ old.index))
          of None h = tt
          of (Some f) h = (h.0 ∙ attempt.number, h.1 ∙ attempt.index)

      -- what the act tells of itself
      tells_first : (new : Worker) (words' : Words) (told : code.Moved) → IsActed tables txn w new words words' told → told.act ≡ act_of_step s words.next core old.number
      tells_first new words' told acted =
          let p_is : acts.phase_of (begin s core old.number) old.number ≡ phase_of_worker tables w = after.at.phase ∙ sym began in
          tells tables txn w new words words' told acted
          ∙ ap (λ (p : Phase). act_of words.next p (found words.records.items (target p))) (sym p_is)
          ∙ ap (λ rs. act_of words.next (acts.phase_of (begin s core old.number) old.number) (found rs (target (acts.phase_of (begin s core old.number) old.number)))) (sym st.recs)
          ∙ ap (λ b. if b then act.Rest else act_of words.next (acts.phase_of (begin s core old.number) old.number) (found core.recs (target (acts.phase_of (begin s core old.number) old.number)))) (sym more)

  -- nothing is left to do
  at_end : (told : code.Moved) → old.stage ≡ stage.Resting → s.there old.number old.index ≡ false → told ≡ record { act = act.Rest; refused = None; ended = None } → CodeSteps tables old old words told core (step s core old.number)
  at_end told rest gone is =
      let ph : acts.phase_of core old.number ≡ Rest old.index = st.phase ∙ ap (stage_phase tables old.index) rest in
      let done : is_done s old.number (acts.phase_of core old.number) ≡ true = ap (is_done s old.number) ph ∙ ap not gone in
      let same : step s core old.number ≡ core = ap (λ b. if b then core else step_on s core old.number) done in
      let none : decided_item old ≡ None = ap decided_at rest in
      let ended : told.ended ≡ None = ap (λ (z : code.Moved). z.ended) is in
      subst (CodeSteps tables old old words told core) (sym same) (record {
        stands = st;
        number = refl;
        epoch = refl;
        others = sym (ap (set core.workers old.number) (sym st.phase) ∙ set-get_or core.workers old.number (Rest 0));
        decided = ap (λ o. with_item (option_map (core_item tables) o) core.decided) (sym (ap (λ o. if is_some o then None else either told.ended o) none ∙ ended_only told.ended ended));
        kept = go (decided_item old) none;
        refusal = None;
        refusals = refl;
        refused = ap (λ (z : code.Moved). z.refused) is;
        of = tt;
        stamped = nothing (either told.ended (decided_item old)) (is_some (decided_item old)) (ap (λ o. either told.ended o) none ∙ ended_only told.ended ended);
        made = sym (ap (λ o. option_to_list (option_map stamp_by (if is_some o then None else either told.ended o)) ++ core.made) none
            ∙ ap (λ o. option_to_list (option_map stamp_by o) ++ core.made) (ended_only told.ended ended));
        ended = ends told.ended ended;
        core_ended = sym (ap (λ o. option_to_list (option_map (core_item tables) o) ++ core.ended) ended);
        ended_of = nothing told.ended false ended;
        index = counts told.ended ended;
      })
    where
      ends : (o : Option items.Item) → o ≡ None → IfSome o (λ x. decided_item old ≡ None)
      ends None e = tt
      ends (Some x) e = absurd (cc)

      counts : (o : Option items.Item) → o ≡ None → old.index ≡ old.index + (if is_some o then 1 else 0)
      counts None e = omega arith
      counts (Some x) e = absurd (cc)

      nothing : (o : Option items.Item) (b : Bool) → o ≡ None → IfSome (if b then None else o) (IsOf old)
      nothing o true e = tt
      nothing None false e = tt
      nothing (Some x) false e = absurd (cc)

      ended_only : (o : Option items.Item) → o ≡ None → either o None ≡ None
      ended_only None e = refl
      ended_only (Some x) e = absurd (cc)

      go : (o : Option items.Item) → o ≡ None → IfSome o (λ x. either told.ended (decided_item old) ≡ Some x)
      go None e = tt
      go (Some x) e = absurd (cc)

  -- an act after an attempt was begun, or of one that goes on, is a step
  module _ (txn : List Op) (w new : Worker) (words' : Words) (told : code.Moved) (attempt : IsAttemptOf old w) (there : s.there old.number old.index ≡ true)
      (asks : (reads : List Read) → s.ask old.number old.index reads ≡ outcome tables txn reads) (acted : IsActed tables txn w new words words' told) where
    pub makes_step : StageFits tables txn w w.stage → HasBegun tables txn old w → Steps tables old new words' told core (step s core old.number)
    makes_step fits (Began rest none phase) =
        seen_steps tables old new words' told core (step s core old.number) (from_rest (is_rest old.stage rest) there txn w attempt phase asks new words' told fits none acted)
    makes_step fits (Went goes same) =
        seen_steps tables old new words' told core (step s core old.number) (in_attempt txn new words' told goes asks (subst (λ z. StageFits tables txn z z.stage) same fits)
        (subst (λ z. IsActed tables txn z new words words' told) same acted))

    pub tells_step : HasBegun tables txn old w → told.act ≡ act_of_step s words.next core old.number
    tells_step (Began rest none phase) = tells_first (is_rest old.stage rest) there txn w attempt phase asks new words' told acted
    tells_step (Went goes same) = tells_on txn new words' told goes (subst (λ z. IsActed tables txn z new words words' told) same acted)

  -- and so is nothing at rest with no request left
  pub rests_step : (told : code.Moved) → old.stage ≡ stage.Resting → s.there old.number old.index ≡ false → told ≡ record { act = act.Rest; refused = None; ended = None } → Steps tables old old words told core (step s core old.number)
  rests_step told rest gone is = seen_steps tables old old words told core (step s core old.number) (at_end told rest gone is)
