-- What an act of the code comes to in the core, with what follows it.
use Rattle.std.proofs.Common.{◌≡◌, ℕ, ◌+◌, ◌<◌, ◌≤◌, List, [], ◌∷◌, ◌++◌, length, take, drop, set, Bool, true, false, is_some, if◌then◌else◌, ◌==◌, Option, Some, None, Result, Ok, Err, IfSome, option_to_list, refl, sym, ap, ◌∙◌, subst, arith, add-one, inl, inr}
use mathlib.Core.Bool.{false≢true}
use Rattle.std.proofs.lemmas.Bool.Decides.{eqb_tells}
use Rattle.std.specs.Option.{option_map}
use Rattle.std.proofs.lemmas.List.{set-set, drop_all, length-map, length-take-le, length-drop}
use Rattle.rl_base.specs.declared.refusal.Refusal.{Refusal}
use Rattle.rl_base.specs.Stamps.{packed}
use Rattle.rl_value.specs.Tables.{Table}
use Rattle.rl_txn.specs.declared.op.Op.{Op}
use Rattle.rl_txn.specs.declared.item.Item as txn
use Rattle.rl_worker.specs.declared.act.Moved as code
use Rattle.rl_worker.specs.declared.words.Words.{Words}
use Rattle.rl_worker.specs.declared.commit.Commit.{Commit}
use Rattle.rl_worker.specs.declared.commit.Part.{Part}
use Rattle.rl_worker.specs.declared.commit.Part.TheVariants as part
use Rattle.rl_worker.specs.declared.reading.Reading.{Reading}
use Rattle.rl_worker.specs.declared.worker.Stage.{Stage}
use Rattle.rl_worker.specs.declared.worker.Stage.TheVariants as stage
use Rattle.rl_worker.specs.declared.worker.Worker.{Worker}
use Rattle.rl_worker.specs.Items.{CoreItem}
use Rattle.rl_worker.specs.Phases.{Read, Install, Outcome, Wants, Ends, Phase, Rest, Asking, Wanting, Loading, Locking, Validating, Storing, Refusing, Setting, asked}
use Rattle.rl_worker.specs.Acts.{Core, passing, resting, micro, settle}
use Rattle.rl_worker.specs.Opening.{install_of, outcome}
use Rattle.rl_worker.specs.Workers.{core_item, installs, part_phase, commit_phase, reading_phase, stage_phase, phase_of_worker, PartFits, HasMore, StageFits, is_storing, decided_at, decided_item, Stands, stamp_next, either, newly_decided, with_item}
use Rattle.rl_worker.specs.Attempts.{IsAttemptOf, IsAct, is_over, decided_in, decided, ended_worker, finished, is_reading, confirmed_phase, ran_on, Confirms, Commits, IsActed, Loaded, Confirmed, Committed}
use Rattle.rl_worker.proofs.CodeItems.{IsOf, stamp_by, CodeSteps}
use Rattle.rl_worker.specs.Acts as acts
use Rattle.rl_worker.proofs.Cores.{passed, wins, ends, index_in, At, acted, settled, stamps_added}

-- nothing is passed in a phase in which a worker may stand
pub not_passed : (s : Setting) (w : ℕ) (p : Phase) → passing p ≡ false → (passed s w p ≡ p) × (wins w p ≡ None) × (ends p ≡ None)
not_passed s w (Rest q) h = (refl, refl, refl)
not_passed s w (Asking q reads) h = absurd (false≢true (sym h))
not_passed s w (Wanting q reads r) h = (refl, refl, refl)
not_passed s w (Loading q reads r seen loaded) h = (refl, refl, refl)
not_passed s w (Locking q reads answer l todo) h = (refl, refl, refl)
not_passed s w (Validating q t done [] answer writes) h = absurd (false≢true (sym h))
not_passed s w (Validating q t done (y ∷ todo) answer writes) h = (refl, refl, refl)
not_passed s w (Storing item j []) h = absurd (false≢true (sym h))
not_passed s w (Storing item j (y ∷ todo)) h = (refl, refl, refl)
not_passed s w (Refusing q []) h = absurd (false≢true (sym h))
not_passed s w (Refusing q (y ∷ todo)) h = (refl, refl, refl)

some_left : {X : Type 0} (xs : List X) (i : ℕ) (P : List X → Type 0) → i < length xs → ((y : X) (ys : List X) → P (y ∷ ys)) → P (drop i xs)
some_left {X = X} xs i P l k = go (drop i xs) refl
  where
    go : (ys : List X) → drop i xs ≡ ys → P ys
    go [] e = let n = length-drop i xs in absurd (omega (arith, ap length e))
    go (y ∷ ys) e = k y ys

installs_length : (tables : List Table) (c : Commit) → length (installs tables c) ≡ length c.item.writes
installs_length tables c = length-map c.item.writes (install_of tables)

still_part : (tables : List Table) (c : Commit) (p : Part) → PartFits c p → HasMore c p → passing (part_phase tables c p) ≡ false
still_part tables c (part.Locking held) f m = refl
still_part tables c (part.Validating done) f m = some_left c.reads.0 done (λ ys. passing (Validating c.item.index (packed c.item.stamp) (take done c.reads.0) ys (c.item.reply, c.item.writes) (installs tables c)) ≡ false) m (λ y ys. refl)
still_part tables c (part.Storing closed stored) f m =
    let n = installs_length tables c in
    some_left (installs tables c) closed (λ ys. passing (Storing (core_item tables c.item) stored ys) ≡ false) (omega arith) (λ y ys. refl)
still_part tables c (part.Refusing closed held) f m =
    let n = installs_length tables c in
    let t = length-take-le held (installs tables c) (omega (arith, f.1)) in
    some_left (take held (installs tables c)) closed (λ ys. passing (Refusing c.item.index ys) ≡ false) (omega arith) (λ y ys. refl)

still_reading : (q : ℕ) (r : Reading) → passing (reading_phase q r) ≡ false
still_reading q r = go r.is_open
  where
    go : (b : Bool) → passing (if b then Loading q r.reads.0 r.next.rec r.next.seen r.next.row else Wanting q r.reads.0 r.next.rec) ≡ false
    go true = refl
    go false = refl

-- a worker stands in no passing phase
pub still : (tables : List Table) (txn : List Op) (w : Worker) (st : Stage) → StageFits tables txn w st → passing (stage_phase tables w.index st) ≡ false
still tables txn w stage.Resting f = refl
still tables txn w (stage.Reading r) f = still_reading w.index r
still tables txn w (stage.Committing c) f = still_part tables c c.part f.0.part f.4

index_reading : (q : ℕ) (r : Reading) → index_in (reading_phase q r) ≡ q
index_reading q r = go r.is_open
  where
    go : (b : Bool) → index_in (if b then Loading q r.reads.0 r.next.rec r.next.seen r.next.row else Wanting q r.reads.0 r.next.rec) ≡ q
    go true = refl
    go false = refl

index_part : (tables : List Table) (c : Commit) (p : Part) → index_in (part_phase tables c p) ≡ c.item.index
index_part tables c (part.Locking held) = refl
index_part tables c (part.Validating done) = refl
index_part tables c (part.Storing closed stored) = refl
index_part tables c (part.Refusing closed held) = refl

index_stage : (tables : List Table) (txn : List Op) (w : Worker) (st : Stage) → StageFits tables txn w st → index_in (stage_phase tables w.index st) ≡ w.index
index_stage tables txn w stage.Resting f = refl
index_stage tables txn w (stage.Reading r) f = index_reading w.index r
index_stage tables txn w (stage.Committing c) f = index_part tables c c.part ∙ f.2

stamp_of_item : (tables : List Table) (o : Option txn.Item) → stamps_added (option_map (core_item tables) o) ≡ option_to_list (option_map stamp_by o)
stamp_of_item tables None = refl
stamp_of_item tables (Some x) = refl

same_index : (old new : Worker) (o : Option txn.Item) → new.index ≡ old.index → o ≡ None → new.index ≡ old.index + (if is_some o then 1 else 0)
same_index old new None e n = e ∙ omega arith
same_index old new (Some x) e n = absurd (cc)

-- passing a phase twice ends an item of the code or none
abbrev pub IsOver : List Table → Option txn.Item → Setting → (w : ℕ) → Phase → Type 0
IsOver tables item s w to = (xs : List CoreItem)
    → option_to_list (ends (passed s w to)) ++ (option_to_list (ends to) ++ xs) ≡ option_to_list (option_map (core_item tables) item) ++ xs

-- what an act and what follows it come to, by the phase that the act leads to
pub record Turned (tables : List Table) (s : Setting) (old new : Worker) (words words' : Words) (told : code.Moved) : Type 0 where
  pub to : Phase
  pub act : IsAct s old.number old.epoch (phase_of_worker tables old) to words words' (record told { ended = None })
  pub phase : phase_of_worker tables new ≡ passed s old.number (passed s old.number to)
  pub number : new.number ≡ old.number
  pub epoch : new.epoch ≡ old.epoch
  pub first : wins old.number to ≡ option_map (core_item tables) (newly_decided old new told)
  pub second : wins old.number (passed s old.number to) ≡ None
  pub kept : IfSome (decided_item old) (λ x. either told.ended (decided_item new) ≡ Some x)
  pub stamped : IfSome (newly_decided old new told) (IsOf old)
  pub ended : IfSome told.ended (λ x. decided_item new ≡ None)
  pub over : IsOver tables told.ended s old.number to
  pub ended_of : IfSome told.ended (IsOf old)
  pub index : new.index ≡ old.index + (if is_some told.ended then 1 else 0)

-- then it is a step of the core
pub turned : (tables : List Table) (txn : List Op) (s : Setting) (old new : Worker) (words words' : Words) (told : code.Moved) (core : Core)
    → StageFits tables txn old old.stage → Stands tables old words core → Turned tables s old new words words' told
    → CodeSteps tables old new words' told core (settle s (settle s (micro s core old.number) old.number) old.number)
turned tables txn s old new words words' told core fits st t =
    let w = old.number in
    let p = phase_of_worker tables old in
    let at : At core w p words.records.items (stamp_next old.epoch words) = record { recs = st.recs; next = st.next; there = st.there; phase = st.phase } in
    let a = acted s core w old.epoch p t.to words words' (record told { ended = None }) (still tables txn old old.stage fits) at t.act in
    let b = settled s (micro s core w) w words'.records.items (stamp_next old.epoch words') t.to a.at in
    let c = settled s (settle s (micro s core w) w) w words'.records.items (stamp_next old.epoch words') (passed s w t.to) b.at in
    let core' = settle s (settle s (micro s core w) w) w in
    let number = sym t.number in
    record {
      stands = record {
        recs = c.at.recs;
        next = c.at.next ∙ ap (λ e. stamp_next e words') (sym t.epoch);
        there = subst (λ n. n < length core'.workers) number c.at.there;
        phase = ap (acts.phase_of core') t.number ∙ c.at.phase ∙ sym t.phase;
      };
      number = t.number;
      epoch = t.epoch;
      others = c.workers ∙ ap (λ ws. set ws w (passed s w (passed s w t.to))) (b.workers ∙ ap (λ ws. set ws w (passed s w t.to)) a.workers) ∙ ap (λ ws. set ws w (passed s w (passed s w t.to))) (set-set core.workers w t.to (passed s w t.to))
          ∙ set-set core.workers w (passed s w t.to) (passed s w (passed s w t.to)) ∙ ap (set core.workers w) (sym t.phase);
      decided = c.decided ∙ ap (λ o. with_item o (settle s (micro s core w) w).decided) t.second ∙ b.decided ∙ ap (λ o. with_item o (micro s core w).decided) t.first ∙ ap (with_item (option_map (core_item tables) (newly_decided old new told))) a.decided;
      kept = t.kept;
      refusal = a.refusal;
      refusals = c.refusals ∙ b.refusals ∙ a.refusals;
      refused = a.told;
      of = go a.refusal a.of;
      stamped = t.stamped;
      made = c.made ∙ ap (λ o. stamps_added o ++ (settle s (micro s core w) w).made) t.second ∙ b.made ∙ ap (λ o. stamps_added o ++ (micro s core w).made) t.first ∙ ap (λ z. stamps_added (option_map (core_item tables) (newly_decided old new told)) ++ z) a.made ∙ ap (λ z. z ++ core.made) (stamp_of_item tables (newly_decided old new told));
      ended = t.ended;
      core_ended = c.ended ∙ ap (λ z. option_to_list (ends (passed s w t.to)) ++ z) (b.ended ∙ ap (λ z. option_to_list (ends t.to) ++ z) a.ended) ∙ t.over core.ended;
      ended_of = t.ended_of;
      index = t.index;
    }
  where
    go : (o : Option acts.CoreRefusal) → IfSome o (λ f. (f.worker ≡ old.number) × (f.index ≡ index_in (phase_of_worker tables old))) → IfSome o (λ f. (f.worker ≡ old.number) × (f.index ≡ old.index))
    go None h = tt
    go (Some f) h = (h.0, h.1 ∙ index_stage tables txn old old.stage fits)

none_new : (tables : List Table) (old new : Worker) (told : code.Moved) → decided_item new ≡ None → told.ended ≡ None → None ≡ option_map (core_item tables) (newly_decided old new told)
none_new tables old new told n e =
    ap (option_map (core_item tables)) (go (is_some (decided_item old)) ∙ ap (λ o. if is_some (decided_item old) then None else either o (decided_item new)) (sym e))
  where
    go : (b : Bool) → None ≡ (if b then None else either None (decided_item new))
    go true = refl
    go false = sym n

newly_none : (old new : Worker) (told : code.Moved) → decided_item new ≡ None → told.ended ≡ None → newly_decided old new told ≡ None
newly_none old new told n e = ap (λ o. if is_some (decided_item old) then None else either o (decided_item new)) e ∙ go (is_some (decided_item old))
  where
    go : (b : Bool) → (if b then None else either None (decided_item new)) ≡ None
    go true = refl
    go false = n

reads_none : (st : Stage) → is_reading st ≡ true → decided_at st ≡ None
reads_none stage.Resting h = absurd (false≢true h)
reads_none (stage.Reading r) h = refl
reads_none (stage.Committing c) h = absurd (false≢true h)

kept_none : (P : txn.Item → Type 0) (o : Option txn.Item) → o ≡ None → IfSome o P
kept_none P None e = tt
kept_none P (Some x) e = absurd (cc)

none_over : (tables : List Table) (s : Setting) (w : ℕ) (to : Phase) (o : Option txn.Item) → o ≡ None → ends to ≡ None → ends (passed s w to) ≡ None → IsOver tables o s w to
none_over tables s w to o e first second xs = rw (e, first, second) refl

same_told : (s : Setting) (w e : ℕ) (p p' : Phase) (words words' : Words) (told : code.Moved) → IsAct s w e p p' words words' told → IsAct s w e p p' words words' (record told { ended = None })
same_told s w e p p' words words' told a = record { phase = a.phase; recs = a.recs; next = a.next; refused = a.refused; act = a.act; ended = refl }

turned_loaded : (tables : List Table) (txn : List Op) (s : Setting) (old new : Worker) (words : Words) (told : code.Moved) → is_reading old.stage ≡ true → IsAttemptOf old new → StageFits tables txn new new.stage → decided_item new ≡ None
    → ((s : Setting) (w epoch : ℕ) → IsAct s w epoch (phase_of_worker tables old) (phase_of_worker tables new) words words told) → Turned tables s old new words words told
turned_loaded tables txn s old new words told reads attempt fits none act =
    let to = phase_of_worker tables new in
    let stay = not_passed s old.number to (still tables txn new new.stage fits) in
    let a = act s old.number old.epoch in
    record {
      to = to;
      act = same_told s old.number old.epoch (phase_of_worker tables old) to words words told a;
      phase = sym (ap (passed s old.number) stay.0 ∙ stay.0);
      number = attempt.number;
      epoch = attempt.epoch;
      first = stay.1 ∙ none_new tables old new told none a.ended;
      second = ap (wins old.number) stay.0 ∙ stay.1;
      kept = kept_none _ (decided_item old) (reads_none old.stage reads);
      stamped = kept_none _ (newly_decided old new told) (newly_none old new told none a.ended);
      ended = kept_none _ told.ended a.ended;
      over = none_over tables s old.number to told.ended a.ended stay.2 (ap ends stay.0 ∙ stay.2);
      ended_of = kept_none _ told.ended a.ended;
      index = same_index old new told.ended attempt.index a.ended;
    }

still_asked : (q : ℕ) (reads : List Read) (o : Outcome) → passing (asked q reads o) ≡ false
still_asked q reads (Wants r) = refl
still_asked q reads (Ends answer writes) = refl

turned_confirmed : (tables : List Table) (txn : List Op) (s : Setting) (old new : Worker) (words : Words) (told : code.Moved) → ((reads : List Read) → s.ask old.number old.index reads ≡ outcome tables txn reads)
    → is_reading old.stage ≡ true → IsAttemptOf old new → decided_item new ≡ None → Confirms tables txn old new words told → Turned tables s old new words words told
turned_confirmed tables txn s old new words told asks reads attempt none c = go c.left c.act c.ran
  where
    go : (left : Result Reading Refusal) → ((s : Setting) (w epoch : ℕ) → IsAct s w epoch (phase_of_worker tables old) (confirmed_phase old.index left) words words told) → phase_of_worker tables new ≡ ran_on tables txn old.index left → Turned tables s old new words words told
    go (Ok r) act ran =
        let a = act s old.number old.epoch in
        let next : Phase = asked old.index r.reads.0 (s.ask old.number old.index r.reads.0) in
        let stay = not_passed s old.number next (still_asked old.index r.reads.0 (s.ask old.number old.index r.reads.0)) in
        record {
          to = Asking old.index r.reads.0;
          act = same_told s old.number old.epoch (phase_of_worker tables old) (Asking old.index r.reads.0) words words told a;
          phase = ran ∙ ap (asked old.index r.reads.0) (sym (asks r.reads.0)) ∙ sym stay.0;
          number = attempt.number;
          epoch = attempt.epoch;
          first = none_new tables old new told none a.ended;
          second = stay.1;
          kept = kept_none _ (decided_item old) (reads_none old.stage reads);
          stamped = kept_none _ (newly_decided old new told) (newly_none old new told none a.ended);
          ended = kept_none _ told.ended a.ended;
          over = none_over tables s old.number (Asking old.index r.reads.0) told.ended a.ended refl stay.2;
          ended_of = kept_none _ told.ended a.ended;
          index = same_index old new told.ended attempt.index a.ended;
        }
    go (Err f) act ran =
        let a = act s old.number old.epoch in
        record {
          to = Rest old.index;
          act = same_told s old.number old.epoch (phase_of_worker tables old) (Rest old.index) words words told a;
          phase = ran;
          number = attempt.number;
          epoch = attempt.epoch;
          first = none_new tables old new told none a.ended;
          second = refl;
          kept = kept_none _ (decided_item old) (reads_none old.stage reads);
          stamped = kept_none _ (newly_decided old new told) (newly_none old new told none a.ended);
          ended = kept_none _ told.ended a.ended;
          over = none_over tables s old.number (Rest old.index) told.ended a.ended refl refl;
          ended_of = kept_none _ told.ended a.ended;
          index = same_index old new told.ended attempt.index a.ended;
        }

-- the item of a commit that is over
abbrev pub over_item : Commit → Option txn.Item
over_item d = if is_over d d.part then decided_at (stage.Committing d) else None

-- what it comes to by what is left to do
pub record Comes (tables : List Table) (s : Setting) (old : Worker) (t : Commit) : Type 0 where
  pub phase : passed s old.number (passed s old.number (commit_phase tables t)) ≡ phase_of_worker tables (finished old (decided t))
  pub first : wins old.number (commit_phase tables t) ≡ option_map (core_item tables) (if is_storing t.part then None else either (over_item (decided t)) (decided_item (finished old (decided t))))
  pub second : wins old.number (passed s old.number (commit_phase tables t)) ≡ None
  pub over : IsOver tables (over_item (decided t)) s old.number (commit_phase tables t)
  pub kept : is_storing t.part ≡ true → either (over_item (decided t)) (decided_item (finished old (decided t))) ≡ Some t.item

module _ (tables : List Table) (s : Setting) (old : Worker) (c : Commit) (i : c.item.index ≡ old.index) (w_is : c.item.worker ≡ old.number) where
  w : ℕ
  w = old.number

  -- a decided commit is over where all its writes are installed
  storing : (at stored : ℕ) → at ≤ length c.item.writes
      → (passed s old.number (Storing (core_item tables c.item) stored (drop at (installs tables c))) ≡ phase_of_worker tables (finished old (record c { part = part.Storing at stored })))
      × (passed s old.number (passed s old.number (Storing (core_item tables c.item) stored (drop at (installs tables c)))) ≡ phase_of_worker tables (finished old (record c { part = part.Storing at stored })))
      × (either (over_item (record c { part = part.Storing at stored })) (decided_item (finished old (record c { part = part.Storing at stored }))) ≡ Some c.item)
      × (ends (Storing (core_item tables c.item) stored (drop at (installs tables c))) ≡ option_map (core_item tables) (over_item (record c { part = part.Storing at stored })))
      × (ends (passed s old.number (Storing (core_item tables c.item) stored (drop at (installs tables c)))) ≡ None)
  storing at stored f = elim (eqb_tells at (length c.item.writes)) [
    | inl e ↦ (
        let n = installs_length tables c in
        let none : drop at (installs tables c) ≡ [] = drop_all at (installs tables c) (omega (arith, e.1)) in
        (rw (e.0, none) (ap Rest (sym (add-one c.item.index) ∙ ap (λ k. k + 1) i)), rw (e.0, none) (ap Rest (sym (add-one c.item.index) ∙ ap (λ k. k + 1) i)), rw e.0 refl, rw (e.0, none) refl, rw none refl))
    | inr e ↦ (
        let n = installs_length tables c in
        let more : at < length (installs tables c) = omega (arith, e.1) in
        let stay = some_left (installs tables c) at (λ ys. passing (Storing (core_item tables c.item) stored ys) ≡ false) more (λ y ys. refl) in
        let k = not_passed s old.number (Storing (core_item tables c.item) stored (drop at (installs tables c))) stay in
        (rw e.0 k.0, rw e.0 (ap (passed s old.number) k.0 ∙ k.0), rw e.0 refl, rw e.0 k.2, ap ends k.0 ∙ k.2))
  ]

  refusing : (at held : ℕ) → at ≤ held → held ≤ length c.item.writes
      → (passed s old.number (passed s old.number (Refusing c.item.index (drop at (take held (installs tables c))))) ≡ phase_of_worker tables (finished old (record c { part = part.Refusing at held })))
      × (wins old.number (passed s old.number (Refusing c.item.index (drop at (take held (installs tables c))))) ≡ None)
      × (wins old.number (Refusing c.item.index (drop at (take held (installs tables c)))) ≡ None)
      × (either (over_item (record c { part = part.Refusing at held })) (decided_item (finished old (record c { part = part.Refusing at held }))) ≡ None)
      × (over_item (record c { part = part.Refusing at held }) ≡ None)
      × (ends (passed s old.number (Refusing c.item.index (drop at (take held (installs tables c))))) ≡ None)
  refusing at held f g =
      let n = installs_length tables c in
      let t = length-take-le held (installs tables c) (omega (arith, g)) in
      elim (eqb_tells at held) [
        | inl e ↦ (
            let none : drop at (take held (installs tables c)) ≡ [] = drop_all at (take held (installs tables c)) (omega (arith, e.1)) in
            (rw (e.0, none) (ap Rest i), rw none refl, refl, rw e.0 refl, rw e.0 refl, rw none refl))
        | inr e ↦ (
            let stay = some_left (take held (installs tables c)) at (λ ys. passing (Refusing c.item.index ys) ≡ false) (omega (arith, e.1)) (λ y ys. refl) in
            let p : Phase = Refusing c.item.index (drop at (take held (installs tables c))) in
            let k = not_passed s old.number p stay in
            (rw e.0 (ap (passed s old.number) k.0 ∙ k.0), ap (wins old.number) k.0 ∙ k.1, k.1, rw e.0 refl, rw e.0 refl, ap ends k.0 ∙ k.2))
      ]

  abbrev won_item : CoreItem
  won_item = record { stamp = packed c.item.stamp; worker = old.number; index = c.item.index; answer = (c.item.reply, c.item.writes); writes = installs tables c }

  won_item_is : won_item ≡ core_item tables c.item
  won_item_is = ap (λ k. record { stamp = packed c.item.stamp; worker = k; index = c.item.index; answer = (c.item.reply, c.item.writes); writes = installs tables c }) (sym w_is)

  won_is : Some won_item ≡ option_map (core_item tables) (Some c.item)
  won_is = ap Some won_item_is

  won_phase : Storing won_item 0 (installs tables c) ≡ Storing (core_item tables c.item) 0 (installs tables c)
  won_phase = ap (λ z. Storing z 0 (installs tables c)) won_item_is

  comes : (p : Part) → PartFits (record c { part = p }) p → Comes tables s old (record c { part = p })
  comes (part.Locking held) f = record { phase = refl; first = refl; second = refl; over = λ xs. refl; kept = λ h. absurd (false≢true h) }
  comes (part.Storing at stored) f =
      let st = storing at stored f in
      record {
        phase = st.1;
        first = no_win (drop at (installs tables c));
        second = no_second (drop at (installs tables c));
        over = λ xs. rw (st.4, st.3) refl;
        kept = λ h. st.2;
      }
    where
      no_win : (ys : List Install) → wins old.number (Storing (core_item tables c.item) stored ys) ≡ None
      no_win ys = refl

      no_second : (ys : List Install) → wins old.number (passed s old.number (Storing (core_item tables c.item) stored ys)) ≡ None
      no_second [] = refl
      no_second (y ∷ ys) = refl
  comes (part.Validating done) f = elim (eqb_tells done (length c.reads.0)) [
    | inl e ↦ (
        let none : drop done c.reads.0 ≡ [] = drop_all done c.reads.0 (omega (arith, e.1)) in
        let st = storing 0 0 (omega arith) in
        record {
          phase = rw (none, e.0) (ap (passed s old.number) won_phase ∙ st.0);
          first = rw (none, e.0) (won_is ∙ ap (option_map (core_item tables)) (sym st.2));
          second = rw none refl;
          over = λ xs. rw (none, e.0) (ap (λ z. option_to_list (ends z) ++ xs) won_phase ∙ ap (λ z. option_to_list z ++ xs) st.3);
          kept = λ h. absurd (false≢true h);
        })
    | inr e ↦ (
        let stay = some_left c.reads.0 done (λ ys. passing (Validating c.item.index (packed c.item.stamp) (take done c.reads.0) ys (c.item.reply, c.item.writes) (installs tables c)) ≡ false) (omega (arith, e.1, f)) (λ y ys. refl) in
        let p : Phase = Validating c.item.index (packed c.item.stamp) (take done c.reads.0) (drop done c.reads.0) (c.item.reply, c.item.writes) (installs tables c) in
        let k = not_passed s old.number p stay in
        record {
          phase = rw e.0 (ap (passed s old.number) k.0 ∙ k.0);
          first = rw e.0 k.1;
          second = ap (wins old.number) k.0 ∙ k.1;
          over = λ xs. rw e.0 (ap (λ z. option_to_list (ends z) ++ xs) k.0);
          kept = λ h. absurd (false≢true h);
        })
  ]
  comes (part.Refusing at held) f =
      let r = refusing at held f.0 f.1 in
      record { phase = r.0; first = r.2 ∙ ap (option_map (core_item tables)) (sym r.3); second = r.1; over = λ xs. rw (r.5, r.4) refl; kept = λ h. absurd (false≢true h) }

turned_committed : (tables : List Table) (s : Setting) (old new : Worker) (words words' : Words) (told : code.Moved) → (c : Commits tables old new words words' told)
    → c.was.item.worker ≡ old.number → c.was.item.index ≡ old.index → c.was.item.stamp.epoch ≡ old.epoch → Turned tables s old new words words' told
turned_committed tables s old new words words' told c w_is i_is e_is =
    let t = c.to in
    let m = comes tables s old t (c.attempt.index ∙ i_is) (c.attempt.worker ∙ w_is) t.part c.fits.part in
    let was : decided_item old ≡ (if is_storing c.was.part then Some c.was.item else None) = ap decided_at c.old_is in
    let now : decided_item new ≡ decided_item (finished old (decided t)) = ap decided_item c.new_is in
    record {
      to = commit_phase tables t;
      act = c.act s;
      phase = ap (phase_of_worker tables) c.new_is ∙ sym m.phase;
      number = ap (λ (z : Worker). z.number) c.new_is ∙ number (decided t);
      epoch = ap (λ (z : Worker). z.epoch) c.new_is ∙ epoch (decided t);
      first = m.first ∙ ap (option_map (core_item tables)) (
          ap (λ b. if b then None else either (over_item (decided t)) (decided_item (finished old (decided t)))) c.attempt.part
          ∙ firsts (is_storing c.was.part) c.was.item (either (over_item (decided t)) (decided_item (finished old (decided t))))
          ∙ ap (λ o. if is_some o then None else either (over_item (decided t)) (decided_item (finished old (decided t)))) (sym was)
          ∙ ap (λ o. if is_some (decided_item old) then None else either o (decided_item (finished old (decided t)))) (sym c.ended)
          ∙ ap (λ o. if is_some (decided_item old) then None else either told.ended o) (sym now));
      second = m.second;
      kept = keeps (is_storing c.was.part) refl (decided_item old) was (λ h. ap (λ o. either o (decided_item new)) c.ended ∙ ap (either (over_item (decided t))) now ∙ m.kept (c.attempt.part ∙ h) ∙ ap Some (c.attempt.decided h));
      stamped = subst (λ o. IfSome o (IsOf old)) (sym newly) (
          either_of (is_some (decided_item old)) (over_item (decided t)) (decided_item (finished old (decided t))) (over_of (decided t) (item_of t t.part)) (last_of (decided t) (item_of t t.part)));
      ended = subst (λ o. IfSome o (λ x. decided_item new ≡ None)) (sym c.ended) (subst (λ (z : Worker). IfSome (over_item (decided t)) (λ x. decided_item z ≡ None)) (sym c.new_is) (over_none (decided t) (is_over (decided t) (decided t).part) refl));
      over = λ xs. m.over xs ∙ ap (λ o. option_to_list (option_map (core_item tables) o) ++ xs) (sym c.ended);
      ended_of = subst (λ o. IfSome o (IsOf old)) (sym c.ended) (over_of (decided t) (item_of t t.part));
      index = ap (λ (z : Worker). z.index) c.new_is ∙ over_index (decided t) (is_over (decided t) (decided t).part) refl ∙ ap (λ o. old.index + (if is_some o then 1 else 0)) (sym c.ended);
    }
  where
    newly : newly_decided old new told ≡ (if is_some (decided_item old) then None else either (over_item (decided c.to)) (decided_item (finished old (decided c.to))))
    newly = ap (λ o. if is_some (decided_item old) then None else either o (decided_item new)) c.ended ∙ ap (λ o. if is_some (decided_item old) then None else either (over_item (decided c.to)) o) (ap decided_item c.new_is)

    to_is : IsOf old c.to.item
    to_is = (c.attempt.epoch ∙ e_is, c.attempt.worker ∙ w_is, c.attempt.index ∙ i_is)

    item_of : (t : Commit) (p : Part) → (decided_in t p).item ≡ t.item
    item_of t (part.Locking held) = refl
    item_of t (part.Validating done) = go (done == length t.reads.0)
      where
        go : (b : Bool) → (if b then record t { part = part.Storing 0 0 } else t).item ≡ t.item
        go true = refl
        go false = refl
    item_of t (part.Storing closed stored) = refl
    item_of t (part.Refusing closed held) = refl

    at_of : (d : Commit) → d.item ≡ c.to.item → IfSome (decided_at (stage.Committing d)) (IsOf old)
    at_of d e = go (is_storing d.part)
      where
        go : (b : Bool) → IfSome (if b then Some d.item else None) (IsOf old)
        go true = subst (IsOf old) (sym e) to_is
        go false = tt

    over_of : (d : Commit) → d.item ≡ c.to.item → IfSome (over_item d) (IsOf old)
    over_of d e = go (is_over d d.part)
      where
        go : (b : Bool) → IfSome (if b then decided_at (stage.Committing d) else None) (IsOf old)
        go true = at_of d e
        go false = tt

    last_of : (d : Commit) → d.item ≡ c.to.item → IfSome (decided_item (finished old d)) (IsOf old)
    last_of d e = go (is_over d d.part)
      where
        go : (b : Bool) → IfSome (decided_item (if b then ended_worker old d else record old { stage = stage.Committing d })) (IsOf old)
        go true = tt
        go false = at_of d e

    either_of : (b : Bool) (o p : Option txn.Item) → IfSome o (IsOf old) → IfSome p (IsOf old) → IfSome (if b then None else either o p) (IsOf old)
    either_of true o p h k = tt
    either_of false None p h k = k
    either_of false (Some x) p h k = h

    -- where an item is ended nothing is decided any more
    over_none : (d : Commit) (b : Bool) → is_over d d.part ≡ b → IfSome (if is_over d d.part then decided_at (stage.Committing d) else None) (λ x. decided_item (if is_over d d.part then ended_worker old d else record old { stage = stage.Committing d }) ≡ None)
    over_none d true e = rw e (go (decided_at (stage.Committing d)))
      where
        go : (o : Option txn.Item) → IfSome o (λ x. decided_item (ended_worker old d) ≡ None)
        go None = tt
        go (Some x) = refl
    over_none d false e = rw e tt

    over_index : (d : Commit) (b : Bool) → is_over d d.part ≡ b → (finished old d).index ≡ old.index + (if is_some (if is_over d d.part then decided_at (stage.Committing d) else None) then 1 else 0)
    over_index d true e = rw e (go (is_storing d.part))
      where
        go : (b : Bool) → (if b then old.index + 1 else old.index) ≡ old.index + (if is_some (if b then Some d.item else None) then 1 else 0)
        go true = refl
        go false = omega arith
    over_index d false e = rw e (omega arith)

    number : (d : Commit) → (finished old d).number ≡ old.number
    number d = go (is_over d d.part)
      where
        go : (b : Bool) → (if b then ended_worker old d else record old { stage = stage.Committing d }).number ≡ old.number
        go true = refl
        go false = refl

    epoch : (d : Commit) → (finished old d).epoch ≡ old.epoch
    epoch d = go (is_over d d.part)
      where
        go : (b : Bool) → (if b then ended_worker old d else record old { stage = stage.Committing d }).epoch ≡ old.epoch
        go true = refl
        go false = refl

    firsts : (b : Bool) (x : txn.Item) (o : Option txn.Item) → (if b then None else o) ≡ (if is_some (if b then Some x else None) then None else o)
    firsts true x o = refl
    firsts false x o = refl

    keeps : (b : Bool) → is_storing c.was.part ≡ b → (o : Option txn.Item) → o ≡ (if b then Some c.was.item else None) → (b ≡ true → either told.ended (decided_item new) ≡ Some c.was.item) → IfSome o (λ x. either told.ended (decided_item new) ≡ Some x)
    keeps b e None h k = tt
    keeps true e (Some x) h k = let same : c.was.item ≡ x = cc in k refl ∙ ap Some same
    keeps false e (Some x) h k = absurd (cc)

-- an act of an attempt is a step of the core without its beginning
pub stepped : (tables : List Table) (txn : List Op) (s : Setting) (old new : Worker) (words words' : Words) (told : code.Moved) (core : Core) → ((reads : List Read) → s.ask old.number old.index reads ≡ outcome tables txn reads)
    → StageFits tables txn old old.stage → Stands tables old words core → IsActed tables txn old new words words' told
    → CodeSteps tables old new words' told core (settle s (settle s (micro s core old.number) old.number) old.number)
stepped tables txn s old new words words' told core asks fits st (Loaded same reads attempt f none act) =
    turned tables txn s old new words words' told core fits st (subst (λ z. Turned tables s old new words z told) (sym same) (turned_loaded tables txn s old new words told reads attempt f none act))
stepped tables txn s old new words words' told core asks fits st (Confirmed same reads attempt f none c) =
    turned tables txn s old new words words' told core fits st (subst (λ z. Turned tables s old new words z told) (sym same) (turned_confirmed tables txn s old new words told asks reads attempt none c))
stepped tables txn s old new words words' told core asks fits st (Committed c) =
    let mine : StageFits tables txn old (stage.Committing c.was) = subst (StageFits tables txn old) c.old_is fits in
    turned tables txn s old new words words' told core fits st (turned_committed tables s old new words words' told c mine.1 mine.2 mine.3)
