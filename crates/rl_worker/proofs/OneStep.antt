-- What one step adds to a core.
use Rattle.std.proofs.Common.{◌≡◌, ℕ, suc, ◌<◌, ◌≤◌, List, [], ◌∷◌, ◌++◌, length, get_or, set, false, slice_get, nat_lt, is_some, ◌==◌, if◌then◌else◌, Option, Some, None, IfSome, option_to_list, refl, sym, ap, ◌∙◌, subst, arith, length-set}
use Rattle.std.specs.Option.{option_map}
use Rattle.std.proofs.lemmas.List.{set-set, set-get_or, get_or-set_same}
use Rattle.rl_worker.specs.Items.{CoreItem}
use Rattle.rl_worker.specs.Phases.{Read, Install, Rec, Outcome, Wants, Ends, Phase, Rest, Asking, Wanting, Loading, Locking, Validating, Storing, Refusing, Setting, asked, other, with_read}
use Rattle.rl_worker.specs.Acts.{CoreRefusal, Cause, Locked, Changed, Drew, Won, Ended, ActResult, Core, no_rec, target, quiet, lost, act_result, phase_of, micro, resting, settle, begin, step, is_done}
use Rattle.rl_worker.specs.Attempts.{next_after}
use Rattle.rl_base.proofs.Tests.{lt_true, lt_false}
use Rattle.rl_value.specs.Tables.{Table}
use Rattle.rl_worker.specs.declared.act.Moved.{Moved}
use Rattle.rl_worker.specs.declared.words.Words.{Words}
use Rattle.rl_worker.specs.declared.worker.Worker.{Worker}
use Rattle.rl_worker.specs.Opening.{item_seen}
use Rattle.rl_worker.specs.Told.{refused}
use Rattle.rl_worker.specs.Workers.{Steps, epoch_of, with_item, stamp_made}
use Rattle.rl_worker.specs.OneTurn.{IsOneStep, TellsNews}
use Rattle.rl_worker.proofs.Basics.{by_test}
use Rattle.rl_worker.proofs.Parts.{parts, micro_parts, step_on, decided_after, ended_after, refusals_after, made_after}
use Rattle.rl_worker.proofs.Cores.{At, Settled, passed, wins, ends, stamps_added, settled, begun}

module _ (s : Setting) (w : ℕ) where
  -- what passing a phase twice adds
  record Passes (p : Phase) : Type 0 where
    pub item : Option CoreItem
    pub decided : (xs : List CoreItem) → with_item (wins w (passed s w p)) (with_item (wins w p) xs) ≡ with_item item xs
    pub made : (xs : List (ℕ × ℕ)) → stamps_added (wins w (passed s w p)) ++ (stamps_added (wins w p) ++ xs) ≡ option_to_list (option_map stamp_made item) ++ xs
    pub of_item : IfSome item (λ x. x.worker ≡ w)
    pub over : Option CoreItem
    pub ended : (xs : List CoreItem) → option_to_list (ends (passed s w p)) ++ (option_to_list (ends p) ++ xs) ≡ option_to_list over ++ xs

  none_passes : (p : Phase) → wins w p ≡ None → wins w (passed s w p) ≡ None → ends p ≡ None → ends (passed s w p) ≡ None → Passes p
  none_passes p a b c d = record {
    item = None;
    decided = λ xs. rw (a, b) refl;
    made = λ xs. rw (a, b) refl;
    of_item = tt;
    over = None;
    ended = λ xs. rw (c, d) refl;
  }

  passes_asked : (q : ℕ) (reads : List Read) (o : Outcome) → (wins w (asked q reads o) ≡ None) × (ends (asked q reads o) ≡ None)
  passes_asked q reads (Wants r) = (refl, refl)
  passes_asked q reads (Ends answer writes) = (refl, refl)

  passes : (p : Phase) → Passes p
  passes (Rest q) = none_passes (Rest q) refl refl refl refl
  passes (Asking q reads) =
      let k = passes_asked q reads (s.ask w q reads) in
      none_passes (Asking q reads) refl k.0 refl k.1
  passes (Wanting q reads r) = none_passes (Wanting q reads r) refl refl refl refl
  passes (Loading q reads r seen loaded) = none_passes (Loading q reads r seen loaded) refl refl refl refl
  passes (Locking q reads answer l todo) = none_passes (Locking q reads answer l todo) refl refl refl refl
  passes (Validating q t done [] answer []) =
      let item : CoreItem = record { stamp = t; worker = w; index = q; answer = answer; writes = [] } in
      record { item = Some item; decided = λ xs. refl; made = λ xs. refl; of_item = refl; over = Some item; ended = λ xs. refl }
  passes (Validating q t done [] answer (y ∷ writes)) =
      let item : CoreItem = record { stamp = t; worker = w; index = q; answer = answer; writes = y ∷ writes } in
      record { item = Some item; decided = λ xs. refl; made = λ xs. refl; of_item = refl; over = None; ended = λ xs. refl }
  passes (Validating q t done (y ∷ todo) answer writes) = none_passes (Validating q t done (y ∷ todo) answer writes) refl refl refl refl
  passes (Storing item j []) = record { item = None; decided = λ xs. refl; made = λ xs. refl; of_item = tt; over = Some item; ended = λ xs. refl }
  passes (Storing item j (y ∷ todo)) = none_passes (Storing item j (y ∷ todo)) refl refl refl refl
  passes (Refusing q []) = none_passes (Refusing q []) refl refl refl refl
  passes (Refusing q (y ∷ todo)) = none_passes (Refusing q (y ∷ todo)) refl refl refl refl

  -- what an act and passing what follows it add
  record Adds (m : ActResult) : Type 0 where
    pub item : Option CoreItem
    pub decided : (xs : List CoreItem) → with_item (wins w (passed s w m.phase)) (with_item (wins w m.phase) (decided_after xs m.effect)) ≡ with_item item xs
    pub made : (xs : List (ℕ × ℕ)) → stamps_added (wins w (passed s w m.phase)) ++ (stamps_added (wins w m.phase) ++ made_after xs m.effect) ≡ option_to_list (option_map stamp_made item) ++ xs
    pub of_item : IfSome item (λ x. x.worker ≡ w)
    pub over : Option CoreItem
    pub ended : (xs : List CoreItem) → option_to_list (ends (passed s w m.phase)) ++ (option_to_list (ends m.phase) ++ ended_after xs m.effect) ≡ option_to_list over ++ xs
    pub refusal : Option CoreRefusal
    pub refusals : (xs : List CoreRefusal) → refusals_after xs m.effect ≡ option_to_list refusal ++ xs
    pub of_refusal : IfSome refusal (λ f. f.worker ≡ w)
    pub low : (n : ℕ) → n ≤ next_after n m.effect
    pub high : (n : ℕ) → next_after n m.effect ≤ suc n

  quiet_adds : (x : Rec) (p : Phase) → Adds (quiet x p)
  quiet_adds x p =
      let k = passes p in
      record {
        item = k.item;
        decided = k.decided;
        made = k.made;
        of_item = k.of_item;
        over = k.over;
        ended = k.ended;
        refusal = None;
        refusals = λ xs. refl;
        of_refusal = tt;
        low = λ n. omega arith;
        high = λ n. omega arith;
      }

  drew_adds : (x : Rec) (p : Phase) → Adds (record { phase = p; rec = x; effect = Drew })
  drew_adds x p =
      let k = passes p in
      record {
        item = k.item;
        decided = k.decided;
        made = k.made;
        of_item = k.of_item;
        over = k.over;
        ended = k.ended;
        refusal = None;
        refusals = λ xs. refl;
        of_refusal = tt;
        low = λ n. omega arith;
        high = λ n. omega arith;
      }

  lost_adds : (x : Rec) (p : Phase) (q r : ℕ) (cause : Cause) → Adds (lost x p w q r cause)
  lost_adds x p q r cause =
      let k = passes p in
      record {
        item = k.item;
        decided = k.decided;
        made = k.made;
        of_item = k.of_item;
        over = k.over;
        ended = k.ended;
        refusal = Some (record { worker = w; index = q; rec = r; cause = cause });
        refusals = λ xs. refl;
        of_refusal = refl;
        low = λ n. omega arith;
        high = λ n. omega arith;
      }

  won_adds : (x : Rec) (item : CoreItem) (writes : List Install) → item.worker ≡ w → Adds (record { phase = Storing item 0 writes; rec = x; effect = Won item })
  won_adds x item [] e = record {
    item = Some item;
    decided = λ xs. refl;
    made = λ xs. refl;
    of_item = e;
    over = Some item;
    ended = λ xs. refl;
    refusal = None;
    refusals = λ xs. refl;
    of_refusal = tt;
    low = λ n. omega arith;
    high = λ n. omega arith;
  }
  won_adds x item (y ∷ writes) e = record {
    item = Some item;
    decided = λ xs. refl;
    made = λ xs. refl;
    of_item = e;
    over = None;
    ended = λ xs. refl;
    refusal = None;
    refusals = λ xs. refl;
    of_refusal = tt;
    low = λ n. omega arith;
    high = λ n. omega arith;
  }

  ended_adds : (x : Rec) (item : CoreItem) → Adds (record { phase = Rest (suc item.index); rec = x; effect = Ended item })
  ended_adds x item = record {
    item = None;
    decided = λ xs. refl;
    made = λ xs. refl;
    of_item = tt;
    over = Some item;
    ended = λ xs. refl;
    refusal = None;
    refusals = λ xs. refl;
    of_refusal = tt;
    low = λ n. omega arith;
    high = λ n. omega arith;
  }

  adds : (n : ℕ) (p : Phase) (x : Rec) → Adds (act_result s w n p x)
  adds n (Rest q) x = quiet_adds x (Asking q [])
  adds n (Asking q reads) x = quiet_adds x (asked q reads (s.ask w q reads))
  adds n (Wanting q reads r) x = by_test Adds (is_some x.holder) _ _
      (λ t. lost_adds x (Rest q) q r (Locked x.holder x.stamp)) (λ t. quiet_adds x (Loading q reads r x.stamp []))
  adds n (Loading q reads r seen loaded) x = by_test Adds (nat_lt (length loaded) (length x.cells)) _ _
      (λ t. quiet_adds x (Loading q reads r seen (loaded ++ get_or x.cells (length loaded) 0 ∷ [])))
      (λ t. by_test Adds (is_some x.holder) _ _ (λ f. lost_adds x (Rest q) q r (Locked x.holder x.stamp))
      (λ f. by_test Adds (x.stamp == seen) _ _ (λ g. quiet_adds x (Asking q (with_read (record { rec = r; seen = seen; row = loaded }) reads)))
      (λ g. lost_adds x (Rest q) q r (Changed x.holder seen x.stamp))))
  adds n (Locking q reads answer locked (y ∷ todo)) x = by_test Adds (is_some x.holder) _ _
      (λ t. lost_adds x (Refusing q locked) q y.rec (Locked x.holder x.stamp)) (λ t. quiet_adds (record x { holder = Some w }) (Locking q reads answer (locked ++ y ∷ []) todo))
  adds n (Locking q reads answer locked []) x = drew_adds x (Validating q n [] reads answer locked)
  adds n (Validating q t done (y ∷ todo) answer writes) x = by_test Adds (other w x.holder) _ _
      (λ f. lost_adds x (Refusing q writes) q y.rec (Locked x.holder x.stamp))
      (λ f. by_test Adds (x.stamp == y.seen) _ _ (λ g. quiet_adds x (Validating q t (done ++ y ∷ []) todo answer writes))
      (λ g. lost_adds x (Refusing q writes) q y.rec (Changed x.holder y.seen x.stamp)))
  adds n (Validating q t done [] answer writes) x = won_adds x (record { stamp = t; worker = w; index = q; answer = answer; writes = writes }) writes refl
  adds n (Storing item j (y ∷ todo)) x = by_test Adds (nat_lt j (length y.row)) _ _
      (λ t. quiet_adds (record x { cells = set x.cells j (get_or y.row j 0) }) (Storing item (suc j) (y ∷ todo)))
      (λ t. quiet_adds (record x { stamp = item.stamp; holder = None }) (Storing item 0 todo))
  adds n (Storing item j []) x = ended_adds x item
  adds n (Refusing q (y ∷ todo)) x = quiet_adds (record x { holder = None }) (Refusing q todo)
  adds n (Refusing q []) x = quiet_adds x (Rest q)

  -- the phase in which a worker makes its act
  abbrev begins : Phase → Phase
  begins (Rest q) = asked q [] (s.ask w q [])
  begins p = p

  module _ (core : Core) (hw : w < length core.workers) where
    at : (c : Core) → w < length c.workers → At c w (phase_of c w) c.recs c.next
    at c h = record { recs = refl; next = refl; there = h; phase = refl }

    goes_on : (p : Phase) → phase_of core w ≡ p → resting p ≡ false → Settled core (begin s core w) w p None None core.recs core.next
    goes_on p e r =
        let no : resting (phase_of core w) ≡ false = ap resting e ∙ r in
        let same : begin s core w ≡ core = ap (λ b. if b then micro s (micro s core w) w else core) no in
        subst (λ (z : Core). Settled core z w p None None core.recs core.next) (sym same) (record {
          at = record { recs = refl; next = refl; there = hw; phase = e };
          workers = sym (ap (set core.workers w) (sym e) ∙ set-get_or core.workers w (Rest 0));
          decided = refl;
          ended = refl;
          made = refl;
          refusals = refl;
        })

    began : (p : Phase) → phase_of core w ≡ p → Settled core (begin s core w) w (begins p) None None core.recs core.next
    began (Rest q) e = begun s core w core.recs core.next q (record { recs = refl; next = refl; there = hw; phase = e })
    began (Asking q reads) e = goes_on (Asking q reads) e refl
    began (Wanting q reads r) e = goes_on (Wanting q reads r) e refl
    began (Loading q reads r seen loaded) e = goes_on (Loading q reads r seen loaded) e refl
    began (Locking q reads answer l todo) e = goes_on (Locking q reads answer l todo) e refl
    began (Validating q t done todo answer writes) e = goes_on (Validating q t done todo answer writes) e refl
    began (Storing item j todo) e = goes_on (Storing item j todo) e refl
    began (Refusing q todo) e = goes_on (Refusing q todo) e refl

    step_on_is : IsOneStep w core (step_on s core w)
    step_on_is =
        let b = began (phase_of core w) refl in
        let c1 = begin s core w in
        let p = phase_of c1 w in
        let m : ActResult = act_result s w c1.next p (get_or c1.recs (target p) no_rec) in
        let c2 : Core = parts c1 w (target p) m in
        let same : micro s c1 w ≡ c2 = micro_parts s c1 w in
        let there : w < length c2.workers = rw length-set b.at.there in
        let ph : phase_of c2 w ≡ m.phase = get_or-set_same c1.workers w m.phase (Rest 0) b.at.there in
        let d = settled s c2 w c2.recs c2.next m.phase (record { recs = refl; next = refl; there = there; phase = ph }) in
        let f = settled s (settle s c2 w) w c2.recs c2.next (passed s w m.phase) d.at in
        let last = passed s w (passed s w m.phase) in
        let k = adds c1.next p (get_or c1.recs (target p) no_rec) in
        subst (λ (z : Core). IsOneStep w core (settle s (settle s z w) w)) (sym same) (record {
          workers = f.workers ∙ ap (λ ws. set ws w last) d.workers ∙ ap (λ ws. set (set ws w (passed s w m.phase)) w last) (ap (λ ws. set ws w m.phase) b.workers)
              ∙ ap (λ ws. set ws w last) (set-set (set core.workers w (begins (phase_of core w))) w m.phase (passed s w m.phase))
              ∙ set-set (set core.workers w (begins (phase_of core w))) w (passed s w m.phase) last ∙ set-set core.workers w (begins (phase_of core w)) last
              ∙ ap (set core.workers w) (sym f.at.phase);
          item = k.item;
          decided = f.decided ∙ ap (with_item (wins w (passed s w m.phase))) d.decided ∙ k.decided c1.decided ∙ ap (with_item k.item) b.decided;
          made = f.made ∙ ap (λ z. stamps_added (wins w (passed s w m.phase)) ++ z) d.made ∙ k.made c1.made ∙ ap (λ z. option_to_list (option_map stamp_made k.item) ++ z) b.made;
          of_item = k.of_item;
          over = k.over;
          ended = f.ended ∙ ap (λ z. option_to_list (ends (passed s w m.phase)) ++ z) d.ended ∙ k.ended c1.ended ∙ ap (λ z. option_to_list k.over ++ z) b.ended;
          refusal = k.refusal;
          refusals = f.refusals ∙ d.refusals ∙ k.refusals c1.refusals ∙ ap (λ z. option_to_list k.refusal ++ z) b.refusals;
          of_refusal = k.of_refusal;
          next_low = omega (arith, f.at.next, b.at.next, k.low c1.next);
          next_high = omega (arith, f.at.next, b.at.next, k.high c1.next);
        })

    -- nothing is done
    stays_as_is : IsOneStep w core core
    stays_as_is = record {
      workers = sym (set-get_or core.workers w (Rest 0));
      item = None;
      decided = refl;
      made = refl;
      of_item = tt;
      over = None;
      ended = refl;
      refusal = None;
      refusals = refl;
      of_refusal = tt;
      next_low = omega arith;
      next_high = omega arith;
    }

    pub one_step : IsOneStep w core (step s core w)
    one_step = by_test (IsOneStep w core) (is_done s w (phase_of core w)) core (step_on s core w) (λ t. stays_as_is) (λ t. step_on_is)

-- ---- what the code tells ----
-- one more element or none before a list is the first of what results, where that is longer
newest : {X : Type 0} (o : Option X) (xs ys : List X) → ys ≡ option_to_list o ++ xs → (if nat_lt (length xs) (length ys) then slice_get ys 0 else None) ≡ o
newest None xs ys e = rw (e, lt_false (length xs) (length xs) (omega arith)) refl
newest (Some x) xs ys e = rw (e, lt_true (length xs) (length (x ∷ xs)) (omega arith)) refl

pub tells_news : (tables : List Table) (old new : Worker) (words : Words) (told : Moved) (before after : Core) → Steps tables old new words told before after → TellsNews old told before after
tells_news tables old new words told before after t = record {
  ended = t.ended_seen ∙ ap (option_map (item_seen (epoch_of old))) (sym (newest t.over before.ended after.ended t.core_ended));
  refused = t.refused ∙ ap (option_map refused) (sym (newest t.refusal before.refusals after.refusals t.refusals));
}
