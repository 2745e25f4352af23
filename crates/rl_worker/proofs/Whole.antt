-- Every schedule.
use Rattle.std.proofs.Common.{◌≡◌, ℕ, zero, suc, ◌<◌, List, [], ◌∷◌, length, get_or, Bool, true, false, nat_lt, ◌&&◌, None, refl, sym, ap, ◌∙◌, arith, inl, true≢false, length-set, subst}
use Rattle.rl_worker.proofs.Basics.{by_test, test_lt, rest_at}
use Rattle.rl_worker.proofs.States.{Rec, Void, Entry, Phase, Rest, Asking, Wanting, Loading, Locking, Validating, Storing, Refusing, State, decided, Setting}
use Rattle.rl_worker.proofs.OwnLaw.{Ground, Serial, Rising, Lawful, InLists}
use Rattle.rl_worker.specs.Laws.{AllTrue}
use Rattle.rl_worker.specs.Acts.{Core, no_rec, phase_of, micro, passing, resting, settle, begin, step, is_done, may, idle, Turn, Step, Idle, turn, after_turns, opening_core}
use Rattle.rl_worker.proofs.Parts.{micro_parts, step_on}
use Rattle.rl_worker.proofs.OwnLaw.{AllFree, Opens}
use Rattle.rl_worker.proofs.Inv.{Inv, Knows}
use Rattle.rl_worker.proofs.Keeps.{Keeps, knows_kept, final_kept}
use Rattle.rl_worker.proofs.Local.{decided_lives}
use Rattle.rl_worker.proofs.Serial.{items_idle, all_serial, items_rise}
use Rattle.rl_worker.proofs.Lift.{Good, lift, micro_good}
use Rattle.rl_worker.proofs.Installs.{none_some, both}
use Rattle.rl_txn.specs.declared.write.End.TheVariants.{Done}
use Rattle.rl_worker.proofs.Numbers.{Numbered, Latest, micro_numbered, idle_numbered, opening_numbered, in_lists}

-- a worker that may move is there
pub there : (S : Setting) (c : Core) (w : ℕ) → may S c w ≡ true → w < length c.workers
there S c w h = test_lt w (length c.workers) (both (nat_lt w (length c.workers)) (nat_lt c.next S.last) (both (nat_lt 0 w) (nat_lt w (length c.workers) && nat_lt c.next S.last) h).1).0

module _ (G : Ground) (L : Lawful G) (first : ℕ → ℕ) where
  pub record Fine (c : Core) : Type 0 where
    pub good : Good G c
    pub numbered : Numbered first c

  pub micro_kept : (c : Core) (w : ℕ) → w < length c.workers → Fine c → Fine (micro G.setting c w) × (w < length (micro G.setting c w).workers)
  micro_kept c w h g = subst (λ z. Fine z × (w < length z.workers)) (sym (micro_parts G.setting c w)) (
    record {
      good = micro_good G L c g.good w h (phase_of c w) refl;
      numbered = micro_numbered first G.setting c G.setting.base (rw g.good.items (items_rise g.good.log g.good.count G.setting.base)) g.numbered w h (phase_of c w) refl;
    },
    rw length-set h,
  )

  settle_kept : (c : Core) (w : ℕ) → w < length c.workers → Fine c → Fine (settle G.setting c w) × (w < length (settle G.setting c w).workers)
  settle_kept c w h g = by_test (λ z. Fine z × (w < length z.workers)) (passing (phase_of c w)) (micro G.setting c w) c (λ t. micro_kept c w h g) (λ t. (g, h))

  begin_kept : (c : Core) (w : ℕ) → w < length c.workers → Fine c → Fine (begin G.setting c w) × (w < length (begin G.setting c w).workers)
  begin_kept c w h g = by_test (λ z. Fine z × (w < length z.workers)) (resting (phase_of c w)) (micro G.setting (micro G.setting c w) w) c
      (λ t. let a = micro_kept c w h g in micro_kept (micro G.setting c w) w a.1 a.0) (λ t. (g, h))

  step_on_kept : (c : Core) (w : ℕ) → w < length c.workers → Fine c → Fine (step_on G.setting c w)
  step_on_kept c w h g =
      let a = begin_kept c w h g in
      let b = micro_kept (begin G.setting c w) w a.1 a.0 in
      let d = settle_kept (micro G.setting (begin G.setting c w) w) w b.1 b.0 in
      (settle_kept (settle G.setting (micro G.setting (begin G.setting c w) w) w) w d.1 d.0).0

  step_kept : (c : Core) (w : ℕ) → w < length c.workers → Fine c → Fine (step G.setting c w)
  step_kept c w h g = by_test (λ z. Fine z) (is_done G.setting w (phase_of c w)) c (step_on G.setting c w) (λ t. g) (λ t. step_on_kept c w h g)

  idle_inv : (σ : State) → Inv G σ → Inv G (record { recs = σ.recs; workers = σ.workers; log = σ.log; next = suc σ.next })
  idle_inv σ inv =
      let τ : State = record { recs = σ.recs; workers = σ.workers; log = σ.log; next = suc σ.next } in
      let keeps : (z : ℕ) → Keeps G σ τ z = λ z. record {
        next_up = omega arith;
        version = λ r v row h. h;
        stamp_up = λ r. omega arith;
        opens = λ r e s. (s, refl);
        mine = λ r v n h. refl;
        entry = λ t a n. refl;
        lives = λ u a l. l;
        writes = λ u a. refl;
      } in
      record {
        knows = λ v. knows_kept G σ τ (suc v) (keeps (suc v)) v (omega arith) (σ.workers v) (inv.knows v);
        owner = inv.owner;
        width_is = inv.width_is;
        based = omega (arith, inv.based);
        fresh = λ r. omega (arith, inv.fresh r);
        content = inv.content;
        drawn = inv.drawn;
        past = λ t l. ((inv.past t l).0, omega (arith, (inv.past t l).1));
        final = λ t d. final_kept G σ τ 0 (keeps 0) t (omega (arith, (inv.past t (decided_lives (σ.log t).status d)).1)) refl (inv.final t d);
      }

  not_yet : (c : Core) (g : Good G c) → decided (g.log c.next).status ≡ false
  not_yet c g = go (decided (g.log c.next).status) refl
    where
      go : (b : Bool) → decided (g.log c.next).status ≡ b → b ≡ false
      go false e = refl
      go true e = absurd (omega (arith, (g.inv.past c.next (decided_lives (g.log c.next).status e)).1))

  pub idle_kept : (c : Core) (w : ℕ) → Good G c → Good G (idle c w)
  idle_kept c w g = by_test (λ z. Good G z) (resting (phase_of c w)) _ _
      (λ t. record {
        log = g.log;
        count = suc g.count;
        count_is = omega (arith, g.count_is);
        inv = idle_inv (lift c g.log) g.inv;
        items = g.items ∙ sym (items_idle g.log g.count G.setting.base c.next g.count_is (not_yet c g));
        inside = g.inside;
        causes = g.causes;
      })
      (λ t. g)

  turn_kept : (c : Core) (t : Turn) → Fine c → Fine (turn G.setting c t)
  turn_kept c (Step w) g = by_test (λ z. Fine z) (may G.setting c w) (step G.setting c w) c (λ t. step_kept c w (there G.setting c w t) g) (λ t. g)
  turn_kept c (Idle w) g = by_test (λ z. Fine z) (may G.setting c w) (idle c w) c
      (λ t. record { good = idle_kept c w g.good; numbered = idle_numbered first c w g.numbered }) (λ t. g)

  run_kept : (ts : List Turn) (c : Core) → Fine c → Fine (after_turns G.setting c ts)
  run_kept [] c g = g
  run_kept (t ∷ ts) c g = run_kept ts (turn G.setting c t) (turn_kept c t g)

  free_at : (xs : List Rec) (r : ℕ) → AllFree xs → (get_or xs r no_rec).holder ≡ None
  free_at [] r h = refl
  free_at (x ∷ xs) zero h = h.0
  free_at (x ∷ xs) (suc r) h = free_at xs r h.1

  knows_rest : (σ : State) (w : ℕ) (p : Phase) → resting p ≡ true → Knows G σ w p
  knows_rest σ w (Rest q) h = 0
  knows_rest σ w (Asking q reads) h = absurd (true≢false (sym h))
  knows_rest σ w (Wanting q reads r) h = absurd (true≢false (sym h))
  knows_rest σ w (Loading q reads r seen loaded) h = absurd (true≢false (sym h))
  knows_rest σ w (Locking q reads answer locked todo) h = absurd (true≢false (sym h))
  knows_rest σ w (Validating q t done todo answer writes) h = absurd (true≢false (sym h))
  knows_rest σ w (Storing item j todo) h = absurd (true≢false (sym h))
  knows_rest σ w (Refusing q todo) h = absurd (true≢false (sym h))

  none_yet : ℕ → Entry
  none_yet t = record { worker = 0; index = 0; reads = []; answer = (record { outs = []; end = Done }, []); writes = []; status = Void }

  opening_good : (recs : List Rec) (workers : List Phase) → Opens G recs workers → Good G (opening_core G.setting recs workers)
  unfolding none_yet
  opening_good recs workers o = record {
    log = none_yet;
    count = 0;
    count_is = omega arith;
    inv = record {
      knows = λ w. knows_rest (lift (opening_core G.setting recs workers) none_yet) w (get_or workers w (Rest 0)) (rest_at workers w o.rests);
      owner = λ r w h. absurd (none_some w (sym (free_at recs r o.free) ∙ h));
      width_is = λ r. ap (λ (z : Rec). length z.cells) (sym (o.start_is r)) ∙ L.widths r;
      based = omega arith;
      fresh = λ r. rw (o.start_is r) at (L.early r);
      content = λ r s. inl (ap (λ (z : Rec). z.stamp) (sym (o.start_is r)), ap (λ (z : Rec). z.cells) (sym (o.start_is r)));
      drawn = λ t r l h. absurd (true≢false (sym l));
      past = λ t l. absurd (true≢false (sym l));
      final = λ t d. absurd (true≢false (sym d));
    };
    items = refl;
    inside = o.inside;
    causes = tt;
  }

  latest_rest : (p : Phase) (w n : ℕ) → resting p ≡ true → Latest p w [] n
  latest_rest (Rest q) w n h = 0
  latest_rest (Asking q reads) w n h = absurd (true≢false (sym h))
  latest_rest (Wanting q reads r) w n h = absurd (true≢false (sym h))
  latest_rest (Loading q reads r seen loaded) w n h = absurd (true≢false (sym h))
  latest_rest (Locking q reads answer locked todo) w n h = absurd (true≢false (sym h))
  latest_rest (Validating q t done todo answer writes) w n h = absurd (true≢false (sym h))
  latest_rest (Storing item j todo) w n h = absurd (true≢false (sym h))
  latest_rest (Refusing q todo) w n h = absurd (true≢false (sym h))

  opening_fine : (recs : List Rec) (workers : List Phase) → Opens G recs workers → ((w : ℕ) → w < length workers → get_or workers w (Rest 0) ≡ Rest (first w)) → Fine (opening_core G.setting recs workers)
  opening_fine recs workers o f = record {
    good = opening_good recs workers o;
    numbered = opening_numbered first G.setting recs workers f (λ w. latest_rest (get_or workers w (Rest 0)) w G.setting.base (rest_at workers w o.rests));
  }

  -- what the law says of a core
  pub record Law (c : Core) : Type 0 where
    pub serial : Serial G.setting (λ r. (G.start r).cells) c.decided
    pub rising : Rising G.setting.base c.decided
    pub causes : AllTrue c.refusals
    pub in_lists : InLists first c.decided

  pub law : (recs : List Rec) (workers : List Phase) (turns : List Turn) → Opens G recs workers → ((w : ℕ) → w < length workers → get_or workers w (Rest 0) ≡ Rest (first w))
      → Law (after_turns G.setting (opening_core G.setting recs workers) turns)
  law recs workers turns o f =
      let c = after_turns G.setting (opening_core G.setting recs workers) turns in
      let k = run_kept turns (opening_core G.setting recs workers) (opening_fine recs workers o f) in
      let g = k.good in
      record {
        serial = rw g.items (all_serial G L (lift c g.log) g.inv g.count);
        rising = rw g.items (items_rise g.log g.count G.setting.base);
        causes = g.causes;
        in_lists = in_lists first c k.numbered;
      }
