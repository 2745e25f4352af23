-- The mark of an idle worker: when it may be proposed, and what a leader keeps once it is.
use Rattle.std.proofs.Common.{◌≡◌, ◌≢◌, ◌⊎◌, ℕ, ◌+◌, ◌-◌, ◌*◌, ◌^◌, ◌<◌, ◌≤◌, List, [], ◌∷◌, ◌++◌, length, take, true, false, ◌&&◌, ◌==◌, is_some, Option, Some, None, Contains, refl, sym, ap, ◌∙◌, subst, arith, inl, inr, append-nil}
use Rattle.std.specs.Prelude.{slice_get}
use Rattle.std.proofs.lemmas.Bool.{cases_eq, cases_Bool, false≢true}
use Rattle.std.proofs.lemmas.Bool.Decides.{nat_tests}
use Rattle.std.proofs.lemmas.Option.{slice_get_within}
use Rattle.rl_base.proofs.Members.{In, in_contains, contains_in, in_prefix, in_suffix, in_split, map_in, all_in}
use Rattle.rl_base.proofs.Tests.{both, both_true, true_same}
use Rattle.rl_base.specs.Order.{IsBelow}
use Rattle.rl_base.specs.Stamps.{packed}
use Rattle.rl_base.specs.declared.stamp.Stamp.{Stamp}
use Rattle.rl_batch.specs.Ranges.{BatchInRange, ItemInRange}
use Rattle.rl_families.specs.Logs.{stamps_in_batch, stamps_along, last_seq, last_seq_among}
use Rattle.rl_families.proofs.Logs.{stamps_along-append}
use Rattle.rl_families.proofs.Rising.{Rises, rises_from, from_rises, rises_front, behind, last_seq_among_in, last_seq_among_above}
use Rattle.rl_txn.specs.declared.batch.Batch.{Batch}
use Rattle.rl_txn.specs.declared.batch.Batch.TheVariants.{Items, Idle as IdleMark, Opened}
use Rattle.rl_txn.specs.declared.item.Item.{Item}
use Rattle.rl_worker.specs.Acts.{Core}
use Rattle.rl_worker.specs.Laws.{AllUnder, stamps_by, StampsStayBelow, StampsStayInRange}
use Rattle.rl_worker.specs.Opening.{OpenLeader}
use Rattle.rl_worker.specs.declared.worker.Worker.{Worker}
use Rattle.rl_nodes.specs.Batches.{batch_of, batches_of, END_SEQ}
use Rattle.rl_nodes.specs.Openings.{opening_leader}
use Rattle.rl_nodes.specs.Setups.{Setup}
use Rattle.rl_node.specs.Fits.{IsStream}
use Rattle.rl_node.specs.Idling.{is_end_mark}
use Rattle.rl_node.specs.Keeping.{stamps_with, IsEarly, IsMade, KeepsStream, unproposed}
use Rattle.rl_node.specs.Standing.{AreWorksOf, log_of, pending_in}
use Rattle.rl_node.specs.declared.part.Lead as leads
use Rattle.rl_node.specs.declared.part.Works.{Works}
use Rattle.rl_node.proofs.Keeps.{end_stamp, stamp_list, above_kept}
use Rattle.rl_node.proofs.Streams.{front_more}
use Rattle.rl_node.proofs.Turns.{at_index}

pub no_test : (n m : ℕ) → n ≢ m → (n == m) ≡ false
no_test n m h = grind (arith, nat_tests)

pub yes_test : (n m : ℕ) → n ≡ m → (n == m) ≡ true
yes_test n m h = grind (arith, nat_tests)

under_more : (n m : ℕ) (xs : List ℕ) → n ≤ m → AllUnder n xs → AllUnder m xs
under_more n m [] le h = tt
under_more n m (x ∷ xs) le h = (let k = h.0 in omega (arith, k, le), under_more n m xs le h.1)

take_all : {A : Type 0} (xs : List A) → take (length xs) xs ≡ xs
take_all [] = refl
take_all (x ∷ xs) = ap (λ ys. x ∷ ys) (take_all xs)

-- ---- what a batch has ----

pub some_batch : (x : List ℕ) → is_some (batch_of x) ≡ true → (b : Batch) × (batch_of x ≡ Some b)
some_batch x h = by_option (batch_of x) h
  where
    by_option : (o : Option Batch) → is_some o ≡ true → (b : Batch) × (o ≡ Some b)
    by_option None h = absurd (false≢true h)
    by_option (Some b) h = (b, refl)

-- a batch has a stamp
some_stamp : (b : Batch) → BatchInRange b → (t : Stamp) × In t (stamps_in_batch b)
some_stamp (Items []) h = absurd (let some = h.some in omega (arith, some))
some_stamp (Items (x ∷ xs)) h = (x.stamp, inl refl)
some_stamp (IdleMark s) h = (s, inl refl)
some_stamp (Opened s) h = (s, inl refl)

same_stamp : (e : ℕ) (s : Stamp) → (s.epoch == e) && (s.seq == END_SEQ) ≡ true → s ≡ end_stamp e
same_stamp e s h =
    let parts = both (s.epoch == e) (s.seq == END_SEQ) h in
    λ i. record { epoch = true_same s.epoch e parts.0 i; seq = true_same s.seq END_SEQ parts.1 i }

-- one that is the end mark has its stamp
end_there : (e : ℕ) (b : Batch) → is_end_mark e b ≡ true → In (end_stamp e) (stamps_in_batch b)
end_there e (Items xs) h = absurd (false≢true h)
end_there e (IdleMark s) h = inl (sym (same_stamp e s h))
end_there e (Opened s) h = absurd (false≢true h)

-- and one that is not has not
end_only : (e : ℕ) (b : Batch) → BatchInRange b → is_end_mark e b ≡ false → (t : Stamp) → t.epoch ≡ e → t.seq ≡ END_SEQ → In t (stamps_in_batch b) → ⊥
end_only e (Items xs) range h t epoch seq i =
    let k = map_in (λ (x : Item). x.stamp) t xs i in
    let high = (all_in ItemInRange xs range.each k.0 k.1).seq_high in
    let is : k.0.stamp.seq ≡ t.seq = ap (λ (u : Stamp). u.seq) k.2 in
    omega (arith, high, is, seq)
end_only e (IdleMark s) range h t epoch seq i = elim i [
  | inl is ↦ false≢true (sym h ∙ both_true (s.epoch == e) (s.seq == END_SEQ) (yes_test s.epoch e (sym (ap (λ (u : Stamp). u.epoch) is) ∙ epoch))
      (yes_test s.seq END_SEQ (sym (ap (λ (u : Stamp). u.seq) is) ∙ seq)))
  | inr a ↦ a
]
end_only e (Opened s) range h t epoch seq i = elim i [
  | inl is ↦ (let high = range.seq_high in let same : t.seq ≡ s.seq = ap (λ (u : Stamp). u.seq) is in omega (arith, high, same, seq))
  | inr a ↦ a
]

-- ---- a stream of an open leader ----

module _ (below : StampsStayBelow) (ranges : StampsStayInRange) (setup : Setup) (l : leads.Lead) (works : Works) (core : Core) (w : ℕ)
    (there : IsStream setup w) (a : AreWorksOf setup l works core) where
  abbrev pub o : OpenLeader
  o = opening_leader setup.program l.epoch a.items

  pub own_worker : (x : Worker) × (slice_get works.workers.items (w - 1) ≡ Some x)
  own_worker = at_index works.workers.items (w - 1) (let count = a.count in omega (arith, there.0, there.1, count))

  pub kept_stream : KeepsStream o w (log_of l w) (pending_in l w) own_worker.0 core
  kept_stream = a.keeps w own_worker.0 there.0 own_worker.1

  pub next_low : l.epoch * 2 ^ 40 + 2 ≤ core.next
  next_low = subst (λ (c : Core). l.epoch * 2 ^ 40 + 2 ≤ c.next) (sym a.after) (ranges o a.turns).low

  pub next_high : core.next ≤ l.epoch * 2 ^ 40 + (2 ^ 40 - 1)
  next_high = subst (λ (c : Core). c.next ≤ l.epoch * 2 ^ 40 + (2 ^ 40 - 1)) (sym a.after) (ranges o a.turns).high

  pub made_under : AllUnder core.next (stamps_by w core.made)
  made_under = subst (λ (c : Core). AllUnder c.next (stamps_by w c.made)) (sym a.after) (below o a.turns w).0

  abbrev pub stamps : List Stamp
  stamps = stamps_along (batches_of (log_of l w))

  pub stamp_kept : (t : Stamp) → In t stamps → IsEarly l.epoch t ⊎ IsMade l.epoch w core t
  stamp_kept t i = all_in (λ t. IsEarly l.epoch t ⊎ IsMade l.epoch w core t) (stamps_with (log_of l w) (unproposed (pending_in l w) own_worker.0))
      kept_stream.made t (in_prefix stamps (stamp_list (unproposed (pending_in l w) own_worker.0)) t i)

  pub stamps_rise : Rises stamps
  stamps_rise = rises_front stamps (stamp_list (unproposed (pending_in l w) own_worker.0)) (rises_from _ kept_stream.rising)

  -- no stamp is above the end mark's
  no_higher : (t : Stamp) → In t stamps → IsBelow (end_stamp l.epoch) t → ⊥
  no_higher t i above = elim (stamp_kept t i) [
    | inl early ↦ elim early [
      | inl less ↦ elim above [ inl p ↦ omega (arith, less, p) | inr p ↦ (let same = p.0 in omega (arith, less, same)) ]
      | inr one ↦ (let epoch = one.0 in let seq = one.1 in elim above [ inl p ↦ omega (arith, epoch, p) | inr p ↦ (let more = p.1 in omega (arith, seq, more)) ])
    ]
    | inr made ↦ (let epoch = made.0 in elim above [
      | inl p ↦ omega (arith, epoch, p)
      | inr p ↦ elim made.1 [
        | inl end ↦ (let more = p.1 in omega (arith, end, more))
        | inr has ↦ (let less = under_packed t has in let more = p.1 in far t.epoch t.seq l.epoch core.next less epoch more next_high)
      ]
    ])
  ]
    where
      under_in : (n k : ℕ) (xs : List ℕ) → AllUnder n xs → In k xs → k < n
      under_in n k [] h i = absurd i
      under_in n k (x ∷ xs) h i = elim i [ inl e ↦ subst (λ z. z < n) (sym e) h.0 | inr j ↦ under_in n k xs h.1 j ]

      under_packed : (t : Stamp) → Contains (stamps_by w core.made) (packed t) → packed t < core.next
      under_packed t has = under_in core.next (packed t) (stamps_by w core.made) made_under (contains_in (stamps_by w core.made) (packed t) has)

      far : (e s f n : ℕ) → e * 2 ^ 40 + s < n → e ≡ f → END_SEQ < s → n ≤ f * 2 ^ 40 + (2 ^ 40 - 1) → ⊥
      far e s f n p q r h = omega (arith, p, q, r, h)

  -- whether the end mark is in it, as the definition asks
  pub ends_if_there : In (end_stamp l.epoch) stamps → (last_seq (batches_of (log_of l w)) l.epoch == END_SEQ) ≡ true
  ends_if_there i = yes_test (last_seq_among stamps l.epoch) END_SEQ (elim (last_seq_among_in stamps l.epoch) [
    | inl none ↦ absurd (let at = last_seq_among_above stamps (end_stamp l.epoch) i in omega (arith, none, at))
    | inr t ↦ elim (cases_eq (last_seq_among stamps l.epoch) END_SEQ) [
      | inl e ↦ e
      | inr n ↦ absurd (no_higher t.0 t.1 (inr (sym t.2, (let at = last_seq_among_above stamps (end_stamp l.epoch) i in let is = t.3 in more (last_seq_among stamps l.epoch) t.0.seq at n is))))
    ]
  ])
    where
      more : (n s : ℕ) → END_SEQ ≤ n → n ≢ END_SEQ → s ≡ n → END_SEQ < s
      more n s p q r = omega (arith, p, q, r)

  pub there_if_ends : (last_seq (batches_of (log_of l w)) l.epoch == END_SEQ) ≡ true → (t : Stamp) × In t stamps × (t.epoch ≡ l.epoch) × (t.seq ≡ END_SEQ)
  there_if_ends h =
      let is : last_seq_among stamps l.epoch ≡ END_SEQ = true_same (last_seq_among stamps l.epoch) END_SEQ h in
      elim (last_seq_among_in stamps l.epoch) [
        | inl none ↦ absurd (omega (arith, none, is))
        | inr t ↦ (t.0, t.1, t.2, t.3 ∙ is)
      ]

  -- by the last batch of the log
  module _ (last : List ℕ) (b : Batch) (at : slice_get (log_of l w) (length (log_of l w) - 1) ≡ Some last) (reads : batch_of last ≡ Some b) (range : BatchInRange b) where
    abbrev n : ℕ
    n = length (log_of l w) - 1

    whole : take (n + 1) (log_of l w) ≡ log_of l w
    whole = ap (λ k. take k (log_of l w)) (let some = slice_get_within (log_of l w) n last at in omega (arith, some)) ∙ take_all (log_of l w)

    abbrev front : List Stamp
    front = stamps_along (batches_of (take n (log_of l w)))

    parts : stamps ≡ front ++ stamps_in_batch b
    parts = ap (λ log. stamps_along (batches_of log)) (sym whole)
        ∙ ap stamps_along (front_more (log_of l w) n last b (from_rises stamps stamps_rise) at reads)
        ∙ stamps_along-append (batches_of (take n (log_of l w))) (b ∷ [])
        ∙ ap (λ z. front ++ z) (append-nil (stamps_in_batch b))

    no_end_elsewhere : is_end_mark l.epoch b ≡ false → (last_seq (batches_of (log_of l w)) l.epoch == END_SEQ) ≡ false
    no_end_elsewhere h = elim (cases_Bool (last_seq (batches_of (log_of l w)) l.epoch == END_SEQ)) [
      | inl has ↦ absurd (let t = there_if_ends has in elim (in_split front (stamps_in_batch b) t.0 (subst (In t.0) parts t.1)) [
        | inl i ↦ (let s = some_stamp b range in
            let is : t.0 ≡ end_stamp l.epoch = (λ i. record { epoch = t.2 i; seq = t.3 i }) in
            no_higher s.0 (subst (In s.0) (sym parts) (in_suffix front (stamps_in_batch b) s.0 s.1))
            (subst (λ u. IsBelow u s.0) is (behind front (stamps_in_batch b) (subst Rises parts stamps_rise) t.0 i s.0 s.1)))
        | inr i ↦ end_only l.epoch b range h t.0 t.2 t.3 i
      ])
      | inr none ↦ none
    ]

    pub last_tells : is_end_mark l.epoch b ≡ (last_seq (batches_of (log_of l w)) l.epoch == END_SEQ)
    last_tells = elim (cases_Bool (is_end_mark l.epoch b)) [
      | inl is ↦ is ∙ sym (ends_if_there (subst (In (end_stamp l.epoch)) (sym parts) (in_suffix front (stamps_in_batch b) (end_stamp l.epoch) (end_there l.epoch b is))))
      | inr other ↦ other ∙ sym (no_end_elsewhere other)
    ]

  -- ---- the stamp of a mark ----

  module _ (ends : (last_seq (batches_of (log_of l w)) l.epoch == END_SEQ) ≡ false) where
    pub unended : Contains stamps (end_stamp l.epoch) → ⊥
    unended c = false≢true (sym ends ∙ ends_if_there (contains_in stamps (end_stamp l.epoch) c))

    other : (t : Stamp) → In t stamps → t ≢ end_stamp l.epoch
    other t i e = unended (in_contains stamps (end_stamp l.epoch) (subst (λ u. In u stamps) e i))

    -- the next one is above all others
    pub below_next : (t : Stamp) → In t stamps → IsBelow t (record { epoch = l.epoch; seq = core.next - l.epoch * 2 ^ 40 })
    below_next t i = above_kept l.epoch w core.next core t (record { epoch = l.epoch; seq = core.next - l.epoch * 2 ^ 40 }) refl
        (let low = next_low in omega (arith, low)) (let low = next_low in omega (arith, low)) made_under (other t i) (stamp_kept t i)

    -- and so is that of the end mark
    pub below_end : (t : Stamp) → In t stamps → IsBelow t (end_stamp l.epoch)
    below_end t i = above_kept l.epoch w (l.epoch * 2 ^ 40 + END_SEQ) core t (end_stamp l.epoch) refl (omega arith) refl
        (under_more core.next (l.epoch * 2 ^ 40 + END_SEQ) (stamps_by w core.made) next_high made_under) (other t i) (stamp_kept t i)
