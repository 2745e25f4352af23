-- A replica over a family applies items of the family's history, no two of one stamp.
use Rattle.std.proofs.Common.{◌≡◌, ◌≢◌, ◌⊎◌, ℕ, ◌+◌, ◌-◌, ◌<◌, ◌≤◌, List, [], ◌∷◌, ◌++◌, length, get_or, replicate, cond, Bool, true, false, ◌&&◌, ◌==◌, nat_lt, nat_le, Option, Some, None, Contains, refl, sym, ap, ◌∙◌, subst, arith, inl, inr, true≢false}
use Rattle.std.specs.Prelude.{slice_index, slice_set}
use Rattle.std.specs.List.{filter, flat_map}
use Rattle.std.specs.Option.{option_map_or}
use Rattle.std.proofs.lemmas.List.{append-nil, length-set, length-replicate, get_or-replicate, get_or-set_same, get_or-set_other}
use Rattle.std.proofs.lemmas.List.Elements.{Contains-get_or, Contains-push_cases}
use Rattle.std.proofs.lemmas.List.Quantifiers.{all_pairs_push}
use Rattle.std.proofs.lemmas.Option.{slice_get_within}
use Rattle.std.proofs.lemmas.Bool.{cases_Bool, and_from}
use Rattle.std.proofs.lemmas.Bool.Decides.{nat_tests, eqb_tells}
use Rattle.rl_base.specs.declared.stamp.Stamp.{Stamp}
use Rattle.rl_base.specs.declared.bound.Bound.{Bound}
use Rattle.rl_base.specs.declared.bound.Bound.TheVariants.{Final, Rising, Beyond}
use Rattle.rl_base.specs.Order.{IsBelow}
use Rattle.rl_value.specs.Rows.{Rows}
use Rattle.rl_txn.specs.declared.item.Item.{Item}
use Rattle.rl_txn.specs.declared.batch.Batch.{Batch}
use Rattle.rl_txn.specs.Serial.{after_writes, rows_after}
use Rattle.rl_families.specs.Order.{in_order}
use Rattle.rl_families.specs.Logs.{items_along}
use Rattle.rl_families.specs.Families.{least_top, all_reached, bound_of, watermark, is_counted, history}
use Rattle.rl_families.specs.Streams.{log_at, IsStreamOf, IsStamped}
use Rattle.rl_base.proofs.Members.{In, contains_in, in_contains, filter_in}
use Rattle.rl_base.proofs.Prefixes.{prefix_in}
use Rattle.rl_families.proofs.Sorting.{in_order_in, in_in_order}
use Rattle.rl_families.proofs.Nesting.{history_nests}
use Rattle.rl_families.proofs.Strict.{not_self, in_order_strict, strict_apart, same_members}
use Rattle.rl_families.proofs.Streams.{logs_in}
use Rattle.rl_families.proofs.StampedLogs.{log_in, rises_in, begun_in, history_strict, distinct_diff, inside_length, inside_log}
use Rattle.rl_replay.specs.Entries.{Entry, item_entry, entries, entry_at}
use Rattle.rl_replay.specs.Replay.{Replaying, next_entry, item_answer, play_answer, newest_writes, after_answer, AreDistinct}
use Rattle.rl_replay.specs.OverFamily.{IsReplicaOf}
use Rattle.rl_replay.specs.Laws.{ReplicasBegin, ReplicasGoOn, IsBoundOf, PlayKeepsReplica, MemoryKeepsReplica, AppliedIdentified, RowsAtWatermark}
use Rattle.rl_replay.specs.declared.played.Played.{Played}
use Rattle.rl_replay.specs.declared.played.Played.TheVariants.{Applied, Passed, Above}
use Rattle.rl_replay.proofs.Answering.{still}
use Rattle.rl_replay.proofs.Replays.{rows_more}
use Rattle.rl_replay.proofs.Numbered.{in_at, log_entry, entries_rise, entry_stays, entries_grow}

-- ---- at the start ----
pub replicas_begin : ReplicasBegin
replicas_begin opening family = record {
  streams = length-replicate (length family) 0;
  within = λ s is. (let z : slice_index (replicate (length family) 0) (s - 1) ≡ 0 = get_or-replicate (length family) (s - 1) 0 0 (omega (arith, is.low, is.high)) in omega arith);
  played = λ x c. absurd (omega (arith, c.1));
  counted = λ x c. absurd (omega (arith, c.1));
  distinct = λ i j d a l. absurd (omega arith);
  rows = λ f. refl;
}

-- ---- what is applied counts ----
applied_final : (s t : Stamp) (n w : ℕ) → item_answer s (Final n) w ≡ Applied t → nat_le s.seq n ≡ true
applied_final s t n w h = elim (cases_Bool (nat_le s.seq n)) [
  | inl c ↦ c
  | inr c ↦ absurd (let k : Passed s ≡ Applied t = ap (λ b. cond b (Applied s) (Passed s)) (sym c) ∙ h in cc)
]

applied_rising : (s t : Stamp) (n w : ℕ) → item_answer s (Rising n) w ≡ Applied t → nat_le s.seq w ≡ true
applied_rising s t n w h = elim (cases_Bool (nat_le s.seq w)) [
  | inl c ↦ c
  | inr c ↦ absurd (let k : Above s w ≡ Applied t = ap (λ b. cond b (Applied s) (Above s w)) (sym c) ∙ h in cc)
]

module _ (family : List (List Batch)) where
  counts_applied : (s t : Stamp) → 0 < s.epoch → item_answer s (bound_of family s.epoch) (watermark family).1 ≡ Applied t → is_counted family s ≡ true
  counts_applied s t born h =
      let top = least_top family in
      let bounded : Bool → Bool → Played = λ a b. item_answer s (cond a (Final (all_reached family s.epoch)) (cond b (Rising (all_reached family s.epoch)) Beyond)) (watermark family).1 in
      elim (cases_Bool (nat_lt s.epoch (least_top family))) [
        | inl a ↦ (let k = applied_final s t (all_reached family s.epoch) (watermark family).1 (ap (λ z. bounded z (s.epoch == least_top family)) (sym a) ∙ h) in
            both (le_of_lt s.epoch (least_top family) a) k)
        | inr a ↦ elim (eqb_tells s.epoch (least_top family)) [
          | inl e ↦ (let k = applied_rising s t (all_reached family s.epoch) (watermark family).1 (ap (bounded false) (sym e.0) ∙ ap (λ z. bounded z (s.epoch == least_top family)) (sym a) ∙ h) in
              both (le_of_eq s.epoch (least_top family) e.1) (subst (λ z. nat_le s.seq z ≡ true) (mark e.1) k))
          | inr e ↦ absurd (let k : Above s (watermark family).1 ≡ Applied t = ap (bounded false) (sym e.0) ∙ ap (λ z. bounded z (s.epoch == least_top family)) (sym a) ∙ h in cc)
        ]
      ]
    where
      le_of_lt : (a b : ℕ) → nat_lt a b ≡ true → nat_le a b ≡ true
      le_of_lt a b h = grind (arith, nat_tests)

      le_of_eq : (a b : ℕ) → a ≡ b → nat_le a b ≡ true
      le_of_eq a b h = grind (arith, nat_tests)

      lt_of : (a b : ℕ) → a < b → nat_lt a b ≡ true
      lt_of a b h = grind (arith, nat_tests)

      both : nat_le s.epoch (least_top family) ≡ true → nat_le s.seq (all_reached family s.epoch) ≡ true → is_counted family s ≡ true
      both a b = and_from (nat_lt 0 s.epoch) (nat_le s.epoch (least_top family) && nat_le s.seq (all_reached family s.epoch)) (lt_of 0 s.epoch born)
          (and_from (nat_le s.epoch (least_top family)) (nat_le s.seq (all_reached family s.epoch)) a b)

      mark : s.epoch ≡ least_top family → (watermark family).1 ≡ all_reached family s.epoch
      mark e = elim (eqb_tells (least_top family) 0) [
        | inl z ↦ absurd (omega (arith, z.1))
        | inr z ↦ ap (λ b. cond b 0 (all_reached family (least_top family))) z.0 ∙ ap (all_reached family) (sym e)
      ]

-- ---- a replica over a family ----
module _ (opening : Rows) (family : List (List Batch)) (r : Replaying) (g : IsStamped family) (h : IsReplicaOf opening family r) where
  -- an item that is next has a stamp that nothing applied has
  fresh_next : (s : ℕ) → IsStreamOf family s → (x : Item) → entry_at (log_at family s) (slice_index r.played (s - 1)) ≡ Some (item_entry x) → (y : Item) → In y r.applied → y.stamp ≢ x.stamp
  fresh_next s is x at y i same =
      let p = h.played y (in_contains r.applied y i) in
      elim (eqb_tells p.stream s) [
        | inl t ↦ (let before : p.number < slice_index r.played (s - 1) = subst (λ z. p.number < slice_index r.played (z - 1)) t.1 p.before in
            let entry : entry_at (log_at family s) p.number ≡ Some (item_entry y) = subst (λ z. entry_at (log_at family z) p.number ≡ Some (item_entry y)) t.1 p.entry in
            no_self y x same (entries_rise (log_at family s) (rises_in family g (log_at family s) (log_in family s is)) p.number (slice_index r.played (s - 1)) (item_entry y) (item_entry x) before entry at))
        | inr t ↦ (let here : Contains (items_along (log_at family s)) x = stands s (slice_index r.played (s - 1)) x at in
            let there : Contains (items_along (log_at family p.stream)) y = stands p.stream p.number y p.entry in
            elim (order p.stream s t.1 p.is_stream.low is.low) [
              | inl l ↦ g.apart (p.stream - 1) (s - 1) [] l (omega (arith, is.low, is.high)) y x there here same
              | inr l ↦ g.apart (s - 1) (p.stream - 1) [] l (omega (arith, p.is_stream.low, p.is_stream.high)) x y here there (sym same)
            ])
      ]
    where
      no_self : (a b : Item) → a.stamp ≡ b.stamp → IsBelow a.stamp b.stamp → ⊥
      no_self a b e l = not_self b (subst (λ z. IsBelow z b.stamp) e l)

      order : (a b : ℕ) → a ≢ b → 1 ≤ a → 1 ≤ b → (a - 1 < b - 1) ⊎ (b - 1 < a - 1)
      order a b n p q = grind arith

      stands : (t n : ℕ) (z : Item) → entry_at (log_at family t) n ≡ Some (item_entry z) → Contains (items_along (log_at family t)) z
      stands t n z e = in_contains (items_along (log_at family t)) z (log_entry (log_at family t) (item_entry z) (in_at (entries (log_at family t)) n (item_entry z) e) z refl).1

  module _ (s : ℕ) (is : IsStreamOf family s) where
    abbrev gone_on : List Item → Rows → Replaying
    gone_on a m = record { applied = a; played = slice_set r.played (s - 1) (slice_index r.played (s - 1) + 1); rows = m; failed = r.failed }

    here_index : s - 1 < length r.played
    here_index = omega (arith, is.low, is.high, h.streams)

    played_here : slice_index (slice_set r.played (s - 1) (slice_index r.played (s - 1) + 1)) (s - 1) ≡ slice_index r.played (s - 1) + 1
    played_here = get_or-set_same r.played (s - 1) (slice_index r.played (s - 1) + 1) 0 here_index

    played_at : (t : ℕ) → 1 ≤ t → (t ≡ s) ⊎ (slice_index (slice_set r.played (s - 1) (slice_index r.played (s - 1) + 1)) (t - 1) ≡ slice_index r.played (t - 1))
    played_at t low = elim (eqb_tells t s) [
      | inl e ↦ inl e.1
      | inr e ↦ inr (get_or-set_other r.played (s - 1) (t - 1) (slice_index r.played (s - 1) + 1) 0 (other t s e.1 low is.low))
    ]
      where
        other : (a b : ℕ) → a ≢ b → 1 ≤ a → 1 ≤ b → a - 1 ≢ b - 1
        other a b n p q e = n (omega arith)

    -- one entry further on a stream, with what is applied then
    goes_on : (a : List Item) (m : Rows) → slice_index r.played (s - 1) < length (entries (log_at family s))
        → ((x : Item) → Contains a x → Contains r.applied x ⊎ (entry_at (log_at family s) (slice_index r.played (s - 1)) ≡ Some (item_entry x)))
        → ((x : Item) → Contains a x → Contains (history family) x) → AreDistinct a → (r.failed ≡ false → m ≡ rows_after opening (in_order a)) → IsReplicaOf opening family (gone_on a m)
    goes_on a m more from counted distinct rows = record {
      streams = length-set r.played (s - 1) (slice_index r.played (s - 1) + 1) ∙ h.streams;
      within = λ t it. elim (played_at t it.low) [
        | inl e ↦ subst (λ z. slice_index (slice_set r.played (s - 1) (slice_index r.played (s - 1) + 1)) (z - 1) ≤ length (entries (log_at family z))) (sym e) (omega (arith, played_here))
        | inr e ↦ (let k = h.within t it in omega arith)
      ];
      played = λ x c. elim (from x c) [
        | inl o ↦ (let p = h.played x o in record {
          stream = p.stream;
          is_stream = p.is_stream;
          number = p.number;
          before = elim (played_at p.stream p.is_stream.low) [
            | inl e ↦ subst (λ z. p.number < slice_index (slice_set r.played (s - 1) (slice_index r.played (s - 1) + 1)) (z - 1)) (sym e)
                (let b : p.number < slice_index r.played (s - 1) = subst (λ z. p.number < slice_index r.played (z - 1)) e p.before in omega (arith, played_here))
            | inr e ↦ (let b = p.before in omega arith)
          ];
          entry = p.entry;
        })
        | inr n ↦ record { stream = s; is_stream = is; number = slice_index r.played (s - 1); before = omega (arith, played_here); entry = n }
      ];
      counted = counted;
      distinct = distinct;
      rows = rows;
    }

    passes : (next : Option Entry) (t : Stamp) → slice_index r.played (s - 1) < length (entries (log_at family s)) → IsReplicaOf opening family (after_answer r s next (Passed t))
    passes next t more = subst (λ z. IsReplicaOf opening family (gone_on z r.rows)) (sym (append-nil r.applied))
        (goes_on r.applied r.rows more (λ x c. inl c) h.counted h.distinct h.rows)

    applies : (x : Item) (t : Stamp) → entry_at (log_at family s) (slice_index r.played (s - 1)) ≡ Some (item_entry x) → is_counted family x.stamp ≡ true
        → IsReplicaOf opening family (after_answer r s (Some (item_entry x)) (Applied t))
    applies x t at counts =
        let distinct : AreDistinct (r.applied ++ x ∷ []) = all_pairs_push (λ (a b : Item). a.stamp ≢ b.stamp) r.applied x h.distinct
        (λ k d l. fresh_next s is x at (get_or r.applied k d) (contains_in r.applied (get_or r.applied k d) (Contains-get_or r.applied k d l))) in
        let stands = log_entry (log_at family s) (item_entry x) (in_at (entries (log_at family s)) (slice_index r.played (s - 1)) (item_entry x) at) x refl in
        let new : Contains (history family) x = in_contains (history family) x (in_order_in x (filter (λ (z : Item). is_counted family z.stamp) (flat_map items_along family))
        (filter_in (λ (z : Item). is_counted family z.stamp) x (flat_map items_along family) (logs_in x family (log_at family s) (log_in family s is) stands.1) counts)) in
        goes_on (r.applied ++ x ∷ []) (after_writes r.rows (newest_writes r.applied x)) (slice_get_within (entries (log_at family s)) (slice_index r.played (s - 1)) (item_entry x) at)
        (λ y c. elim (Contains-push_cases r.applied x y c) [ inl o ↦ inl o | inr e ↦ inr (subst (λ z. entry_at (log_at family s) (slice_index r.played (s - 1)) ≡ Some (item_entry z)) e at) ])
        (λ y c. elim (Contains-push_cases r.applied x y c) [ inl o ↦ h.counted y o | inr e ↦ subst (Contains (history family)) e new ])
        distinct (λ f. rows_more opening r.rows r.applied x distinct (λ _. h.rows f))

    -- the answers to the next entry
    by_answer : (x : Item) → entry_at (log_at family s) (slice_index r.played (s - 1)) ≡ Some (item_entry x) → (p : Played) → item_answer x.stamp (bound_of family x.stamp.epoch) (watermark family).1 ≡ p
        → IsReplicaOf opening family (after_answer r s (Some (item_entry x)) p)
    by_answer x at (Applied t) e =
        let stands = log_entry (log_at family s) (item_entry x) (in_at (entries (log_at family s)) (slice_index r.played (s - 1)) (item_entry x) at) x refl in
        applies x t at (counts_applied family x.stamp t (begun_in family g (log_at family s) (log_in family s is) x stands.1) e)
    by_answer x at (Passed t) e = passes (Some (item_entry x)) t (slice_get_within (entries (log_at family s)) (slice_index r.played (s - 1)) (item_entry x) at)
    by_answer x at _ e = subst (IsReplicaOf opening family) (still r s) h

    by_item : (e : Entry) → entry_at (log_at family s) (slice_index r.played (s - 1)) ≡ Some e → (o : Option Item) → e.item ≡ o
        → IsReplicaOf opening family (after_answer r s (Some e) (option_map_or (λ x. item_answer e.stamp (bound_of family e.stamp.epoch) (watermark family).1) o (Passed e.stamp)))
    by_item e at None is_mark = passes (Some e) e.stamp (slice_get_within (entries (log_at family s)) (slice_index r.played (s - 1)) e at)
    by_item e at (Some x) is_item =
        let k = log_entry (log_at family s) e (in_at (entries (log_at family s)) (slice_index r.played (s - 1)) e at) x is_item in
        subst (λ (z : Entry). IsReplicaOf opening family (after_answer r s (Some z) (item_answer z.stamp (bound_of family z.stamp.epoch) (watermark family).1))) (sym k.0)
        (by_answer x (at ∙ ap (λ (z : Entry). Some z) k.0) (item_answer x.stamp (bound_of family x.stamp.epoch) (watermark family).1) refl)

    pub plays : (next : Option Entry) → next_entry r s (log_at family s) ≡ next → (bound : Bound) → IsBoundOf family next bound
        → IsReplicaOf opening family (after_answer r s next (play_answer next bound (watermark family).1))
    plays None e bound b = subst (IsReplicaOf opening family) (still r s) h
    plays (Some n) e bound b = subst (λ z. IsReplicaOf opening family (after_answer r s (Some n) (play_answer (Some n) z (watermark family).1))) (sym b) (by_item n e n.item refl)

pub play_keeps : PlayKeepsReplica
play_keeps opening family r g h s is bound b = plays opening family r g h s is (next_entry r s (log_at family s)) refl bound b

-- ---- as the family grows, and after `Memory` ----
pub replicas_go_on : ReplicasGoOn
replicas_go_on opening family r g h larger inside more =
    let same = inside_length family larger inside in
    let back : (s : ℕ) → IsStreamOf larger s → IsStreamOf family s = λ s is. record { low = is.low; high = omega (arith, is.high) } in
    record {
      streams = h.streams ∙ same;
      within = λ s is. (let k = h.within s (back s is) in let m = entries_grow (log_at family s) (log_at larger s) (inside_log family larger inside (s - 1)) in omega arith);
      played = λ x c. (let p = h.played x c in record {
        stream = p.stream;
        is_stream = record { low = p.is_stream.low; high = omega (arith, p.is_stream.high) };
        number = p.number;
        before = p.before;
        entry = entry_stays (log_at family p.stream) (log_at larger p.stream) (inside_log family larger inside (p.stream - 1)) p.number (item_entry x) p.entry;
      });
      counted = λ x c. in_contains (history larger) x (prefix_in x (history family) (history larger) (history_nests family larger inside more.rising) (contains_in (history family) x (h.counted x c)));
      distinct = h.distinct;
      rows = h.rows;
    }

pub memory_keeps : MemoryKeepsReplica
memory_keeps opening family r g h p next failed f =
    let was : (x : Item) → Contains failed.applied x → Contains r.applied x = λ x c. subst (λ z. Contains z x) f.applied c in
    record {
      streams = ap length f.played ∙ h.streams;
      within = λ s is. subst (λ z. slice_index z (s - 1) ≤ length (entries (log_at family s))) (sym f.played) (h.within s is);
      played = λ x c. (let q = h.played x (was x c) in record {
        stream = q.stream;
        is_stream = q.is_stream;
        number = q.number;
        before = subst (λ z. q.number < slice_index z (q.stream - 1)) (sym f.played) q.before;
        entry = q.entry;
      });
      counted = λ x c. h.counted x (was x c);
      distinct = subst AreDistinct (sym f.applied) h.distinct;
      rows = λ e. absurd (true≢false (sym f.failed ∙ e));
    }

-- ---- the history ----
pub applied_identified : AppliedIdentified
applied_identified opening family r g h x y i j same =
    elim (strict_apart (history family) (history_strict family g) x y (contains_in (history family) x (h.counted x i)) (contains_in (history family) y j)) [
      | inl e ↦ e
      | inr a ↦ absurd (elim a [ inl l ↦ not_self y (subst (λ z. IsBelow z y.stamp) same l) | inr l ↦ not_self y (subst (λ z. IsBelow y.stamp z) same l) ])
    ]

pub rows_at_watermark : RowsAtWatermark
rows_at_watermark opening family r g h working all =
    let same : in_order r.applied ≡ history family = same_members (in_order r.applied) (history family) (in_order_strict r.applied (distinct_diff r.applied h.distinct)) (history_strict family g)
    (λ x i. contains_in (history family) x (h.counted x (in_contains r.applied x (in_in_order x r.applied i))))
    (λ x i. in_order_in x r.applied (contains_in r.applied x (all.0 x (in_contains (history family) x i)))) in
    h.rows working ∙ ap (rows_after opening) same
