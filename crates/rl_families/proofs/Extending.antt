-- A history of prefixes of leaders' logs is an opening list, and then what its epoch decided first.
use Rattle.std.proofs.Common.{◌≡◌, ◌⊎◌, ℕ, zero, suc, ◌<◌, ◌≤◌, List, [], ◌∷◌, ◌++◌, map, Bool, true, nat_le, refl, sym, ap, ◌∙◌, subst, arith, inl, inr}
use Rattle.std.specs.List.{filter, flat_map}
use Rattle.std.proofs.lemmas.List.{append-nil, append_assoc}
use Rattle.std.proofs.lemmas.Bool.Decides.{nat_tests, eqb_tells}
use Rattle.rl_base.specs.declared.stamp.Stamp.{Stamp}
use Rattle.rl_txn.specs.declared.item.Item.{Item}
use Rattle.rl_txn.specs.declared.batch.Batch.{Batch}
use Rattle.rl_base.specs.Lists.{IsPrefix}
use Rattle.rl_base.specs.Order.{IsBelow}
use Rattle.rl_families.specs.Logs.{stamps_along, items_along, top_epoch, last_seq}
use Rattle.rl_families.specs.Families.{all_reached, is_counted, history}
use Rattle.rl_families.specs.Leaders.{logs_of_streams, Leaders, open_mark, initial_log, leader_log, opening_list, own_stamps, AreLeaders, ArePrefixesOfLeaders, ExtendsOpening}
use Rattle.rl_base.proofs.Members.{In, contains_in, in_contains, in_map, in_prefix, in_suffix, in_split, in_filter, filter_in}
use Rattle.rl_base.proofs.Prefixes.{prefix_trans, prefix_in}
use Rattle.rl_families.proofs.Logs.{stamps_along-append, items_along-append, item_stamp, past_it, stamps_pre, items_pre, split_stamps, split_items, back_stamps}
use Rattle.rl_families.proofs.Rising.{Rises, rises_from, above_in, rises_append, rises_front, rises_pre, behind, top_among, top_in, top_above}
use Rattle.rl_families.proofs.Nesting.{least_le, last_settled}
use Rattle.rl_families.proofs.Strict.{Apart, Strict, Diff, in_order_strict, filter_diff, append_diff, log_diff, map_strict, strict_apart, strict_filter, strict_append, same_members}
use Rattle.rl_families.proofs.Streams.{in_streams, streams_in, in_logs, in_history, history_in, nests, has_last, last_other, greatest_common, tops_bound}

pub above_zero : (b : ℕ) → 0 < suc b
above_zero b = omega arith

module _ (l : Leaders) (n : ℕ) (g : AreLeaders l n) where
  pub log_is : (e s : ℕ) → 0 < e → leader_log l e s ≡ l.recovered e s ++ (open_mark e ∷ l.proposed e s)
  log_is zero s h = absurd (omega arith)
  log_is (suc e) s h = refl

  own_rises : (e s : ℕ) → Rises (own_stamps l e s)
  own_rises e s = rises_from (own_stamps l e s) (g.rising e s)

  pub own_epoch : (e s : ℕ) (t : Stamp) → In t (own_stamps l e s) → t.epoch ≡ e
  own_epoch e s t i = g.own e s t (in_contains (own_stamps l e s) t i)

  own_seq : (e s : ℕ) (t : Stamp) → In t (own_stamps l e s) → 0 < t.seq
  own_seq e s t i = elim i [
    | inl q ↦ (let k : t.seq ≡ 1 = ap (λ (z : Stamp). z.seq) q in omega arith)
    | inr j ↦ elim (above_in (record { epoch = e; seq = 1 }) (stamps_along (l.proposed e s) ++ map (λ (x : Item). x.stamp) (l.pending e s)) t (own_rises e s).0 j) [
      | inl a ↦ absurd (omega (arith, own_epoch e s t (inr j)))
      | inr a ↦ omega (arith, a.1)
    ]
  ]

  pub told_own : (e s : ℕ) (t : Stamp) → In t (stamps_along (open_mark e ∷ l.proposed e s)) → In t (own_stamps l e s)
  told_own e s t i = in_prefix (stamps_along (open_mark e ∷ l.proposed e s)) (map (λ (x : Item). x.stamp) (l.pending e s)) t i

  pub record StampOk (b : ℕ) (t : Stamp) : Type 0 where
    pub born : 0 < t.epoch
    pub low : t.epoch ≤ b
    pub seq : 0 < t.seq

  stamp_ok : (bound b s : ℕ) → b < bound → (t : Stamp) → In t (stamps_along (leader_log l b s)) → StampOk b t
  stamp_ok zero b s h t i = absurd (omega arith)
  stamp_ok (suc bound) zero s h t i = absurd i
  stamp_ok (suc bound) (suc b) s h t i = elim (split_stamps t (l.recovered (suc b) s) (open_mark (suc b) ∷ l.proposed (suc b) s) i) [
    | inl j ↦ (let from = g.recovers (suc b) s (above_zero b) in
        let o = stamp_ok bound from.0 s (omega (arith, from.1)) t (stamps_pre t (l.recovered (suc b) s) (leader_log l from.0 s) from.2 j) in
        record { born = o.born; low = omega (arith, o.low, from.1); seq = o.seq })
    | inr j ↦ (let k = told_own (suc b) s t j in let e = own_epoch (suc b) s t k in record { born = omega arith; low = omega arith; seq = own_seq (suc b) s t k })
  ]

  pub recovered_ok : (e s : ℕ) → 0 < e → (t : Stamp) → In t (stamps_along (l.recovered e s)) → (0 < t.epoch) × (t.epoch < e) × (0 < t.seq)
  recovered_ok e s h t i =
      let from = g.recovers e s h in
      let o = stamp_ok (suc from.0) from.0 s (omega arith) t (stamps_pre t (l.recovered e s) (leader_log l from.0 s) from.2 i) in
      (o.born, omega (arith, o.low, from.1), o.seq)

  whole_from : (e s : ℕ) (h : 0 < e) → Rises (stamps_along (leader_log l (g.recovers e s h).0 s)) → Rises (stamps_along (l.recovered e s) ++ own_stamps l e s)
  whole_from e s h r = rises_append (stamps_along (l.recovered e s)) (own_stamps l e s) (rises_pre (l.recovered e s) (leader_log l (g.recovers e s h).0 s) (g.recovers e s h).2 r) (own_rises e s)
      (λ t u i j. inl (omega (arith, (recovered_ok e s h t i).1, own_epoch e s u j)))

  -- the stamps_along of a leader's log, and those that are still to be proposed
  whole_is : (e s : ℕ) → 0 < e → stamps_along (leader_log l e s) ++ map (λ (x : Item). x.stamp) (l.pending e s) ≡ stamps_along (l.recovered e s) ++ own_stamps l e s
  whole_is e s h = ap (λ z. z ++ map (λ (x : Item). x.stamp) (l.pending e s)) (ap stamps_along (log_is e s h) ∙ stamps_along-append (l.recovered e s) (open_mark e ∷ l.proposed e s))
      ∙ append_assoc (stamps_along (l.recovered e s)) (stamps_along (open_mark e ∷ l.proposed e s)) (map (λ (x : Item). x.stamp) (l.pending e s))

  log_rises : (bound b s : ℕ) → b < bound → Rises (stamps_along (leader_log l b s))
  log_rises zero b s h = absurd (omega arith)
  log_rises (suc bound) zero s h = tt
  log_rises (suc bound) (suc b) s h =
      rises_front (stamps_along (leader_log l (suc b) s)) (map (λ (x : Item). x.stamp) (l.pending (suc b) s))
      (let from = g.recovers (suc b) s (above_zero b) in
      subst Rises (sym (whole_is (suc b) s (above_zero b))) (whole_from (suc b) s (above_zero b) (log_rises bound from.0 s (omega (arith, from.1)))))

  rises_at : (b s : ℕ) → Rises (stamps_along (leader_log l b s))
  rises_at b s = log_rises (suc b) b s (omega arith)

  whole_rises : (e s : ℕ) → 0 < e → Rises (stamps_along (leader_log l e s) ++ map (λ (x : Item). x.stamp) (l.pending e s))
  whole_rises e s h = subst Rises (sym (whole_is e s h)) (whole_from e s h (rises_at (g.recovers e s h).0 s))

  -- each item of a leader's log is decided in its epoch, by the worker of the stream
  item_ok : (bound b s : ℕ) → b < bound → (x : Item) → In x (items_along (leader_log l b s)) → In x (l.decided x.stamp.epoch) × (x.worker ≡ s)
  item_ok zero b s h x i = absurd (omega arith)
  item_ok (suc bound) zero s h x i = absurd i
  item_ok (suc bound) (suc b) s h x i = elim (split_items x (l.recovered (suc b) s) (open_mark (suc b) ∷ l.proposed (suc b) s) i) [
    | inl j ↦ (let from = g.recovers (suc b) s (above_zero b) in item_ok bound from.0 s (omega (arith, from.1)) x (items_pre x (l.recovered (suc b) s) (leader_log l from.0 s) from.2 j))
    | inr j ↦ (let k = g.proposes (suc b) s x (in_contains (items_along (l.proposed (suc b) s)) x j) in
        let e = own_epoch (suc b) s x.stamp (told_own (suc b) s x.stamp (inr (item_stamp (l.proposed (suc b) s) x j))) in
        (subst (λ z. In x (l.decided z)) (sym e) (contains_in (l.decided (suc b)) x k.0), k.1))
  ]

  pub decided_strict : (e : ℕ) → Strict (l.decided e)
  decided_strict e = map_strict (l.decided e) (rises_from (map (λ (x : Item). x.stamp) (l.decided e)) (g.serial e))

  -- ---- a family of prefixes of leaders' logs ----
  module _ (f : ℕ → List Batch) (told : ArePrefixesOfLeaders l n f) where
    pub f_rises : (s : ℕ) → 1 ≤ s → s ≤ n → Rises (stamps_along (f s))
    f_rises s p q = let k = told s p q in rises_pre (f s) (leader_log l k.0 s) k.1 (rises_at k.0 s)

    pub f_stamp : (s : ℕ) (p : 1 ≤ s) (q : s ≤ n) (t : Stamp) → In t (stamps_along (f s)) → StampOk (told s p q).0 t
    f_stamp s p q t i = let k = told s p q in stamp_ok (suc k.0) k.0 s (omega arith) t (stamps_pre t (f s) (leader_log l k.0 s) k.1 i)

    pub f_item : (s : ℕ) → 1 ≤ s → s ≤ n → (x : Item) → In x (items_along (f s)) → In x (l.decided x.stamp.epoch) × (x.worker ≡ s)
    f_item s p q x i = let k = told s p q in item_ok (suc k.0) k.0 s (omega arith) x (items_pre x (f s) (leader_log l k.0 s) k.1 i)

    f_diff : (m : ℕ) → m ≤ n → Diff (flat_map items_along (logs_of_streams m f))
    f_diff zero h = tt
    f_diff (suc m) h = subst Diff (sym (flat_push (logs_of_streams m f) (f (suc m))))
        (append_diff (flat_map items_along (logs_of_streams m f)) (items_along (f (suc m))) (f_diff m (omega arith)) (log_diff (f (suc m)) (f_rises (suc m) (omega arith) h)) (λ x y i j.
        let a = in_logs x (logs_of_streams m f) i in
        let s = in_streams m f a.0 a.1 in
        let ox = f_item s.0 s.1 (omega (arith, s.2)) x (subst (λ z. In x (items_along z)) s.3 a.2) in
        let oy = f_item (suc m) (omega arith) h y j in
        across x y ox.0 oy.0 (λ e. omega (arith, ox.1, oy.1, ap (λ (z : Item). z.worker) e, s.2))))
      where
        flat_push : (ls : List (List Batch)) (b : List Batch) → flat_map items_along (ls ++ b ∷ []) ≡ flat_map items_along ls ++ items_along b
        flat_push [] b = append-nil (items_along b)
        flat_push (c ∷ cs) b = ap (λ z. items_along c ++ z) (flat_push cs b) ∙ sym (append_assoc (items_along c) (flat_map items_along cs) (items_along b))

        three : (p q : ℕ) → (p < q) ⊎ ((p ≡ q) ⊎ (q < p))
        three p q = grind arith

        across : (x y : Item) → In x (l.decided x.stamp.epoch) → In y (l.decided y.stamp.epoch) → (x ≡ y → ⊥) → Apart x y
        across x y i j no_same = elim (three x.stamp.epoch y.stamp.epoch) [
          | inl a ↦ inl (inl a)
          | inr c ↦ elim c [
            | inl e ↦ elim (strict_apart (l.decided x.stamp.epoch) (decided_strict x.stamp.epoch) x y i (subst (λ z. In y (l.decided z)) (sym e) j)) [ inl q ↦ absurd (no_same q) | inr a ↦ a ]
            | inr a ↦ inr (inl a)
          ]
        ]

    pub hist_strict : Strict (history (logs_of_streams n f))
    hist_strict = in_order_strict (filter (λ (y : Item). is_counted (logs_of_streams n f) y.stamp) (flat_map items_along (logs_of_streams n f)))
        (filter_diff (λ (y : Item). is_counted (logs_of_streams n f) y.stamp) (flat_map items_along (logs_of_streams n f)) (f_diff n (omega arith)))

    lacks : (d s : ℕ) → 1 ≤ s → s ≤ n → last_seq (f s) d ≡ 0 → (x : Item) → In x (history (logs_of_streams n f)) → x.stamp.epoch ≡ d → ⊥
    lacks d s p q z x i e =
        let m = in_history n f x i in
        let lo : x.stamp.seq ≤ last_seq (f s) d = subst (λ k. x.stamp.seq ≤ last_seq (f s) k) e (m.within s p q).1 in
        let pos = (f_stamp m.stream m.low m.high x.stamp (item_stamp (f m.stream) x m.has)).seq in
        omega arith

  -- ---- what an epoch has in a log: its leader's log up to some length, and then only later epochs ----
  record Part (e s : ℕ) (log : List Batch) : Type 0 where
    pub upto : List Batch
    pub later : List Batch
    pub joins : upto ++ later ≡ log
    pub begins : IsPrefix (initial_log l e s) upto
    pub inside : IsPrefix upto (leader_log l e s)
    pub after : (t : Stamp) → In t (stamps_along later) → e < t.epoch

  part : (bound b s e : ℕ) → b < bound → (log : List Batch) → IsPrefix log (leader_log l b s) → (t : Stamp) → In t (stamps_along log) → t.epoch ≡ e → Part e s log
  part zero b s e h log p t i q = absurd (omega arith)
  part (suc bound) zero s e h log p t i q = absurd (stamps_pre t log [] p i)
  part (suc bound) (suc b) s e h log p t i q =
      let rec = l.recovered (suc b) s in
      let from = g.recovers (suc b) s (above_zero b) in
      elim (past_it log rec (open_mark (suc b) ∷ l.proposed (suc b) s) p.0 p.1) [
        | inl c ↦ part bound from.0 s e (omega (arith, from.1)) log (prefix_trans log rec (leader_log l from.0 s) c from.2) t i q
        | inr c ↦ (let own : (u : Stamp) → In u (stamps_along (c.0 ∷ c.1)) → u.epoch ≡ suc b = λ u j. own_epoch (suc b) s u (told_own (suc b) s u (stamps_pre u (c.0 ∷ c.1) (open_mark (suc b) ∷ l.proposed (suc b) s) (p.0, c.3) j)) in
            elim (eqb_tells e (suc b)) [
              | inl same ↦ subst (λ z. Part z s log) (sym same.1) (record {
                upto = log;
                later = [];
                joins = append-nil log;
                begins = (let is : c.0 ≡ open_mark (suc b) = (let k = c.3 in cc) in (c.1, append_assoc rec (open_mark (suc b) ∷ []) c.1 ∙ ap (λ z. rec ++ z ∷ c.1) (sym is) ∙ c.2));
                inside = p;
                after = λ u j. absurd j;
              })
              | inr other ↦ elim (split_stamps t rec (c.0 ∷ c.1) (subst (λ z. In t (stamps_along z)) (sym c.2) i)) [
                | inl j ↦ (let d = part bound from.0 s e (omega (arith, from.1)) rec from.2 t j q in
                    let low = (recovered_ok (suc b) s (omega arith) t j).1 in
                    record {
                      upto = d.upto;
                      later = d.later ++ c.0 ∷ c.1;
                      joins = sym (append_assoc d.upto d.later (c.0 ∷ c.1)) ∙ ap (λ z. z ++ c.0 ∷ c.1) d.joins ∙ c.2;
                      begins = d.begins;
                      inside = d.inside;
                      after = λ u m. elim (split_stamps u d.later (c.0 ∷ c.1) m) [
                        | inl v ↦ d.after u v
                        | inr v ↦ (let k = own u v in omega arith)
                      ];
                    })
                | inr j ↦ absurd (other.1 (sym q ∙ own t j))
              ]
            ])
      ]

  first_in : (e s : ℕ) → 0 < e → IsPrefix (initial_log l e s) (leader_log l e s)
  first_in e s h = (l.proposed e s, append_assoc (l.recovered e s) (open_mark e ∷ []) (l.proposed e s) ∙ sym (log_is e s h))

  mark_in : (e s : ℕ) → In (record { epoch = e; seq = 1 }) (stamps_along (initial_log l e s))
  mark_in e s = back_stamps (record { epoch = e; seq = 1 }) (l.recovered e s) (open_mark e ∷ []) (inl refl)

  -- an item of an opening list was recovered
  opening_item : (e s : ℕ) → 0 < e → (x : Item) → In x (items_along (initial_log l e s)) → In x (items_along (l.recovered e s)) × (x.stamp.epoch < e)
  opening_item e s h x i = elim (split_items x (l.recovered e s) (open_mark e ∷ []) i) [
    | inl j ↦ (j, (recovered_ok e s h x.stamp (item_stamp (l.recovered e s) x j)).1)
    | inr j ↦ absurd j
  ]

  pub decided_epoch : (e : ℕ) (x : Item) → In x (l.decided e) → x.stamp.epoch ≡ e
  decided_epoch e x i =
      let d = g.decides e x (in_contains (l.decided e) x i) in
      own_epoch e x.worker x.stamp (elim (in_split (items_along (l.proposed e x.worker)) (l.pending e x.worker) x (contains_in (items_along (l.proposed e x.worker) ++ l.pending e x.worker) x d.2)) [
        | inl j ↦ told_own e x.worker x.stamp (inr (item_stamp (l.proposed e x.worker) x j))
        | inr j ↦ in_suffix (stamps_along (open_mark e ∷ l.proposed e x.worker)) (map (λ (y : Item). y.stamp) (l.pending e x.worker)) x.stamp (in_map (λ (y : Item). y.stamp) x (l.pending e x.worker) j)
      ])

  opens_same : (e : ℕ) → 0 < e → opening_list l n e ≡ history (logs_of_streams n (l.recovered e))
  opens_same e h =
      let first_told : ArePrefixesOfLeaders l n (initial_log l e) = λ s p q. (e, first_in e s h) in
      let rec_told : ArePrefixesOfLeaders l n (l.recovered e) = λ s p q. ((g.recovers e s h).0, (g.recovers e s h).2) in
      same_members (opening_list l n e) (history (logs_of_streams n (l.recovered e))) (hist_strict (initial_log l e) first_told) (hist_strict (l.recovered e) rec_told)
      (λ x i. let m = in_history n (initial_log l e) x i in
      let o = opening_item e m.stream h x m.has in
      let pos = (f_stamp (initial_log l e) first_told m.stream m.low m.high x.stamp (item_stamp (initial_log l e m.stream) x m.has)).seq in
      history_in n (l.recovered e) x m.stream m.low m.high o.0 m.born (λ r p q.
      let lo : x.stamp.seq ≤ last_seq (l.recovered e r) x.stamp.epoch = subst (λ z. x.stamp.seq ≤ z) (last_other (l.recovered e r) (open_mark e) (record { epoch = e; seq = 1 }) x.stamp.epoch refl (λ k. absurd (omega (arith, o.1)))) (m.within r p q).1 in
      let y = has_last (l.recovered e r) x.stamp.epoch (omega arith) in
      (omega (arith, top_above (stamps_along (l.recovered e r)) (f_rises (l.recovered e) rec_told r p q) y.0 y.1, y.2), lo)))
      (λ x i. prefix_in x (history (logs_of_streams n (l.recovered e))) (opening_list l n e) (nests n (l.recovered e) (initial_log l e) (λ s p q. (open_mark e ∷ [], refl)) (f_rises (initial_log l e) first_told)) i)

  module _ (f : ℕ → List Batch) (told : ArePrefixesOfLeaders l n f) (e : ℕ) (born : 0 < e) (all : (s : ℕ) → 1 ≤ s → s ≤ n → 0 < last_seq (f s) e)
      (none : (x : Item) → In x (history (logs_of_streams n f)) → e < x.stamp.epoch → ⊥) where
    part_at : (s : ℕ) → 1 ≤ s → s ≤ n → Part e s (f s)
    part_at s p q = let y = has_last (f s) e (all s p q) in let k = told s p q in part (suc k.0) k.0 s e (omega arith) (f s) k.1 y.0 y.1 y.2

    starts : (s : ℕ) → 1 ≤ s → s ≤ n → IsPrefix (initial_log l e s) (f s)
    starts s p q = let k = part_at s p q in prefix_trans (initial_log l e s) k.upto (f s) k.begins (k.later, k.joins)

    opens_in : IsPrefix (opening_list l n e) (history (logs_of_streams n f))
    opens_in = nests n (initial_log l e) f starts (f_rises f told)

    first_told : ArePrefixesOfLeaders l n (initial_log l e)
    first_told s p q = (e, first_in e s born)

    top_first : (s : ℕ) → 1 ≤ s → s ≤ n → e ≤ top_epoch (initial_log l e s)
    top_first s p q = top_above (stamps_along (initial_log l e s)) (f_rises (initial_log l e) first_told s p q) (record { epoch = e; seq = 1 }) (mark_in e s)

    older : (x : Item) → In x (history (logs_of_streams n f)) → x.stamp.epoch < e → In x (opening_list l n e)
    older x i less =
        let m = in_history n f x i in
        let s = m.stream in
        let st = starts s m.low m.high in
        let r : Rises (stamps_along (initial_log l e s) ++ stamps_along st.0) = subst Rises (sym (sym (stamps_along-append (initial_log l e s) st.0) ∙ ap stamps_along st.1)) (f_rises f told s m.low m.high) in
        let here : In x (items_along (initial_log l e s)) = elim (split_items x (initial_log l e s) st.0 (subst (λ z. In x (items_along z)) (sym st.1) m.has)) [
          | inl j ↦ j
          | inr j ↦ absurd (elim (behind (stamps_along (initial_log l e s)) (stamps_along st.0) r (record { epoch = e; seq = 1 }) (mark_in e s) x.stamp (item_stamp st.0 x j)) [ inl a ↦ omega arith | inr a ↦ omega (arith, a.0) ])
        ] in
        history_in n (initial_log l e) x s m.low m.high here m.born (λ k p q.
        let t = top_first k p q in
        let old = last_settled (initial_log l e k) (f k) (starts k p q) (f_rises f told k p q) x.stamp.epoch (omega arith) in
        (omega arith, omega (arith, (m.within k p q).1)))

    here_decided : (x : Item) → In x (history (logs_of_streams n f)) → x.stamp.epoch ≡ e → In x (l.decided e) × (x.stamp.seq ≤ all_reached (logs_of_streams n f) e)
    here_decided x i q =
        let m = in_history n f x i in
        (subst (λ z. In x (l.decided z)) q (f_item f told m.stream m.low m.high x m.has).0, subst (λ z. x.stamp.seq ≤ all_reached (logs_of_streams n f) z) q m.far)

    arrived : (x : Item) → In x (l.decided e) → x.stamp.seq ≤ all_reached (logs_of_streams n f) e → In x (history (logs_of_streams n f))
    arrived x i low =
        let d = g.decides e x (in_contains (l.decided e) x i) in
        let s = x.worker in
        let ep = decided_epoch e x i in
        let far : (r : ℕ) → 1 ≤ r → r ≤ n → x.stamp.seq ≤ last_seq (f r) e = λ r p q. (let k = least_le (last_seq (f r) e) (map (λ log. last_seq log e) (logs_of_streams n f)) (in_map (λ log. last_seq log e) (f r) (logs_of_streams n f) (streams_in n f r p q)) in omega arith) in
        let k = part_at s d.0 d.1 in
        let y = has_last (f s) e (all s d.0 d.1) in
        let yu : In y.0 (stamps_along k.upto) = elim (split_stamps y.0 k.upto k.later (subst (λ z. In y.0 (stamps_along z)) (sym k.joins) y.1)) [ inl j ↦ j | inr j ↦ absurd (let a = k.after y.0 j in omega (arith, y.2)) ] in
        let high : IsBelow y.0 x.stamp → ⊥ = λ b. elim b [ inl a ↦ omega (arith, y.2) | inr a ↦ omega (arith, a.1, y.3, far s d.0 d.1) ] in
        let there : In x (items_along k.upto) = elim (in_split (items_along (l.proposed e s)) (l.pending e s) x (contains_in (items_along (l.proposed e s) ++ l.pending e s) x d.2)) [
          | inl j ↦ (let xl : In x (items_along (leader_log l e s)) = subst (λ z. In x (items_along z)) (sym (log_is e s born)) (subst (λ z. In x z) (sym (items_along-append (l.recovered e s) (open_mark e ∷ l.proposed e s))) (in_suffix (items_along (l.recovered e s)) (items_along (open_mark e ∷ l.proposed e s)) x j)) in
              elim (split_items x k.upto k.inside.0 (subst (λ z. In x (items_along z)) (sym k.inside.1) xl)) [
                | inl v ↦ v
                | inr v ↦ absurd (high (behind (stamps_along k.upto) (stamps_along k.inside.0) (subst Rises (sym (sym (stamps_along-append k.upto k.inside.0) ∙ ap stamps_along k.inside.1)) (rises_at e s)) y.0 yu x.stamp (item_stamp k.inside.0 x v)))
              ])
          | inr j ↦ absurd (high (behind (stamps_along (leader_log l e s)) (map (λ (z : Item). z.stamp) (l.pending e s)) (whole_rises e s born) y.0 (stamps_pre y.0 k.upto (leader_log l e s) k.inside yu) x.stamp (in_map (λ (z : Item). z.stamp) x (l.pending e s) j)))
        ] in
        history_in n f x s d.0 d.1 (items_pre x k.upto (f s) (k.later, k.joins) there) (omega arith) (λ r p q.
        let t = has_last (f r) e (all r p q) in
        (omega (arith, top_above (stamps_along (f r)) (f_rises f told r p q) t.0 t.1, t.2), subst (λ z. x.stamp.seq ≤ last_seq (f r) z) (sym ep) (far r p q)))

    abbrev low_seq : Item → Bool
    low_seq x = nat_le x.stamp.seq (all_reached (logs_of_streams n f) e)

    extends_opening : ExtendsOpening l n f
    extends_opening = record {
      epoch = e;
      begun = born;
      common = all;
      is = same_members (history (logs_of_streams n f)) (opening_list l n e ++ filter (λ (x : Item). nat_le x.stamp.seq (all_reached (logs_of_streams n f) e)) (l.decided e))
          (hist_strict f told)
          (strict_append (opening_list l n e) (filter (λ (x : Item). nat_le x.stamp.seq (all_reached (logs_of_streams n f) e)) (l.decided e)) (hist_strict (initial_log l e) first_told)
          (strict_filter (λ (x : Item). nat_le x.stamp.seq (all_reached (logs_of_streams n f) e)) (l.decided e) (decided_strict e))
          (λ x y i j. let m = in_history n (initial_log l e) x i in
          let a = (opening_item e m.stream born x m.has).1 in
          let b = decided_epoch e y (in_filter (λ (z : Item). nat_le z.stamp.seq (all_reached (logs_of_streams n f) e)) y (l.decided e) j).0 in
          inl (omega arith)))
          (λ x i. elim (three x.stamp.epoch e) [
            | inl a ↦ in_prefix (opening_list l n e) (filter (λ (z : Item). nat_le z.stamp.seq (all_reached (logs_of_streams n f) e)) (l.decided e)) x (older x i a)
            | inr c ↦ elim c [
              | inl q ↦ (let d = here_decided x i q in in_suffix (opening_list l n e) (filter (λ (z : Item). nat_le z.stamp.seq (all_reached (logs_of_streams n f) e)) (l.decided e)) x
                  (filter_in (λ (z : Item). nat_le z.stamp.seq (all_reached (logs_of_streams n f) e)) x (l.decided e) d.0 (le_true x.stamp.seq (all_reached (logs_of_streams n f) e) d.1)))
              | inr a ↦ absurd (none x i a)
            ]
          ])
          (λ x i. elim (in_split (opening_list l n e) (filter (λ (z : Item). nat_le z.stamp.seq (all_reached (logs_of_streams n f) e)) (l.decided e)) x i) [
            | inl j ↦ prefix_in x (opening_list l n e) (history (logs_of_streams n f)) opens_in j
            | inr j ↦ (let d = in_filter (λ (z : Item). nat_le z.stamp.seq (all_reached (logs_of_streams n f) e)) x (l.decided e) j in arrived x d.0 (true_le x.stamp.seq (all_reached (logs_of_streams n f) e) d.1))
          ]);
      opens = opens_same e born;
    }
      where
        three : (p q : ℕ) → (p < q) ⊎ ((p ≡ q) ⊎ (q < p))
        three p q = grind arith

        le_true : (a b : ℕ) → a ≤ b → nat_le a b ≡ true
        le_true a b h = grind (arith, nat_tests)

        true_le : (a b : ℕ) → nat_le a b ≡ true → a ≤ b
        true_le a b h = grind (arith, nat_tests)

  pub histories_extend : (f : ℕ → List Batch) → ArePrefixesOfLeaders l n f → (history (logs_of_streams n f) ≡ []) ⊎ ExtendsOpening l n f
  histories_extend f told =
      let b = tops_bound n f in
      let low : (x : Item) → In x (history (logs_of_streams n f)) → x.stamp.epoch ≤ b.0 = λ x i. (let m = in_history n f x i in let k = (m.within m.stream m.low m.high).0 in omega (arith, b.1 m.stream m.low m.high)) in
      elim (greatest_common b.0 n f) [
        | inl c ↦ inr (extends_opening f told c.0 c.1 c.2 (λ x i a. let o = c.3 x.stamp.epoch a (low x i) in lacks f told x.stamp.epoch o.0 o.1 o.2 o.3 x i refl))
        | inr c ↦ inl (empty (history (logs_of_streams n f)) (λ x i. let o = c x.stamp.epoch (in_history n f x i).born (low x i) in lacks f told x.stamp.epoch o.0 o.1 o.2 o.3 x i refl))
      ]
    where
      empty : (xs : List Item) → ((x : Item) → In x xs → ⊥) → xs ≡ []
      empty [] h = refl
      empty (x ∷ xs) h = absurd (h x (inl refl))

  -- ---- the induction ----
  module _ (Good : List Item → Type 0) (nil : Good [])
      (step : (e seq : ℕ) → 0 < e → Good (opening_list l n e) → Good (opening_list l n e ++ filter (λ (x : Item). nat_le x.stamp.seq seq) (l.decided e))) where
    good_below : (bound : ℕ) (f : ℕ → List Batch) → ArePrefixesOfLeaders l n f → ((s : ℕ) → 1 ≤ s → s ≤ n → top_epoch (f s) < bound) → Good (history (logs_of_streams n f))
    good_below zero f told below = subst Good (sym (none n f below)) nil
      where
        none : (m : ℕ) (f : ℕ → List Batch) → ((s : ℕ) → 1 ≤ s → s ≤ m → top_epoch (f s) < 0) → history (logs_of_streams m f) ≡ []
        none zero f h = refl
        none (suc m) f h = absurd (let k = h (suc m) (omega arith) (omega arith) in omega arith)
    good_below (suc bound) f told below = elim (histories_extend f told) [
      | inl z ↦ subst Good (sym z) nil
      | inr o ↦ (let rec_told : ArePrefixesOfLeaders l n (l.recovered o.epoch) = λ s p q. ((g.recovers o.epoch s o.begun).0, (g.recovers o.epoch s o.begun).2) in
          subst Good (sym o.is) (step o.epoch (all_reached (logs_of_streams n f) o.epoch) o.begun (subst Good (sym o.opens) (good_below bound (l.recovered o.epoch) rec_told (λ s p q.
          let y = has_last (f s) o.epoch (o.common s p q) in
          let t = top_above (stamps_along (f s)) (f_rises f told s p q) y.0 y.1 in
          let u = recovered_top (l.recovered o.epoch s) o.epoch o.begun (λ t i. (recovered_ok o.epoch s o.begun t i).1) in
          omega (arith, y.2, below s p q))))))
    ]
      where
        recovered_top : (log : List Batch) (e : ℕ) → 0 < e → ((t : Stamp) → In t (stamps_along log) → t.epoch < e) → top_epoch log < e
        recovered_top log e h a = go (stamps_along log) a
          where
            go : (ss : List Stamp) → ((t : Stamp) → In t ss → t.epoch < e) → top_among ss < e
            go [] a = h
            go (s ∷ ss) a = let k = top_in s ss in omega (arith, k.2, a k.0 k.1)

    -- what the empty history has and such steps keep, every history of logs that leaders told has
    pub good_history : (f : ℕ → List Batch) → ArePrefixesOfLeaders l n f → Good (history (logs_of_streams n f))
    good_history f told = let b = tops_bound n f in good_below (suc b.0) f told (λ s p q. omega (arith, b.1 s p q))
