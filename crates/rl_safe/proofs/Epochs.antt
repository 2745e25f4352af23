-- What logs that are prefixes of leaders' logs have of an epoch.
use Rattle.std.proofs.Common.{◌≡◌, ℕ, zero, suc, ◌<◌, ◌≤◌, ◌==◌, nat_le, List, [], ◌∷◌, ◌++◌, map, Bool, true, refl, sym, ap, ◌∙◌, subst, arith, inl, inr, eq-eqb}
use Rattle.std.specs.List.{filter}
use Rattle.std.proofs.lemmas.Bool.{cases_Bool}
use Rattle.std.proofs.lemmas.Bool.Decides.{nat_tests}
use Rattle.rl_base.specs.Order.{IsBelow}
use Rattle.rl_base.specs.declared.stamp.Stamp.{Stamp}
use Rattle.rl_base.proofs.Members.{In, contains_in, in_contains, in_map, in_prefix, in_suffix, in_split, in_filter, filter_in}
use Rattle.rl_base.proofs.Tests.{true_same}
use Rattle.rl_txn.specs.declared.batch.Batch.{Batch}
use Rattle.rl_txn.specs.declared.item.Item.{Item}
use Rattle.rl_families.specs.Families.{all_reached, history}
use Rattle.rl_families.specs.Leaders.{Leaders, AreLeaders, ArePrefixesOfLeaders, logs_of_streams, open_mark, own_stamps}
use Rattle.rl_families.specs.LeadersLogs.{EpochPart}
use Rattle.rl_families.specs.Logs.{stamps_along, items_along, last_seq}
use Rattle.rl_families.proofs.Extending.{decided_strict, decided_epoch, f_rises, f_stamp, f_item, hist_strict}
use Rattle.rl_families.proofs.Leading.{leaders_logs_rise}
use Rattle.rl_families.proofs.Logs.{stamps_along-append, items_along-append, item_stamp, stamps_pre, items_pre, split_stamps, split_items}
use Rattle.rl_families.proofs.Nesting.{least_le}
use Rattle.rl_families.proofs.Rising.{Rises, rises_from, rises_front, above_in, behind, top_above}
use Rattle.rl_families.proofs.Streams.{in_history, history_in, streams_in, has_last}
use Rattle.rl_families.proofs.Strict.{strict_filter, same_members}

-- of two tests, one of which the other implies
pub filter_both : {A : Type 0} (f g : A → Bool) (xs : List A) → ((x : A) → f x ≡ true → g x ≡ true) → filter f (filter g xs) ≡ filter f xs
filter_both f g [] h = refl
filter_both f g (x ∷ xs) h = elim (cases_Bool (f x)) [
  | inl t ↦ rw (h x t) (rw t (ap (λ ys. x ∷ ys) (filter_both f g xs h)))
  | inr t ↦ elim (cases_Bool (g x)) [
    | inl u ↦ rw u (rw t (filter_both f g xs h))
    | inr u ↦ rw u (rw t (filter_both f g xs h))
  ]
]

module _ (l : Leaders) (n : ℕ) (g : AreLeaders l n) where
  rise : (e s : ℕ) → Rises (own_stamps l e s)
  rise e s = rises_from (own_stamps l e s) (g.rising e s)

  -- what is proposed or pending stands behind the open mark
  pub positive : (e : ℕ) (x : Item) → In x (l.decided e) → 0 < x.stamp.seq
  positive e x i =
      let d = g.decides e x (in_contains (l.decided e) x i) in
      let s = x.worker in
      let waiting = map (λ (y : Item). y.stamp) (l.pending e s) in
      let there : In x.stamp (stamps_along (l.proposed e s) ++ waiting) =
      elim (in_split (items_along (l.proposed e s)) (l.pending e s) x (contains_in (items_along (l.proposed e s) ++ l.pending e s) x d.2)) [
        | inl j ↦ in_prefix (stamps_along (l.proposed e s)) waiting x.stamp (item_stamp (l.proposed e s) x j)
        | inr j ↦ in_suffix (stamps_along (l.proposed e s)) waiting x.stamp (in_map (λ (y : Item). y.stamp) x (l.pending e s) j)
      ] in
      let own = decided_epoch l n g e x i in
      elim (above_in (record { epoch = e; seq = 1 }) (stamps_along (l.proposed e s) ++ waiting) x.stamp (rise e s).0 there) [
        | inl above ↦ absurd (omega (arith, above, own))
        | inr above ↦ (let more = above.1 in omega (arith, more))
      ]

  module _ (e s : ℕ) (log : List Batch) (p : EpochPart l e s log) where
    in_part : (t : Stamp) → In t (stamps_along log) → t.epoch ≡ e → In t (stamps_along p.part)
    in_part t i same = elim (split_stamps t p.before (p.part ++ p.later) (subst (λ z. In t (stamps_along z)) (sym p.joins) i)) [
      | inl j ↦ absurd (let low = p.below t (in_contains (stamps_along p.before) t j) in omega (arith, low, same))
      | inr j ↦ elim (split_stamps t p.part p.later j) [
        | inl k ↦ k
        | inr k ↦ absurd (let high = p.above t (in_contains (stamps_along p.later) t k) in omega (arith, high, same))
      ]
    ]

    of_part : (x : Item) → In x (items_along p.part) → In x (items_along log)
    of_part x i = subst (λ z. In x (items_along z)) p.joins
        (subst (λ z. In x z) (sym (items_along-append p.before (p.part ++ p.later)))
        (in_suffix (items_along p.before) (items_along (p.part ++ p.later)) x (items_pre x p.part (p.part ++ p.later) (p.later, refl) i)))

    reached : (x : Item) → In x (l.decided e) → x.worker ≡ s → x.stamp.seq ≤ last_seq log e → In x (items_along log)
    reached x i worker low =
        let d = g.decides e x (in_contains (l.decided e) x i) in
        let waiting = map (λ (y : Item). y.stamp) (l.pending e s) in
        let has : In x (items_along (l.proposed e s) ++ l.pending e s) = subst (λ u. In x (items_along (l.proposed e u) ++ l.pending e u)) worker
        (contains_in (items_along (l.proposed e x.worker) ++ l.pending e x.worker) x d.2) in
        let some = positive e x i in
        let own = decided_epoch l n g e x i in
        let y = has_last log e (omega (arith, some, low)) in
        let here = in_part y.0 y.1 y.2 in
        let rest = p.is.0 in
        let not_above : IsBelow y.0 x.stamp → ⊥ = λ above. elim above [
          | inl a ↦ (let q = y.2 in omega (arith, a, own, q))
          | inr a ↦ (let q = y.3 in let r = a.1 in omega (arith, q, r, low))
        ] in
        let along : Rises (stamps_along (open_mark e ∷ l.proposed e s)) = rises_front (stamps_along (open_mark e ∷ l.proposed e s)) waiting (rise e s) in
        elim (in_split (items_along (l.proposed e s)) (l.pending e s) x has) [
          | inl j ↦ elim (split_items x p.part rest (subst (λ z. In x (items_along z)) (sym p.is.1) j)) [
            | inl k ↦ of_part x k
            | inr k ↦ absurd (not_above (behind (stamps_along p.part) (stamps_along rest)
                (subst Rises (sym (sym (stamps_along-append p.part rest) ∙ ap stamps_along p.is.1)) along) y.0 here x.stamp (item_stamp rest x k)))
          ]
          | inr j ↦ absurd (not_above (behind (stamps_along (open_mark e ∷ l.proposed e s)) waiting (rise e s) y.0
              (stamps_pre y.0 p.part (open_mark e ∷ l.proposed e s) p.is here) x.stamp (in_map (λ (z : Item). z.stamp) x (l.pending e s) j)))
        ]

  module _ (f : ℕ → List Batch) (told : ArePrefixesOfLeaders l n f) where
    pub part_at : (e s : ℕ) → 0 < e → 1 ≤ s → s ≤ n → EpochPart l e s (f s)
    part_at e s born low high = (leaders_logs_rise l n g f told).parts e s born low high

    -- what a leader decided for a stream's worker up to the last seq
    pub all_reached_in : (e s : ℕ) → 1 ≤ s → s ≤ n → (x : Item) → In x (l.decided e) → x.worker ≡ s → x.stamp.seq ≤ last_seq (f s) e
        → In x (items_along (f s))
    all_reached_in zero s low high x i worker few =
        let some = positive zero x i in
        let y = has_last (f s) zero (omega (arith, some, few)) in
        absurd (let born = (f_stamp l n g f told s low high y.0 y.1).born in let q = y.2 in omega (arith, born, q))
    all_reached_in (suc e) s low high x i worker few = reached (suc e) s (f s) (part_at (suc e) s (omega arith) low high) x i worker few

    -- an item of a log was proposed at its epoch
    pub proposed_at : (s : ℕ) → 1 ≤ s → s ≤ n → (x : Item) → In x (items_along (f s)) → In x (items_along (l.proposed x.stamp.epoch s))
    proposed_at s low high x i =
        let e = x.stamp.epoch in
        let p = part_at e s (f_stamp l n g f told s low high x.stamp (item_stamp (f s) x i)).born low high in
        elim (split_items x p.before (p.part ++ p.later) (subst (λ z. In x (items_along z)) (sym p.joins) i)) [
          | inl j ↦ absurd (let less = p.below x.stamp (in_contains (stamps_along p.before) x.stamp (item_stamp p.before x j)) in omega (arith, less))
          | inr j ↦ elim (split_items x p.part p.later j) [
            | inl k ↦ items_pre x p.part (open_mark e ∷ l.proposed e s) p.is k
            | inr k ↦ absurd (let more = p.above x.stamp (in_contains (stamps_along p.later) x.stamp (item_stamp p.later x k)) in omega (arith, more))
          ]
        ]

    abbrev family : List (List Batch)
    family = logs_of_streams n f

    abbrev is_of : ℕ → Item → Bool
    is_of e x = x.stamp.epoch == e

    abbrev is_up_to : ℕ → Item → Bool
    is_up_to e x = nat_le x.stamp.seq (all_reached family e)

    le_true : (a b : ℕ) → a ≤ b → nat_le a b ≡ true
    le_true a b h = grind (arith, nat_tests)

    true_le : (a b : ℕ) → nat_le a b ≡ true → a ≤ b
    true_le a b h = grind (arith, nat_tests)

    decided_in : (e : ℕ) (x : Item) → In x (filter (is_of e) (history family)) → In x (filter (is_up_to e) (l.decided e))
    decided_in e x i =
        let k = in_filter (is_of e) x (history family) i in
        let same = true_same x.stamp.epoch e k.1 in
        let m = in_history n f x k.0 in
        filter_in (is_up_to e) x (l.decided e) (subst (λ z. In x (l.decided z)) same (f_item l n g f told m.stream m.low m.high x m.has).0)
        (le_true x.stamp.seq (all_reached family e) (subst (λ z. x.stamp.seq ≤ all_reached family z) same m.far))

    in_decided : (e : ℕ) (x : Item) → In x (filter (is_up_to e) (l.decided e)) → In x (filter (is_of e) (history family))
    in_decided e x i =
        let k = in_filter (is_up_to e) x (l.decided e) i in
        let low = true_le x.stamp.seq (all_reached family e) k.1 in
        let d = g.decides e x (in_contains (l.decided e) x k.0) in
        let own = decided_epoch l n g e x k.0 in
        let some = positive e x k.0 in
        let far : (r : ℕ) → 1 ≤ r → r ≤ n → x.stamp.seq ≤ last_seq (f r) e = λ r p q.
        (let least = least_le (last_seq (f r) e) (map (λ log. last_seq log e) family) (in_map (λ log. last_seq log e) (f r) family (streams_in n f r p q)) in
        omega (arith, low, least)) in
        let here = all_reached_in e x.worker d.0 d.1 x k.0 refl (far x.worker d.0 d.1) in
        let born = (f_stamp l n g f told x.worker d.0 d.1 x.stamp (item_stamp (f x.worker) x here)).born in
        filter_in (is_of e) x (history family) (history_in n f x x.worker d.0 d.1 here born (λ r p q.
        let reach = far r p q in
        let t = has_last (f r) e (omega (arith, some, reach)) in
        let top = top_above (stamps_along (f r)) (f_rises l n g f told r p q) t.0 t.1 in
        let of = t.2 in (
          omega (arith, top, of, own),
          subst (λ z. x.stamp.seq ≤ last_seq (f r) z) (sym own) reach,
        ))) (eq-eqb x.stamp.epoch e own)

    -- the items of an epoch in the history
    pub epoch_decides : (e : ℕ) → filter (is_of e) (history family) ≡ filter (is_up_to e) (l.decided e)
    epoch_decides e = same_members (filter (is_of e) (history family)) (filter (is_up_to e) (l.decided e))
        (strict_filter (is_of e) (history family) (hist_strict l n g f told)) (strict_filter (is_up_to e) (l.decided e) (decided_strict l n g e))
        (decided_in e) (in_decided e)
