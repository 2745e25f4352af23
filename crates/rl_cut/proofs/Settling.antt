-- The bounds of the epochs that all streams have left.
use Rattle.std.proofs.Common.{◌≡◌, ◌≢◌, ◌⊎◌, ℕ, ◌<◌, ◌≤◌, max, List, [], ◌∷◌, ◌++◌, length, get_or, map, take, Bool, true, ◌&&◌, nat_lt, nat_le, Some, All, refl, sym, ap, ◌∙◌, subst, arith, inl, inr}
use Rattle.std.specs.Prelude.{slice_get}
use Rattle.std.specs.List.{filter}
use Rattle.std.proofs.lemmas.Bool.{and_parts, and_from}
use Rattle.std.proofs.lemmas.Bool.Decides.{nat_tests, eqb_tells}
use Rattle.std.proofs.lemmas.List.{take_all, take-append-le}
use Rattle.std.proofs.lemmas.List.Elements.{Contains-get_or}
use Rattle.rl_base.specs.declared.stamp.Stamp.{Stamp}
use Rattle.rl_base.specs.Lists.{IsPrefix}
use Rattle.rl_base.proofs.Members.{In, contains_in, all_in, in_split, map_in, in_filter, filter_in}
use Rattle.rl_families.specs.Logs.{last_seq_among}
use Rattle.rl_families.proofs.Logs.{last_seq_among-append}
use Rattle.rl_families.proofs.Nesting.{least_le}
use Rattle.rl_families.proofs.Rising.{last_seq_among_in}
use Rattle.rl_families.specs.Families.{least}
use Rattle.rl_cut.specs.Kept.{AreByEpoch, AreSettled, least_seq}
use Rattle.rl_cut.proofs.ByEpoch.{Climbs, climbs_from, from_climbs, climbs_append, climbs_filter}

-- the bound of a stamp's epoch
abbrev pub bound_stamp : (reached : List (List Stamp)) → Stamp → Stamp
bound_stamp reached s = record { epoch = s.epoch; seq = least_seq reached s.epoch }

bounds_climb : (reached : List (List Stamp)) (ss : List Stamp) → Climbs ss → Climbs (map (bound_stamp reached) ss)
bounds_climb reached [] c = tt
bounds_climb reached (s ∷ ss) c = (λ t i. (let k = map_in (bound_stamp reached) t ss i in subst (λ (z : Stamp). s.epoch < z.epoch) k.2 (c.0 k.0 k.1)), bounds_climb reached ss c.1)

-- among bounds of epochs stands an epoch's own, or none
bound_among : (reached : List (List Stamp)) (ss : List Stamp) (e : ℕ) → (last_seq_among (map (bound_stamp reached) ss) e ≡ least_seq reached e) ⊎ ((last_seq_among (map (bound_stamp reached) ss) e ≡ 0) × ((s : Stamp) → In s ss → s.epoch ≢ e))
bound_among reached [] e = inr (refl, λ s i. absurd i)
bound_among reached (s ∷ ss) e = elim (eqb_tells s.epoch e) [
  | inl t ↦ inl (rw t.0 (elim (bound_among reached ss e) [
    | inl m ↦ ap (λ n. max n (last_seq_among (map (bound_stamp reached) ss) e)) (ap (least_seq reached) t.1) ∙ ap (max (least_seq reached e)) m ∙ twice (least_seq reached e)
    | inr k ↦ ap (λ n. max n (last_seq_among (map (bound_stamp reached) ss) e)) (ap (least_seq reached) t.1) ∙ ap (max (least_seq reached e)) k.0 ∙ alone (least_seq reached e)
  ]))
  | inr t ↦ elim (bound_among reached ss e) [
    | inl m ↦ inl (rw t.0 m)
    | inr k ↦ inr (rw t.0 k.0, λ u i. elim i [ inl same ↦ rw same t.1 | inr j ↦ k.1 u j ])
  ]
]
  where
    twice : (n : ℕ) → max n n ≡ n
    twice n = omega arith

    alone : (n : ℕ) → max n 0 ≡ n
    alone n = omega arith

all_from : (P : Stamp → Type 0) (xs : List Stamp) → ((x : Stamp) → In x xs → P x) → All P xs
all_from P xs h k d l = h (get_or xs k d) (contains_in xs (get_or xs k d) (Contains-get_or xs k d l))

-- the bounds of some epochs behind those that were settled, where they are all of the first stream from the one to the other
module _ (reached : List (List Stamp)) (first : List Stamp) (others : List (List Stamp)) (is : reached ≡ first ∷ others) (before now : ℕ) (rises : before ≤ now) (settled seg : List Stamp) (h : AreSettled reached before settled)
    (climb : Climbs seg) (inside : (s : Stamp) → In s seg → (before ≤ s.epoch) × (s.epoch < now)) (whole : (s : Stamp) → In s first → before ≤ s.epoch → s.epoch < now → In s seg) where
  -- what was settled is of earlier epochs
  none_before : (e : ℕ) → before ≤ e → last_seq_among settled e ≡ 0
  none_before e b = elim (last_seq_among_in settled e) [
    | inl z ↦ z
    | inr m ↦ absurd (let k = all_in (λ (z : Stamp). z.epoch < before) settled h.below m.0 m.1 in omega (arith, m.2))
  ]

  -- an epoch of which the first stream has nothing has no bound above 0
  no_bound : (e : ℕ) → before ≤ e → e < now → ((s : Stamp) → In s seg → s.epoch ≢ e) → 0 ≡ least_seq reached e
  no_bound e b l none = elim (last_seq_among_in first e) [
    | inl z ↦ (let k = subst (λ z. least (map (λ ss. last_seq_among ss e) z) ≤ last_seq_among first e) (sym is) (least_le (last_seq_among first e) (map (λ ss. last_seq_among ss e) (first ∷ others)) (inl refl)) in omega (arith, z))
    | inr m ↦ absurd (none m.0 (whole m.0 m.1 (omega (arith, m.2)) (omega (arith, m.2))) m.2)
  ]

  epochs_rise : Climbs (settled ++ map (bound_stamp reached) seg)
  epochs_rise = climbs_append settled (map (bound_stamp reached) seg) (climbs_from settled h.epochs) (bounds_climb reached seg climb) (λ s t i j.
      let a = all_in (λ (z : Stamp). z.epoch < before) settled h.below s i in
      let k = map_in (bound_stamp reached) t seg j in
      let b = (inside k.0 k.1).0 in
      subst (λ (z : Stamp). s.epoch < z.epoch) k.2 (apart s.epoch before k.0.epoch a b))
    where
      apart : (a b c : ℕ) → a < b → b ≤ c → a < c
      apart a b c x y = omega arith

  all_below : (s : Stamp) → In s (settled ++ map (bound_stamp reached) seg) → s.epoch < now
  all_below s i = elim (in_split settled (map (bound_stamp reached) seg) s i) [
    | inl j ↦ (let a = all_in (λ (z : Stamp). z.epoch < before) settled h.below s j in omega arith)
    | inr j ↦ (let k = map_in (bound_stamp reached) s seg j in subst (λ (z : Stamp). z.epoch < now) k.2 (inside k.0 k.1).1)
  ]

  all_bounds : (e : ℕ) → e < now → last_seq_among (settled ++ map (bound_stamp reached) seg) e ≡ least_seq reached e
  all_bounds e l = last_seq_among-append settled (map (bound_stamp reached) seg) e ∙ elim (lt_or e before) [
    | inl a ↦ ap (max (last_seq_among (map (bound_stamp reached) seg) e)) (h.bounds e a) ∙ elim (bound_among reached seg e) [
      | inl m ↦ ap (λ n. max n (least_seq reached e)) m ∙ twice (least_seq reached e)
      | inr k ↦ ap (λ n. max n (least_seq reached e)) k.0 ∙ behind (least_seq reached e)
    ]
    | inr b ↦ ap (max (last_seq_among (map (bound_stamp reached) seg) e)) (none_before e b) ∙ elim (bound_among reached seg e) [
      | inl m ↦ ap (λ n. max n 0) m ∙ alone (least_seq reached e)
      | inr k ↦ ap (λ n. max n 0) k.0 ∙ alone 0 ∙ no_bound e b l k.1
    ]
  ]
    where
      lt_or : (a b : ℕ) → (a < b) ⊎ (b ≤ a)
      lt_or a b = grind arith

      twice : (n : ℕ) → max n n ≡ n
      twice n = omega arith

      behind : (n : ℕ) → max 0 n ≡ n
      behind n = omega arith

      alone : (n : ℕ) → max n 0 ≡ n
      alone n = omega arith

  settled_up : AreSettled reached now (settled ++ map (bound_stamp reached) seg)
  settled_up = record {
    epochs = from_climbs (settled ++ map (bound_stamp reached) seg) epochs_rise;
    below = all_from (λ s. s.epoch < now) (settled ++ map (bound_stamp reached) seg) all_below;
    bounds = all_bounds;
  }

first_of : (reached : List (List Stamp)) (first : List Stamp) → slice_get reached 0 ≡ Some first → (others : List (List Stamp)) × (reached ≡ first ∷ others)
first_of [] first h = absurd (let e = h in cc)
first_of (r ∷ rs) first h = (rs, let e : r ≡ first = cc in ap (λ z. z ∷ rs) e)

pub more_settled : (reached : List (List Stamp)) (first : List Stamp) (before now : ℕ) (settled : List Stamp) → slice_get reached 0 ≡ Some first → All AreByEpoch reached → before ≤ now → AreSettled reached before settled
    → AreSettled reached now (settled ++ map (bound_stamp reached) (filter (λ s. nat_le before s.epoch && nat_lt s.epoch now) first))
more_settled reached first before now settled f all rises h =
    let k = first_of reached first f in
    let own : AreByEpoch first = (subst (All AreByEpoch) k.1 all) 0 first (omega arith) in
    let test : Stamp → Bool = λ s. nat_le before s.epoch && nat_lt s.epoch now in
    settled_up reached first k.0 k.1 before now rises settled (filter (λ s. nat_le before s.epoch && nat_lt s.epoch now) first) h
    (climbs_filter test first (climbs_from first own))
    (λ s i. tells before s.epoch now (in_filter test s first i).1)
    (λ s i a b. filter_in test s first i (tests before s.epoch now a b))
  where
    tells : (a e b : ℕ) → (nat_le a e && nat_lt e b) ≡ true → (a ≤ e) × (e < b)
    tells a e b h = let k = and_parts (nat_le a e) (nat_lt e b) h in (le a e k.0, lt e b k.1)
      where
        le : (a b : ℕ) → nat_le a b ≡ true → a ≤ b
        le a b t = grind (arith, nat_tests)

        lt : (a b : ℕ) → nat_lt a b ≡ true → a < b
        lt a b t = grind (arith, nat_tests)

    tests : (a e b : ℕ) → a ≤ e → e < b → (nat_le a e && nat_lt e b) ≡ true
    tests a e b h k = and_from (nat_le a e) (nat_lt e b) (grind (arith, nat_tests)) (grind (arith, nat_tests))

-- ---- and put back ----
pub first_again : (old new : List Stamp) (n : ℕ) → IsPrefix old new → n ≡ length old → take n new ≡ old
first_again old new n p e = ap (take n) (sym p.1) ∙ take-append-le n old p.0 (omega arith) ∙ take_all n old (omega arith)
