-- Stamps of which there is one for each epoch: what is found among them.
use Rattle.std.proofs.Common.{◌≡◌, ◌≢◌, ◌⊎◌, ℕ, zero, suc, ◌-◌, ◌<◌, ◌≤◌, List, [], ◌∷◌, ◌++◌, length, get_or, take, drop, Bool, true, false, ◌&&◌, nat_lt, nat_le, refl, sym, ap, ◌∙◌, subst, arith, inl, inr}
use Rattle.std.specs.List.{filter}
use Rattle.std.specs.List.Sorted.{IsPartitionedBy, IsPartitionPoint}
use Rattle.std.proofs.lemmas.Bool.{cases_Bool}
use Rattle.std.proofs.lemmas.Bool.Decides.{nat_tests, eqb_tells}
use Rattle.std.proofs.lemmas.List.Elements.{Contains-get_or}
use Rattle.rl_base.specs.declared.stamp.Stamp.{Stamp}
use Rattle.rl_base.proofs.Members.{In, in_contains, contains_in, in_filter}
use Rattle.rl_families.specs.Logs.{last_seq_among}
use Rattle.rl_families.proofs.Rising.{last_seq_among_in}
use Rattle.rl_cut.specs.Kept.{AreByEpoch}

-- all are of later epochs
abbrev pub Later : ℕ → List Stamp → Type 0
Later e ss = (t : Stamp) → In t ss → e < t.epoch

-- rising epochs, by recursion
abbrev pub Climbs : List Stamp → Type 0
Climbs [] = Unit {0}
Climbs (s ∷ ss) = Later s.epoch ss × Climbs ss

pub climbs_from : (ss : List Stamp) → AreByEpoch ss → Climbs ss
climbs_from [] h = tt
climbs_from (s ∷ ss) h = (later ss (λ k d l. h 0 (suc k) d (omega arith) (omega arith)), climbs_from ss (λ i j d a l. h (suc i) (suc j) d (omega arith) (omega arith)))
  where
    later : (ts : List Stamp) → ((k : ℕ) (d : Stamp) → k < length ts → s.epoch < (get_or ts k d).epoch) → Later s.epoch ts
    later [] g t i = absurd i
    later (u ∷ us) g t i = elim i [ inl e ↦ rw e (g 0 u (omega arith)) | inr j ↦ later us (λ k d l. g (suc k) d (omega arith)) t j ]

pub from_climbs : (ss : List Stamp) → Climbs ss → AreByEpoch ss
from_climbs [] c i j d a l = absurd (omega arith)
from_climbs (s ∷ ss) c zero zero d a l = absurd (omega arith)
from_climbs (s ∷ ss) c zero (suc j) d a l = c.0 (get_or ss j d) (contains_in ss (get_or ss j d) (Contains-get_or ss j d (omega arith)))
from_climbs (s ∷ ss) c (suc i) zero d a l = absurd (omega arith)
from_climbs (s ∷ ss) c (suc i) (suc j) d a l = from_climbs ss c.1 i j d (omega arith) (omega arith)

pub climbs_append : (ss ts : List Stamp) → Climbs ss → Climbs ts → ((s t : Stamp) → In s ss → In t ts → s.epoch < t.epoch) → Climbs (ss ++ ts)
climbs_append [] ts a b h = b
climbs_append (s ∷ ss) ts a b h = (both, climbs_append ss ts a.1 b (λ u t i j. h u t (inr i) j))
  where
    both : Later s.epoch (ss ++ ts)
    both t i = elim (in_parts ss i) [ inl j ↦ a.0 t j | inr j ↦ h s t (inl refl) j ]
      where
        in_parts : (xs : List Stamp) → In t (xs ++ ts) → In t xs ⊎ In t ts
        in_parts [] i = inr i
        in_parts (x ∷ xs) i = elim i [ inl e ↦ inl (inl e) | inr j ↦ elim (in_parts xs j) [ inl k ↦ inl (inr k) | inr k ↦ inr k ] ]

pub climbs_filter : (f : Stamp → Bool) (ss : List Stamp) → Climbs ss → Climbs (filter f ss)
climbs_filter f [] c = tt
climbs_filter f (s ∷ ss) c = elim (cases_Bool (f s)) [
  | inl t ↦ rw t ((λ u i. c.0 u (in_filter f u ss i).0), climbs_filter f ss c.1)
  | inr t ↦ rw t (climbs_filter f ss c.1)
]

-- ---- looking an epoch up ----
-- those of earlier epochs stand first
pub parted : (ss : List Stamp) (e : ℕ) → AreByEpoch ss → IsPartitionedBy (λ s. nat_lt s.epoch e) ss
parted ss e h i j d le l t = elim (same_or_less i j le) [
  | inl same ↦ subst (λ n. nat_lt (get_or ss n d).epoch e ≡ true) (sym same) t
  | inr less ↦ lower (get_or ss i d).epoch (get_or ss j d).epoch e (h i j d less l) t
]
  where
    same_or_less : (a b : ℕ) → a ≤ b → (a ≡ b) ⊎ (a < b)
    same_or_less a b k = grind arith

    lower : (a b e : ℕ) → a < b → nat_lt b e ≡ true → nat_lt a e ≡ true
    lower a b e k t = grind (arith, nat_tests)

-- where one of the epoch stands, the greatest seq of the epoch is its own
pub seq_at : (ss : List Stamp) (n : ℕ) (d : Stamp) → Climbs ss → n < length ss → (get_or ss n d).seq ≡ last_seq_among ss (get_or ss n d).epoch
seq_at [] n d c l = absurd (omega arith)
seq_at (s ∷ ss) zero d c l = elim (eqb_tells s.epoch s.epoch) [
  | inl t ↦ rw (t.0, none_later ss s.epoch c.0) (omega arith)
  | inr t ↦ absurd (t.1 refl)
]
  where
    none_later : (ts : List Stamp) (e : ℕ) → Later e ts → last_seq_among ts e ≡ 0
    none_later ts e h = elim (last_seq_among_in ts e) [ inl z ↦ z | inr m ↦ (let k = h m.0 m.1 in absurd (omega (arith, m.2))) ]
seq_at (s ∷ ss) (suc n) d c l =
    let k = c.0 (get_or ss n d) (contains_in ss (get_or ss n d) (Contains-get_or ss n d (omega arith))) in
    elim (eqb_tells s.epoch (get_or ss n d).epoch) [
      | inl t ↦ absurd (omega (arith, t.1))
      | inr t ↦ rw t.0 (seq_at ss n d c.1 (omega arith))
    ]

-- and where none does, it is 0
pub none_at : (ss : List Stamp) (e n : ℕ) → AreByEpoch ss → IsPartitionPoint (λ s. nat_lt s.epoch e ≡ true) (λ s. nat_lt s.epoch e ≡ false) ss n
    → ((d : Stamp) → n < length ss → (get_or ss n d).epoch ≢ e) → 0 ≡ last_seq_among ss e
none_at ss e n h p other = elim (last_seq_among_in ss e) [
  | inl z ↦ sym z
  | inr m ↦ absurd (let k = in_contains ss m.0 m.1 in at k.0 m.0 k.1 (ap (λ (s : Stamp). s.epoch) k.2 ∙ m.2))
]
  where
    at : (k : ℕ) (d : Stamp) → k < length ss → (get_or ss k d).epoch ≡ e → ⊥
    at k d l same = elim (lt_or k n) [
      | inl a ↦ (let t = p.0 k d (omega arith) a in below (get_or ss k d).epoch e same t)
      | inr b ↦ elim b [
        | inl q ↦ other d (omega (arith, q)) (subst (λ i. (get_or ss i d).epoch ≡ e) q same)
        | inr q ↦ (let f = p.1 n d (omega arith) (omega (arith, q)) in let g = h n k d q l in above (get_or ss n d).epoch (get_or ss k d).epoch e g same f)
      ]
    ]
      where
        lt_or : (a b : ℕ) → (a < b) ⊎ ((a ≡ b) ⊎ (b < a))
        lt_or a b = grind arith

        below : (a e : ℕ) → a ≡ e → nat_lt a e ≡ true → ⊥
        below a e same t = grind (arith, nat_tests)

        above : (a b e : ℕ) → a < b → b ≡ e → nat_lt a e ≡ false → ⊥
        above a b e l same t = grind (arith, nat_tests)

-- ---- the epochs from one on and below another ----
-- two places between which a test passes, and else not
filter_between : (f : Stamp → Bool) (ss : List Stamp) (a b : ℕ) → a ≤ b → b ≤ length ss → ((k : ℕ) (d : Stamp) → k < a → f (get_or ss k d) ≡ false)
    → ((k : ℕ) (d : Stamp) → a ≤ k → k < b → f (get_or ss k d) ≡ true) → ((k : ℕ) (d : Stamp) → b ≤ k → k < length ss → f (get_or ss k d) ≡ false) → take (b - a) (drop a ss) ≡ filter f ss
filter_between f [] zero zero u w x y z = refl
filter_between f [] zero (suc b) u w x y z = absurd (omega arith)
filter_between f [] (suc a) b u w x y z = absurd (omega arith)
filter_between f (s ∷ ss) zero zero u w x y z = rw (z 0 s (omega arith) (omega arith)) (filter_between f ss zero zero (omega arith) (omega arith) (λ k d l. absurd (omega arith)) (λ k d l m. absurd (omega arith)) (λ k d l m. z (suc k) d (omega arith) (omega arith)))
filter_between f (s ∷ ss) zero (suc b) u w x y z =
    let rest : take (b - 0) ss ≡ filter f ss = filter_between f ss zero b (omega arith) (omega arith) (λ k d l. absurd (omega arith)) (λ k d l m. y (suc k) d (omega arith) (omega arith)) (λ k d l m. z (suc k) d (omega arith) (omega arith)) in
    let one : suc b - 0 ≡ suc b = omega arith in
    let two : b - 0 ≡ b = omega arith in
    rw (y 0 s (omega arith) (omega arith), one) (ap (λ r. s ∷ r) (subst (λ n. take n ss ≡ filter f ss) two rest))
filter_between f (s ∷ ss) (suc a) zero u w x y z = absurd (omega arith)
filter_between f (s ∷ ss) (suc a) (suc b) u w x y z =
    let less : suc b - suc a ≡ b - a = omega arith in
    rw (x 0 s (omega arith), less) (filter_between f ss a b (omega arith) (omega arith) (λ k d l. x (suc k) d (omega arith)) (λ k d l m. y (suc k) d (omega arith) (omega arith)) (λ k d l m. z (suc k) d (omega arith) (omega arith)))

module _ (ss : List Stamp) (start end a b : ℕ) (rises : start ≤ end) (low : IsPartitionPoint (λ s. nat_lt s.epoch start ≡ true) (λ s. nat_lt s.epoch start ≡ false) ss a)
    (high : IsPartitionPoint (λ s. nat_lt s.epoch end ≡ true) (λ s. nat_lt s.epoch end ≡ false) ss b) where
  pub places_rise : (d : Stamp) → a ≤ length ss → a ≤ b
  places_rise d l = elim (le_or a b) [
    | inl k ↦ k
    | inr k ↦ absurd (let t = low.0 b d (omega arith) k in let f = high.1 b d (omega arith) (omega (arith, k)) in apart (get_or ss b d).epoch start end rises t f)
  ]
    where
      le_or : (x y : ℕ) → (x ≤ y) ⊎ (y < x)
      le_or x y = grind arith

      apart : (x y z : ℕ) → y ≤ z → nat_lt x y ≡ true → nat_lt x z ≡ false → ⊥
      apart x y z h t f = grind (arith, nat_tests)

  pub epochs_between : a ≤ b → b ≤ length ss → take (b - a) (drop a ss) ≡ filter (λ s. nat_le start s.epoch && nat_lt s.epoch end) ss
  epochs_between u w = filter_between (λ s. nat_le start s.epoch && nat_lt s.epoch end) ss a b u w
      (λ k d l. before (get_or ss k d).epoch start end (low.0 k d (omega arith) l))
      (λ k d l m. inside (get_or ss k d).epoch start end (low.1 k d l (omega arith)) (high.0 k d (omega arith) m))
      (λ k d l m. behind (get_or ss k d).epoch start end (high.1 k d l m))
    where
      before : (x y z : ℕ) → nat_lt x y ≡ true → (nat_le y x && nat_lt x z) ≡ false
      before x y z t = grind (arith, nat_tests)

      inside : (x y z : ℕ) → nat_lt x y ≡ false → nat_lt x z ≡ true → (nat_le y x && nat_lt x z) ≡ true
      inside x y z t f = grind (arith, nat_tests)

      behind : (x y z : ℕ) → nat_lt x z ≡ false → (nat_le y x && nat_lt x z) ≡ false
      behind x y z t = grind (arith, nat_tests)
