-- Along stamps that rise: the last of them, and the last of an epoch.
use Rattle.std.proofs.Common.{◌≡◌, ◌⊎◌, ℕ, zero, suc, ◌<◌, ◌≤◌, max, List, [], ◌∷◌, ◌++◌, length, get_or, Some, refl, sym, ap, ◌∙◌, subst, arith, inl, inr}
use Rattle.std.specs.Option.{option_map_or}
use Rattle.std.proofs.lemmas.Bool.Decides.{eqb_tells}
use Rattle.rl_base.specs.declared.stamp.Stamp.{Stamp}
use Rattle.rl_txn.specs.declared.batch.Batch.{Batch}
use Rattle.rl_base.specs.Lists.{IsPrefix}
use Rattle.rl_base.specs.Order.{IsBelow}
use Rattle.rl_families.specs.Logs.{stamps_along, IsRising, last_stamp, last_seq_among}
use Rattle.rl_base.proofs.Members.{In, in_prefix, in_split}
use Rattle.rl_families.proofs.Logs.{stamps_along-append, last_seq_among-append}

-- s is below each of these
abbrev pub Above : Stamp → List Stamp → Type 0
Above s [] = Unit {0}
Above s (t ∷ ts) = IsBelow s t × Above s ts

-- rising, by recursion
abbrev pub Rises : List Stamp → Type 0
Rises [] = Unit {0}
Rises (s ∷ ss) = Above s ss × Rises ss

pub rises_from : (ss : List Stamp) → IsRising ss → Rises ss
rises_from [] h = tt
rises_from (s ∷ ss) h = (heads ss (λ k d l. h 0 (suc k) d (omega arith) (omega arith)), rises_from ss (λ i j d a l. h (suc i) (suc j) d (omega arith) (omega arith)))
  where
    heads : (ts : List Stamp) → ((k : ℕ) (d : Stamp) → k < length ts → IsBelow s (get_or ts k d)) → Above s ts
    heads [] g = tt
    heads (t ∷ ts) g = (g 0 t (omega arith), heads ts (λ k d l. g (suc k) d (omega arith)))

above_at : (s : Stamp) (ts : List Stamp) (k : ℕ) (d : Stamp) → Above s ts → k < length ts → IsBelow s (get_or ts k d)
above_at s [] k d a l = absurd (omega arith)
above_at s (t ∷ ts) zero d a l = a.0
above_at s (t ∷ ts) (suc k) d a l = above_at s ts k d a.1 (omega arith)

pub from_rises : (ss : List Stamp) → Rises ss → IsRising ss
from_rises [] r i j d a l = absurd (omega arith)
from_rises (s ∷ ss) r zero zero d a l = absurd (omega arith)
from_rises (s ∷ ss) r zero (suc j) d a l = above_at s ss j d r.0 (omega arith)
from_rises (s ∷ ss) r (suc i) zero d a l = absurd (omega arith)
from_rises (s ∷ ss) r (suc i) (suc j) d a l = from_rises ss r.1 i j d (omega arith) (omega arith)

pub above_in : (s : Stamp) (ts : List Stamp) (t : Stamp) → Above s ts → In t ts → IsBelow s t
above_in s [] t a i = absurd i
above_in s (u ∷ us) t a i = elim i [ inl e ↦ rw e a.0 | inr j ↦ above_in s us t a.1 j ]

pub above_split : (s : Stamp) (ts us : List Stamp) → Above s (ts ++ us) → Above s ts × Above s us
above_split s [] us a = (tt, a)
above_split s (t ∷ ts) us a = let k = above_split s ts us a.1 in ((a.0, k.0), k.1)

pub above_append : (s : Stamp) (ts us : List Stamp) → Above s ts → ((u : Stamp) → In u us → IsBelow s u) → Above s (ts ++ us)
above_append s [] [] a h = tt
above_append s [] (u ∷ us) a h = (h u (inl refl), above_append s [] us tt (λ v i. h v (inr i)))
above_append s (t ∷ ts) us a h = (a.0, above_append s ts us a.1 h)

pub rises_append : (ss ts : List Stamp) → Rises ss → Rises ts → ((s t : Stamp) → In s ss → In t ts → IsBelow s t) → Rises (ss ++ ts)
rises_append [] ts a b h = b
rises_append (s ∷ ss) ts a b h = (above_append s ss ts a.0 (λ t i. h s t (inl refl) i), rises_append ss ts a.1 b (λ u v i j. h u v (inr i) j))

pub rises_front : (ss ts : List Stamp) → Rises (ss ++ ts) → Rises ss
rises_front [] ts r = tt
rises_front (s ∷ ss) ts r = ((above_split s ss ts r.0).0, rises_front ss ts r.1)

pub rises_back : (ss ts : List Stamp) → Rises (ss ++ ts) → Rises ts
rises_back [] ts r = r
rises_back (s ∷ ss) ts r = rises_back ss ts r.1

-- what stands behind rising stamps_along is above all of them
pub behind : (ss rest : List Stamp) → Rises (ss ++ rest) → (s : Stamp) → In s ss → (t : Stamp) → In t rest → IsBelow s t
behind [] rest r s i t j = absurd i
behind (u ∷ us) rest r s i t j = elim i [
  | inl e ↦ rw e (above_in u rest t (above_split u us rest r.0).1 j)
  | inr k ↦ behind us rest r.1 s k t j
]

pub rises_pre : (xs ys : List Batch) → IsPrefix xs ys → Rises (stamps_along ys) → Rises (stamps_along xs)
rises_pre xs ys p r = rises_front (stamps_along xs) (stamps_along p.0) (subst (λ z. Rises z) (sym (sym (stamps_along-append xs p.0) ∙ ap stamps_along p.1)) r)

-- ---- the last stamp ----
pub last_is : (s : Stamp) (ss : List Stamp) → (t : Stamp) × In t (s ∷ ss) × (last_stamp (s ∷ ss) ≡ Some t)
last_is s [] = (s, inl refl, refl)
last_is s (t ∷ ts) = let k = last_is t ts in (k.0, inr k.1, k.2)

abbrev pub top_among : List Stamp → ℕ
top_among ss = option_map_or (λ s. s.epoch) (last_stamp ss) 0

pub top_in : (s : Stamp) (ss : List Stamp) → (t : Stamp) × In t (s ∷ ss) × (top_among (s ∷ ss) ≡ t.epoch)
top_in s ss = let k = last_is s ss in (k.0, k.1, ap (λ o. option_map_or (λ s. s.epoch) o 0) k.2)

-- no stamp is above the last_seq
pub below_last : (s : Stamp) (ss : List Stamp) → Rises (s ∷ ss) → (t : Stamp) → last_stamp (s ∷ ss) ≡ Some t → (u : Stamp) → In u (s ∷ ss) → (u ≡ t) ⊎ IsBelow u t
below_last s [] r t e u i = elim i [ inl q ↦ (let n = e in inl (cc)) | inr j ↦ absurd j ]
below_last s (v ∷ vs) r t e u i = elim i [
  | inl q ↦ elim (below_last v vs r.1 t e v (inl refl)) [ inl p ↦ inr (rw (q, ← p) r.0.0) | inr p ↦ inr (rw q (below_trans s v t r.0.0 p)) ]
  | inr j ↦ below_last v vs r.1 t e u j
]
  where
    below_trans : (a b c : Stamp) → IsBelow a b → IsBelow b c → IsBelow a c
    below_trans a b c p q = grind arith

-- no epoch is above the last_seq stamp's
pub top_above : (ss : List Stamp) → Rises ss → (t : Stamp) → In t ss → t.epoch ≤ top_among ss
top_above [] r t i = absurd i
top_above (s ∷ ss) r t i =
    let k = last_is s ss in
    let is : top_among (s ∷ ss) ≡ k.0.epoch = ap (λ o. option_map_or (λ s. s.epoch) o 0) k.2 in
    elim (below_last s ss r k.0 k.2 t i) [
      | inl e ↦ (let f : t.epoch ≡ k.0.epoch = ap (λ (x : Stamp). x.epoch) e in omega (arith, is))
      | inr b ↦ elim b [ inl a ↦ omega (arith, is) | inr a ↦ omega (arith, a.0, is) ]
    ]

-- ---- the last seq of an epoch ----
-- it is some stamp's, or 0
pub last_seq_among_in : (ss : List Stamp) (e : ℕ) → (last_seq_among ss e ≡ 0) ⊎ ((t : Stamp) × In t ss × (t.epoch ≡ e) × (t.seq ≡ last_seq_among ss e))
last_seq_among_in [] e = inl refl
last_seq_among_in (s ∷ ss) e = elim (eqb_tells s.epoch e) [
  | inl t ↦ rw t.0 (elim (last_seq_among_in ss e) [
    | inl z ↦ inr (s, inl refl, t.1, rw z (omega arith))
    | inr k ↦ elim (max_is s.seq (last_seq_among ss e)) [ inl m ↦ inr (s, inl refl, t.1, sym m) | inr m ↦ inr (k.0, inr k.1, k.2, k.3 ∙ sym m) ]
  ])
  | inr t ↦ rw t.0 (elim (last_seq_among_in ss e) [ inl z ↦ inl z | inr k ↦ inr (k.0, inr k.1, k.2, k.3) ])
]
  where
    max_is : (a b : ℕ) → (max a b ≡ a) ⊎ (max a b ≡ b)
    max_is a b = grind arith

pub last_seq_among_above : (ss : List Stamp) (t : Stamp) → In t ss → t.seq ≤ last_seq_among ss t.epoch
last_seq_among_above [] t i = absurd i
last_seq_among_above (s ∷ ss) t i = elim i [
  | inl e ↦ rw e (elim (eqb_tells s.epoch s.epoch) [ inl p ↦ rw p.0 (omega arith) | inr p ↦ absurd (p.1 refl) ])
  | inr j ↦ (let k = last_seq_among_above ss t j in elim (eqb_tells s.epoch t.epoch) [ inl p ↦ rw p.0 (omega arith) | inr p ↦ rw p.0 k ])
]

pub last_seq_among_up : (ss rest : List Stamp) (e : ℕ) → last_seq_among ss e ≤ last_seq_among (ss ++ rest) e
last_seq_among_up ss rest e = omega (arith, last_seq_among-append ss rest e)

-- what stands behind rising stamps_along is above their cut
pub behind_high : (ss rest : List Stamp) → Rises (ss ++ rest) → (t : Stamp) → In t rest → 0 < t.epoch → t.epoch ≤ top_among ss → t.seq ≤ last_seq_among ss t.epoch → ⊥
behind_high [] rest r t i born a b = omega arith
behind_high (s ∷ ss) rest r t i born a b =
    let k = top_in s ss in
    let up : IsBelow k.0 t = behind (s ∷ ss) rest r k.0 k.1 t i in
    elim (last_seq_among_in (s ∷ ss) t.epoch) [
      | inl z ↦ elim up [ inl p ↦ omega (arith, k.2) | inr p ↦ omega (arith, p.1, z) ]
      | inr m ↦ elim (behind (s ∷ ss) rest r m.0 m.1 t i) [ inl p ↦ omega (arith, m.2) | inr p ↦ omega (arith, p.1, m.3) ]
    ]

pub top_up : (ss rest : List Stamp) → Rises (ss ++ rest) → top_among ss ≤ top_among (ss ++ rest)
top_up [] rest r = omega arith
top_up (s ∷ ss) rest r = let k = top_in s ss in let up = top_above ((s ∷ ss) ++ rest) r k.0 (in_prefix (s ∷ ss) rest k.0 k.1) in omega (arith, k.2)

-- an epoch below the top_epoch is settled
pub settled : (ss rest : List Stamp) → Rises (ss ++ rest) → (e : ℕ) → e < top_among ss → last_seq_among (ss ++ rest) e ≤ last_seq_among ss e
settled [] rest r e h = absurd (omega arith)
settled (s ∷ ss) rest r e h = elim (last_seq_among_in ((s ∷ ss) ++ rest) e) [
  | inl z ↦ omega arith
  | inr m ↦ elim (in_split (s ∷ ss) rest m.0 m.1) [
    | inl i ↦ (let k = last_seq_among_above (s ∷ ss) m.0 i in let k2 = subst (λ n. m.0.seq ≤ last_seq_among (s ∷ ss) n) m.2 k in omega (arith, m.3))
    | inr i ↦ (let t = top_in s ss in absurd (elim (behind (s ∷ ss) rest r t.0 t.1 m.0 i) [ inl a ↦ omega (arith, t.2, m.2) | inr a ↦ omega (arith, a.0, t.2, m.2) ]))
  ]
]
