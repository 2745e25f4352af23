-- The last stamps of a stream, as stamps are noted and put back.
use Rattle.std.proofs.Common.{◌≡◌, ◌≢◌, ◌⊎◌, ℕ, zero, suc, ◌-◌, ◌<◌, ◌≤◌, max, List, [], ◌∷◌, ◌++◌, length, take, ◌==◌, Option, Some, None, refl, sym, ap, ◌∙◌, subst, arith, inl, inr}
use Rattle.std.specs.Prelude.{slice_set}
use Rattle.std.specs.Option.{option_or, option_map}
use Rattle.std.proofs.lemmas.Bool.{cases_Bool}
use Rattle.std.proofs.lemmas.Bool.Decides.{eqb_tells}
use Rattle.std.proofs.lemmas.List.{append-nil, append_assoc}
use Rattle.rl_base.specs.declared.stamp.Stamp.{Stamp}
use Rattle.rl_base.proofs.Members.{In, in_prefix, in_suffix, in_split}
use Rattle.rl_families.specs.Logs.{last_stamp, last_seq_among}
use Rattle.rl_families.proofs.Rising.{Rises, above_in, above_append, rises_front, last_is}
use Rattle.rl_cut.specs.Kept.{AreLastOf}
use Rattle.rl_cut.specs.declared.lasts.Tail.{Tail}
use Rattle.rl_cut.specs.Lasts.{noted, all_noted, tail_of, LeadsBack}
use Rattle.rl_cut.proofs.ByEpoch.{Climbs}
use Rattle.rl_cut.proofs.Folds.{last_stamp-append}
use Rattle.rl_cut.proofs.LastStamps.{last_same, lasts_append, lasts_trans, lasts_replaced}

noted_in : (ss : List Stamp) (s u : Stamp) → In u (noted ss s) → In u ss ⊎ (u ≡ s)
noted_in [] s u i = elim i [ inl e ↦ inr e | inr j ↦ absurd j ]
noted_in (l ∷ []) s u i = elim (cases_Bool (l.epoch == s.epoch)) [
  | inl t ↦ elim (rw t at i) [ inl e ↦ inr e | inr j ↦ absurd j ]
  | inr t ↦ elim (rw t at i) [ inl e ↦ inl (inl e) | inr j ↦ elim j [ inl e ↦ inr e | inr k ↦ absurd k ] ]
]
noted_in (l ∷ (m ∷ ls)) s u i = elim i [ inl e ↦ inl (inl e) | inr j ↦ elim (noted_in (m ∷ ls) s u j) [ inl k ↦ inl (inr k) | inr e ↦ inr e ] ]

-- ---- one stamp more ----
noted_rises : (ss : List Stamp) (s : Stamp) (rest : List Stamp) → Rises (ss ++ s ∷ rest) → Rises (noted ss s ++ rest)
noted_rises [] s rest r = r
noted_rises (l ∷ []) s rest r = elim (cases_Bool (l.epoch == s.epoch)) [ inl t ↦ rw t r.1 | inr t ↦ rw t r ]
noted_rises (l ∷ (m ∷ ls)) s rest r = (above_append l [] (noted (m ∷ ls) s ++ rest) tt (λ u i. above_in l ((m ∷ ls) ++ s ∷ rest) u r.0 (was u i)), noted_rises (m ∷ ls) s rest r.1)
  where
    was : (u : Stamp) → In u (noted (m ∷ ls) s ++ rest) → In u ((m ∷ ls) ++ s ∷ rest)
    was u i = elim (in_split (noted (m ∷ ls) s) rest u i) [
      | inl j ↦ elim (noted_in (m ∷ ls) s u j) [ inl k ↦ in_prefix (m ∷ ls) (s ∷ rest) u k | inr e ↦ in_suffix (m ∷ ls) (s ∷ rest) u (inl e) ]
      | inr j ↦ in_suffix (m ∷ ls) (s ∷ rest) u (inr j)
    ]

noted_climbs : (ss : List Stamp) (s : Stamp) → Climbs ss → Rises (ss ++ s ∷ []) → Climbs (noted ss s)
noted_climbs [] s c r = (λ t i. absurd i, tt)
noted_climbs (l ∷ []) s c r = elim (eqb_tells l.epoch s.epoch) [
  | inl t ↦ rw t.0 (λ u i. absurd i, tt)
  | inr t ↦ rw t.0 (λ u i. elim i [ inl e ↦ rw e (above t.1) | inr j ↦ absurd j ], (λ u i. absurd i, tt))
]
  where
    above : l.epoch ≢ s.epoch → l.epoch < s.epoch
    above n = elim r.0.0 [ inl a ↦ a | inr b ↦ absurd (n b.0) ]
noted_climbs (l ∷ (m ∷ ls)) s c r = (λ t i. elim (noted_in (m ∷ ls) s t i) [ inl j ↦ c.0 t j | inr e ↦ rw e above ], noted_climbs (m ∷ ls) s c.1 r.1)
  where
    above : l.epoch < s.epoch
    above =
        let a = c.0 m (inl refl) in
        elim (above_in m (ls ++ s ∷ []) s r.1.0 (in_suffix ls (s ∷ []) s (inl refl))) [ inl b ↦ omega arith | inr b ↦ omega (arith, b.0) ]

noted_stamp : (ss : List Stamp) (s : Stamp) → last_stamp (noted ss s) ≡ last_stamp (ss ++ s ∷ [])
noted_stamp [] s = refl
noted_stamp (l ∷ []) s = elim (cases_Bool (l.epoch == s.epoch)) [ inl t ↦ rw t refl | inr t ↦ rw t refl ]
noted_stamp (l ∷ (m ∷ ls)) s =
    last_stamp-append (l ∷ []) (noted (m ∷ ls) s) ∙ ap (λ o. option_or o (Some l)) (noted_stamp (m ∷ ls) s) ∙ sym (last_stamp-append (l ∷ []) ((m ∷ ls) ++ s ∷ []))

noted_seqs : (ss : List Stamp) (s : Stamp) (e : ℕ) → Rises (ss ++ s ∷ []) → last_seq_among (noted ss s) e ≡ last_seq_among (ss ++ s ∷ []) e
noted_seqs [] s e r = refl
noted_seqs (l ∷ []) s e r = elim (eqb_tells l.epoch s.epoch) [
  | inl t ↦ rw t.0 ((lasts_replaced [] l s t.1 (up t.1)).seqs e)
  | inr t ↦ rw t.0 refl
]
  where
    up : l.epoch ≡ s.epoch → l.seq ≤ s.seq
    up same = elim r.0.0 [ inl a ↦ absurd (omega arith) | inr b ↦ (let q = b.1 in omega arith) ]
noted_seqs (l ∷ (m ∷ ls)) s e r = elim (cases_Bool (l.epoch == e)) [
  | inl t ↦ rw t (ap (max l.seq) (noted_seqs (m ∷ ls) s e r.1))
  | inr t ↦ rw t (noted_seqs (m ∷ ls) s e r.1)
]

-- ---- all stamps of a batch ----
pub noted_append : (ss ts : List Stamp) (s : Stamp) → all_noted ss (ts ++ s ∷ []) ≡ noted (all_noted ss ts) s
noted_append ss [] s = refl
noted_append ss (t ∷ ts) s = noted_append (noted ss t) ts s

pub noted_are_last : (ss ts : List Stamp) → Rises (ss ++ ts) → AreLastOf (ss ++ ts) (all_noted ss ts)
noted_are_last ss [] r = subst (λ z. AreLastOf z ss) (sym (append-nil ss)) (last_same ss)
noted_are_last ss (t ∷ ts) r =
    let all : Rises ((ss ++ t ∷ []) ++ ts) = subst Rises (sym (append_assoc ss (t ∷ []) ts)) r in
    let front : Rises (ss ++ t ∷ []) = rises_front (ss ++ t ∷ []) ts all in
    let one : AreLastOf (ss ++ t ∷ []) (noted ss t) = record { last = noted_stamp ss t; seqs = λ e. noted_seqs ss t e front } in
    subst (λ z. AreLastOf z (all_noted (noted ss t) ts)) (append_assoc ss (t ∷ []) ts)
    (lasts_trans ((ss ++ t ∷ []) ++ ts) (noted ss t ++ ts) (all_noted (noted ss t) ts) (lasts_append (ss ++ t ∷ []) (noted ss t) ts one) (noted_are_last (noted ss t) ts (noted_rises ss t ts r)))

pub noted_climb : (ss ts : List Stamp) → Climbs ss → Rises (ss ++ ts) → Climbs (all_noted ss ts)
noted_climb ss [] c r = c
noted_climb ss (t ∷ ts) c r =
    let front : Rises (ss ++ t ∷ []) = rises_front (ss ++ t ∷ []) ts (subst Rises (sym (append_assoc ss (t ∷ []) ts)) r) in
    noted_climb (noted ss t) ts (noted_climbs ss t c front) (noted_rises ss t ts r)

-- ---- the last one in its place ----
last_place : (ss : List Stamp) (n : ℕ) (t : Stamp) → length ss ≡ suc n → last_stamp ss ≡ Some t → take n ss ++ t ∷ [] ≡ ss
last_place [] n t l h = absurd (omega arith)
last_place (x ∷ []) zero t l h = let e : x ≡ t = cc in ap (λ z. z ∷ []) (sym e)
last_place (x ∷ []) (suc n) t l h = absurd (omega arith)
last_place (x ∷ (y ∷ ys)) zero t l h = absurd (omega arith)
last_place (x ∷ (y ∷ ys)) (suc n) t l h = ap (λ z. x ∷ z) (last_place (y ∷ ys) n t (omega arith) h)

-- one of the same epoch takes its place
pub noted_in_place : (ss : List Stamp) (n : ℕ) (t s : Stamp) → length ss ≡ suc n → last_stamp ss ≡ Some t → t.epoch ≡ s.epoch → slice_set ss n s ≡ noted ss s
noted_in_place [] n t s l h e = absurd (omega arith)
noted_in_place (x ∷ []) zero t s l h e = elim (eqb_tells x.epoch s.epoch) [
  | inl p ↦ rw p.0 refl
  | inr p ↦ absurd (p.1 (let q : x ≡ t = cc in ap (λ (z : Stamp). z.epoch) q ∙ e))
]
noted_in_place (x ∷ []) (suc n) t s l h e = absurd (omega arith)
noted_in_place (x ∷ (y ∷ ys)) zero t s l h e = absurd (omega arith)
noted_in_place (x ∷ (y ∷ ys)) (suc n) t s l h e = ap (λ z. x ∷ z) (noted_in_place (y ∷ ys) n t s (omega arith) h e)

-- another stands behind it
pub noted_behind : (ss : List Stamp) (s : Stamp) → ((t : Stamp) → last_stamp ss ≡ Some t → t.epoch ≢ s.epoch) → ss ++ s ∷ [] ≡ noted ss s
noted_behind [] s h = refl
noted_behind (x ∷ []) s h = elim (eqb_tells x.epoch s.epoch) [ inl p ↦ absurd (h x refl p.1) | inr p ↦ rw p.0 refl ]
noted_behind (x ∷ (y ∷ ys)) s h = ap (λ z. x ∷ z) (noted_behind (y ∷ ys) s h)

-- ---- putting back ----
noted_length : (ss : List Stamp) (s : Stamp) → length ss ≤ length (noted ss s)
noted_length [] s = omega arith
noted_length (x ∷ []) s = elim (cases_Bool (x.epoch == s.epoch)) [ inl t ↦ rw t (omega arith) | inr t ↦ rw t (omega arith) ]
noted_length (x ∷ (y ∷ ys)) s = let k = noted_length (y ∷ ys) s in omega arith

noted_take : (ss : List Stamp) (s : Stamp) (n : ℕ) → n < length ss → take n (noted ss s) ≡ take n ss
noted_take [] s n l = absurd (omega arith)
noted_take (x ∷ []) s zero l = refl
noted_take (x ∷ []) s (suc n) l = absurd (omega arith)
noted_take (x ∷ (y ∷ ys)) s zero l = refl
noted_take (x ∷ (y ∷ ys)) s (suc n) l = ap (λ z. x ∷ z) (noted_take (y ∷ ys) s n (omega arith))

pub noted_back : (tail : Option Tail) (now before : List Stamp) (s : Stamp) → LeadsBack tail now before → LeadsBack tail (noted now s) before
noted_back None now before s h = record { within = tt; back = h.back }
noted_back (Some tail) now before s h = record {
  within = (let a = h.within in let b = noted_length now s in (a.0, omega (arith, a.1)));
  back = (let a = h.within in ap (λ z. z ++ tail.last ∷ []) (noted_take now s (tail.count - 1) (omega (arith, a.0, a.1))) ∙ h.back);
}

pub leads_back : (ss : List Stamp) → LeadsBack (tail_of ss) ss ss
leads_back [] = record { within = tt; back = refl }
leads_back (s ∷ ss) =
    let k = last_is s ss in
    let n : length (s ∷ ss) ≡ suc (length (s ∷ ss) - 1) = omega arith in
    let with : Stamp → Tail = λ t. record { count = length (s ∷ ss); last = t } in
    subst (λ o. LeadsBack (option_map with o) (s ∷ ss) (s ∷ ss)) (sym k.2)
    (record { within = (omega arith, omega arith); back = last_place (s ∷ ss) (length (s ∷ ss) - 1) k.0 n k.2 })

-- what the end of some stamps tells of them
pub tail_tells : (ss : List Stamp) (tail : Tail) → Some tail ≡ tail_of ss → (last_stamp ss ≡ Some tail.last) × (length ss ≡ tail.count) × (0 < length ss)
tail_tells [] tail h = absurd (cc)
tail_tells (s ∷ ss) tail h =
    let k = last_is s ss in
    let with : Stamp → Tail = λ t. record { count = length (s ∷ ss); last = t } in
    let e : Some tail ≡ Some (with k.0) = h ∙ ap (option_map with) k.2 in
    let f : tail ≡ with k.0 = cc in
    (k.2 ∙ sym (ap (λ (t : Tail). Some t.last) f), sym (ap (λ (t : Tail). t.count) f), omega arith)

pub no_tail : (ss : List Stamp) → tail_of ss ≡ None → (t : Stamp) → last_stamp ss ≡ Some t → ⊥
no_tail ss h t e =
    let with : Stamp → Tail = λ t. record { count = length ss; last = t } in
    let k : Some (with t) ≡ None = sym (ap (option_map with) e) ∙ h in cc
