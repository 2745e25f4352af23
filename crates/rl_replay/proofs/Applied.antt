-- The stamps of what was applied, and finding a stamp among items in order.
use Rattle.std.proofs.Common.{◌≡◌, ◌⊎◌, ℕ, ◌+◌, ◌-◌, ◌<◌, ◌≤◌, List, [], ◌∷◌, ◌++◌, length, get_or, cond, true, false, ◌&&◌, ◌||◌, ◌==◌, nat_lt, sym, ap, ◌∙◌, subst, arith, inl, inr, true≢false}
use Rattle.std.specs.BTreeSet.{BTreeSet, contains, Updates}
use Rattle.std.specs.List.Sorted.{IsPartitionedBy, IsPartitionPoint}
use Rattle.std.specs.List.{list_any}
use Rattle.std.specs.BTreeMap.{is_at}
use Rattle.std.specs.Cmp.{Equal-is, eq_by_cmp_equiv}
use Rattle.std.proofs.lemmas.Bool.{cases_Bool, cases_lt}
use Rattle.std.proofs.lemmas.List.{get_or_default}
use Rattle.std.proofs.lemmas.Bool.Decides.{nat_tests}
use Rattle.std.proofs.lemmas.List.Elements.{Contains-push, Contains-push_cases, Contains-append_left}
use Rattle.std.proofs.lemmas.Option.{slice_get-get_or, same_Some}
use Rattle.rl_base.specs.declared.stamp.Stamp.{Stamp}
use Rattle.rl_base.specs.Order.{is_below}
use Rattle.rl_base.proofs.OrderLemmas.{not_below_self, not_below_chain, same_stamp}
use Rattle.rl_value.specs.Rows.{place_cmp}
use Rattle.rl_value.proofs.PlacesLemmas.{places_total, same_place}
use Rattle.rl_txn.specs.declared.item.Item.{Item}
use Rattle.rl_families.specs.Order.{IsInOrder}
use Rattle.rl_replay.specs.Replay.{HasStamp}
use Rattle.rl_replay.specs.Kept.{AreStampsOf}

-- items in order fall into those below a stamp and the others
pub parted : (items : List Item) (s : Stamp) → IsInOrder items → IsPartitionedBy (λ x. is_below x.stamp s) items
parted items s up i j d le l t = elim (same_or_less i j le) [
  | inl e ↦ subst (λ n. is_below (get_or items n d).stamp s ≡ true) (sym e) t
  | inr lt ↦ (let up2 = up i j d lt l in down (get_or items i d).stamp (get_or items j d).stamp up2 t)
]
  where
    same_or_less : (a b : ℕ) → a ≤ b → (a ≡ b) ⊎ (a < b)
    same_or_less a b h = grind arith

    down : (x y : Stamp) → is_below y x ≡ false → is_below y s ≡ true → is_below x s ≡ true
    down x y a b = elim (cases_Bool (is_below x s)) [
      | inl t ↦ t
      | inr n ↦ absurd (true≢false (sym b ∙ not_below_chain s x y n a))
    ]

-- items in order go on with one that is not below the last of them
pub order_goes_on : (items : List Item) (n : ℕ) → 1 ≤ n → n < length items → ((a b : ℕ) (d : Item) → a < b → b < n → is_below (get_or items b d).stamp (get_or items a d).stamp ≡ false) → (x y : Item)
    → is_below (get_or items n x).stamp (get_or items (n - 1) y).stamp ≡ false
    → (a b : ℕ) (d : Item) → a < b → b < n + 1 → is_below (get_or items b d).stamp (get_or items a d).stamp ≡ false
order_goes_on items n some within before x y last a b d lt less = elim (cases_lt b n) [
  | inl l ↦ before a b d lt l
  | inr g ↦ subst (λ m. is_below (get_or items m d).stamp (get_or items a d).stamp ≡ false) (let e : n ≡ b = omega arith in e) (elim (cases_lt a (n - 1)) [
    | inl l ↦ not_below_chain (get_or items a d).stamp (get_or items (n - 1) d).stamp (get_or items n d).stamp (before a (n - 1) d l (omega arith)) here
    | inr k ↦ subst (λ m. is_below (get_or items n d).stamp (get_or items m d).stamp ≡ false) (let e : n - 1 ≡ a = omega arith in e) here
  ])
]
  where
    here : is_below (get_or items n d).stamp (get_or items (n - 1) d).stamp ≡ false
    here = rw (get_or_default items n d x within, get_or_default items (n - 1) d y (omega arith)) last

-- a stamp is that of the first item that is not below it, or of none
pub found_first : (items : List Item) (s : Stamp) (n : ℕ) → IsInOrder items → IsPartitionPoint (λ x. is_below x.stamp s ≡ true) (λ x. is_below x.stamp s ≡ false) items n
    → HasStamp items s → (d : Item) → (n < length items) × ((get_or items n d).stamp.epoch ≡ s.epoch) × ((get_or items n d).stamp.seq ≡ s.seq)
found_first items s n up p h d =
    let k = h.0 in
    let x = h.1 in
    let xs : x.stamp ≡ s = same_stamp x.stamp s h.4.0 h.4.1 in
    let same : (get_or items k d).stamp ≡ s = ap (λ (z : Item). z.stamp) (sym (other_default items k x d h.2) ∙ h.3) ∙ xs in
    let beyond : n ≤ k = elim (below_or_not k n) [
      | inl l ↦ absurd (true≢false (sym (p.0 k d (omega arith) l) ∙ ap (λ (z : Stamp). is_below z s) same ∙ not_below_self s))
      | inr g ↦ g
    ] in
    let within : n < length items = omega (arith, h.2) in
    let low : is_below (get_or items n d).stamp s ≡ false = p.1 n d (omega arith) within in
    let high : is_below s (get_or items n d).stamp ≡ false = elim (same_or_less n k beyond) [
      | inl e ↦ ap (λ z. is_below s (get_or items z d).stamp) e ∙ ap (is_below s) same ∙ not_below_self s
      | inr l ↦ ap (λ z. is_below z (get_or items n d).stamp) (sym same) ∙ up n k d l h.2
    ] in
    let e = apart (get_or items n d).stamp.epoch s.epoch (get_or items n d).stamp.seq s.seq low high in
    (within, e.0, e.1)
  where
    other_default : (xs : List Item) (k : ℕ) (a b : Item) → k < length xs → get_or xs k a ≡ get_or xs k b
    other_default xs k a b l = same_Some (get_or xs k a) (get_or xs k b) (sym (slice_get-get_or xs k a l) ∙ slice_get-get_or xs k b l)

    below_or_not : (a b : ℕ) → (a < b) ⊎ (b ≤ a)
    below_or_not a b = grind arith

    same_or_less : (a b : ℕ) → a ≤ b → (a ≡ b) ⊎ (a < b)
    same_or_less a b h = grind arith

    apart : (a c b d : ℕ) → (nat_lt a c || ((a == c) && nat_lt b d)) ≡ false → (nat_lt c a || ((c == a) && nat_lt d b)) ≡ false → (a ≡ c) × (b ≡ d)
    apart a c b d h k = (grind (arith, nat_tests), grind (arith, nat_tests))

pub stamp_here : (items : List Item) (s : Stamp) (n : ℕ) (x : Item) → n < length items → get_or items n x ≡ x → x.stamp.epoch ≡ s.epoch → x.stamp.seq ≡ s.seq → HasStamp items s
stamp_here items s n x l e a b = (n, x, l, e, (a, b))

-- ---- the kept stamps ----
abbrev key_of : Item → ℕ × ℕ
key_of x = (x.stamp.epoch, x.stamp.seq)

pub no_stamps : (stamps : BTreeSet (ℕ × ℕ)) (items : List Item) → stamps.keys ≡ [] → items ≡ [] → AreStampsOf items stamps
no_stamps stamps items k e q = (
  λ t. absurd (true≢false (sym t ∙ ap (list_any (is_at (place_cmp q))) k)),
  λ h. absurd (let l : h.0 < length items = h.2 in let z : length items ≡ 0 = ap length e in omega arith),
)

pub stamps_more : (items : List Item) (old new : BTreeSet (ℕ × ℕ)) (x : Item) → AreStampsOf items old → Updates place_cmp old new (x.stamp.epoch, x.stamp.seq) true → AreStampsOf (items ++ x ∷ []) new
stamps_more items old new x h u q = (
  λ t. elim (cases_Bool (is_at (place_cmp (key_of x)) q)) [
    | inl a ↦ (let e : (key_of x) ≡ q = same_place (key_of x) q ((Equal-is (place_cmp (key_of x) q)).0 a) in has_last q (ap (λ (z : ℕ × ℕ). z.0) e) (ap (λ (z : ℕ × ℕ). z.1) e))
    | inr n ↦ (let o : contains place_cmp old q ≡ true = ap (λ b. cond b true (contains place_cmp old q)) (sym n) ∙ sym (u.0 q) ∙ t in has_front q ((h q).0 o))
  ],
  λ s. elim (cases_Bool (is_at (place_cmp (key_of x)) q)) [
    | inl a ↦ u.0 q ∙ ap (λ b. cond b true (contains place_cmp old q)) a
    | inr n ↦ elim (Contains-push_cases items x s.1 (s.0, s.2, s.3)) [
      | inl c ↦ u.0 q ∙ ap (λ b. cond b true (contains place_cmp old q)) n ∙ (h q).1 (c.0, s.1, c.1, c.2, s.4)
      | inr e ↦ absurd (true≢false (sym self ∙ ap (is_at (place_cmp (key_of x))) (sym (this q (ap (λ (z : Item). z.stamp.epoch) e ∙ s.4.0) (ap (λ (z : Item). z.stamp.seq) e ∙ s.4.1))) ∙ n))
    ]
  ],
)
  where
    self : is_at (place_cmp (key_of x)) (key_of x) ≡ true
    self = (eq_by_cmp_equiv places_total).refl (key_of x)

    this : (q : ℕ × ℕ) → x.stamp.epoch ≡ q.0 → x.stamp.seq ≡ q.1 → q ≡ key_of x
    this q a b = let pair : ℕ → ℕ → ℕ × ℕ = λ m n. (m, n) in sym (ap (λ z. pair z x.stamp.seq) a ∙ ap (pair q.0) b)

    has_last : (q : ℕ × ℕ) → x.stamp.epoch ≡ q.0 → x.stamp.seq ≡ q.1 → HasStamp (items ++ x ∷ []) (record { epoch = q.0; seq = q.1 })
    has_last q a b = let c = Contains-push items x in (c.0, x, c.1, c.2, (a, b))

    has_front : (q : ℕ × ℕ) → HasStamp items (record { epoch = q.0; seq = q.1 }) → HasStamp (items ++ x ∷ []) (record { epoch = q.0; seq = q.1 })
    has_front q s = let c = Contains-append_left items (x ∷ []) s.1 (s.0, s.2, s.3) in (c.0, s.1, c.1, c.2, s.4)
