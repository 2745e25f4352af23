-- A stable sort by stamp has one answer: it puts the items in order.
use Rattle.std.proofs.Common.{◌≡◌, ℕ, suc, ◌+◌, ◌<◌, ◌≤◌, List, [], ◌∷◌, length, get_or, Bool, true, false, cond, refl, sym, ap, ◌∙◌, subst, arith, inl, inr, true≢false}
use Rattle.std.specs.List.{filter}
use Rattle.std.specs.List.Sorted.{IsSortedBy, IsStableBy, ties}
use Rattle.std.specs.Cmp.{IsStrictWeakOrder}
use Rattle.std.proofs.lemmas.List.Sorted.{sorted_far}
use Rattle.std.proofs.lemmas.List.Elements.{filter_agree}
use Rattle.std.proofs.lemmas.Bool.Decides.{nat_tests}
use Rattle.std.proofs.lemmas.Bool.{cases_Bool}
use Rattle.rl_base.proofs.OrderLemmas.{not_below_self}
use Rattle.rl_txn.specs.declared.item.Item.{Item}
use Rattle.rl_families.specs.Order.{in_order}
use Rattle.rl_base.proofs.Members.{In, in_filter}
use Rattle.rl_families.proofs.Sorting.{lower, lower_one_way, lower_chain, Least, Sorted, in_order_sorted, insert_first, in_order-filter, least_at}

lower_self : (x : Item) → lower x x ≡ false
lower_self x = not_below_self x.stamp

lower_order : IsStrictWeakOrder lower
lower_order = record { one_way = lower_one_way; chain = λ x y z a b. lower_chain z y x b a }

tie_self : (x : Item) → ties lower x x ≡ true
tie_self x = rw (lower_self x) refl

tie_from : (x y : Item) → lower x y ≡ false → lower y x ≡ false → ties lower x y ≡ true
tie_from x y a b = rw (a, b) refl

-- the first of ys is not above y if ys has what ties with y
head_not_above : (y z : Item) (zs rest : List Item) → Least z zs → filter (ties lower y) (z ∷ zs) ≡ y ∷ rest → lower y z ≡ false
head_not_above y z zs rest h e =
    elim (in_filter (ties lower y) y (z ∷ zs) (subst (λ l. In y l) (sym e) (inl refl))).0 [
      | inl s ↦ rw s (lower_self z)
      | inr j ↦ least_at z zs y h j
    ]

pub same_order : (ys zs : List Item) → Sorted ys → Sorted zs → ((x : Item) → filter (ties lower x) ys ≡ filter (ties lower x) zs) → ys ≡ zs
same_order [] [] a b h = refl
same_order [] (z ∷ zs) a b h = let k : [] ≡ z ∷ filter (ties lower z) zs = rw (tie_self z) at (h z) in absurd (let n = k in cc)
same_order (y ∷ ys) [] a b h = let k : y ∷ filter (ties lower y) ys ≡ [] = rw (tie_self y) at (h y) in absurd (let n = k in cc)
same_order (y ∷ ys) (z ∷ zs) a b h =
    let hy : y ∷ filter (ties lower y) ys ≡ filter (ties lower y) (z ∷ zs) = rw (tie_self y) at (h y) in
    let hz : filter (ties lower z) (y ∷ ys) ≡ z ∷ filter (ties lower z) zs = rw (tie_self z) at (h z) in
    let below_y = head_not_above y z zs (filter (ties lower y) ys) b.0 (sym hy) in
    let below_z = head_not_above z y ys (filter (ties lower z) zs) a.0 hz in
    let both : ties lower y z ≡ true = tie_from y z below_y below_z in
    let hy2 : y ∷ filter (ties lower y) ys ≡ z ∷ filter (ties lower y) zs = rw both at hy in
    let same : y ≡ z = (let n = hy2 in cc) in
    let tails : ys ≡ zs = same_order ys zs a.1 b.1 (λ x. tail_ties x (filter (ties lower x) ys) (filter (ties lower x) zs) (ties lower x y) (ties lower x z) y z (ap (ties lower x) same) (h x)) in
    (let e1 = same in let e2 = tails in cc)
  where
    tail_ties : (x : Item) (us vs : List Item) (p q : Bool) (y z : Item) → p ≡ q → cond p (y ∷ us) us ≡ cond q (z ∷ vs) vs → us ≡ vs
    tail_ties x us vs true true y z e h = let n = h in cc
    tail_ties x us vs true false y z e h = absurd (true≢false e)
    tail_ties x us vs false true y z e h = absurd (true≢false (sym e))
    tail_ties x us vs false false y z e h = h

-- items_along that tie with one stay as they are
in_order_ties : (x : Item) (ys : List Item) → in_order (filter (ties lower x) ys) ≡ filter (ties lower x) ys
in_order_ties x [] = refl
in_order_ties x (y ∷ ys) = elim (cases_Bool (ties lower x y)) [
  | inl t ↦ rw (t, in_order_ties x ys) (insert_first y (filter (ties lower x) ys) (all_tie y t ys))
  | inr t ↦ rw t (in_order_ties x ys)
]
  where
    chain : (y z : Item) → ties lower x y ≡ true → ties lower x z ≡ true → lower z y ≡ false
    chain y z a b = grind (arith, nat_tests)

    all_tie : (y : Item) → ties lower x y ≡ true → (zs : List Item) → Least y (filter (ties lower x) zs)
    all_tie y a [] = tt
    all_tie y a (z ∷ zs) = elim (cases_Bool (ties lower x z)) [ inl u ↦ rw u (chain y z a u, all_tie y a zs) | inr u ↦ rw u (all_tie y a zs) ]

-- each later item is above none before it
from_far : (xs : List Item) → ((i j : ℕ) (d : Item) → i ≤ j → j < length xs → lower (get_or xs j d) (get_or xs i d) ≡ false) → Sorted xs
from_far [] h = tt
from_far (x ∷ xs) h = (heads xs (λ k l. h 0 (suc k) x (omega arith) (omega arith)), from_far xs (λ i j d a l. h (suc i) (suc j) d (omega arith) (omega arith)))
  where
    heads : (ys : List Item) → ((k : ℕ) → k < length ys → lower (get_or ys k x) x ≡ false) → Least x ys
    heads [] g = tt
    heads (y ∷ ys) g = (g 0 (omega arith), heads ys (λ k l. g (suc k) (omega arith)))

-- a stable sort by stamp puts the items_along in order
pub sorts : (lt : Item → Item → Bool) (xs ys : List Item) → ((x y : Item) → lt x y ≡ lower x y) → IsSortedBy lt ys → IsStableBy lt xs ys → ys ≡ in_order xs
sorts lt xs ys agree up stable =
    same_order ys (in_order xs)
    (from_far ys (λ i j d a l. sorted_far lower lower_order ys (λ k d2 a2 l2. sym (agree (get_or ys (k + 1) d2) (get_or ys k d2)) ∙ up k d2 a2 l2) i j d a l))
    (in_order_sorted xs)
    (λ x. let same : (y : Item) → ties lower x y ≡ ties lt x y = (λ y. rw (agree x y, agree y x) refl) in
    filter_agree (ties lower x) (ties lt x) same ys ∙ stable x ∙ sym (filter_agree (ties lower x) (ties lt x) same xs)
    ∙ sym (sym (in_order-filter (ties lower x) xs) ∙ in_order_ties x xs))
