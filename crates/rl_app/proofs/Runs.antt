-- Items by seq, and workers in their places.
use Rattle.std.proofs.Common.{◌≡◌, ℕ, zero, suc, ◌-◌, ◌*◌, ◌^◌, ◌<◌, ◌≤◌, List, [], ◌∷◌, ◌++◌, length, get_or, slice_get, true, false, Some, refl, sym, ap, subst, arith}
use Rattle.std.specs.List.{insert}
use Rattle.rl_base.proofs.Tests.{lt_true, lt_false}
use Rattle.rl_txn.specs.declared.item.Item.{Item}
use Rattle.rl_worker.specs.Items.{CoreItem, insert_by_stamp}
use Rattle.rl_worker.specs.Opening.{item_seen, items_seen}
use Rattle.rl_app.specs.Running.{AllFrom, IsBySeq, IsInFirst}

from_lower : (s t : ℕ) (xs : List Item) → s ≤ t → AllFrom t xs → AllFrom s xs
from_lower s t [] l h = tt
from_lower s t (x ∷ xs) l h = (omega (arith, l, h.0), from_lower s t xs l h.1)

from_at : (s : ℕ) (xs : List Item) (j : ℕ) (d : Item) → AllFrom s xs → j < length xs → s ≤ (get_or xs j d).stamp.seq
from_at s [] j d h l = absurd (omega arith)
from_at s (x ∷ xs) zero d h l = h.0
from_at s (x ∷ xs) (suc j) d h l = from_at s xs j d h.1 (omega arith)

from_insert : (s : ℕ) (xs : List Item) (at : ℕ) (x : Item) → AllFrom s xs → s ≤ x.stamp.seq → AllFrom s (insert xs at x)
from_insert s [] zero x h l = (l, tt)
from_insert s [] (suc at) x h l = (l, tt)
from_insert s (y ∷ ys) zero x h l = (l, h)
from_insert s (y ∷ ys) (suc at) x h l = (h.0, from_insert s ys at x h.1 l)

-- where an item is to stand among others: before each of a greater seq, and after the others
pub record IsAt (x : Item) (ys : List Item) (at : ℕ) : Type 0 where
  pub inside : at ≤ length ys
  pub above : (j : ℕ) (d : Item) → at ≤ j → j < length ys → x.stamp.seq < (get_or ys j d).stamp.seq
  pub below : (d : Item) → 0 < at → (get_or ys (at - 1) d).stamp.seq ≤ x.stamp.seq

-- behind the first one
module _ (x y : Item) (ys : List Item) (at : ℕ) (is : IsAt x (y ∷ ys) (suc at)) where
  is_under : AllFrom y.stamp.seq ys → y.stamp.seq ≤ x.stamp.seq
  is_under f = go at is.below is.inside
    where
      go : (k : ℕ) → ((d : Item) → 0 < suc k → (get_or (y ∷ ys) (suc k - 1) d).stamp.seq ≤ x.stamp.seq) → suc k ≤ length (y ∷ ys) → y.stamp.seq ≤ x.stamp.seq
      go zero b m = b y (omega arith)
      go (suc k) b m =
          let n : suc (suc k) - 1 ≡ suc k = omega arith in
          let h : (get_or (y ∷ ys) (suc k) y).stamp.seq ≤ x.stamp.seq = subst (λ i. (get_or (y ∷ ys) i y).stamp.seq ≤ x.stamp.seq) n (b y (omega arith)) in
          let g : y.stamp.seq ≤ (get_or ys k y).stamp.seq = from_at y.stamp.seq ys k y f (omega arith) in
          omega (arith, h, g)

  is_later : IsAt x ys at
  is_later = record {
    inside = omega (arith, is.inside);
    above = λ j d a b. is.above (suc j) d (omega (arith, a)) (omega (arith, b));
    below = λ d a. down at d a is.below;
  }
    where
      down : (k : ℕ) (d : Item) → 0 < k → ((d : Item) → 0 < suc k → (get_or (y ∷ ys) (suc k - 1) d).stamp.seq ≤ x.stamp.seq) → (get_or ys (k - 1) d).stamp.seq ≤ x.stamp.seq
      down zero d a b = absurd (omega (arith, a))
      down (suc k) d a b =
          let n : suc (suc k) - 1 ≡ suc k = omega arith in
          let m : suc k - 1 ≡ k = omega arith in
          let h : (get_or ys k d).stamp.seq ≤ x.stamp.seq = subst (λ i. (get_or (y ∷ ys) i d).stamp.seq ≤ x.stamp.seq) n (b d (omega arith)) in
          subst (λ i. (get_or ys i d).stamp.seq ≤ x.stamp.seq) (sym m) h

-- items stay by seq as one joins
pub joins_by_seq : (x : Item) (ys : List Item) (at : ℕ) → IsBySeq ys → IsAt x ys at → IsBySeq (insert ys at x)
joins_by_seq x [] zero s is = (tt, tt)
joins_by_seq x [] (suc at) s is = absurd (omega (arith, is.inside))
joins_by_seq x (y ∷ ys) zero s is =
    let first : x.stamp.seq < y.stamp.seq = is.above 0 y (omega arith) (omega arith) in
    ((omega (arith, first), from_lower x.stamp.seq y.stamp.seq ys (omega (arith, first)) s.0), s)
joins_by_seq x (y ∷ ys) (suc at) s is =
    (from_insert y.stamp.seq ys at x s.0 (is_under x y ys at is s.0), joins_by_seq x ys at s.1 (is_later x y ys at is))

-- an item that joins by seq, as it is seen, joins the core's by stamp
pub joins_core : (x : CoreItem) (ys : List CoreItem) (at : ℕ) → IsInFirst x → IsBySeq (items_seen 1 ys) → IsAt (item_seen 1 x) (items_seen 1 ys) at → insert (items_seen 1 ys) at (item_seen 1 x) ≡ items_seen 1 (insert_by_stamp x ys)
joins_core x [] zero one s is = refl
joins_core x [] (suc at) one s is = absurd (omega (arith, is.inside))
joins_core x (y ∷ ys) zero one s is =
    let first : x.stamp - 1 * 2 ^ 40 < y.stamp - 1 * 2 ^ 40 = is.above 0 (item_seen 1 y) (omega arith) (omega arith) in
    rw (lt_true x.stamp y.stamp (omega (arith, first))) refl
joins_core x (y ∷ ys) (suc at) one s is =
    let under : y.stamp - 1 * 2 ^ 40 ≤ x.stamp - 1 * 2 ^ 40 = is_under (item_seen 1 x) (item_seen 1 y) (items_seen 1 ys) at is s.0 in
    rw (lt_false x.stamp y.stamp (omega (arith, under, one)))
    (ap (λ zs. item_seen 1 y ∷ zs) (joins_core x ys at one s.1 (is_later (item_seen 1 x) (item_seen 1 y) (items_seen 1 ys) at is)))

-- what stands in a list to which one more was appended
pub pushed : {X : Type 0} (P : ℕ → X → Type 0) (xs : List X) (x : X) → ((i : ℕ) (w : X) → slice_get xs i ≡ Some w → P i w) → P (length xs) x → (i : ℕ) (w : X) → slice_get (xs ++ x ∷ []) i ≡ Some w → P i w
pushed P [] x old new zero w e = let same : x ≡ w = cc in subst (P 0) same new
pushed P [] x old new (suc i) w e = absurd (cc)
pushed P (y ∷ ys) x old new zero w e = old zero w e
pushed P (y ∷ ys) x old new (suc i) w e = pushed (λ k. P (suc k)) ys x (λ k v f. old (suc k) v f) new i w e
