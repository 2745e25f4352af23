-- Families whose items have different stamps: their histories rise strictly.
use Rattle.std.proofs.Common.{◌≡◌, ◌≢◌, ℕ, zero, suc, ◌-◌, ◌<◌, List, [], ◌∷◌, length, get_or, AllPairs, All, refl, sym, subst, arith, inl, inr}
use Rattle.std.specs.List.{filter, flat_map}
use Rattle.std.proofs.lemmas.Bool.{cases_Bool}
use Rattle.std.proofs.lemmas.List.Elements.{Contains-get_or}
use Rattle.rl_base.specs.declared.stamp.Stamp.{Stamp}
use Rattle.rl_base.specs.Lists.{IsPrefix}
use Rattle.rl_base.specs.Order.{is_below}
use Rattle.rl_base.proofs.OrderLemmas.{is_below_tells, below_other}
use Rattle.rl_txn.specs.declared.item.Item.{Item}
use Rattle.rl_txn.specs.declared.batch.Batch.{Batch}
use Rattle.rl_families.specs.Logs.{stamps_along, items_along, IsRising}
use Rattle.rl_families.specs.Families.{is_counted, history, IsInside}
use Rattle.rl_families.specs.Streams.{log_at, IsStreamOf, HaveOtherStamps, IsStamped}
use Rattle.rl_base.proofs.Members.{In, contains_in, in_contains, all_in}
use Rattle.rl_families.proofs.Logs.{item_stamp}
use Rattle.rl_families.proofs.Rising.{Rises, rises_from}
use Rattle.rl_families.proofs.Strict.{Apart, Diff, Strict, append_diff, log_diff, filter_diff, in_order_strict}
use Rattle.rl_families.proofs.Streams.{in_logs}

-- of two different stamps one is below
pub stamps_apart : (x y : Item) → x.stamp ≢ y.stamp → Apart x y
stamps_apart x y n = elim (cases_Bool (is_below y.stamp x.stamp)) [
  | inl t ↦ inr (is_below_tells y.stamp x.stamp t)
  | inr t ↦ inl (is_below_tells x.stamp y.stamp (below_other x.stamp y.stamp t (λ e. n (sym e))))
]

-- the items of a list with different stamps
pub distinct_diff : (xs : List Item) → AllPairs (λ x y. x.stamp ≢ y.stamp) xs → Diff xs
distinct_diff [] h = tt
distinct_diff (x ∷ xs) h = (
  λ y i. (let c = in_contains xs y i in
      stamps_apart x y (subst (λ (z : Item). x.stamp ≢ z.stamp) c.2 (h 0 (suc c.0) y (omega arith) (omega (arith, c.1))))),
  distinct_diff xs (λ i j d a l. h (suc i) (suc j) d (omega arith) (omega arith)),
)

-- the items of logs with different stamps
pub logs_diff : (family : List (List Batch)) → ((log : List Batch) → In log family → Rises (stamps_along log)) → AllPairs HaveOtherStamps family → Diff (flat_map items_along family)
logs_diff [] r h = tt
logs_diff (l ∷ ls) r h = append_diff (items_along l) (flat_map items_along ls) (log_diff l (r l (inl refl)))
    (logs_diff ls (λ m i. r m (inr i)) (λ i j d a b. h (suc i) (suc j) d (omega arith) (omega arith)))
    (λ x y i j. let m = in_logs y ls j in
    let c = in_contains ls m.0 m.1 in
    let other : HaveOtherStamps l m.0 = subst (λ z. HaveOtherStamps l z) c.2 (h 0 (suc c.0) m.0 (omega arith) (omega (arith, c.1))) in
    stamps_apart x y (other x y (in_contains (items_along l) x i) (in_contains (items_along m.0) y m.2)))

-- ---- a family whose items have different stamps ----
pub log_in : (family : List (List Batch)) (s : ℕ) → IsStreamOf family s → In (log_at family s) family
log_in family s is = contains_in family (log_at family s) (Contains-get_or family (s - 1) [] (omega (arith, is.low, is.high)))

module _ (family : List (List Batch)) (g : IsStamped family) where
  pub rises_in : (log : List Batch) → In log family → Rises (stamps_along log)
  rises_in log i = rises_from (stamps_along log) (all_in (λ z. IsRising (stamps_along z)) family g.rising log i)

  pub begun_in : (log : List Batch) → In log family → (x : Item) → In x (items_along log) → 0 < x.stamp.epoch
  begun_in log i x j = all_in (λ (s : Stamp). 0 < s.epoch) (stamps_along log) (all_in (λ z. All (λ (s : Stamp). 0 < s.epoch) (stamps_along z)) family g.begun log i) x.stamp (item_stamp log x j)

  pub history_strict : Strict (history family)
  history_strict = in_order_strict (filter (λ (x : Item). is_counted family x.stamp) (flat_map items_along family))
      (filter_diff (λ (x : Item). is_counted family x.stamp) (flat_map items_along family) (logs_diff family rises_in g.apart))

-- ---- a family inside another ----
pub inside_length : (family larger : List (List Batch)) → IsInside family larger → length family ≡ length larger
inside_length [] [] h = refl
inside_length [] (m ∷ ms) h = absurd h
inside_length (l ∷ ls) [] h = absurd h
inside_length (l ∷ ls) (m ∷ ms) h = let e = inside_length ls ms h.1 in omega arith

pub inside_log : (family larger : List (List Batch)) → IsInside family larger → (i : ℕ) → IsPrefix (get_or family i []) (get_or larger i [])
inside_log [] [] h i = ([], refl)
inside_log [] (m ∷ ms) h i = absurd h
inside_log (l ∷ ls) [] h i = absurd h
inside_log (l ∷ ls) (m ∷ ms) h zero = h.0
inside_log (l ∷ ls) (m ∷ ms) h (suc i) = inside_log ls ms h.1 i
