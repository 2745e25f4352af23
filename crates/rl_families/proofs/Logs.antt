-- The stamps and the items along the parts of a log.
use Rattle.std.proofs.Common.{◌≡◌, ◌⊎◌, ℕ, max, List, [], ◌∷◌, ◌++◌, ◌==◌, refl, sym, subst, arith, inl, inr}
use Rattle.std.proofs.lemmas.Grind.{flat_map-append}
use Rattle.std.proofs.lemmas.Bool.{cases_Bool}
use Rattle.rl_base.specs.declared.stamp.Stamp.{Stamp}
use Rattle.rl_txn.specs.declared.item.Item.{Item}
use Rattle.rl_txn.specs.declared.batch.Batch.{Batch}
use Rattle.rl_txn.specs.declared.batch.Batch.TheVariants.{Items, Idle, Opened}
use Rattle.rl_base.specs.Lists.{IsPrefix}
use Rattle.rl_families.specs.Logs.{stamps_in_batch, items_in_batch, stamps_along, items_along, last_seq_among}
use Rattle.rl_base.proofs.Members.{In, in_map, in_prefix, in_suffix, in_split}

pub stamps_along-append : (xs ys : List Batch) → stamps_along (xs ++ ys) ≡ stamps_along xs ++ stamps_along ys
stamps_along-append xs ys = flat_map-append stamps_in_batch xs ys

pub items_along-append : (xs ys : List Batch) → items_along (xs ++ ys) ≡ items_along xs ++ items_along ys
items_along-append xs ys = flat_map-append items_in_batch xs ys

-- the greatest of an epoch in two lists is the greater of both
pub last_seq_among-append : (xs ys : List Stamp) (e : ℕ) → last_seq_among (xs ++ ys) e ≡ max (last_seq_among ys e) (last_seq_among xs e)
last_seq_among-append [] ys e = max_zero (last_seq_among ys e)
  where
    max_zero : (n : ℕ) → n ≡ max n 0
    max_zero n = omega arith
last_seq_among-append (x ∷ xs) ys e = elim (cases_Bool (x.epoch == e)) [
  | inl t ↦ rw t (rw (last_seq_among-append xs ys e) (three x.seq (last_seq_among ys e) (last_seq_among xs e)))
  | inr t ↦ rw t (last_seq_among-append xs ys e)
]
  where
    three : (a b c : ℕ) → max a (max b c) ≡ max b (max a c)
    three a b c = omega arith

pub item_stamp_of : (b : Batch) (x : Item) → In x (items_in_batch b) → In x.stamp (stamps_in_batch b)
item_stamp_of (Items xs) x i = in_map (λ (y : Item). y.stamp) x xs i
item_stamp_of (Idle s) x i = absurd i
item_stamp_of (Opened s) x i = absurd i

pub item_stamp : (log : List Batch) (x : Item) → In x (items_along log) → In x.stamp (stamps_along log)
item_stamp [] x i = absurd i
item_stamp (b ∷ bs) x i = elim (in_split (items_in_batch b) (items_along bs) x i) [
  | inl j ↦ in_prefix (stamps_in_batch b) (stamps_along bs) x.stamp (item_stamp_of b x j)
  | inr j ↦ in_suffix (stamps_in_batch b) (stamps_along bs) x.stamp (item_stamp bs x j)
]

-- a prefix of two lists joined is one of the first, or goes past it
pub past_it : (f a b rest : List Batch) → f ++ rest ≡ a ++ b
    → IsPrefix f a ⊎ ((c : Batch) × (cs : List Batch) × (a ++ c ∷ cs ≡ f) × ((c ∷ cs) ++ rest ≡ b))
past_it [] a b rest e = inl (a, refl)
past_it (x ∷ xs) [] b rest e = inr (x, xs, refl, e)
past_it (x ∷ xs) (y ∷ ys) b rest e =
    let h : x ≡ y = cc in let t : xs ++ rest ≡ ys ++ b = cc in
    elim (past_it xs ys b rest t) [
      | inl k ↦ inl (k.0, (let k1 = k.1 in cc))
      | inr k ↦ inr (k.0, k.1, (let k2 = k.2 in cc), k.3)
    ]

-- ---- parts of a log ----
pub stamps_pre : (s : Stamp) (xs ys : List Batch) → IsPrefix xs ys → In s (stamps_along xs) → In s (stamps_along ys)
stamps_pre s xs ys p i = subst (λ z. In s (stamps_along z)) p.1 (subst (λ z. In s z) (sym (stamps_along-append xs p.0)) (in_prefix (stamps_along xs) (stamps_along p.0) s i))

pub items_pre : (x : Item) (xs ys : List Batch) → IsPrefix xs ys → In x (items_along xs) → In x (items_along ys)
items_pre x xs ys p i = subst (λ z. In x (items_along z)) p.1 (subst (λ z. In x z) (sym (items_along-append xs p.0)) (in_prefix (items_along xs) (items_along p.0) x i))

pub split_stamps : (s : Stamp) (xs ys : List Batch) → In s (stamps_along (xs ++ ys)) → In s (stamps_along xs) ⊎ In s (stamps_along ys)
split_stamps s xs ys i = in_split (stamps_along xs) (stamps_along ys) s (subst (λ z. In s z) (stamps_along-append xs ys) i)

pub split_items : (x : Item) (xs ys : List Batch) → In x (items_along (xs ++ ys)) → In x (items_along xs) ⊎ In x (items_along ys)
split_items x xs ys i = in_split (items_along xs) (items_along ys) x (subst (λ z. In x z) (items_along-append xs ys) i)

pub back_stamps : (s : Stamp) (xs ys : List Batch) → In s (stamps_along ys) → In s (stamps_along (xs ++ ys))
back_stamps s xs ys i = subst (λ z. In s z) (sym (stamps_along-append xs ys)) (in_suffix (stamps_along xs) (stamps_along ys) s i)
