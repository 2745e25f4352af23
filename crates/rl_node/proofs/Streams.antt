-- Logs of bytes that grow, and families that follow them.
use Rattle.std.proofs.Common.{◌≡◌, ℕ, zero, suc, ◌+◌, ◌-◌, ◌<◌, ◌≤◌, List, [], ◌∷◌, ◌++◌, length, take, drop, get_or, set, Bool, true, cond, is_some, Some, None, refl, sym, ap, ◌∙◌, subst, arith, inl, append-nil, length-set, get_or-set_same}
use Rattle.std.specs.Prelude.{slice_get}
use Rattle.std.specs.List.{cons_option}
use Rattle.std.proofs.lemmas.List.{take_more, take-append-drop}
use Rattle.std.proofs.lemmas.Option.{get_or_from_slice_get, slice_get_within}
use Rattle.rl_base.specs.Order.{IsBelow}
use Rattle.rl_base.specs.declared.stamp.Stamp.{Stamp}
use Rattle.rl_base.proofs.OrderLemmas.{is_below_from}
use Rattle.rl_base.proofs.Tests.{both}
use Rattle.rl_cut.specs.Refusals.{order_refusal, extend_refusal}
use Rattle.rl_cut.specs.declared.family.ExtendError.TheVariants.{Order}
use Rattle.rl_families.specs.Logs.{stamps_in_batch, stamps_along, IsRising, first_stamp, last_stamp}
use Rattle.rl_families.specs.Streams.{log_at}
use Rattle.rl_families.proofs.Logs.{stamps_along-append}
use Rattle.rl_families.proofs.Rising.{Rises, rises_from, from_rises, rises_front, rises_back, behind, last_is}
use Rattle.rl_paxos.specs.Logs as bytes
use Rattle.rl_txn.specs.declared.batch.Batch.{Batch}
use Rattle.rl_nodes.specs.Batches.{batch_of, batches_of, are_batches}
use Rattle.rl_node.proofs.Logs.{batches_of-append}

-- ---- one batch more ----

pub batches_of-more : (log : bytes.Log) (b : bytes.Batch) (batch : Batch) → batch_of b ≡ Some batch
    → batches_of (log ++ b ∷ []) ≡ batches_of log ++ batch ∷ []
batches_of-more log b batch is = batches_of-append log (b ∷ []) ∙ ap (λ o. batches_of log ++ cons_option o []) is

pub taken_more : {X : Type 0} (xs : List X) (n : ℕ) (x : X) → slice_get xs n ≡ Some x → take (n + 1) xs ≡ take n xs ++ x ∷ []
taken_more xs n x is = take_more xs n x (slice_get_within xs n x is) ∙ ap (λ y. take n xs ++ y ∷ []) (get_or_from_slice_get xs n x x is)

pub encodes_at : (log : bytes.Log) (n : ℕ) (b : bytes.Batch) → are_batches log ≡ true → slice_get log n ≡ Some b → is_some (batch_of b) ≡ true
encodes_at [] n b h is = absurd (cc)
encodes_at (x ∷ xs) zero b h is = subst (λ y. is_some (batch_of y) ≡ true) (let same : x ≡ b = cc in same) (both (is_some (batch_of x)) (are_batches xs) h).0
encodes_at (x ∷ xs) (suc n) b h is = encodes_at xs n b (both (is_some (batch_of x)) (are_batches xs) h).1 is

-- ---- stamps that go on ----

below_first : (l f : Stamp) → IsBelow l f → order_refusal (Some l) (Some f) ≡ None
below_first l f below = ap (λ (b : Bool). cond b None (Some (Order l f))) (is_below_from l f below)

pub goes_on : (ss ts : List Stamp) → Rises (ss ++ ts) → order_refusal (last_stamp ss) (first_stamp ts) ≡ None
goes_on [] ts r = refl
goes_on (s ∷ ss) [] r = let k = last_is s ss in ap (λ o. order_refusal o None) k.2
goes_on (s ∷ ss) (t ∷ ts) r =
    let k = last_is s ss in
    ap (λ o. order_refusal o (Some t)) k.2 ∙ below_first k.0 t (behind (s ∷ ss) (t ∷ ts) r k.0 k.1 t (inl refl))

-- the stamps of a log that rise, up to one of its batches and in it
module _ (log : bytes.Log) (n : ℕ) (b : bytes.Batch) (batch : Batch) (rising : IsRising (stamps_along (batches_of log)))
    (is : slice_get log n ≡ Some b) (reads : batch_of b ≡ Some batch) where
  pub front_more : batches_of (take (n + 1) log) ≡ batches_of (take n log) ++ batch ∷ []
  front_more = ap batches_of (taken_more log n b is) ∙ batches_of-more (take n log) b batch reads

  rises_up : Rises (stamps_along (batches_of (take n log)) ++ stamps_in_batch batch)
  rises_up =
      let whole : Rises (stamps_along (batches_of log)) = rises_from (stamps_along (batches_of log)) rising in
      let parts : batches_of log ≡ batches_of (take (n + 1) log) ++ batches_of (drop (n + 1) log) =
      ap batches_of (sym (take-append-drop (n + 1) log)) ∙ batches_of-append (take (n + 1) log) (drop (n + 1) log) in
      let front : Rises (stamps_along (batches_of (take (n + 1) log))) =
      rises_front (stamps_along (batches_of (take (n + 1) log))) (stamps_along (batches_of (drop (n + 1) log)))
      (subst Rises (ap stamps_along parts ∙ stamps_along-append (batches_of (take (n + 1) log)) (batches_of (drop (n + 1) log))) whole) in
      subst Rises (ap stamps_along front_more ∙ stamps_along-append (batches_of (take n log)) (batch ∷ []) ∙ ap (λ z. stamps_along (batches_of (take n log)) ++ z) (append-nil (stamps_in_batch batch))) front

  pub batch_rises : IsRising (stamps_in_batch batch)
  batch_rises = from_rises (stamps_in_batch batch) (rises_back (stamps_along (batches_of (take n log))) (stamps_in_batch batch) rises_up)

  pub batch_goes_on : (family : List (List Batch)) (s : ℕ) → log_at family s ≡ batches_of (take n log) → extend_refusal family s batch ≡ None
  batch_goes_on family s at = ap (λ z. order_refusal (last_stamp (stamps_along z)) (first_stamp (stamps_in_batch batch))) at
      ∙ goes_on (stamps_along (batches_of (take n log))) (stamps_in_batch batch) rises_up

-- ---- a family whose log of a stream grows ----

pub set_twice : {X : Type 0} (xs : List X) (i : ℕ) (x y : X) → set (set xs i x) i y ≡ set xs i y
set_twice [] i x y = refl
set_twice (z ∷ zs) zero x y = refl
set_twice (z ∷ zs) (suc i) x y = ap (λ ws. z ∷ ws) (set_twice zs i x y)

pub set_self : {X : Type 0} (xs : List X) (i : ℕ) (d : X) → set xs i (get_or xs i d) ≡ xs
set_self [] i d = refl
set_self (z ∷ zs) zero d = refl
set_self (z ∷ zs) (suc i) d = ap (λ ws. z ∷ ws) (set_self zs i d)

module _ (first before after : List (List Batch)) (s : ℕ) (old new : List Batch) (low : 1 ≤ s) (high : s ≤ length before)
    (changed : after ≡ set before (s - 1) new) where
  inside : s - 1 < length before
  inside = omega (arith, low, high)

  pub family_more : before ≡ set first (s - 1) old → after ≡ set first (s - 1) new
  family_more e = changed ∙ ap (λ family. set family (s - 1) new) e ∙ set_twice first (s - 1) old new

  pub family_there : log_at after s ≡ new
  family_there = ap (λ family. get_or family (s - 1) []) changed ∙ get_or-set_same before (s - 1) new [] inside

  pub family_length : length after ≡ length before
  family_length = ap length changed ∙ length-set before (s - 1) new
