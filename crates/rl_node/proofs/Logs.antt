-- Logs with which nothing is wrong, and their parts.
use Rattle.std.proofs.Common.{◌≡◌, ℕ, ◌≤◌, List, [], ◌++◌, Bool, true, false, not, ◌||◌, ◌==◌, nat_lt, is_some, refl, sym, ap, ◌∙◌, subst, arith, inl, inr, true≢false}
use Rattle.std.specs.List.{list_all}
use Rattle.std.proofs.lemmas.Bool.Decides.{nat_tests}
use Rattle.std.proofs.lemmas.List.Elements.{filter_map-append}
use Rattle.std.proofs.lemmas.List.Folds.{list_all-append}
use Rattle.rl_base.specs.Order.{IsBelow}
use Rattle.rl_base.specs.declared.stamp.Stamp.{Stamp}
use Rattle.rl_base.proofs.Members.{In, in_prefix, in_split, any_false, false_any}
use Rattle.rl_base.proofs.Tests.{true_same, both, both_true, neither, or_false}
use Rattle.rl_families.specs.Logs.{stamps_along, items_along}
use Rattle.rl_families.proofs.Logs.{stamps_along-append, items_along-append}
use Rattle.rl_families.proofs.Rising.{Rises, rises_from, from_rises, rises_append, rises_front}
use Rattle.rl_paxos.specs.Logs as bytes
use Rattle.rl_txn.specs.declared.item.Item.{Item}
use Rattle.rl_value.specs.Tables.{Table}
use Rattle.rl_nodes.specs.BadMessages.{Carried, is_wrong, write_fits, has_no_batch, has_other_worker, has_later_epoch, has_disorder, has_misfit}
use Rattle.rl_nodes.specs.Batches.{batch_of, batches_of, are_batches, are_rising}
use Rattle.rl_nodes.proofs.Telling.{tests_tell}

not_false : (b : Bool) → not b ≡ false → b ≡ true
not_false true h = refl
not_false false h = absurd (true≢false h)

not_true : (b : Bool) → b ≡ true → not b ≡ false
not_true true h = refl
not_true false h = absurd (true≢false (sym h))

below_or : (a b : ℕ) → nat_lt a b ≡ false → b ≤ a
below_or a b h = grind (arith, nat_tests)

not_below : (a b : ℕ) → b ≤ a → nat_lt a b ≡ false
not_below a b h = grind (arith, nat_tests)

same_numbers : (a b : ℕ) → a ≡ b → (a == b) ≡ true
same_numbers a b e = grind (arith, nat_tests)

pub batches_of-append : (xs ys : bytes.Log) → batches_of (xs ++ ys) ≡ batches_of xs ++ batches_of ys
batches_of-append xs ys = filter_map-append batch_of xs ys

-- the stamps and the items of a log of bytes
abbrev pub stamps_of : bytes.Log → List Stamp
stamps_of log = stamps_along (batches_of log)

abbrev pub items_of : bytes.Log → List Item
items_of log = items_along (batches_of log)

pub stamps_of-append : (xs ys : bytes.Log) → stamps_of (xs ++ ys) ≡ stamps_of xs ++ stamps_of ys
stamps_of-append xs ys = ap stamps_along (batches_of-append xs ys) ∙ stamps_along-append (batches_of xs) (batches_of ys)

pub items_of-append : (xs ys : bytes.Log) → items_of (xs ++ ys) ≡ items_of xs ++ items_of ys
items_of-append xs ys = ap items_along (batches_of-append xs ys) ∙ items_along-append (batches_of xs) (batches_of ys)

-- nothing is wrong with a log: what that says
pub record IsRight (tables : List Table) (s e : ℕ) (log : bytes.Log) : Type 0 where
  pub batches : are_batches log ≡ true
  pub workers : (x : Item) → In x (items_of log) → x.worker ≡ s
  pub epochs : (t : Stamp) → In t (stamps_of log) → t.epoch ≤ e
  pub rising : Rises (stamps_of log)
  pub fits : (x : Item) → In x (items_of log) → list_all (write_fits tables) x.writes ≡ true

abbrev carried_as : (s e : ℕ) → bytes.Log → Carried
carried_as s e log = record { stream = s; epoch = e; log = log }

pub is_right : (tables : List Table) (s e : ℕ) (log : bytes.Log) → is_wrong tables (record { stream = s; epoch = e; log = log }) ≡ false
    → IsRight tables s e log
is_right tables s e log h =
    let c = carried_as s e log in
    let four = neither (has_no_batch c || has_other_worker c || has_later_epoch c || has_disorder c) (has_misfit tables c) h in
    let three = neither (has_no_batch c || has_other_worker c || has_later_epoch c) (has_disorder c) four.0 in
    let two = neither (has_no_batch c || has_other_worker c) (has_later_epoch c) three.0 in
    let one = neither (has_no_batch c) (has_other_worker c) two.0 in
    record {
      batches = not_false (are_batches log) one.0;
      workers = λ x i. true_same x.worker s (not_false (x.worker == s) (false_any (λ (x : Item). not (x.worker == s)) (items_of log) one.1 x i));
      epochs = λ t i. below_or e t.epoch (false_any (λ (t : Stamp). nat_lt e t.epoch) (stamps_of log) two.1 t i);
      rising = rises_from (stamps_of log) ((tests_tell.rising (stamps_of log)).0 (not_false (are_rising (stamps_of log)) three.1));
      fits = λ x i. not_false (list_all (write_fits tables) x.writes)
          (false_any (λ (x : Item). not (list_all (write_fits tables) x.writes)) (items_of log) four.1 x i);
    }

pub right_is : (tables : List Table) (s e : ℕ) (log : bytes.Log) → IsRight tables s e log
    → is_wrong tables (record { stream = s; epoch = e; log = log }) ≡ false
right_is tables s e log r =
    let c = carried_as s e log in
    or_false (has_no_batch c || has_other_worker c || has_later_epoch c || has_disorder c) (has_misfit tables c)
    (or_false (has_no_batch c || has_other_worker c || has_later_epoch c) (has_disorder c)
    (or_false (has_no_batch c || has_other_worker c) (has_later_epoch c)
    (or_false (has_no_batch c) (has_other_worker c)
    (not_true (are_batches log) r.batches)
    (any_false (λ (x : Item). not (x.worker == s)) (items_of log) (λ x i. not_true (x.worker == s) (same_numbers x.worker s (r.workers x i)))))
    (any_false (λ (t : Stamp). nat_lt e t.epoch) (stamps_of log) (λ t i. not_below e t.epoch (r.epochs t i))))
    (not_true (are_rising (stamps_of log)) ((tests_tell.rising (stamps_of log)).1 (from_rises (stamps_of log) r.rising))))
    (any_false (λ (x : Item). not (list_all (write_fits tables) x.writes)) (items_of log)
    (λ x i. not_true (list_all (write_fits tables) x.writes) (r.fits x i)))

-- an empty log
pub right_empty : (tables : List Table) (s e : ℕ) → IsRight tables s e []
right_empty tables s e = record { batches = refl; workers = λ x i. absurd i; epochs = λ t i. absurd i; rising = tt; fits = λ x i. absurd i }

-- at a later epoch
pub right_later : (tables : List Table) (s e later : ℕ) (log : bytes.Log) → e ≤ later → IsRight tables s e log → IsRight tables s later log
right_later tables s e later log h r = record {
  batches = r.batches;
  workers = r.workers;
  epochs = λ t i. let below = r.epochs t i in omega arith;
  rising = r.rising;
  fits = r.fits;
}

-- two logs, where each stamp of the first is below each of the second
pub right_append : (tables : List Table) (s e : ℕ) (xs ys : bytes.Log) → IsRight tables s e xs → IsRight tables s e ys
    → ((t u : Stamp) → In t (stamps_of xs) → In u (stamps_of ys) → IsBelow t u) → IsRight tables s e (xs ++ ys)
right_append tables s e xs ys p q below = record {
  batches = list_all-append (λ batch. is_some (batch_of batch)) xs ys ∙ both_true (are_batches xs) (are_batches ys) p.batches q.batches;
  workers = λ x i. elim (in_split (items_of xs) (items_of ys) x (subst (In x) (items_of-append xs ys) i)) [
    | inl j ↦ p.workers x j
    | inr j ↦ q.workers x j
  ];
  epochs = λ t i. elim (in_split (stamps_of xs) (stamps_of ys) t (subst (In t) (stamps_of-append xs ys) i)) [
    | inl j ↦ p.epochs t j
    | inr j ↦ q.epochs t j
  ];
  rising = subst Rises (sym (stamps_of-append xs ys)) (rises_append (stamps_of xs) (stamps_of ys) p.rising q.rising below);
  fits = λ x i. elim (in_split (items_of xs) (items_of ys) x (subst (In x) (items_of-append xs ys) i)) [
    | inl j ↦ p.fits x j
    | inr j ↦ q.fits x j
  ];
}

-- and back: the first of two
pub right_front : (tables : List Table) (s e : ℕ) (xs ys : bytes.Log) → IsRight tables s e (xs ++ ys) → IsRight tables s e xs
right_front tables s e xs ys r = record {
  batches = (both (are_batches xs) (are_batches ys) (sym (list_all-append (λ batch. is_some (batch_of batch)) xs ys) ∙ r.batches)).0;
  workers = λ x i. r.workers x (subst (In x) (sym (items_of-append xs ys)) (in_prefix (items_of xs) (items_of ys) x i));
  epochs = λ t i. r.epochs t (subst (In t) (sym (stamps_of-append xs ys)) (in_prefix (stamps_of xs) (stamps_of ys) t i));
  rising = rises_front (stamps_of xs) (stamps_of ys) (subst Rises (stamps_of-append xs ys) r.rising);
  fits = λ x i. r.fits x (subst (In x) (sym (items_of-append xs ys)) (in_prefix (items_of xs) (items_of ys) x i));
}
