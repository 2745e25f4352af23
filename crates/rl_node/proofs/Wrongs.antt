-- What is wrong with a log, batch by batch, is what is wrong with it as a whole.
use Rattle.std.proofs.Common.{◌≡◌, ℕ, List, [], ◌∷◌, ◌++◌, Bool, true, false, not, ◌&&◌, ◌||◌, Option, Some, None, is_some, refl, sym, ap, ◌∙◌, true≢false}
use Rattle.std.specs.List.{list_all, list_any, cons_option}
use Rattle.std.specs.Option.{option_map_or}
use Rattle.std.proofs.lemmas.List.Folds.{list_any-append}
use Rattle.rl_base.specs.Order.{is_below}
use Rattle.rl_base.specs.declared.stamp.Stamp.{Stamp}
use Rattle.rl_base.proofs.OrderLemmas.{is_below_tells, is_below_from, below_trans}
use Rattle.rl_base.proofs.Tests.{both, both_true, neither, or_false}
use Rattle.rl_families.specs.Logs.{stamps_in_batch, items_in_batch, stamps_along, items_along}
use Rattle.rl_paxos.specs.Logs as bytes
use Rattle.rl_txn.specs.declared.batch.Batch.{Batch}
use Rattle.rl_value.specs.Tables.{Table}
use Rattle.rl_nodes.specs.BadMessages.{Carried, is_wrong, has_no_batch, has_other_worker, has_later_epoch, has_disorder, has_misfit}
use Rattle.rl_nodes.specs.Batches.{batch_of, batches_of, are_batches, are_rising}
use Rattle.rl_node.specs.Wrong.{is_chain, last_from, is_other, is_later, is_misfit, is_wrong_batch, is_wrong_behind}
use Rattle.rl_node.proofs.Good.{not_false}
use Rattle.rl_node.proofs.Logs.{stamps_of, items_of}

same_false : (a b : Bool) → (a ≡ false → b ≡ false) → (b ≡ false → a ≡ false) → a ≡ b
same_false true true p q = refl
same_false false false p q = refl
same_false true false p q = absurd (true≢false (q refl))
same_false false true p q = absurd (true≢false (p refl))

true_not : (b : Bool) → b ≡ true → not b ≡ false
true_not true h = refl
true_not false h = absurd (true≢false (sym h))

-- ---- stamps in a row ----

chain_append : (last : Option Stamp) (ss ts : List Stamp) → is_chain last (ss ++ ts) ≡ (is_chain last ss && is_chain (last_from last ss) ts)
chain_append last [] ts = refl
chain_append last (s ∷ ss) ts =
    ap (λ b. option_map_or (λ l. is_below l s) last true && b) (chain_append (Some s) ss ts)
    ∙ join (option_map_or (λ l. is_below l s) last true) (is_chain (Some s) ss) (is_chain (last_from (Some s) ss) ts)
  where
    join : (a b c : Bool) → (a && (b && c)) ≡ ((a && b) && c)
    join true b c = refl
    join false b c = refl

below_all : (l s : Stamp) (ss : List Stamp) → is_below l s ≡ true → list_all (is_below s) ss ≡ true → list_all (is_below l) ss ≡ true
below_all l s [] h a = refl
below_all l s (t ∷ ts) h a =
    let parts = both (is_below s t) (list_all (is_below s) ts) a in
    both_true (is_below l t) (list_all (is_below l) ts)
    (is_below_from l t (below_trans l s t (is_below_tells l s h) (is_below_tells s t parts.0))) (below_all l s ts h parts.1)

chain_all : (l : Stamp) (ss : List Stamp) → is_chain (Some l) ss ≡ true → (list_all (is_below l) ss ≡ true) × (are_rising ss ≡ true)
chain_all l [] h = (refl, refl)
chain_all l (s ∷ ss) h =
    let parts = both (is_below l s) (is_chain (Some s) ss) h in
    let rest = chain_all s ss parts.1 in (
      both_true (is_below l s) (list_all (is_below l) ss) parts.0 (below_all l s ss parts.0 rest.0),
      both_true (list_all (is_below s) ss) (are_rising ss) rest.0 rest.1,
    )

all_chain : (l : Stamp) (ss : List Stamp) → list_all (is_below l) ss ≡ true → are_rising ss ≡ true → is_chain (Some l) ss ≡ true
all_chain l [] h r = refl
all_chain l (s ∷ ss) h r =
    let first = both (is_below l s) (list_all (is_below l) ss) h in
    let rest = both (list_all (is_below s) ss) (are_rising ss) r in
    both_true (is_below l s) (is_chain (Some s) ss) first.0 (all_chain s ss rest.0 rest.1)

chain_rises : (ss : List Stamp) → is_chain None ss ≡ true → are_rising ss ≡ true
chain_rises [] h = refl
chain_rises (s ∷ ss) h = let rest = chain_all s ss h in both_true (list_all (is_below s) ss) (are_rising ss) rest.0 rest.1

rises_chain : (ss : List Stamp) → are_rising ss ≡ true → is_chain None ss ≡ true
rises_chain [] h = refl
rises_chain (s ∷ ss) h = let rest = both (list_all (is_below s) ss) (are_rising ss) h in all_chain s ss rest.0 rest.1

-- ---- a log behind a stamp ----

module _ (tables : List Table) (s e : ℕ) where
  -- nothing is wrong with it
  record Behind (last : Option Stamp) (log : bytes.Log) : Type 0 where
    batches : are_batches log ≡ true
    workers : list_any (is_other s) (items_of log) ≡ false
    epochs : list_any (is_later e) (stamps_of log) ≡ false
    chain : is_chain last (stamps_of log) ≡ true
    fits : list_any (is_misfit tables) (items_of log) ≡ false

  -- a batch with which nothing is wrong
  record RightBatch (last : Option Stamp) (b : Batch) : Type 0 where
    workers : list_any (is_other s) (items_in_batch b) ≡ false
    epochs : list_any (is_later e) (stamps_in_batch b) ≡ false
    chain : is_chain last (stamps_in_batch b) ≡ true
    fits : list_any (is_misfit tables) (items_in_batch b) ≡ false

  right_batch : (last : Option Stamp) (b : Batch) → is_wrong_batch tables s e last b ≡ false → RightBatch last b
  right_batch last b h =
      let O = list_any (is_other s) (items_in_batch b) in
      let L = list_any (is_later e) (stamps_in_batch b) in
      let C = not (is_chain last (stamps_in_batch b)) in
      let three = neither (O || L || C) (list_any (is_misfit tables) (items_in_batch b)) h in
      let two = neither (O || L) C three.0 in
      let one = neither O L two.0 in
      record { workers = one.0; epochs = one.1; chain = not_false (is_chain last (stamps_in_batch b)) two.1; fits = three.1 }

  batch_right : (last : Option Stamp) (b : Batch) → RightBatch last b → is_wrong_batch tables s e last b ≡ false
  batch_right last b r =
      let O = list_any (is_other s) (items_in_batch b) in
      let L = list_any (is_later e) (stamps_in_batch b) in
      let C = not (is_chain last (stamps_in_batch b)) in
      or_false (O || L || C) (list_any (is_misfit tables) (items_in_batch b))
      (or_false (O || L) C (or_false O L r.workers r.epochs) (true_not (is_chain last (stamps_in_batch b)) r.chain)) r.fits

  -- a log that begins with a batch
  module _ (x : bytes.Batch) (xs : bytes.Log) (b : Batch) (is : batch_of x ≡ Some b) where
    batches_cons : batches_of (x ∷ xs) ≡ b ∷ batches_of xs
    batches_cons = ap (λ o. cons_option o (batches_of xs)) is

    stamps_cons : stamps_of (x ∷ xs) ≡ stamps_in_batch b ++ stamps_of xs
    stamps_cons = ap stamps_along batches_cons

    items_cons : items_of (x ∷ xs) ≡ items_in_batch b ++ items_of xs
    items_cons = ap items_along batches_cons

    behind_cons : (last : Option Stamp) → RightBatch last b → Behind (last_from last (stamps_in_batch b)) xs → Behind last (x ∷ xs)
    behind_cons last r q = record {
      batches = both_true (is_some (batch_of x)) (are_batches xs) (ap (λ o. is_some o) is) q.batches;
      workers = ap (list_any (is_other s)) items_cons ∙ list_any-append (is_other s) (items_in_batch b) (items_of xs)
          ∙ or_false (list_any (is_other s) (items_in_batch b)) (list_any (is_other s) (items_of xs)) r.workers q.workers;
      epochs = ap (list_any (is_later e)) stamps_cons ∙ list_any-append (is_later e) (stamps_in_batch b) (stamps_of xs)
          ∙ or_false (list_any (is_later e) (stamps_in_batch b)) (list_any (is_later e) (stamps_of xs)) r.epochs q.epochs;
      chain = ap (is_chain last) stamps_cons ∙ chain_append last (stamps_in_batch b) (stamps_of xs)
          ∙ both_true (is_chain last (stamps_in_batch b)) (is_chain (last_from last (stamps_in_batch b)) (stamps_of xs)) r.chain q.chain;
      fits = ap (list_any (is_misfit tables)) items_cons ∙ list_any-append (is_misfit tables) (items_in_batch b) (items_of xs)
          ∙ or_false (list_any (is_misfit tables) (items_in_batch b)) (list_any (is_misfit tables) (items_of xs)) r.fits q.fits;
    }

    cons_behind : (last : Option Stamp) → Behind last (x ∷ xs) → RightBatch last b × Behind (last_from last (stamps_in_batch b)) xs
    cons_behind last q =
        let o = neither (list_any (is_other s) (items_in_batch b)) (list_any (is_other s) (items_of xs))
        (sym (ap (list_any (is_other s)) items_cons ∙ list_any-append (is_other s) (items_in_batch b) (items_of xs)) ∙ q.workers) in
        let l = neither (list_any (is_later e) (stamps_in_batch b)) (list_any (is_later e) (stamps_of xs))
        (sym (ap (list_any (is_later e)) stamps_cons ∙ list_any-append (is_later e) (stamps_in_batch b) (stamps_of xs)) ∙ q.epochs) in
        let c = both (is_chain last (stamps_in_batch b)) (is_chain (last_from last (stamps_in_batch b)) (stamps_of xs))
        (sym (ap (is_chain last) stamps_cons ∙ chain_append last (stamps_in_batch b) (stamps_of xs)) ∙ q.chain) in
        let m = neither (list_any (is_misfit tables) (items_in_batch b)) (list_any (is_misfit tables) (items_of xs))
        (sym (ap (list_any (is_misfit tables)) items_cons ∙ list_any-append (is_misfit tables) (items_in_batch b) (items_of xs)) ∙ q.fits) in (
          record { workers = o.0; epochs = l.0; chain = c.0; fits = m.0 },
          record { batches = (both (is_some (batch_of x)) (are_batches xs) q.batches).1; workers = o.1; epochs = l.1; chain = c.1; fits = m.1 },
        )

  -- what is said of the rest of a log, by the batch before it
  behind_by : (x : bytes.Batch) (xs : bytes.Log) (last : Option Stamp)
      → ((next : Option Stamp) → is_wrong_behind tables s e next xs ≡ false → Behind next xs)
      → (o : Option Batch) → batch_of x ≡ o
      → option_map_or (λ b. is_wrong_batch tables s e last b || is_wrong_behind tables s e (last_from last (stamps_in_batch b)) xs) o true ≡ false
      → Behind last (x ∷ xs)
  behind_by x xs last rest None is h = absurd (true≢false h)
  behind_by x xs last rest (Some b) is h =
      let parts = neither (is_wrong_batch tables s e last b) (is_wrong_behind tables s e (last_from last (stamps_in_batch b)) xs) h in
      behind_cons x xs b is last (right_batch last b parts.0) (rest (last_from last (stamps_in_batch b)) parts.1)

  behind : (last : Option Stamp) (log : bytes.Log) → is_wrong_behind tables s e last log ≡ false → Behind last log
  behind last [] h = record { batches = refl; workers = refl; epochs = refl; chain = refl; fits = refl }
  behind last (x ∷ xs) h = behind_by x xs last (λ next. behind next xs) (batch_of x) refl h

  by_behind : (x : bytes.Batch) (xs : bytes.Log) (last : Option Stamp) → Behind last (x ∷ xs)
      → ((next : Option Stamp) → Behind next xs → is_wrong_behind tables s e next xs ≡ false)
      → (o : Option Batch) → batch_of x ≡ o
      → option_map_or (λ b. is_wrong_batch tables s e last b || is_wrong_behind tables s e (last_from last (stamps_in_batch b)) xs) o true ≡ false
  by_behind x xs last q rest None is =
      absurd (true≢false (sym (sym (ap (λ o. is_some o) is) ∙ (both (is_some (batch_of x)) (are_batches xs) q.batches).0)))
  by_behind x xs last q rest (Some b) is =
      let parts = cons_behind x xs b is last q in
      or_false (is_wrong_batch tables s e last b) (is_wrong_behind tables s e (last_from last (stamps_in_batch b)) xs)
      (batch_right last b parts.0) (rest (last_from last (stamps_in_batch b)) parts.1)

  from_behind : (last : Option Stamp) (log : bytes.Log) → Behind last log → is_wrong_behind tables s e last log ≡ false
  from_behind last [] q = refl
  from_behind last (x ∷ xs) q = by_behind x xs last q (λ next. from_behind next xs) (batch_of x) refl

  -- the whole log
  whole : (log : bytes.Log) → Behind None log → is_wrong tables (record { stream = s; epoch = e; log = log }) ≡ false
  whole log q =
      let c : Carried = record { stream = s; epoch = e; log = log } in
      or_false (has_no_batch c || has_other_worker c || has_later_epoch c || has_disorder c) (has_misfit tables c)
      (or_false (has_no_batch c || has_other_worker c || has_later_epoch c) (has_disorder c)
      (or_false (has_no_batch c || has_other_worker c) (has_later_epoch c)
      (or_false (has_no_batch c) (has_other_worker c) (true_not (are_batches log) q.batches) q.workers) q.epochs)
      (true_not (are_rising (stamps_of log)) (chain_rises (stamps_of log) q.chain))) q.fits

  from_whole : (log : bytes.Log) → is_wrong tables (record { stream = s; epoch = e; log = log }) ≡ false → Behind None log
  from_whole log h =
      let c : Carried = record { stream = s; epoch = e; log = log } in
      let four = neither (has_no_batch c || has_other_worker c || has_later_epoch c || has_disorder c) (has_misfit tables c) h in
      let three = neither (has_no_batch c || has_other_worker c || has_later_epoch c) (has_disorder c) four.0 in
      let two = neither (has_no_batch c || has_other_worker c) (has_later_epoch c) three.0 in
      let one = neither (has_no_batch c) (has_other_worker c) two.0 in
      record {
        batches = not_false (are_batches log) one.0;
        workers = one.1;
        epochs = two.1;
        chain = rises_chain (stamps_of log) (not_false (are_rising (stamps_of log)) three.1);
        fits = four.1;
      }

  pub wrong_by_batches : (log : bytes.Log) → is_wrong_behind tables s e None log ≡ is_wrong tables (record { stream = s; epoch = e; log = log })
  wrong_by_batches log =
      same_false (is_wrong_behind tables s e None log) (is_wrong tables (record { stream = s; epoch = e; log = log }))
      (λ h. whole log (behind None log h)) (λ h. from_behind None log (from_whole log h))

-- a log of one batch
pub wrong_alone : (tables : List Table) (s e : ℕ) (x : List ℕ) (b : Batch) → batch_of x ≡ Some b
    → is_wrong_batch tables s e None b ≡ is_wrong tables (record { stream = s; epoch = e; log = x ∷ [] })
wrong_alone tables s e x b is =
    sym (or_none (is_wrong_batch tables s e None b))
    ∙ sym (ap (λ o. option_map_or (λ b. is_wrong_batch tables s e None b || is_wrong_behind tables s e (last_from None (stamps_in_batch b)) []) o true) is)
    ∙ wrong_by_batches tables s e (x ∷ [])
  where
    or_none : (b : Bool) → (b || false) ≡ b
    or_none true = refl
    or_none false = refl
