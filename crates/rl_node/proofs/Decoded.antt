-- What is read as a batch: at most so many items, with seqs in range, whatever the bytes.
use Rattle.std.proofs.Common.{◌≡◌, ◌⊎◌, ℕ, zero, suc, ◌+◌, ◌-◌, ◌*◌, ◌^◌, ◌<◌, ◌≤◌, ◌==◌, ◌&&◌, cond, ltb, leb, List, [], ◌∷◌, length, Option, Some, None, Result, Ok, Err, refl, sym, ap, subst, arith, inl, inr, length-append}
use Rattle.std.specs.List.{cons_option}
use Rattle.std.specs.Result.{result_ok}
use Rattle.std.proofs.lemmas.Bool.{leb-true}
use Rattle.rl_base.specs.Results.{◌>>=◌}
use Rattle.rl_base.specs.declared.flaw.Flaw.{Flaw}
use Rattle.rl_base.specs.declared.flaw.Flaw.TheVariants.{Kind, Order, Range}
use Rattle.rl_base.specs.declared.limit.TheConstants.{WORKERS, REQUESTS, OPS}
use Rattle.rl_base.proofs.Members.{In, in_split}
use Rattle.rl_batch.specs.declared.item.TheConstants.{BATCH_ITEMS}
use Rattle.rl_batch.specs.Reading.{rising, numbers, end_of, writes, item, seq_after, items, mark, batch, read_batch}
use Rattle.rl_batch.specs.Ranges.{most_writes}
use Rattle.rl_families.specs.Logs.{items_in_batch, items_along}
use Rattle.rl_fields.specs.declared.fault.Fault.{Fault}
use Rattle.rl_fields.specs.Faults.{fault_at}
use Rattle.rl_fields.specs.Fields.{number, within, series, alone, whole}
use Rattle.rl_fields.proofs.FieldLaws.{bind_ok, guard_not, guard_ok, ok_is, both, chosen, alone_takes, with_offset_ok}
use Rattle.rl_paxos.specs.Logs as bytes
use Rattle.rl_txn.specs.declared.batch.Batch.{Batch}
use Rattle.rl_txn.specs.declared.batch.Batch.TheVariants.{Items, Idle, Opened}
use Rattle.rl_txn.specs.declared.item.Item.{Item}
use Rattle.rl_nodes.specs.Batches.{batch_of, batches_of}
use Rattle.rl_node.proofs.Logs.{items_of}

-- ---- fields ----

within_range : (n low high : ℕ) (bytes : List ℕ) (x : ℕ × List ℕ) → within n low high bytes ≡ Ok x → x.0 ≤ high
unfolding within
within_range n low high bytes x e =
    let a = bind_ok (number n bytes) (λ x. cond (leb low x.0 && leb x.0 high) (Ok x) (Err (fault_at bytes Range))) x e in
    let g = guard_ok (leb low a.0.0 && leb a.0.0 high) (fault_at bytes Range) a.0 x a.2 in
    subst (λ (y : ℕ × List ℕ). y.0 ≤ high) g.1 (leb-true _ _ (both (leb low a.0.0) (leb a.0.0 high) g.0).1)

rising_range : (n low high least : ℕ) (field bytes : List ℕ) (x : ℕ × List ℕ) → rising n low high least field bytes ≡ Ok x → x.0 ≤ high
unfolding rising
rising_range n low high least field bytes x e =
    let a = bind_ok (within n low high bytes) (λ x. cond (ltb x.0 least) (Err (fault_at field Order)) (Ok x)) x e in
    let g = guard_not (ltb a.0.0 least) (fault_at field Order) a.0 x a.2 in
    subst (λ (y : ℕ × List ℕ). y.0 ≤ high) g.1 (within_range n low high bytes a.0 a.1)

-- ---- items ----

-- the seq of an item is in range
abbrev pub HasSeq : Item → Type 0
HasSeq x = x.stamp.seq < 2 ^ 40

item_seq : (epoch worker least : ℕ) (bytes : List ℕ) (x : Item × List ℕ) → item epoch worker least bytes ≡ Ok x → HasSeq x.0
unfolding item
item_seq epoch worker least bytes x e =
    let a = bind_ok (rising 8 2 (2 ^ 40 - 2) least bytes bytes) (λ seq. within 4 1 REQUESTS seq.1 >>= λ index. within 1 0 OPS index.1 >>= λ end. numbers OPS end.1 >>= λ outs. writes (most_writes (end_of end.0)) outs.1 >>= λ writes. Ok (record { stamp = record { epoch = epoch; seq = seq.0 }; worker = worker; index = index.0; reply = record { outs = outs.0; end = end_of end.0 }; writes = writes.0 }, writes.1)) x e in
    let b = bind_ok (within 4 1 REQUESTS a.0.1) (λ index. within 1 0 OPS index.1 >>= λ end. numbers OPS end.1 >>= λ outs. writes (most_writes (end_of end.0)) outs.1 >>= λ writes. Ok (record { stamp = record { epoch = epoch; seq = a.0.0 }; worker = worker; index = index.0; reply = record { outs = outs.0; end = end_of end.0 }; writes = writes.0 }, writes.1)) x a.2 in
    let c = bind_ok (within 1 0 OPS b.0.1) (λ end. numbers OPS end.1 >>= λ outs. writes (most_writes (end_of end.0)) outs.1 >>= λ writes. Ok (record { stamp = record { epoch = epoch; seq = a.0.0 }; worker = worker; index = b.0.0; reply = record { outs = outs.0; end = end_of end.0 }; writes = writes.0 }, writes.1)) x b.2 in
    let d = bind_ok (numbers OPS c.0.1) (λ outs. writes (most_writes (end_of c.0.0)) outs.1 >>= λ writes. Ok (record { stamp = record { epoch = epoch; seq = a.0.0 }; worker = worker; index = b.0.0; reply = record { outs = outs.0; end = end_of c.0.0 }; writes = writes.0 }, writes.1)) x c.2 in
    let f = bind_ok (writes (most_writes (end_of c.0.0)) d.0.1) (λ writes. Ok (record { stamp = record { epoch = epoch; seq = a.0.0 }; worker = worker; index = b.0.0; reply = record { outs = d.0.0; end = end_of c.0.0 }; writes = writes.0 }, writes.1)) x d.2 in
    let high : a.0.0 ≤ 2 ^ 40 - 2 = rising_range 8 2 (2 ^ 40 - 2) least bytes bytes a.0 a.1 in
    let made : Item × List ℕ = (record { stamp = record { epoch = epoch; seq = a.0.0 }; worker = worker; index = b.0.0; reply = record { outs = d.0.0; end = end_of c.0.0 }; writes = f.0.0 }, f.0.1) in
    let same : a.0.0 ≡ x.0.stamp.seq = ap (λ (y : Item × List ℕ). y.0.stamp.seq) {x = made} (ok_is {E = Fault} made x f.2) in
    omega (arith, high, same)

-- what is read of each of some values one after another
series_each : {S A : Type 0} (read : S → List ℕ → Result (A × List ℕ) Fault) (next : A → S) (P : A → Type 0)
    → ((told : S) (bytes : List ℕ) (x : A × List ℕ) → read told bytes ≡ Ok x → P x.0)
    → (n : ℕ) (told : S) (bytes : List ℕ) (x : List A × List ℕ) → series read next n told bytes ≡ Ok x → (length x.0 ≡ n) × ((y : A) → In y x.0 → P y)
unfolding series
series_each {A = A} read next P each zero told bytes x e =
    subst (λ (y : List A × List ℕ). (length y.0 ≡ 0) × ((z : A) → In z y.0 → P z)) (ok_is {E = Fault} ([], bytes) x e) (refl, λ z i. absurd i)
series_each {A = A} read next P each (suc n) told bytes x e =
    let a = bind_ok (read told bytes) (λ first. series read next n (next first.0) first.1 >>= λ others. Ok (first.0 ∷ others.0, others.1)) x e in
    let b = bind_ok (series read next n (next a.0.0) a.0.1) (λ others. Ok (a.0.0 ∷ others.0, others.1)) x a.2 in
    let first : P a.0.0 = each told bytes a.0 a.1 in
    let others = series_each read next P each n (next a.0.0) a.0.1 b.0 b.1 in
    let made : List A × List ℕ = (a.0.0 ∷ b.0.0, b.0.1) in
    subst (λ (y : List A × List ℕ). (length y.0 ≡ suc n) × ((z : A) → In z y.0 → P z)) (ok_is {E = Fault} made x b.2)
    (ap suc others.0, λ z i. elim i [ inl same ↦ subst P (sym same) first | inr j ↦ others.1 z j ])

-- items that were read as one batch
pub record AreRead (xs : List Item) : Type 0 where
  pub few : length xs ≤ BATCH_ITEMS
  pub seqs : (x : Item) → In x xs → HasSeq x

items_read : (bytes : List ℕ) (x : List Item × List ℕ) → items bytes ≡ Ok x → AreRead x.0
unfolding items
items_read bytes x e =
    let a = bind_ok (within 1 1 BATCH_ITEMS bytes) (λ count. within 4 1 (2 ^ 20 - 1) count.1 >>= λ epoch. within 1 1 WORKERS epoch.1 >>= λ worker. series (item epoch.0 worker.0) seq_after count.0 0 worker.1) x e in
    let b = bind_ok (within 4 1 (2 ^ 20 - 1) a.0.1) (λ epoch. within 1 1 WORKERS epoch.1 >>= λ worker. series (item epoch.0 worker.0) seq_after a.0.0 0 worker.1) x a.2 in
    let c = bind_ok (within 1 1 WORKERS b.0.1) (λ worker. series (item b.0.0 worker.0) seq_after a.0.0 0 worker.1) x b.2 in
    let count = within_range 1 1 BATCH_ITEMS bytes a.0 a.1 in
    let each = series_each (item b.0.0 c.0.0) seq_after HasSeq (λ told bytes y e. item_seq b.0.0 c.0.0 told bytes y e) a.0.0 0 c.0.1 x c.2 in
    record { few = omega (arith, count, each.0); seqs = each.1 }

-- ---- batches ----

none_read : AreRead []
none_read = record { few = omega arith; seqs = λ x i. absurd i }

made_read : {A : Type 0} (make : A → Batch) (read : Result (A × List ℕ) Fault) (x : Batch × List ℕ)
    → ((y : A × List ℕ) → read ≡ Ok y → AreRead (items_in_batch (make y.0))) → (read >>= λ y. Ok (make y.0, y.1)) ≡ Ok x → AreRead (items_in_batch x.0)
made_read {A = A} make read x each e =
    let a = bind_ok read (λ (y : A × List ℕ). Ok (make y.0, y.1)) x e in
    let made : Batch × List ℕ = (make a.0.0, a.0.1) in
    subst (λ (y : Batch × List ℕ). AreRead (items_in_batch y.0)) (ok_is {E = Fault} made x a.2) (each a.0 a.1)

batch_read : (bytes : List ℕ) (x : Batch × List ℕ) → batch bytes ≡ Ok x → AreRead (items_in_batch x.0)
unfolding batch
batch_read [] x e = absurd cc
batch_read (kind ∷ rest) x e =
    let opened : Result (Batch × List ℕ) Fault = mark 1 1 rest >>= (λ y. Ok (Opened y.0, y.1)) in
    let idle : Result (Batch × List ℕ) Fault = mark 2 (2 ^ 40 - 1) rest >>= (λ y. Ok (Idle y.0, y.1)) in
    let unknown : Result (Batch × List ℕ) Fault = Err (fault_at (kind ∷ rest) Kind) in
    let not_items : Result (Batch × List ℕ) Fault = cond (kind == 2) idle (cond (kind == 3) opened unknown) in
    elim (chosen (kind == 1) (items rest >>= (λ y. Ok (Items y.0, y.1))) not_items (Ok x) e) [
      | inl one ↦ made_read Items (items rest) x (λ y e. items_read rest y e) one.1
      | inr not_one ↦ elim (chosen (kind == 2) idle (cond (kind == 3) opened unknown) (Ok x) not_one.1) [
        | inl two ↦ made_read Idle (mark 2 (2 ^ 40 - 1) rest) x (λ y e. none_read) two.1
        | inr not_two ↦ elim (chosen (kind == 3) opened unknown (Ok x) not_two.1) [
          | inl three ↦ made_read Opened (mark 1 1 rest) x (λ y e. none_read) three.1
          | inr none ↦ absurd (let wrong : unknown ≡ Ok x = none.1 in cc)
        ]
      ]
    ]

whole_read : (bytes : List ℕ) (b : Batch) → whole batch bytes ≡ Ok b → AreRead (items_in_batch b)
unfolding whole
whole_read bytes b e =
    let a = bind_ok (batch bytes) (λ x. alone x.0 x.1) b e in
    let g = alone_takes a.0.0 b a.0.1 a.2 in
    subst (λ z. AreRead (items_in_batch z)) g.0 (batch_read bytes a.0 a.1)

ok_some : (r : Result Batch (ℕ × Flaw)) (b : Batch) → result_ok r ≡ Some b → r ≡ Ok b
ok_some (Ok x) b e = cc
ok_some (Err d) b e = absurd (cc)

-- the items of a batch of bytes
pub batch_of-read : (x : bytes.Batch) (b : Batch) → batch_of x ≡ Some b → AreRead (items_in_batch b)
batch_of-read x b e = whole_read x b (with_offset_ok x (whole batch x) b (ok_some (read_batch x) b e))

-- ---- logs ----

one_more : (o : Option Batch) (bs : List Batch) → ((b : Batch) → o ≡ Some b → AreRead (items_in_batch b))
    → (length (items_along (cons_option o bs)) ≤ BATCH_ITEMS + length (items_along bs))
    × ((x : Item) → In x (items_along (cons_option o bs)) → HasSeq x ⊎ In x (items_along bs))
one_more None bs h = (omega arith, λ x i. inr i)
one_more (Some b) bs h =
    let r = h b refl in (
      let few = r.few in omega (arith, few, length-append (items_in_batch b) (items_along bs)),
      λ x i. elim (in_split (items_in_batch b) (items_along bs) x i) [ inl j ↦ inl (r.seqs x j) | inr j ↦ inr j ],
    )

-- the items along a log of bytes
pub seqs_along : (log : bytes.Log) (x : Item) → In x (items_of log) → HasSeq x
seqs_along [] x i = absurd i
seqs_along (b ∷ log) x i = elim ((one_more (batch_of b) (batches_of log) (λ c e. batch_of-read b c e)).1 x i) [ inl h ↦ h | inr j ↦ seqs_along log x j ]

pub few_along : (log : bytes.Log) → length (items_of log) ≤ BATCH_ITEMS * length log
few_along [] = omega arith
few_along (b ∷ log) =
    let here = (one_more (batch_of b) (batches_of log) (λ c e. batch_of-read b c e)).0 in
    let rest = few_along log in omega (arith, here, rest)
