-- Items: what is read is encoded so and in range, and what is encoded so is read again.
use Rattle.std.proofs.Common.{◌≡◌, ℕ, zero, suc, ◌-◌, ◌^◌, ◌<◌, ◌≤◌, List, [], ◌∷◌, ◌++◌, length, All, Result, Ok, refl, sym, ap, subst, ◌∙◌, append_assoc, arith}
use Rattle.std.specs.List.{flat_map, AllByRecursion}
use Rattle.std.proofs.lemmas.List.Elements.{All-from_recursion, recursion_from_All}
use Rattle.byteorder.specs.Endian.{big_bytes}
use Rattle.rl_base.specs.Numbers.{IsBytes}
use Rattle.rl_base.specs.Results.{◌>>=◌}
use Rattle.rl_base.specs.declared.limit.TheConstants.{WORKERS, REQUESTS, OPS}
use Rattle.rl_txn.specs.declared.write.End.{End}
use Rattle.rl_txn.specs.declared.write.End.TheVariants.{Done, Declined}
use Rattle.rl_txn.specs.declared.write.Write.{Write}
use Rattle.rl_txn.specs.declared.item.Item.{Item}
use Rattle.rl_fields.specs.declared.fault.Fault.{Fault}
use Rattle.rl_fields.specs.Fields.{within, series}
use Rattle.rl_fields.proofs.FieldLaws.{bind_ok, ok_is, Takes, Takes-then, within_takes, within_again}
use Rattle.rl_fields.proofs.SeriesLaws.{IsReader, series_takes, series_again}
use Rattle.rl_batch.specs.declared.item.TheConstants.{BATCH_ITEMS}
use Rattle.rl_batch.specs.Encoding.{numbers_bytes, writes_bytes, end_number, item_bytes, items_epoch, items_worker, items_bytes}
use Rattle.rl_batch.specs.Ranges.{WriteInRange, EndInRange, most_writes, ItemInRange, ItemsInRange, WriteHasWords, ItemHasWords}
use Rattle.rl_batch.specs.Reading.{rising, numbers, end_of, writes, item, seq_after, items}
use Rattle.rl_batch.proofs.Rising.{IsRise, chain_rises, rising_chain}
use Rattle.rl_batch.proofs.WriteLaws.{rising_takes, rising_again, numbers_takes, numbers_again, writes_takes, writes_again}

-- ---- ends

number-end : (n : ℕ) → end_number (end_of n) ≡ n
number-end zero = refl
number-end (suc n) = refl

end_range : (n : ℕ) → n ≤ OPS → EndInRange (end_of n)
end_range zero few = tt
end_range (suc n) few = (omega arith, few)

end-number : (e : End) → EndInRange e → end_of (end_number e) ≡ e
end-number Done range = refl
end-number (Declined zero) range = absurd (omega (arith, range.0))
end-number (Declined (suc op)) range = refl

number_small : (e : End) → EndInRange e → end_number e ≤ OPS
number_small Done range = omega arith
number_small (Declined op) range = range.1

most_small : (e : End) → most_writes e < 256
most_small Done = omega arith
most_small (Declined op) = omega arith

-- ---- an item

-- an item of an epoch and a worker
pub record IsOf (epoch worker : ℕ) (x : Item) : Type 0 where
  pub range : ItemInRange x
  pub epoch_is : x.stamp.epoch ≡ epoch
  pub worker_is : x.worker ≡ worker

abbrev pub IsLate : ℕ → Item → Type 0
IsLate least x = least ≤ x.stamp.seq

abbrev pub IsBefore : Item → Item → Type 0
IsBefore x y = x.stamp.seq < y.stamp.seq

abbrev pub MayCome : ℕ → ℕ → ℕ → Item → Type 0
MayCome epoch worker least x = IsOf epoch worker x × IsLate least x

pub seqs_rise : IsRise IsLate seq_after IsBefore
seqs_rise = record {
  on = λ told x y late before. omega (arith, late, before);
  above = λ x y late. omega (arith, late);
  back = λ x y before. omega (arith, before);
}

item_takes : (epoch worker least : ℕ) (bytes : List ℕ) (x : Item × List ℕ) → IsBytes bytes → item epoch worker least bytes ≡ Ok x → Takes bytes (item_bytes x.0) x.1 × MayCome epoch worker least x.0
unfolding item
item_takes epoch worker least bytes x fits e =
    let a = bind_ok (rising 8 2 (2 ^ 40 - 2) least bytes bytes) (λ seq. within 4 1 REQUESTS seq.1 >>= λ index. within 1 0 OPS index.1 >>= λ end. numbers OPS end.1 >>= λ outs. writes (most_writes (end_of end.0)) outs.1 >>= λ writes. Ok (record { stamp = record { epoch = epoch; seq = seq.0 }; worker = worker; index = index.0; reply = record { outs = outs.0; end = end_of end.0 }; writes = writes.0 }, writes.1)) x e in
    let b = bind_ok (within 4 1 REQUESTS a.0.1) (λ index. within 1 0 OPS index.1 >>= λ end. numbers OPS end.1 >>= λ outs. writes (most_writes (end_of end.0)) outs.1 >>= λ writes. Ok (record { stamp = record { epoch = epoch; seq = a.0.0 }; worker = worker; index = index.0; reply = record { outs = outs.0; end = end_of end.0 }; writes = writes.0 }, writes.1)) x a.2 in
    let c = bind_ok (within 1 0 OPS b.0.1) (λ end. numbers OPS end.1 >>= λ outs. writes (most_writes (end_of end.0)) outs.1 >>= λ writes. Ok (record { stamp = record { epoch = epoch; seq = a.0.0 }; worker = worker; index = b.0.0; reply = record { outs = outs.0; end = end_of end.0 }; writes = writes.0 }, writes.1)) x b.2 in
    let d = bind_ok (numbers OPS c.0.1) (λ outs. writes (most_writes (end_of c.0.0)) outs.1 >>= λ writes. Ok (record { stamp = record { epoch = epoch; seq = a.0.0 }; worker = worker; index = b.0.0; reply = record { outs = outs.0; end = end_of c.0.0 }; writes = writes.0 }, writes.1)) x c.2 in
    let f = bind_ok (writes (most_writes (end_of c.0.0)) d.0.1) (λ writes. Ok (record { stamp = record { epoch = epoch; seq = a.0.0 }; worker = worker; index = b.0.0; reply = record { outs = d.0.0; end = end_of c.0.0 }; writes = writes.0 }, writes.1)) x d.2 in
    let seq = rising_takes 8 2 (2 ^ 40 - 2) least bytes bytes a.0 fits a.1 in
    let index = within_takes 4 1 REQUESTS a.0.1 b.0 seq.0.rest_fits b.1 in
    let ended = within_takes 1 0 OPS b.0.1 c.0 index.0.rest_fits c.1 in
    let outs = numbers_takes OPS c.0.1 d.0 ended.0.rest_fits d.1 in
    let written = writes_takes (most_writes (end_of c.0.0)) d.0.1 f.0 outs.0.rest_fits f.1 in
    let seq_text = big_bytes 8 a.0.0 in
    let index_text = big_bytes 4 b.0.0 in
    let two = Takes-then bytes seq_text a.0.1 index_text b.0.1 seq.0 index.0 in
    let three = Takes-then bytes (seq_text ++ index_text) b.0.1 (big_bytes 1 c.0.0) c.0.1 two ended.0 in
    let three' : Takes bytes ((seq_text ++ index_text) ++ big_bytes 1 (end_number (end_of c.0.0))) c.0.1 = subst (λ (k : ℕ). Takes bytes ((seq_text ++ index_text) ++ big_bytes 1 k) c.0.1) (sym (number-end c.0.0)) three in
    let four = Takes-then bytes ((seq_text ++ index_text) ++ big_bytes 1 (end_number (end_of c.0.0))) c.0.1 (numbers_bytes d.0.0) d.0.1 three' outs.0 in
    let five = Takes-then bytes (((seq_text ++ index_text) ++ big_bytes 1 (end_number (end_of c.0.0))) ++ numbers_bytes d.0.0) d.0.1 (writes_bytes f.0.0) f.0.1 four written.0 in
    let made : Item × List ℕ = (record { stamp = record { epoch = epoch; seq = a.0.0 }; worker = worker; index = b.0.0; reply = record { outs = d.0.0; end = end_of c.0.0 }; writes = f.0.0 }, f.0.1) in
    let range : ItemInRange made.0 = record {
      seq_low = seq.1;
      seq_high = seq.2;
      index_low = index.1;
      index_high = index.2;
      end = end_range c.0.0 ended.2;
      outs = outs.1;
      writes = written.1;
      each_write = All-from_recursion WriteInRange f.0.0 written.2;
      rising = written.3;
    } in
    subst (λ (y : Item × List ℕ). Takes bytes (item_bytes y.0) y.1 × MayCome epoch worker least y.0) (ok_is {E = Fault} made x f.2) (five, (record { range = range; epoch_is = refl; worker_is = refl }, seq.3))

abbrev made_item : ℕ → ℕ → ℕ → ℕ → ℕ → List ℕ → List Write → Item
made_item epoch worker seq index end outs writes = record { stamp = record { epoch = epoch; seq = seq }; worker = worker; index = index; reply = record { outs = outs; end = end_of end }; writes = writes }

same_item : (epoch worker : ℕ) (x : Item) → IsOf epoch worker x → made_item epoch worker x.stamp.seq x.index (end_number x.reply.end) x.reply.outs x.writes ≡ x
same_item epoch worker x own =
    let ended = end-number x.reply.end own.range.end in
    rw (ended, ← own.epoch_is, ← own.worker_is) refl

item_again : (epoch worker least : ℕ) (x : Item) (rest : List ℕ) → MayCome epoch worker least x → ItemHasWords x → item epoch worker least (item_bytes x ++ rest) ≡ Ok (x, rest)
unfolding item
item_again epoch worker least x rest may words =
    let own = may.0 in
    let range = own.range in
    let b1 = big_bytes 8 x.stamp.seq in
    let b2 = big_bytes 4 x.index in
    let n = end_number x.reply.end in
    let b3 = big_bytes 1 n in
    let b4 = numbers_bytes x.reply.outs in
    let b5 = writes_bytes x.writes in
    let r4 = b5 ++ rest in
    let r3 = b4 ++ r4 in
    let r2 = b3 ++ r3 in
    let r1 = b2 ++ r2 in
    let all = b1 ++ r1 in
    let regrouped : item_bytes x ++ rest ≡ all = append_assoc (((b1 ++ b2) ++ b3) ++ b4) b5 rest ∙ append_assoc ((b1 ++ b2) ++ b3) b4 r4 ∙ append_assoc (b1 ++ b2) b3 r3 ∙ append_assoc b1 b2 r2 in
    let seq : rising 8 2 (2 ^ 40 - 2) least all all ≡ Ok (x.stamp.seq, r1) = rising_again 8 2 (2 ^ 40 - 2) least x.stamp.seq all r1 range.seq_low range.seq_high may.1 (omega (arith, range.seq_high)) in
    let index : within 4 1 REQUESTS r1 ≡ Ok (x.index, r2) = within_again 4 1 REQUESTS x.index r2 range.index_low range.index_high (omega (arith, range.index_high)) in
    let ended : within 1 0 OPS r2 ≡ Ok (n, r3) = within_again 1 0 OPS n r3 (omega arith) (number_small x.reply.end range.end) (omega (arith, number_small x.reply.end range.end)) in
    let outs : numbers OPS r3 ≡ Ok (x.reply.outs, r4) = numbers_again OPS x.reply.outs r4 range.outs (omega arith) words.outs in
    let same = end-number x.reply.end range.end in
    let written : writes (most_writes (end_of n)) r4 ≡ Ok (x.writes, rest) = ap (λ (e : End). writes (most_writes e) r4) same ∙ writes_again (most_writes x.reply.end) x.writes rest range.writes (most_small x.reply.end) (recursion_from_All WriteInRange x.writes range.each_write) range.rising (recursion_from_All WriteHasWords x.writes words.writes) in
    ap (item epoch worker least) regrouped
    ∙ ap (λ (r : Result (ℕ × List ℕ) Fault). r >>= λ seq. within 4 1 REQUESTS seq.1 >>= λ index. within 1 0 OPS index.1 >>= λ end. numbers OPS end.1 >>= λ outs. writes (most_writes (end_of end.0)) outs.1 >>= λ writes. Ok (made_item epoch worker seq.0 index.0 end.0 outs.0 writes.0, writes.1)) seq
    ∙ ap (λ (r : Result (ℕ × List ℕ) Fault). r >>= λ index. within 1 0 OPS index.1 >>= λ end. numbers OPS end.1 >>= λ outs. writes (most_writes (end_of end.0)) outs.1 >>= λ writes. Ok (made_item epoch worker x.stamp.seq index.0 end.0 outs.0 writes.0, writes.1)) index
    ∙ ap (λ (r : Result (ℕ × List ℕ) Fault). r >>= λ end. numbers OPS end.1 >>= λ outs. writes (most_writes (end_of end.0)) outs.1 >>= λ writes. Ok (made_item epoch worker x.stamp.seq x.index end.0 outs.0 writes.0, writes.1)) ended
    ∙ ap (λ (r : Result (List ℕ × List ℕ) Fault). r >>= λ outs. writes (most_writes (end_of n)) outs.1 >>= λ writes. Ok (made_item epoch worker x.stamp.seq x.index n outs.0 writes.0, writes.1)) outs
    ∙ ap (λ (r : Result (List Write × List ℕ) Fault). r >>= λ writes. Ok (made_item epoch worker x.stamp.seq x.index n x.reply.outs writes.0, writes.1)) written
    ∙ ap (λ (y : Item). Ok (y, rest)) (same_item epoch worker x own)

item_reader : (epoch worker : ℕ) → IsReader (item epoch worker) item_bytes (MayCome epoch worker) ItemHasWords
item_reader epoch worker = record { takes = item_takes epoch worker; again = item_again epoch worker }

-- ---- items

-- what items of an epoch and a worker are
owned : (epoch worker : ℕ) (xs : List Item) → AllByRecursion (IsOf epoch worker) xs → AllByRecursion (λ x. x.stamp.epoch ≡ epoch) xs × AllByRecursion (λ x. x.worker ≡ worker) xs × AllByRecursion ItemInRange xs
owned epoch worker [] own = (tt, tt, tt)
owned epoch worker (x ∷ xs) own =
    let rest = owned epoch worker xs own.1 in
    ((own.0.epoch_is, rest.0), (own.0.worker_is, rest.1), (own.0.range, rest.2))

owns : (epoch worker : ℕ) (xs : List Item) → AllByRecursion (λ x. x.stamp.epoch ≡ epoch) xs → AllByRecursion (λ x. x.worker ≡ worker) xs → AllByRecursion ItemInRange xs → AllByRecursion (IsOf epoch worker) xs
owns epoch worker [] epochs workers ranges = tt
owns epoch worker (x ∷ xs) epochs workers ranges = (record { range = ranges.0; epoch_is = epochs.0; worker_is = workers.0 }, owns epoch worker xs epochs.1 workers.1 ranges.1)

first_epoch : (epoch : ℕ) (xs : List Item) → 1 ≤ length xs → AllByRecursion (λ x. x.stamp.epoch ≡ epoch) xs → items_epoch xs ≡ epoch
first_epoch epoch [] some same = absurd (omega arith)
first_epoch epoch (x ∷ xs) some same = same.0

first_worker : (worker : ℕ) (xs : List Item) → 1 ≤ length xs → AllByRecursion (λ x. x.worker ≡ worker) xs → items_worker xs ≡ worker
first_worker worker [] some same = absurd (omega arith)
first_worker worker (x ∷ xs) some same = same.0

pub items_takes : (bytes : List ℕ) (x : List Item × List ℕ) → IsBytes bytes → items bytes ≡ Ok x → Takes bytes (items_bytes x.0) x.1 × ItemsInRange x.0
unfolding items
items_takes bytes x fits e =
    let a = bind_ok (within 1 1 BATCH_ITEMS bytes) (λ count. within 4 1 (2 ^ 20 - 1) count.1 >>= λ epoch. within 1 1 WORKERS epoch.1 >>= λ worker. series (item epoch.0 worker.0) seq_after count.0 0 worker.1) x e in
    let b = bind_ok (within 4 1 (2 ^ 20 - 1) a.0.1) (λ epoch. within 1 1 WORKERS epoch.1 >>= λ worker. series (item epoch.0 worker.0) seq_after a.0.0 0 worker.1) x a.2 in
    let c = bind_ok (within 1 1 WORKERS b.0.1) (λ worker. series (item b.0.0 worker.0) seq_after a.0.0 0 worker.1) x b.2 in
    let xs = x.0 in
    let count = within_takes 1 1 BATCH_ITEMS bytes a.0 fits a.1 in
    let epoch = within_takes 4 1 (2 ^ 20 - 1) a.0.1 b.0 count.0.rest_fits b.1 in
    let worker = within_takes 1 1 WORKERS b.0.1 c.0 epoch.0.rest_fits c.1 in
    let each = series_takes (item b.0.0 c.0.0) item_bytes (MayCome b.0.0 c.0.0) ItemHasWords seq_after (item_reader b.0.0 c.0.0) a.0.0 0 c.0.1 x worker.0.rest_fits c.2 in
    let rise = chain_rises (IsOf b.0.0 c.0.0) IsLate seq_after IsBefore seqs_rise 0 xs each.2 in
    let own = owned b.0.0 c.0.0 xs rise.0 in
    let some : 1 ≤ length xs = omega (arith, each.1, count.1) in
    let epoch-is : items_epoch xs ≡ b.0.0 = first_epoch b.0.0 xs some own.0 in
    let worker-is : items_worker xs ≡ c.0.0 = first_worker c.0.0 xs some own.1 in
    let two = Takes-then bytes (big_bytes 1 a.0.0) a.0.1 (big_bytes 4 b.0.0) b.0.1 count.0 epoch.0 in
    let three = Takes-then bytes (big_bytes 1 a.0.0 ++ big_bytes 4 b.0.0) b.0.1 (big_bytes 1 c.0.0) c.0.1 two worker.0 in
    let four = Takes-then bytes ((big_bytes 1 a.0.0 ++ big_bytes 4 b.0.0) ++ big_bytes 1 c.0.0) c.0.1 (flat_map item_bytes xs) x.1 three each.0 in
    let four' = subst (λ (k : ℕ). Takes bytes (((big_bytes 1 k ++ big_bytes 4 b.0.0) ++ big_bytes 1 c.0.0) ++ flat_map item_bytes xs) x.1) (sym each.1) four in
    let four'' = subst (λ (k : ℕ). Takes bytes (((big_bytes 1 (length xs) ++ big_bytes 4 k) ++ big_bytes 1 c.0.0) ++ flat_map item_bytes xs) x.1) (sym epoch-is) four' in
    let whole = subst (λ (k : ℕ). Takes bytes (((big_bytes 1 (length xs) ++ big_bytes 4 (items_epoch xs)) ++ big_bytes 1 k) ++ flat_map item_bytes xs) x.1) (sym worker-is) four'' in (
      whole,
      record {
        some = some;
        few = omega (arith, each.1, count.2);
        epoch_low = rw epoch-is epoch.1;
        epoch_high = rw epoch-is epoch.2;
        worker_low = rw worker-is worker.1;
        worker_high = rw worker-is worker.2;
        one_epoch = rw epoch-is (All-from_recursion (λ x. x.stamp.epoch ≡ b.0.0) xs own.0);
        one_worker = rw worker-is (All-from_recursion (λ x. x.worker ≡ c.0.0) xs own.1);
        each = All-from_recursion ItemInRange xs own.2;
        rising = rise.1;
      },
    )

all_late : (xs : List Item) → AllByRecursion (IsLate 0) xs
all_late [] = tt
all_late (x ∷ xs) = (omega arith, all_late xs)

pub items_again : (xs : List Item) (rest : List ℕ) → ItemsInRange xs → All ItemHasWords xs → items (items_bytes xs ++ rest) ≡ Ok (xs, rest)
unfolding items
items_again xs rest range words =
    let epoch = items_epoch xs in
    let worker = items_worker xs in
    let b1 = big_bytes 1 (length xs) in
    let b2 = big_bytes 4 epoch in
    let b3 = big_bytes 1 worker in
    let b4 = flat_map item_bytes xs in
    let r3 = b4 ++ rest in
    let r2 = b3 ++ r3 in
    let r1 = b2 ++ r2 in
    let regrouped : items_bytes xs ++ rest ≡ b1 ++ r1 = append_assoc ((b1 ++ b2) ++ b3) b4 rest ∙ append_assoc (b1 ++ b2) b3 r3 ∙ append_assoc b1 b2 r2 in
    let count : within 1 1 BATCH_ITEMS (b1 ++ r1) ≡ Ok (length xs, r1) = within_again 1 1 BATCH_ITEMS (length xs) r1 range.some range.few (omega (arith, range.few)) in
    let epochs : within 4 1 (2 ^ 20 - 1) r1 ≡ Ok (epoch, r2) = within_again 4 1 (2 ^ 20 - 1) epoch r2 range.epoch_low range.epoch_high (omega (arith, range.epoch_high)) in
    let workers : within 1 1 WORKERS r2 ≡ Ok (worker, r3) = within_again 1 1 WORKERS worker r3 range.worker_low range.worker_high (omega (arith, range.worker_high)) in
    let own = owns epoch worker xs (recursion_from_All (λ x. x.stamp.epoch ≡ epoch) xs range.one_epoch) (recursion_from_All (λ x. x.worker ≡ worker) xs range.one_worker) (recursion_from_All ItemInRange xs range.each) in
    let chain = rising_chain (IsOf epoch worker) IsLate seq_after IsBefore seqs_rise 0 xs own range.rising (all_late xs) in
    let each : series (item epoch worker) seq_after (length xs) 0 r3 ≡ Ok (xs, rest) = series_again (item epoch worker) item_bytes (MayCome epoch worker) ItemHasWords seq_after (item_reader epoch worker) xs 0 rest chain (recursion_from_All ItemHasWords xs words) in
    ap items regrouped
    ∙ ap (λ (r : Result (ℕ × List ℕ) Fault). r >>= λ count. within 4 1 (2 ^ 20 - 1) count.1 >>= λ epoch. within 1 1 WORKERS epoch.1 >>= λ worker. series (item epoch.0 worker.0) seq_after count.0 0 worker.1) count
    ∙ ap (λ (r : Result (ℕ × List ℕ) Fault). r >>= λ epoch. within 1 1 WORKERS epoch.1 >>= λ worker. series (item epoch.0 worker.0) seq_after (length xs) 0 worker.1) epochs
    ∙ ap (λ (r : Result (ℕ × List ℕ) Fault). r >>= λ worker. series (item epoch worker.0) seq_after (length xs) 0 worker.1) workers
    ∙ each
