-- What a worker commits is in the range of batches.
use Rattle.std.proofs.Common.{◌≡◌, ℕ, zero, suc, ◌^◌, ◌<◌, ◌≤◌, List, [], ◌∷◌, length, get_or, map, sum_by, Option, Some, None, IsSomeAnd, IfSome, All, AllPairs, refl, sym, ap, ◌∙◌, arith, inl, inr}
use Rattle.std.proofs.lemmas.List.Sums.{sum_by-cons}
use Rattle.std.specs.Prelude.{slice_get}
use Rattle.std.specs.Option.{option_map_or, option_and_then}
use Rattle.rl_base.specs.declared.limit.TheConstants.{RECORDS, OPS}
use Rattle.rl_base.proofs.Members.{In, in_map, all_in}
use Rattle.rl_value.specs.Tables.{Table, IsTable, IsSchema, size_of, columns_of}
use Rattle.rl_txn.specs.declared.item.Item.{Item}
use Rattle.rl_txn.specs.declared.op.Op.{Op}
use Rattle.rl_txn.specs.declared.write.End.{End}
use Rattle.rl_txn.specs.declared.write.End.TheVariants.{Done, Declined}
use Rattle.rl_txn.specs.declared.write.Write.{Write}
use Rattle.rl_txn.specs.Fits.{TxnFits, ListsFit, AnswerFits, EndFits, WritesIfDone, WriteFits, RowHas, ItemFits}
use Rattle.rl_txn.specs.Serial.{numbered, request_of}
use Rattle.rl_txn.proofs.Answers.{all_numbered, all_get}
use Rattle.rl_batch.specs.declared.item.TheConstants.{BATCH_ITEMS}
use Rattle.rl_batch.specs.Ranges.{ItemsInRange, ItemInRange, WriteInRange, EndInRange, most_writes}
use Rattle.rl_families.proofs.Rising.{Rises, above_in}
use Rattle.rl_live.specs.Workers.{IsCommit}

-- ---- elements of a number ----
both_some : {A B : Type 0} (f : A → Option B) (o : Option A) (y : B) → option_and_then f o ≡ Some y → (x : A) × (o ≡ Some x) × (f x ≡ Some y)
both_some f None y e = absurd (cc)
both_some f (Some x) y e = (x, refl, e)

got_below : {A : Type 0} (xs : List A) (i : ℕ) (x : A) → slice_get xs i ≡ Some x → i < length xs
got_below [] i x e = absurd (cc)
got_below (y ∷ xs) zero x e = omega arith
got_below (y ∷ xs) (suc i) x e = let h = got_below xs i x e in omega (arith, h)

pub numbered_within : {A : Type 0} (xs : List A) (n : ℕ) (x : A) → numbered xs n ≡ Some x → (1 ≤ n) × (n ≤ length xs)
numbered_within xs zero x e = absurd (cc)
numbered_within xs (suc n) x e = let h = got_below xs n x e in (omega arith, omega (arith, h))

got_sum : {A : Type 0} (lists : List (List A)) (i : ℕ) (list : List A) → slice_get lists i ≡ Some list → length list ≤ sum_by length lists
got_sum [] i list e = absurd (cc)
got_sum (l ∷ lists) zero list e = let same : l ≡ list = cc in let n = ap length same in let t = sum_by-cons length l lists in omega (arith, n, t)
got_sum (l ∷ lists) (suc i) list e = let h = got_sum lists i list e in let t = sum_by-cons length l lists in omega (arith, h, t)

pub numbered_sum : {A : Type 0} (lists : List (List A)) (n : ℕ) (list : List A) → numbered lists n ≡ Some list → length list ≤ sum_by length lists
numbered_sum lists zero list e = absurd (cc)
numbered_sum lists (suc n) list e = got_sum lists n list e

pub all_from : {A : Type 0} (P : A → Type 0) (xs : List A) → ((x : A) → In x xs → P x) → All P xs
all_from P [] h k d l = absurd (omega (arith, l))
all_from P (x ∷ xs) h zero d l = h x (inl refl)
all_from P (x ∷ xs) h (suc k) d l = all_from P xs (λ y i. h y (inr i)) k d (omega (arith, l))

pub in_at : {A : Type 0} (xs : List A) (k : ℕ) (d : A) → k < length xs → In (get_or xs k d) xs
in_at [] k d l = absurd (omega (arith, l))
in_at (x ∷ xs) zero d l = inl refl
in_at (x ∷ xs) (suc k) d l = inr (in_at xs k d (omega (arith, l)))

-- ---- an item ----
module _ (tables : List Table) (schema : IsSchema tables) where
  record Limits (size columns : ℕ) : Type 0 where
    pub keys : size ≤ RECORDS
    pub some : 1 ≤ columns
    pub few : columns ≤ 4

  table_at : (o : Option Table) (t : ℕ) → slice_get tables t ≡ o → (k : ℕ) → k < option_map_or (λ x. x.size) o 0
      → Limits (option_map_or (λ x. x.size) o 0) (option_map_or (λ x. x.columns) o 0)
  table_at None t is k l = absurd (omega (arith, l))
  table_at (Some x) t is k l =
      let ok : IsTable x = all_get IsTable tables t x is schema.each in
      record { keys = ok.few_keys; some = ok.some_columns; few = ok.few_columns }

  row_some : (n : ℕ) (row : Option (List ℕ)) → 1 ≤ n → RowHas n row → IfSome row (λ r. 1 ≤ length r)
  row_some n None l h = tt
  row_some n (Some row) l h = omega (arith, l, h)

  row_few : (n : ℕ) (row : Option (List ℕ)) → n ≤ 4 → RowHas n row → IfSome row (λ r. length r ≤ 4)
  row_few n None l h = tt
  row_few n (Some row) l h = omega (arith, l, h)

  write_in_range : (w : Write) → WriteFits tables w → WriteInRange w
  write_in_range w fits =
      let limits : Limits (size_of tables w.table) (columns_of tables w.table) = table_at (slice_get tables w.table) w.table refl w.key fits.1 in
      record {
        table = let few = schema.few in omega (arith, fits.0, few);
        key = let keys = limits.keys in omega (arith, fits.1, keys);
        some_columns = row_some (columns_of tables w.table) w.row limits.some fits.2;
        few_columns = row_few (columns_of tables w.table) w.row limits.few fits.2;
      }

end_in_range : (txn : List Op) (end : End) → length txn ≤ OPS → EndFits txn end → EndInRange end
end_in_range txn Done few h = tt
end_in_range txn (Declined op) few h = (h.0, omega (arith, h.1, few))

few_writes : (txn : List Op) (end : End) (writes : List Write) → length txn ≤ OPS → length writes ≤ length txn → WritesIfDone end writes
    → length writes ≤ most_writes end
few_writes txn Done writes few h done = omega (arith, few, h)
few_writes txn (Declined op) writes few h done = omega (arith, ap length done)

module _ (tables : List Table) (lists : List (List (List Op))) (schema : IsSchema tables) (fit : ListsFit tables lists) (epoch w : ℕ) where
  item_in_range : (x : Item) → IsCommit epoch w x → ItemFits tables lists x → ItemInRange x
  item_in_range x commit fits = by_request (request_of lists x) refl fits
    where
      by_request : (o : Option (List Op)) → request_of lists x ≡ o → IsSomeAnd o (λ txn. AnswerFits tables txn x.reply x.writes) → ItemInRange x
      by_request None is h = absurd h
      by_request (Some txn) is h =
          let parts = both_some (λ list. numbered list x.index) (numbered lists x.worker) txn is in
          let ok : TxnFits tables txn = all_numbered (TxnFits tables) parts.0 x.index txn parts.2 (all_numbered (All (TxnFits tables)) lists x.worker parts.0 parts.1 fit.each) in
          let few : length txn ≤ OPS = ok.few in
          let within = numbered_within parts.0 x.index txn parts.2 in
          let all = numbered_sum lists x.worker parts.0 parts.1 in
          record {
            seq_low = commit.low;
            seq_high = commit.high;
            index_low = within.0;
            index_high = let most = fit.requests in omega (arith, within.1, all, most);
            end = end_in_range txn x.reply.end few h.end;
            outs = let outs = h.outs in omega (arith, outs, few);
            writes = few_writes txn x.reply.end x.writes few h.few h.done;
            each_write = all_from WriteInRange x.writes (λ v i. write_in_range tables schema v (all_in (WriteFits tables) x.writes h.fit v i));
            rising = h.rising;
          }

  -- stamps of one epoch that rise have rising seqs
  seqs_rise : (xs : List Item) → ((x : Item) → In x xs → x.stamp.epoch ≡ epoch) → Rises (map (λ (x : Item). x.stamp) xs)
      → AllPairs (λ (x : Item) (y : Item). x.stamp.seq < y.stamp.seq) xs
  seqs_rise [] same r i j d p q = absurd (omega (arith, q))
  seqs_rise (x ∷ xs) same r i zero d p q = absurd (omega (arith, p))
  seqs_rise (x ∷ xs) same r zero (suc j) d p q =
      let y : Item = get_or xs j d in
      let here : In y xs = in_at xs j d (omega (arith, q)) in
      elim (above_in x.stamp (map (λ (z : Item). z.stamp) xs) y.stamp r.0 (in_map (λ (z : Item). z.stamp) y xs here)) [
        | inl less ↦ absurd (let one = same x (inl refl) in let two = same y (inr here) in omega (arith, less, one, two))
        | inr less ↦ less.1
      ]
  seqs_rise (x ∷ xs) same r (suc i) (suc j) d p q = seqs_rise xs (λ y k. same y (inr k)) r.1 i j d (omega (arith, p)) (omega (arith, q))

  -- items of a worker make a batch
  pub items_in_range : (xs : List Item) → 1 ≤ epoch → epoch < 2 ^ 20 → 1 ≤ w → w ≤ length lists → 1 ≤ length xs → length xs ≤ BATCH_ITEMS
      → All (IsCommit epoch w) xs → ((x : Item) → In x xs → ItemFits tables lists x)
      → Rises (map (λ (x : Item). x.stamp) xs) → ItemsInRange xs
  items_in_range [] low high first last some few commits fits r = absurd (omega (arith, some))
  items_in_range (x ∷ xs) low high first last some few commits fits r =
      let dated : (y : Item) → In y (x ∷ xs) → y.stamp.epoch ≡ epoch = λ y i. (all_in (IsCommit epoch w) (x ∷ xs) commits y i).dated in
      let own : (y : Item) → In y (x ∷ xs) → y.worker ≡ w = λ y i. (all_in (IsCommit epoch w) (x ∷ xs) commits y i).own in
      let one = dated x (inl refl) in
      let mine = own x (inl refl) in
      let most = fit.workers in
      record {
        some = some;
        few = few;
        epoch_low = omega (arith, low, one);
        epoch_high = omega (arith, high, one);
        worker_low = omega (arith, first, mine);
        worker_high = omega (arith, last, mine, most);
        one_epoch = all_from (λ (y : Item). y.stamp.epoch ≡ x.stamp.epoch) (x ∷ xs) (λ y i. dated y i ∙ sym one);
        one_worker = all_from (λ (y : Item). y.worker ≡ x.worker) (x ∷ xs) (λ y i. own y i ∙ sym mine);
        each = all_from ItemInRange (x ∷ xs) (λ y i. item_in_range y (all_in (IsCommit epoch w) (x ∷ xs) commits y i) (fits y i));
        rising = seqs_rise (x ∷ xs) dated r;
      }
