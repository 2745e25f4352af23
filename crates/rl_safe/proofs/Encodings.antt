-- What a leader proposes is read back from its encoding.
use Rattle.std.proofs.Common.{◌≡◌, ℕ, zero, suc, ◌-◌, ◌^◌, ◌<◌, ◌≤◌, List, [], ◌∷◌, ◌++◌, length, map, get_or, true, is_some, Option, Some, None, IsSomeAnd, IfSome, All, AllPairs, refl, sym, ap, ◌∙◌, subst, arith, inl, inr}
use Rattle.std.proofs.lemmas.List.Elements.{filter_map-append}
use Rattle.std.specs.Prelude.{slice_get}
use Rattle.std.specs.Option.{option_map_or}
use Rattle.std.specs.List.{cons_option}
use Rattle.std.specs.Result.{result_ok}
use Rattle.rl_base.specs.declared.limit.TheConstants.{WORKERS, RECORDS, OPS}
use Rattle.rl_base.proofs.Members.{In, in_prefix, in_split, in_map, all_in}
use Rattle.rl_base.proofs.Tests.{both_true}
use Rattle.rl_value.specs.Tables.{Table, IsTable, IsSchema, size_of, columns_of}
use Rattle.rl_txn.specs.declared.batch.Batch.{Batch}
use Rattle.rl_txn.specs.declared.batch.Batch.TheVariants.{Items}
use Rattle.rl_txn.specs.declared.item.Item.{Item}
use Rattle.rl_txn.specs.declared.op.Op.{Op}
use Rattle.rl_txn.specs.declared.write.End.{End}
use Rattle.rl_txn.specs.declared.write.End.TheVariants.{Done, Declined}
use Rattle.rl_txn.specs.declared.write.Write.{Write}
use Rattle.rl_txn.specs.Fits.{TxnFits, AnswerFits, EndFits, WritesIfDone, WriteFits, RowHas}
use Rattle.rl_txn.specs.Serial.{numbered, request_of}
use Rattle.rl_txn.specs.Words.{ItemHasWords}
use Rattle.rl_batch.specs.declared.item.TheConstants.{BATCH_ITEMS}
use Rattle.rl_batch.specs.Encoding.{batch_bytes}
use Rattle.rl_batch.specs.Ranges.{BatchInRange, HasWords, ItemsInRange, ItemInRange, WriteInRange, EndInRange, most_writes}
use Rattle.rl_msg.specs.Ranges.{EmbeddedBatchInRange}
use Rattle.rl_paxos.specs.Logs as bytes
use Rattle.rl_families.specs.Leaders.{open_mark}
use Rattle.rl_families.proofs.Rising.{Rises, above_in}
use Rattle.rl_worker.specs.Opening.{OpenLeader, CoreFits}
use Rattle.rl_worker.specs.OneTurn.{SeenInRange}
use Rattle.rl_nodes.specs.Batches.{batch_of, batches_of, are_batches, idle_mark}
use Rattle.rl_nodes.proofs.Deliveries.{got_in}
use Rattle.rl_safe.proofs.Below.{Below}
use Rattle.rl_safe.proofs.Listed.{all_from, in_at, both_some}

-- ---- batches along bytes ----

pub batches-append : (xs ys : bytes.Log) → batches_of (xs ++ ys) ≡ batches_of xs ++ batches_of ys
batches-append xs ys = filter_map-append batch_of xs ys

pub batches_more : (log : bytes.Log) (b : bytes.Batch) (batch : Batch) → batch_of b ≡ Some batch → batches_of (log ++ b ∷ []) ≡ batches_of log ++ batch ∷ []
batches_more log b batch is = batches-append log (b ∷ []) ∙ ap (λ o. batches_of log ++ cons_option o []) is

-- bytes that are read as a batch, as many as a batch may have
abbrev pub Encodes : bytes.Batch → Batch → Type 0
Encodes b batch = (batch_of b ≡ Some batch) × EmbeddedBatchInRange b

-- each element of a log is so
abbrev pub AllEncode : bytes.Log → Type 0
AllEncode log = (b : bytes.Batch) → In b log → (batch : Batch) × Encodes b batch

pub none_encoded : AllEncode []
none_encoded b i = absurd i

pub encoded-append : (xs ys : bytes.Log) → AllEncode xs → AllEncode ys → AllEncode (xs ++ ys)
encoded-append xs ys p q b i = elim (in_split xs ys b i) [ inl j ↦ p b j | inr j ↦ q b j ]

pub encoded_one : (b : bytes.Batch) (batch : Batch) → Encodes b batch → AllEncode (b ∷ [])
encoded_one b batch is c i = elim i [ inl e ↦ subst (λ d. (batch : Batch) × Encodes d batch) (sym e) (batch, is) | inr j ↦ absurd j ]

pub encoded_front : (xs ys : bytes.Log) → AllEncode (xs ++ ys) → AllEncode xs
encoded_front xs ys h b i = h b (in_prefix xs ys b i)

pub are_encoded : (log : bytes.Log) → AllEncode log → are_batches log ≡ true
are_encoded [] h = refl
are_encoded (x ∷ xs) h =
    both_true (is_some (batch_of x)) (are_batches xs) (ap is_some (h x (inl refl)).1.0) (are_encoded xs (λ b i. h b (inr i)))

-- ---- items in range ----

module _ (tables : List Table) (schema : IsSchema tables) where
  record Limits (size columns : ℕ) : Type 0 where
    pub keys : size ≤ RECORDS
    pub some : 1 ≤ columns
    pub few : columns ≤ 4

  table_at : (o : Option Table) (t : ℕ) → slice_get tables t ≡ o → (k : ℕ) → k < option_map_or (λ x. x.size) o 0
      → Limits (option_map_or (λ x. x.size) o 0) (option_map_or (λ x. x.columns) o 0)
  table_at None t is k l = absurd (omega (arith, l))
  table_at (Some x) t is k l =
      let ok : IsTable x = all_in IsTable tables schema.each x (got_in tables t x is) in
      record { keys = ok.few_keys; some = ok.some_columns; few = ok.few_columns }

  row_some : (n : ℕ) (row : Option (List ℕ)) → 1 ≤ n → RowHas n row → IfSome row (λ r. 1 ≤ length r)
  row_some n None l h = tt
  row_some n (Some row) l h = omega (arith, l, h)

  row_few : (n : ℕ) (row : Option (List ℕ)) → n ≤ 4 → RowHas n row → IfSome row (λ r. length r ≤ 4)
  row_few n None l h = tt
  row_few n (Some row) l h = omega (arith, l, h)

  write_in_range : (w : Write) → WriteFits tables w → WriteInRange w
  write_in_range w fits =
      let limits : Limits (size_of tables w.table) (columns_of tables w.table) = table_at (slice_get tables w.table) w.table refl w.key fits.1 in
      record {
        table = let few = schema.few in omega (arith, fits.0, few);
        key = let keys = limits.keys in omega (arith, fits.1, keys);
        some_columns = row_some (columns_of tables w.table) w.row limits.some fits.2;
        few_columns = row_few (columns_of tables w.table) w.row limits.few fits.2;
      }

end_in_range : (txn : List Op) (end : End) → length txn ≤ OPS → EndFits txn end → EndInRange end
end_in_range txn Done few h = tt
end_in_range txn (Declined op) few h = (h.0, omega (arith, h.1, few))

few_writes : (txn : List Op) (end : End) (writes : List Write) → length txn ≤ OPS → length writes ≤ length txn → WritesIfDone end writes
    → length writes ≤ most_writes end
few_writes txn Done writes few h done = omega (arith, few, h)
few_writes txn (Declined op) writes few h done = omega (arith, ap length done)

module _ (l : OpenLeader) (fits : CoreFits l) where
  request_fits : (x : Item) (txn : List Op) → request_of l.lists x ≡ Some txn → TxnFits l.tables txn
  request_fits x txn is =
      let parts = both_some (λ list. numbered list x.index) (numbered l.lists x.worker) txn is in
      at_number (TxnFits l.tables) parts.0 x.index txn parts.2
      (at_number (All (TxnFits l.tables)) l.lists x.worker parts.0 parts.1 fits.lists_fit.each)
    where
      at_number : {A : Type 0} (P : A → Type 0) (xs : List A) (n : ℕ) (x : A) → numbered xs n ≡ Some x → All P xs → P x
      at_number P xs zero x e all = cc
      at_number P xs (suc n) x e all = all_in P xs all x (got_in xs n x e)

  item_in_range : (x : Item) → SeenInRange l x → ItemInRange x
  item_in_range x seen = by_request (request_of l.lists x) refl seen.fits
    where
      by_request : (o : Option (List Op)) → request_of l.lists x ≡ o → IsSomeAnd o (λ txn. AnswerFits l.tables txn x.reply x.writes) → ItemInRange x
      by_request None is h = absurd h
      by_request (Some txn) is h =
          let few : length txn ≤ OPS = (request_fits x txn is).few in
          record {
            seq_low = seen.seq_low;
            seq_high = seen.seq_high;
            index_low = seen.index_low;
            index_high = seen.index_high;
            end = end_in_range txn x.reply.end few h.end;
            outs = let outs = h.outs in omega (arith, outs, few);
            writes = few_writes txn x.reply.end x.writes few h.few h.done;
            each_write = all_from WriteInRange x.writes (λ w i. write_in_range l.tables fits.schema w (all_in (WriteFits l.tables) x.writes h.fit w i));
            rising = h.rising;
          }

-- stamps of one epoch that rise have rising seqs
seqs_rise : (e : ℕ) (xs : List Item) → ((x : Item) → In x xs → x.stamp.epoch ≡ e) → Rises (map (λ (x : Item). x.stamp) xs)
    → AllPairs (λ (x : Item) (y : Item). x.stamp.seq < y.stamp.seq) xs
seqs_rise e [] same r i j d p q = absurd (omega (arith, q))
seqs_rise e (x ∷ xs) same r i zero d p q = absurd (omega (arith, p))
seqs_rise e (x ∷ xs) same r zero (suc j) d p q =
    let y : Item = get_or xs j d in
    let here : In y xs = in_at xs j d (omega (arith, q)) in
    elim (above_in x.stamp (map (λ (z : Item). z.stamp) xs) y.stamp r.0 (in_map (λ (z : Item). z.stamp) y xs here)) [
      | inl less ↦ absurd (let one = same x (inl refl) in let two = same y (inr here) in omega (arith, less, one, two))
      | inr less ↦ less.1
    ]
seqs_rise e (x ∷ xs) same r (suc i) (suc j) d p q = seqs_rise e xs (λ y k. same y (inr k)) r.1 i j d (omega (arith, p)) (omega (arith, q))

-- pending items of a worker
pub record ArePending (l : OpenLeader) (w : ℕ) (xs : List Item) : Type 0 where
  pub some : 1 ≤ length xs
  pub few : length xs ≤ BATCH_ITEMS
  pub seen : (x : Item) → In x xs → SeenInRange l x × ItemHasWords x × (x.worker ≡ w)
  pub rise : Rises (map (λ (x : Item). x.stamp) xs)

module _ (b : Below) where
  encodes : (batch : Batch) → BatchInRange batch → HasWords batch → Encodes (batch_bytes batch) batch
  encodes batch range words = (ap result_ok (b.read_back batch range words), b.short batch range)

  pub mark_read : (e : ℕ) → 1 ≤ e → e < 2 ^ 20 → Encodes (batch_bytes (open_mark e)) (open_mark e)
  mark_read e low high =
      encodes (open_mark e) (record { epoch_low = low; epoch_high = omega (arith, high); seq_low = omega arith; seq_high = omega arith }) tt

  pub idle_read : (e q : ℕ) → 1 ≤ e → e < 2 ^ 20 → 2 ≤ q → q ≤ 2 ^ 40 - 1 → Encodes (batch_bytes (idle_mark e q)) (idle_mark e q)
  idle_read e q low high above below =
      encodes (idle_mark e q) (record { epoch_low = low; epoch_high = omega (arith, high); seq_low = above; seq_high = below }) tt

  pub items_read : (l : OpenLeader) → CoreFits l → 1 ≤ l.epoch → l.epoch < 2 ^ 20 → (w : ℕ) → 1 ≤ w → w ≤ WORKERS
      → (xs : List Item) → ArePending l w xs → Encodes (batch_bytes (Items xs)) (Items xs)
  items_read l fits low high w first last [] p = absurd (let some = p.some in omega (arith, some))
  items_read l fits low high w first last (x ∷ xs) p =
      let epoch : (y : Item) → In y (x ∷ xs) → y.stamp.epoch ≡ l.epoch = λ y i. (p.seen y i).0.epoch in
      let worker : (y : Item) → In y (x ∷ xs) → y.worker ≡ w = λ y i. (p.seen y i).2 in
      let one = epoch x (inl refl) in
      let own = worker x (inl refl) in
      let range : ItemsInRange (x ∷ xs) = record {
        some = p.some;
        few = p.few;
        epoch_low = omega (arith, low, one);
        epoch_high = omega (arith, high, one);
        worker_low = omega (arith, first, own);
        worker_high = omega (arith, last, own);
        one_epoch = all_from (λ (y : Item). y.stamp.epoch ≡ x.stamp.epoch) (x ∷ xs) (λ y i. epoch y i ∙ sym one);
        one_worker = all_from (λ (y : Item). y.worker ≡ x.worker) (x ∷ xs) (λ y i. worker y i ∙ sym own);
        each = all_from ItemInRange (x ∷ xs) (λ y i. item_in_range l fits y (p.seen y i).0);
        rising = seqs_rise l.epoch (x ∷ xs) epoch p.rise;
      } in
      encodes (Items (x ∷ xs)) range (all_from ItemHasWords (x ∷ xs) (λ y i. (p.seen y i).1))
