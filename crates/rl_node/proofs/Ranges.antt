-- What a leader proposes is in the range of batches, and fits the tables.
use Rattle.std.proofs.Common.{◌≡◌, ℕ, zero, suc, ◌-◌, ◌^◌, ◌<◌, ◌≤◌, List, [], ◌∷◌, length, get_or, true, Option, Some, None, IsSomeAnd, IfSome, All, AllPairs, refl, sym, ap, ◌∙◌, arith, inl, inr}
use Rattle.std.specs.Prelude.{slice_get}
use Rattle.std.specs.Option.{option_map_or, option_and_then}
use Rattle.std.specs.List.{list_all}
use Rattle.rl_base.specs.declared.limit.TheConstants.{WORKERS, RECORDS, OPS}
use Rattle.rl_base.proofs.Members.{In, in_map, all_in}
use Rattle.rl_base.proofs.Tests.{both_true}
use Rattle.rl_value.specs.Tables.{Table, IsTable, IsSchema, size_of, columns_of}
use Rattle.rl_txn.specs.declared.item.Item.{Item}
use Rattle.rl_txn.specs.declared.op.Op.{Op}
use Rattle.rl_txn.specs.declared.write.End.{End}
use Rattle.rl_txn.specs.declared.write.End.TheVariants.{Done, Declined}
use Rattle.rl_txn.specs.declared.write.Write.{Write}
use Rattle.rl_txn.specs.Fits.{TxnFits, AnswerFits, EndFits, WritesIfDone, WriteFits, RowHas}
use Rattle.rl_txn.specs.Serial.{numbered, request_of}
use Rattle.rl_batch.specs.declared.item.TheConstants.{BATCH_ITEMS}
use Rattle.rl_batch.specs.Ranges.{ItemsInRange, ItemInRange, WriteInRange, EndInRange, most_writes}
use Rattle.rl_families.proofs.Rising.{Rises, above_in}
use Rattle.rl_worker.specs.Opening.{OpenLeader, CoreFits}
use Rattle.rl_worker.specs.OneTurn.{SeenInRange}
use Rattle.rl_nodes.specs.BadMessages.{write_fits}
use Rattle.rl_nodes.proofs.Deliveries.{got_in}
use Rattle.rl_nodes.proofs.Telling.{tests_tell}
use Rattle.rl_node.proofs.Keeps.{all_from, stamp_list}

pub in_at : {A : Type 0} (xs : List A) (k : ℕ) (d : A) → k < length xs → In (get_or xs k d) xs
in_at [] k d l = absurd (omega (arith, l))
in_at (x ∷ xs) zero d l = inl refl
in_at (x ∷ xs) (suc k) d l = inr (in_at xs k d (omega (arith, l)))

both_some : {A B : Type 0} (f : A → Option B) (o : Option A) (y : B) → option_and_then f o ≡ Some y → (x : A) × (o ≡ Some x) × (f x ≡ Some y)
both_some f None y e = cc
both_some f (Some x) y e = (x, refl, e)

module _ (tables : List Table) (schema : IsSchema tables) where
  record Limits (size columns : ℕ) : Type 0 where
    pub keys : size ≤ RECORDS
    pub some : 1 ≤ columns
    pub few : columns ≤ 4

  table_at : (o : Option Table) (t : ℕ) → slice_get tables t ≡ o → (k : ℕ) → k < option_map_or (λ x. x.size) o 0
      → Limits (option_map_or (λ x. x.size) o 0) (option_map_or (λ x. x.columns) o 0)
  table_at None t is k l = absurd (omega (arith, l))
  table_at (Some x) t is k l =
      let ok : IsTable x = all_in IsTable tables schema.each x (got_in tables t x is) in
      record { keys = ok.few_keys; some = ok.some_columns; few = ok.few_columns }

  row_some : (n : ℕ) (row : Option (List ℕ)) → 1 ≤ n → RowHas n row → IfSome row (λ r. 1 ≤ length r)
  row_some n None l h = tt
  row_some n (Some row) l h = omega (arith, l, h)

  row_few : (n : ℕ) (row : Option (List ℕ)) → n ≤ 4 → RowHas n row → IfSome row (λ r. length r ≤ 4)
  row_few n None l h = tt
  row_few n (Some row) l h = omega (arith, l, h)

  write_in_range : (w : Write) → WriteFits tables w → WriteInRange w
  write_in_range w fits =
      let limits : Limits (size_of tables w.table) (columns_of tables w.table) = table_at (slice_get tables w.table) w.table refl w.key fits.1 in
      record {
        table = let few = schema.few in omega (arith, fits.0, few);
        key = let keys = limits.keys in omega (arith, fits.1, keys);
        some_columns = row_some (columns_of tables w.table) w.row limits.some fits.2;
        few_columns = row_few (columns_of tables w.table) w.row limits.few fits.2;
      }

end_in_range : (txn : List Op) (end : End) → length txn ≤ OPS → EndFits txn end → EndInRange end
end_in_range txn Done few h = tt
end_in_range txn (Declined op) few h = (h.0, omega (arith, h.1, few))

few_writes : (txn : List Op) (end : End) (writes : List Write) → length txn ≤ OPS → length writes ≤ length txn → WritesIfDone end writes
    → length writes ≤ most_writes end
few_writes txn Done writes few h done = omega (arith, few, h)
few_writes txn (Declined op) writes few h done = omega (arith, ap length done)

module _ (l : OpenLeader) (fits : CoreFits l) where
  request_fits : (x : Item) (txn : List Op) → request_of l.lists x ≡ Some txn → TxnFits l.tables txn
  request_fits x txn is =
      let parts = both_some (λ list. numbered list x.index) (numbered l.lists x.worker) txn is in
      at_number (TxnFits l.tables) parts.0 x.index txn parts.2
      (at_number (All (TxnFits l.tables)) l.lists x.worker parts.0 parts.1 fits.lists_fit.each)
    where
      at_number : {A : Type 0} (P : A → Type 0) (xs : List A) (n : ℕ) (x : A) → numbered xs n ≡ Some x → All P xs → P x
      at_number P xs zero x e all = cc
      at_number P xs (suc n) x e all = all_in P xs all x (got_in xs n x e)

  item_in_range : (x : Item) → SeenInRange l x → ItemInRange x
  item_in_range x seen = by_request (request_of l.lists x) refl seen.fits
    where
      by_request : (o : Option (List Op)) → request_of l.lists x ≡ o → IsSomeAnd o (λ txn. AnswerFits l.tables txn x.reply x.writes) → ItemInRange x
      by_request None is h = absurd h
      by_request (Some txn) is h =
          let few : length txn ≤ OPS = (request_fits x txn is).few in
          record {
            seq_low = seen.seq_low;
            seq_high = seen.seq_high;
            index_low = seen.index_low;
            index_high = seen.index_high;
            end = end_in_range txn x.reply.end few h.end;
            outs = let outs = h.outs in omega (arith, outs, few);
            writes = few_writes txn x.reply.end x.writes few h.few h.done;
            each_write = all_from WriteInRange x.writes (λ w i. write_in_range l.tables fits.schema w (all_in (WriteFits l.tables) x.writes h.fit w i));
            rising = h.rising;
          }

  -- what it writes fits the tables
  pub writes_fit : (x : Item) → SeenInRange l x → list_all (write_fits l.tables) x.writes ≡ true
  writes_fit x seen = by_request (request_of l.lists x) seen.fits
    where
      all_true : (ws : List Write) → ((w : Write) → In w ws → WriteFits l.tables w) → list_all (write_fits l.tables) ws ≡ true
      all_true [] h = refl
      all_true (w ∷ ws) h = both_true (write_fits l.tables w) (list_all (write_fits l.tables) ws) ((tests_tell.fits l.tables w).1 (h w (inl refl))) (all_true ws (λ v i. h v (inr i)))

      by_request : (o : Option (List Op)) → IsSomeAnd o (λ txn. AnswerFits l.tables txn x.reply x.writes) → list_all (write_fits l.tables) x.writes ≡ true
      by_request None h = absurd h
      by_request (Some txn) h = all_true x.writes (λ w i. all_in (WriteFits l.tables) x.writes h.fit w i)

-- stamps of one epoch that rise have rising seqs
seqs_rise : (e : ℕ) (xs : List Item) → ((x : Item) → In x xs → x.stamp.epoch ≡ e) → Rises (stamp_list xs)
    → AllPairs (λ (x : Item) (y : Item). x.stamp.seq < y.stamp.seq) xs
seqs_rise e [] same r i j d p q = absurd (omega (arith, q))
seqs_rise e (x ∷ xs) same r i zero d p q = absurd (omega (arith, p))
seqs_rise e (x ∷ xs) same r zero (suc j) d p q =
    let y : Item = get_or xs j d in
    let here : In y xs = in_at xs j d (omega (arith, q)) in
    elim (above_in x.stamp (stamp_list xs) y.stamp r.0 (in_map (λ (z : Item). z.stamp) y xs here)) [
      | inl less ↦ absurd (let one = same x (inl refl) in let two = same y (inr here) in omega (arith, less, one, two))
      | inr less ↦ less.1
    ]
seqs_rise e (x ∷ xs) same r (suc i) (suc j) d p q = seqs_rise e xs (λ y k. same y (inr k)) r.1 i j d (omega (arith, p)) (omega (arith, q))

-- pending items of a worker make a batch
module _ (l : OpenLeader) (fits : CoreFits l) (low : 1 ≤ l.epoch) (high : l.epoch ≤ 2 ^ 20 - 1) (w : ℕ) (first : 1 ≤ w) (last : w ≤ WORKERS) where
  pub items_in_range : (xs : List Item) → 1 ≤ length xs → length xs ≤ BATCH_ITEMS → All (SeenInRange l) xs → All (λ (x : Item). x.worker ≡ w) xs
      → Rises (stamp_list xs) → ItemsInRange xs
  items_in_range [] some few seen own r = absurd (omega (arith, some))
  items_in_range (x ∷ xs) some few seen own r =
      let epoch : (y : Item) → In y (x ∷ xs) → y.stamp.epoch ≡ l.epoch = λ y i. (all_in (SeenInRange l) (x ∷ xs) seen y i).epoch in
      let worker : (y : Item) → In y (x ∷ xs) → y.worker ≡ w = λ y i. all_in (λ (z : Item). z.worker ≡ w) (x ∷ xs) own y i in
      let one = epoch x (inl refl) in
      let mine = worker x (inl refl) in
      record {
        some = some;
        few = few;
        epoch_low = omega (arith, low, one);
        epoch_high = omega (arith, high, one);
        worker_low = omega (arith, first, mine);
        worker_high = omega (arith, last, mine);
        one_epoch = all_from (λ (y : Item). y.stamp.epoch ≡ x.stamp.epoch) (x ∷ xs) (λ y i. epoch y i ∙ sym one);
        one_worker = all_from (λ (y : Item). y.worker ≡ x.worker) (x ∷ xs) (λ y i. worker y i ∙ sym mine);
        each = all_from ItemInRange (x ∷ xs) (λ y i. item_in_range l fits y (all_in (SeenInRange l) (x ∷ xs) seen y i));
        rising = seqs_rise l.epoch (x ∷ xs) epoch r;
      }
