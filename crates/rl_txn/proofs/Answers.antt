-- What a transaction answers and writes fits it, and rows that fit go on fitting.
use Rattle.std.proofs.Common.{◌≡◌, ℕ, zero, suc, ◌+◌, ◌<◌, ◌≤◌, List, [], ◌∷◌, ◌++◌, length, map, get_or, slice_get, nat_lt, Bool, true, false, cond, T, Option, Some, None, IsSomeAnd, refl, sym, ap, ◌∙◌, subst, arith, All, AllPairs, length-append}
use Rattle.std.specs.List.{AllByRecursion}
use Rattle.std.specs.Option.{option_map_or, option_and_then}
use Rattle.std.specs.FinMap as finite
use Rattle.std.specs.FinMap.Entries.{put, is_sorted, below_all, by_order}
use Rattle.std.specs.Ordering.{eq_by_cmp}
use Rattle.std.specs.declared.cmp.Ordering.{Ordering}
use Rattle.std.specs.declared.cmp.Ordering.TheVariants.{Less, Equal, Greater}
use Rattle.std.proofs.lemmas.List.{length-map}
use Rattle.std.proofs.lemmas.List.Elements.{All-cons, recursion_from_All}
use Rattle.std.proofs.lemmas.List.Kept.{AllPairs-cons}
use Rattle.rl_base.proofs.Tests.{true_lt, first_T, second_T, is_less, is_equal}
use Rattle.rl_value.specs.Fits.{RowsFit}
use Rattle.rl_value.specs.Rows.{Rows, place_cmp}
use Rattle.rl_value.specs.Tables.{Table, size_of, columns_of}
use Rattle.rl_value.proofs.PlacesLemmas.{places_total, same_place}
use Rattle.rl_txn.specs.Fits.{OpFits, TxnFits, ListsFit, RowHas, WriteFits, IsPlaceBelow, EndFits, WritesIfDone, AnswerFits, ItemFits, ItemWritesFit}
use Rattle.rl_txn.specs.Run.{Progress, value_of, only_if, op_done, passes, ops_done, beginning, run, write_of, writes_of}
use Rattle.rl_txn.specs.Serial.{numbered, request_of, put_or_remove, with_write, after_writes, rows_after, Runs}
use Rattle.rl_txn.specs.declared.item.Item.{Item}
use Rattle.rl_txn.specs.declared.op.Op.{Op}
use Rattle.rl_txn.specs.declared.op.Op.TheVariants.{Set, Add, Sub, Mul, Get, Has, Put, Del, Scan, Need, Skip, Out}
use Rattle.rl_txn.specs.declared.write.End.{End}
use Rattle.rl_txn.specs.declared.write.End.TheVariants.{Done, Declined}
use Rattle.rl_txn.specs.declared.write.Reply.{Reply}
use Rattle.rl_txn.specs.declared.write.Write.{Write}

abbrev Entry : Type 0
Entry = (ℕ × ℕ) × Option (List ℕ)

-- ---- what was written, entry by entry ----
put_length : (q : ℕ × ℕ) (row : Option (List ℕ)) (es : List Entry) → length (put place_cmp q row es) ≤ suc (length es)
put_length q row [] = omega arith
put_length q row (e ∷ es) = go (place_cmp q e.0) (put_length q row es)
  where
    go : (o : Ordering) → length (put place_cmp q row es) ≤ suc (length es)
        → length (by_order o ((q, row) ∷ e ∷ es) ((e.0, row) ∷ es) (e ∷ put place_cmp q row es)) ≤ suc (suc (length es))
    go Less h = omega arith
    go Equal h = omega arith
    go Greater h = omega (arith, h)

all_above : (e : Entry) (es : List Entry) → T (below_all place_cmp e.0 es) → All (IsPlaceBelow (write_of e)) (map write_of es)
all_above e [] b = λ k d w. absurd (omega arith)
all_above e (x ∷ es) b =
    All-cons (IsPlaceBelow (write_of e)) (write_of x) (map write_of es) (is_less (place_cmp e.0 x.0) (first_T _ _ b)) (all_above e es (second_T _ _ b))

-- entries in order are writes whose places rise
rising : (es : List Entry) → T (is_sorted place_cmp es) → AllPairs IsPlaceBelow (map write_of es)
rising [] s = λ i j d a b. absurd (omega arith)
rising (e ∷ es) s = AllPairs-cons IsPlaceBelow (write_of e) (map write_of es) (all_above e es (first_T _ _ s)) (rising es (second_T _ _ s))

-- ---- an element of a number ----
pub all_get : {A : Type 0} (P : A → Type 0) (xs : List A) (i : ℕ) (x : A) → slice_get xs i ≡ Some x → All P xs → P x
all_get P [] i x e h = absurd (cc)
all_get P (y ∷ xs) zero x e h = let same : y ≡ x = cc in subst P same (h 0 y (omega arith))
all_get P (y ∷ xs) (suc i) x e h = all_get P xs i x e (λ k d l. h (suc k) d (omega arith))

pub all_numbered : {A : Type 0} (P : A → Type 0) (xs : List A) (i : ℕ) (x : A) → numbered xs i ≡ Some x → All P xs → P x
all_numbered P xs zero x e h = absurd (cc)
all_numbered P xs (suc i) x e h = all_get P xs i x e h

module _ (tables : List Table) where
  abbrev AllFit : List Entry → Type 0
  AllFit [] = Unit {0}
  AllFit (e ∷ es) = WriteFits tables (write_of e) × AllFit es

  put_fits : (q : ℕ × ℕ) (row : Option (List ℕ)) (es : List Entry) → WriteFits tables (write_of (q, row)) → AllFit es → AllFit (put place_cmp q row es)
  put_fits q row [] f h = (f, tt)
  put_fits q row (e ∷ es) f h = go (place_cmp q e.0) refl (put_fits q row es f h.1)
    where
      go : (o : Ordering) → place_cmp q e.0 ≡ o → AllFit (put place_cmp q row es) → AllFit (by_order o ((q, row) ∷ e ∷ es) ((e.0, row) ∷ es) (e ∷ put place_cmp q row es))
      go Less c rest = (f, h)
      go Equal c rest = (subst (λ p. WriteFits tables (write_of (p, row))) (same_place q e.0 c) f, h.1)
      go Greater c rest = (h.0, rest)

  fit_writes : (es : List Entry) → AllFit es → All (WriteFits tables) (map write_of es)
  fit_writes [] h = λ k d w. absurd (omega arith)
  fit_writes (e ∷ es) h = All-cons (WriteFits tables) (write_of e) (map write_of es) h.0 (fit_writes es h.1)

  -- ---- op by op ----
  -- after n ops: no more outputs and writes than these, and the writes fit
  record Upto (n : ℕ) (p : Progress) : Type 0 where
    pub outs : length p.outs ≤ n
    pub writes : length (finite.entries p.written) ≤ n
    pub fit : AllFit (finite.entries p.written)

  upto_more : (m n : ℕ) (p : Progress) → m ≤ n → Upto m p → Upto n p
  upto_more m n p l h = record { outs = omega (arith, h.outs); writes = omega (arith, h.writes); fit = h.fit }

  abbrev IfUpto : ℕ → Option Progress → Type 0
  IfUpto n None = Unit {0}
  IfUpto n (Some p) = Upto n p

  only_upto : (n : ℕ) (b : Bool) (p : Progress) → (b ≡ true → Upto n p) → IfUpto n (only_if b p)
  only_upto n true p h = h refl
  only_upto n false p h = tt

  regs_upto : (n : ℕ) (p : Progress) (regs : List ℕ) → Upto n p → Upto (suc n) (record p { regs = regs })
  regs_upto n p regs h = record { outs = omega (arith, h.outs); writes = omega (arith, h.writes); fit = h.fit }

  row_upto : (n : ℕ) (p : Progress) (q : ℕ × ℕ) (row : Option (List ℕ)) → WriteFits tables (write_of (q, row)) → Upto n p → Upto (suc n) (record p { written = finite.insert p.written q row })
  row_upto n p q row f h =
      let entries : finite.entries (finite.insert p.written q row) ≡ put place_cmp q row (finite.entries p.written) = finite.entries-insert places_total p.written q row in
      record {
        outs = omega (arith, h.outs);
        writes = rw entries (omega (arith, put_length q row (finite.entries p.written), h.writes));
        fit = subst AllFit (sym entries) (put_fits q row (finite.entries p.written) f h.fit);
      }

  out_upto : (n : ℕ) (p : Progress) (x : ℕ) → Upto n p → Upto (suc n) (record p { outs = p.outs ++ x ∷ [] })
  out_upto n p x h = record { outs = omega (arith, length-append p.outs (x ∷ []), h.outs); writes = omega (arith, h.writes); fit = h.fit }

  op_upto : (rows : Rows) (op : Op) (p : Progress) (n : ℕ) → OpFits tables op → Upto n p → IfUpto (suc n) (op_done tables rows op p)
  unfolding op_done
  op_upto rows (Set d a) p n o h = regs_upto n p _ h
  op_upto rows (Add d a b) p n o h = regs_upto n p _ h
  op_upto rows (Sub d a b) p n o h = regs_upto n p _ h
  op_upto rows (Mul d a b) p n o h = regs_upto n p _ h
  op_upto rows (Get t k c d) p n o h = only_upto (suc n) _ _ (λ e. regs_upto n p _ h)
  op_upto rows (Has t k d) p n o h = only_upto (suc n) _ _ (λ e. regs_upto n p _ h)
  op_upto rows (Put t k values) p n o h = only_upto (suc n) (nat_lt (value_of p k) (size_of tables t)) _
      (λ e. row_upto n p (t, value_of p k) (Some (map (value_of p) values)) (o.0, true_lt (value_of p k) (size_of tables t) e, length-map values (value_of p) ∙ o.5) h)
  op_upto rows (Del t k) p n o h = only_upto (suc n) (nat_lt (value_of p k) (size_of tables t)) _
      (λ e. row_upto n p (t, value_of p k) None (o.0, true_lt (value_of p k) (size_of tables t) e, tt) h)
  op_upto rows (Scan t k m c d) p n o h = only_upto (suc n) _ _ (λ e. regs_upto n p _ h)
  op_upto rows (Need a rel b) p n o h = only_upto (suc n) _ _ (λ e. upto_more n (suc n) p (omega arith) h)
  op_upto rows (Skip a rel b m) p n o h = upto_more n (suc n) p (omega arith) h
  op_upto rows (Out a) p n o h = out_upto n p (value_of p a) h

  ops_upto : (rows : Rows) (number skipped : ℕ) (ops : List Op) (p : Progress) (n : ℕ) → AllByRecursion (OpFits tables) ops → Upto n p
      → Upto (n + length ops) (ops_done tables rows number skipped ops p).0
  unfolding ops_done
  ops_upto rows number skipped [] p n o h = upto_more n (n + 0) p (omega arith) h
  ops_upto rows number zero (op ∷ ops) p n o h =
      go (op_done tables rows op p) (op_upto rows op p n o.0 h) (λ next f. ops_upto rows (number + 1) (passes op p) ops next (suc n) o.1 f)
    where
      go : (d : Option Progress) → IfUpto (suc n) d
          → ((next : Progress) → Upto (suc n) next → Upto (suc n + length ops) (ops_done tables rows (number + 1) (passes op p) ops next).0)
          → Upto (n + length (op ∷ ops)) (option_map_or (λ next. ops_done tables rows (number + 1) (passes op p) ops next) d (p, Declined number)).0
      go None f k = upto_more n (n + length (op ∷ ops)) p (omega arith) h
      go (Some next) f k = upto_more (suc n + length ops) (n + length (op ∷ ops)) _ (omega arith) (k next f)
  ops_upto rows number (suc skipped) (op ∷ ops) p n o h =
      upto_more (n + length ops) (n + length (op ∷ ops)) _ (omega arith) (ops_upto rows (number + 1) skipped ops p n o.1 h)

  -- an op that declines is one of the ops
  ends_within : (txn : List Op) (rows : Rows) (number skipped : ℕ) (ops : List Op) (p : Progress) → 1 ≤ number → number + length ops ≤ length txn + 1
      → EndFits txn (ops_done tables rows number skipped ops p).1
  unfolding ops_done
  ends_within txn rows number skipped [] p first last = tt
  ends_within txn rows number zero (op ∷ ops) p first last =
      go (op_done tables rows op p) (λ next. ends_within txn rows (number + 1) (passes op p) ops next (omega arith) (omega (arith, last)))
    where
      go : (d : Option Progress) → ((next : Progress) → EndFits txn (ops_done tables rows (number + 1) (passes op p) ops next).1)
          → EndFits txn (option_map_or (λ next. ops_done tables rows (number + 1) (passes op p) ops next) d (p, Declined number)).1
      go None k = (first, omega (arith, last))
      go (Some next) k = k next
  ends_within txn rows number (suc skipped) (op ∷ ops) p first last = ends_within txn rows (number + 1) skipped ops p (omega arith) (omega (arith, last))

  no_entries : (es : List Entry) → length es ≡ 0 → AllFit es
  no_entries [] e = tt
  no_entries (x ∷ es) e = absurd (omega arith)

  begun : Upto 0 beginning
  begun =
      let none : length (finite.entries (finite.empty {K = ℕ × ℕ} {X = Option (List ℕ)} {R = place_cmp})) ≡ 0 =
      sym (finite.len-entries (finite.empty {K = ℕ × ℕ} {X = Option (List ℕ)} {R = place_cmp})) ∙ finite.len-empty place_cmp (Option (List ℕ)) in
      record { outs = omega arith; writes = omega (arith, none); fit = no_entries _ none }

  -- ---- the whole run ----
  writes_few : (p : Progress) (end : End) (n : ℕ) → Upto n p → length (writes_of p end) ≤ n
  writes_few p Done n h = rw length-map h.writes
  writes_few p (Declined op) n h = omega arith

  writes_if_done : (p : Progress) (end : End) → WritesIfDone end (writes_of p end)
  writes_if_done p Done = tt
  writes_if_done p (Declined op) = refl

  writes_fit : (p : Progress) (end : End) (n : ℕ) → Upto n p → All (WriteFits tables) (writes_of p end)
  writes_fit p Done n h = fit_writes (finite.entries p.written) h.fit
  writes_fit p (Declined op) n h = λ k d w. absurd (omega arith)

  writes_rise : (p : Progress) (end : End) → AllPairs IsPlaceBelow (writes_of p end)
  writes_rise p Done = rising (finite.entries p.written) (finite.entries_sorted p.written)
  writes_rise p (Declined op) = λ i j d a b. absurd (omega arith)

  pub answer_fits : (txn : List Op) (rows : Rows) → TxnFits tables txn → AnswerFits tables txn (run tables txn rows).0 (run tables txn rows).1
  unfolding run
  answer_fits txn rows fits =
      let done = ops_done tables rows 1 0 txn beginning in
      let all : Upto (0 + length txn) done.0 = ops_upto rows 1 0 txn beginning 0 (recursion_from_All (OpFits tables) txn fits.each) begun in
      let h : Upto (length txn) done.0 = upto_more (0 + length txn) (length txn) done.0 (omega arith) all in
      record {
        outs = h.outs;
        end = ends_within txn rows 1 0 txn beginning (omega arith) (omega arith);
        few = writes_few done.0 done.1 (length txn) h;
        done = writes_if_done done.0 done.1;
        fit = writes_fit done.0 done.1 (length txn) h;
        rising = writes_rise done.0 done.1;
      }

  -- ---- rows ----
  row_kept : (rows : Rows) (t k : ℕ) (row : Option (List ℕ)) → RowsFit tables rows → t < length tables → k < size_of tables t → RowHas (columns_of tables t) row
      → RowsFit tables (put_or_remove rows (t, k) row)
  row_kept rows t k (Some cells) f there within all q j row at =
      go (eq_by_cmp place_cmp (q, j) (t, k)) refl (sym (finite.get-insert places_total rows (t, k) cells (q, j)) ∙ at)
    where
      go : (b : Bool) → eq_by_cmp place_cmp (q, j) (t, k) ≡ b → cond b (Some cells) (finite.get rows (q, j)) ≡ Some row
          → (q < length tables) × (j < size_of tables q) × (length row ≡ columns_of tables q)
      go false here is = f q j row is
      go true here is =
          let place : ◌≡◌ {A = ℕ × ℕ} (q, j) (t, k) = same_place (q, j) (t, k) (is_equal (place_cmp (q, j) (t, k)) here) in
          let same_t : q ≡ t = ap (λ (p : ℕ × ℕ). p.0) place in
          let same_k : j ≡ k = ap (λ (p : ℕ × ℕ). p.1) place in
          let same_row : row ≡ cells = cc in
          (rw same_t there, rw (same_t, same_k) within, rw (same_t, same_row) all)
  row_kept rows t k None f there within all q j row at =
      go (eq_by_cmp place_cmp (q, j) (t, k)) (sym (finite.get-remove places_total rows (t, k) (q, j)) ∙ at)
    where
      go : (b : Bool) → cond b None (finite.get rows (q, j)) ≡ Some row → (q < length tables) × (j < size_of tables q) × (length row ≡ columns_of tables q)
      go false is = f q j row is
      go true is = absurd (cc)

  writes_kept : (rows : Rows) (writes : List Write) → RowsFit tables rows → AllByRecursion (WriteFits tables) writes → RowsFit tables (after_writes rows writes)
  writes_kept rows [] f h = f
  writes_kept rows (w ∷ writes) f h = writes_kept (with_write rows w) writes (row_kept rows w.table w.key w.row f h.0.0 h.0.1 h.0.2) h.1

  rows_kept : (rows : Rows) (items : List Item) → RowsFit tables rows → AllByRecursion (ItemWritesFit tables) items → RowsFit tables (rows_after rows items)
  rows_kept rows [] f h = f
  rows_kept rows (item ∷ items) f h =
      rows_kept (after_writes rows item.writes) items (writes_kept rows item.writes f (recursion_from_All (WriteFits tables) item.writes h.0)) h.1

  pub rows_fit : (rows : Rows) (items : List Item) → RowsFit tables rows → All (ItemWritesFit tables) items → RowsFit tables (rows_after rows items)
  rows_fit rows items f h = rows_kept rows items f (recursion_from_All (ItemWritesFit tables) items h)

  -- ---- serial lists ----
  module _ (lists : List (List (List Op))) (fit : ListsFit tables lists) where
    request_fits : (item : Item) (txn : List Op) → request_of lists item ≡ Some txn → TxnFits tables txn
    request_fits item txn is = go (numbered lists item.worker) refl is
      where
        go : (o : Option (List (List Op))) → numbered lists item.worker ≡ o → option_and_then (λ list. numbered list item.index) o ≡ Some txn → TxnFits tables txn
        go None e f = absurd (cc)
        go (Some list) e f = all_numbered (TxnFits tables) list item.index txn f (all_numbered (All (TxnFits tables)) lists item.worker list e fit.each)

    item_fits : (rows : Rows) (item : Item) → IsSomeAnd (request_of lists item) (λ txn. run tables txn rows ≡ (item.reply, item.writes)) → ItemFits tables lists item
    item_fits rows item ran = go (request_of lists item) refl ran
      where
        go : (o : Option (List Op)) → request_of lists item ≡ o → IsSomeAnd o (λ txn. run tables txn rows ≡ (item.reply, item.writes))
            → IsSomeAnd o (λ txn. AnswerFits tables txn item.reply item.writes)
        go None e r = absurd r
        go (Some txn) e r = subst (λ (z : Reply × List Write). AnswerFits tables txn z.0 z.1) r (answer_fits txn rows (request_fits item txn e))

    pub items_fit : (rows : Rows) (items : List Item) → Runs tables lists rows items → All (ItemFits tables lists) items
    items_fit rows [] h = λ k d w. absurd (omega arith)
    items_fit rows (item ∷ items) h = All-cons (ItemFits tables lists) item items (item_fits rows item h.0) (items_fit (after_writes rows item.writes) items h.1)

    writes_of_item : (item : Item) → ItemFits tables lists item → ItemWritesFit tables item
    writes_of_item item h = go (request_of lists item) h
      where
        go : (o : Option (List Op)) → IsSomeAnd o (λ txn. AnswerFits tables txn item.reply item.writes) → ItemWritesFit tables item
        go None r = absurd r
        go (Some txn) r = r.fit

    pub serial_rows_fit : (rows : Rows) (items : List Item) → RowsFit tables rows → Runs tables lists rows items → RowsFit tables (rows_after rows items)
    serial_rows_fit rows items f h = rows_fit rows items f (λ k d w. writes_of_item (get_or items k d) (items_fit rows items h k d w))
