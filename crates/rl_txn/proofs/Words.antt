-- What transactions answer and write are numbers of eight bytes, where the rows that they read are.
use Rattle.std.proofs.Common.{◌≡◌, ℕ, zero, suc, ◌+◌, ◌-◌, ◌*◌, ◌%◌, ◌^◌, ◌<◌, List, [], ◌∷◌, ◌++◌, length, map, set, get_or, is_some, if◌then◌else◌, replicate, Bool, true, false, cond, Option, Some, None, IfSome, IsSomeAnd, refl, sym, ◌∙◌, subst, arith, All}
use Rattle.std.specs.List.{AllByRecursion}
use Rattle.std.specs.Option.{option_map_or, option_and_then}
use Rattle.std.specs.FinMap as finite
use Rattle.std.specs.FinMap.Entries.{put, find, by_order}
use Rattle.std.specs.Ordering.{eq_by_cmp}
use Rattle.std.specs.declared.cmp.Ordering.{Ordering}
use Rattle.std.specs.declared.cmp.Ordering.TheVariants.{Less, Equal, Greater}
use Rattle.std.proofs.Math.Nat.{mod-lt}
use Rattle.std.proofs.lemmas.List.Elements.{All-cons, All-from_recursion, recursion_from_All}
use Rattle.rl_value.specs.Rows.{Rows, place_cmp}
use Rattle.rl_value.specs.Tables.{Table}
use Rattle.rl_value.proofs.PlacesLemmas.{places_total}
use Rattle.rl_txn.specs.Fits.{OperandFits, OpFits, TxnFits, ListsFit}
use Rattle.rl_txn.specs.Words.{AreWords, WriteHasWords, ItemHasWords, RowsHaveWords, AnswerHasWords}
use Rattle.rl_txn.specs.Run.{Progress, value_of, row_seen, column_of, only_if, op_done, passes, ops_done, beginning, run, write_of, writes_of}
use Rattle.rl_txn.specs.Serial.{numbered, request_of, put_or_remove, with_write, after_writes, rows_after, Runs}
use Rattle.rl_txn.specs.declared.item.Item.{Item}
use Rattle.rl_txn.specs.declared.op.Operand.{Operand}
use Rattle.rl_txn.specs.declared.op.Operand.TheVariants.{Reg, Num}
use Rattle.rl_txn.specs.declared.op.Op.{Op}
use Rattle.rl_txn.specs.declared.op.Op.TheVariants.{Set, Add, Sub, Mul, Get, Has, Put, Del, Scan, Need, Skip, Out}
use Rattle.rl_txn.specs.declared.write.End.{End}
use Rattle.rl_txn.specs.declared.write.End.TheVariants.{Done, Declined}
use Rattle.rl_txn.specs.declared.write.Reply.{Reply}
use Rattle.rl_txn.specs.declared.write.Write.{Write}
use Rattle.rl_txn.proofs.Answers.{all_numbered}

abbrev IsWord : ℕ → Type 0
IsWord x = x < 2 ^ 64

abbrev ListWords : List ℕ → Type 0
ListWords xs = AllByRecursion IsWord xs

-- a row, where there is one, has words
abbrev RowWords : Option (List ℕ) → Type 0
RowWords None = Unit {0}
RowWords (Some row) = ListWords row

abbrev Entry : Type 0
Entry = (ℕ × ℕ) × Option (List ℕ)

abbrev EntriesWords : List Entry → Type 0
EntriesWords es = AllByRecursion (λ (e : Entry). RowWords e.1) es

-- ---- lists ----
get_words : (xs : List ℕ) (i : ℕ) → ListWords xs → get_or xs i 0 < 2 ^ 64
get_words [] i h = omega arith
get_words (x ∷ xs) zero h = h.0
get_words (x ∷ xs) (suc i) h = get_words xs i h.1

set_words : (xs : List ℕ) (d x : ℕ) → x < 2 ^ 64 → ListWords xs → ListWords (set xs d x)
set_words [] d x l h = h
set_words (y ∷ ys) zero x l h = (l, h.1)
set_words (y ∷ ys) (suc d) x l h = (h.0, set_words ys d x l h.1)

push_words : (xs : List ℕ) (x : ℕ) → x < 2 ^ 64 → ListWords xs → ListWords (xs ++ x ∷ [])
push_words [] x l h = (l, tt)
push_words (y ∷ ys) x l h = (h.0, push_words ys x l h.1)

zeros_words : (n : ℕ) → ListWords (replicate n 0)
zeros_words zero = tt
zeros_words (suc n) = (omega arith, zeros_words n)

mod_word : (n : ℕ) → n % 2 ^ 64 < 2 ^ 64
mod_word n = mod-lt n (omega arith)

-- ---- what was written ----
put_words : (q : ℕ × ℕ) (row : Option (List ℕ)) (es : List Entry) → RowWords row → EntriesWords es → EntriesWords (put place_cmp q row es)
put_words q row [] f h = (f, tt)
put_words q row (e ∷ es) f h = go (place_cmp q e.0) (put_words q row es f h.1)
  where
    go : (o : Ordering) → EntriesWords (put place_cmp q row es) → EntriesWords (by_order o ((q, row) ∷ e ∷ es) ((e.0, row) ∷ es) (e ∷ put place_cmp q row es))
    go Less rest = (f, h)
    go Equal rest = (f, h.1)
    go Greater rest = (h.0, rest)

-- a row that is found, where one is
abbrev FoundWords : Option (Option (List ℕ)) → Type 0
FoundWords None = Unit {0}
FoundWords (Some row) = RowWords row

find_words : (q : ℕ × ℕ) (es : List Entry) → EntriesWords es → FoundWords (find place_cmp q es)
find_words q [] h = tt
find_words q (e ∷ es) h = go (eq_by_cmp place_cmp q e.0) (find_words q es h.1)
  where
    go : (b : Bool) → FoundWords (find place_cmp q es) → FoundWords (cond b (Some e.1) (find place_cmp q es))
    go true rest = h.0
    go false rest = rest

all_row : (row : Option (List ℕ)) → RowWords row → IfSome row AreWords
all_row None h = tt
all_row (Some row) h = All-from_recursion IsWord row h

write_words : (es : List Entry) → EntriesWords es → All WriteHasWords (map write_of es)
write_words [] h = λ k d w. absurd (omega arith)
write_words (e ∷ es) h = All-cons WriteHasWords (write_of e) (map write_of es) (all_row e.1 h.0) (write_words es h.1)

module _ (tables : List Table) (rows : Rows) (words : RowsHaveWords rows) where
  -- all numbers of a progress are words
  record Words (p : Progress) : Type 0 where
    pub regs : ListWords p.regs
    pub outs : ListWords p.outs
    pub written : EntriesWords (finite.entries p.written)

  value_words : (p : Progress) (a : Operand) → Words p → OperandFits a → value_of p a < 2 ^ 64
  value_words p (Reg r) h f = get_words p.regs r h.regs
  value_words p (Num n) h f = f

  row_words : (t k : ℕ) (o : Option (List ℕ)) → finite.get rows (t, k) ≡ o → RowWords o
  row_words t k None e = tt
  row_words t k (Some row) e = recursion_from_All IsWord row (words t k row e)

  seen_words : (p : Progress) (t k : ℕ) → Words p → RowWords (row_seen rows p.written t k)
  seen_words p t k h = go (finite.get p.written (t, k)) (subst FoundWords (sym (finite.get-entries p.written (t, k))) (find_words (t, k) (finite.entries p.written) h.written))
    where
      go : (o : Option (Option (List ℕ))) → FoundWords o → RowWords (option_map_or (λ row. row) o (finite.get rows (t, k)))
      go None f = row_words t k (finite.get rows (t, k)) refl
      go (Some row) f = f

  column_words : (o : Option (List ℕ)) (c : ℕ) → RowWords o → column_of o c < 2 ^ 64
  column_words None c h = omega arith
  column_words (Some row) c h = get_words row c h

  abbrev IfWords : Option Progress → Type 0
  IfWords None = Unit {0}
  IfWords (Some p) = Words p

  only_words : (b : Bool) (p : Progress) → Words p → IfWords (only_if b p)
  only_words true p h = h
  only_words false p h = tt

  reg_words : (p : Progress) (d x : ℕ) → x < 2 ^ 64 → Words p → Words (record p { regs = set p.regs d x })
  reg_words p d x l h = record { regs = set_words p.regs d x l h.regs; outs = h.outs; written = h.written }

  row_put : (p : Progress) (q : ℕ × ℕ) (row : Option (List ℕ)) → RowWords row → Words p → Words (record p { written = finite.insert p.written q row })
  row_put p q row f h = record {
    regs = h.regs;
    outs = h.outs;
    written = subst EntriesWords (sym (finite.entries-insert places_total p.written q row)) (put_words q row (finite.entries p.written) f h.written);
  }

  values_words : (p : Progress) (xs : List Operand) → Words p → AllByRecursion OperandFits xs → ListWords (map (value_of p) xs)
  values_words p [] h f = tt
  values_words p (a ∷ xs) h f = (value_words p a h f.0, values_words p xs h f.1)

  flag_word : (b : Bool) → (if b then 1 else 0) < 2 ^ 64
  flag_word true = omega arith
  flag_word false = omega arith

  op_words : (op : Op) (p : Progress) → OpFits tables op → Words p → IfWords (op_done tables rows op p)
  unfolding op_done
  op_words (Set d a) p o h = reg_words p d _ (value_words p a h o.1) h
  op_words (Add d a b) p o h = reg_words p d _ (mod_word (value_of p a + value_of p b)) h
  op_words (Sub d a b) p o h = reg_words p d _ (mod_word (value_of p a + (2 ^ 64 - value_of p b))) h
  op_words (Mul d a b) p o h = reg_words p d _ (mod_word (value_of p a * value_of p b)) h
  op_words (Get t k c d) p o h = only_words _ _ (reg_words p d _ (column_words (row_seen rows p.written t (value_of p k)) c (seen_words p t (value_of p k) h)) h)
  op_words (Has t k d) p o h = only_words _ _ (reg_words p d _ (flag_word (is_some (row_seen rows p.written t (value_of p k)))) h)
  op_words (Put t k values) p o h = only_words _ _ (row_put p (t, value_of p k) (Some (map (value_of p) values)) (values_words p values h (recursion_from_All OperandFits values o.2)) h)
  op_words (Del t k) p o h = only_words _ _ (row_put p (t, value_of p k) None tt h)
  op_words (Scan t k n c d) p o h = only_words _ _ (reg_words p d _ (mod_word _) h)
  op_words (Need a rel b) p o h = only_words _ _ h
  op_words (Skip a rel b n) p o h = h
  op_words (Out a) p o h = record { regs = h.regs; outs = push_words p.outs (value_of p a) (value_words p a h o) h.outs; written = h.written }

  ops_words : (number skipped : ℕ) (ops : List Op) (p : Progress) → AllByRecursion (OpFits tables) ops → Words p → Words (ops_done tables rows number skipped ops p).0
  unfolding ops_done
  ops_words number skipped [] p o h = h
  ops_words number zero (op ∷ ops) p o h = go (op_done tables rows op p) (op_words op p o.0 h) (λ next f. ops_words (number + 1) (passes op p) ops next o.1 f)
    where
      go : (d : Option Progress) → IfWords d → ((next : Progress) → Words next → Words (ops_done tables rows (number + 1) (passes op p) ops next).0)
          → Words (option_map_or (λ next. ops_done tables rows (number + 1) (passes op p) ops next) d (p, Declined number)).0
      go None f k = h
      go (Some next) f k = k next f
  ops_words number (suc skipped) (op ∷ ops) p o h = ops_words (number + 1) skipped ops p o.1 h

  no_entries : (es : List Entry) → length es ≡ 0 → EntriesWords es
  no_entries [] e = tt
  no_entries (x ∷ es) e = absurd (omega arith)

  begun : Words beginning
  begun = record {
    regs = zeros_words 16;
    outs = tt;
    written = no_entries (finite.entries (finite.empty {K = ℕ × ℕ} {X = Option (List ℕ)} {R = place_cmp}))
        (sym (finite.len-entries (finite.empty {K = ℕ × ℕ} {X = Option (List ℕ)} {R = place_cmp})) ∙ finite.len-empty place_cmp (Option (List ℕ)));
  }

  pub answer_words : (txn : List Op) → TxnFits tables txn → AnswerHasWords (run tables txn rows).0 (run tables txn rows).1
  unfolding run
  answer_words txn fits =
      let done = ops_done tables rows 1 0 txn beginning in
      let all : Words done.0 = ops_words 1 0 txn beginning (recursion_from_All (OpFits tables) txn fits.each) begun in
      record { outs = All-from_recursion IsWord done.0.outs all.outs; writes = go done.0 all done.1 }
    where
      go : (p : Progress) → Words p → (end : End) → All WriteHasWords (writes_of p end)
      go p h Done = write_words (finite.entries p.written) h.written
      go p h (Declined op) = λ k d w. absurd (omega arith)

-- ---- rows ----
row_kept : (rows : Rows) (q : ℕ × ℕ) (row : Option (List ℕ)) → RowsHaveWords rows → IfSome row AreWords → RowsHaveWords (put_or_remove rows q row)
row_kept rows q (Some cells) f h t k row at =
    go (eq_by_cmp place_cmp (t, k) q) (sym (finite.get-insert places_total rows q cells (t, k)) ∙ at)
  where
    go : (b : Bool) → cond b (Some cells) (finite.get rows (t, k)) ≡ Some row → AreWords row
    go false is = f t k row is
    go true is = let same : cells ≡ row = cc in subst AreWords same h
row_kept rows q None f h t k row at =
    go (eq_by_cmp place_cmp (t, k) q) (sym (finite.get-remove places_total rows q (t, k)) ∙ at)
  where
    go : (b : Bool) → cond b None (finite.get rows (t, k)) ≡ Some row → AreWords row
    go false is = f t k row is
    go true is = absurd (cc)

writes_kept : (rows : Rows) (writes : List Write) → RowsHaveWords rows → AllByRecursion WriteHasWords writes → RowsHaveWords (after_writes rows writes)
writes_kept rows [] f h = f
writes_kept rows (w ∷ writes) f h = writes_kept (with_write rows w) writes (row_kept rows (w.table, w.key) w.row f h.0) h.1

rows_kept : (rows : Rows) (items : List Item) → RowsHaveWords rows → AllByRecursion ItemHasWords items → RowsHaveWords (rows_after rows items)
rows_kept rows [] f h = f
rows_kept rows (item ∷ items) f h = rows_kept (after_writes rows item.writes) items (writes_kept rows item.writes f (recursion_from_All WriteHasWords item.writes h.0.writes)) h.1

-- ---- serial lists ----
module _ (tables : List Table) (lists : List (List (List Op))) (fit : ListsFit tables lists) where
  item_words : (rows : Rows) (item : Item) → RowsHaveWords rows → IsSomeAnd (request_of lists item) (λ txn. run tables txn rows ≡ (item.reply, item.writes)) → ItemHasWords item
  item_words rows item words ran = go (numbered lists item.worker) refl ran
    where
      of : (list : List (List Op)) → numbered lists item.worker ≡ Some list → (o : Option (List Op)) → numbered list item.index ≡ o
          → IsSomeAnd o (λ txn. run tables txn rows ≡ (item.reply, item.writes)) → ItemHasWords item
      of list e None f r = absurd r
      of list e (Some txn) f r =
          let fits : TxnFits tables txn = all_numbered (TxnFits tables) list item.index txn f (all_numbered (All (TxnFits tables)) lists item.worker list e fit.each) in
          let k : AnswerHasWords item.reply item.writes = subst (λ (z : Reply × List Write). AnswerHasWords z.0 z.1) r (answer_words tables rows words txn fits) in
          record { outs = k.outs; writes = k.writes }

      go : (o : Option (List (List Op))) → numbered lists item.worker ≡ o → IsSomeAnd (option_and_then (λ list. numbered list item.index) o) (λ txn. run tables txn rows ≡ (item.reply, item.writes)) → ItemHasWords item
      go None e r = absurd r
      go (Some list) e r = of list e (numbered list item.index) refl r

  items_words : (rows : Rows) (items : List Item) → RowsHaveWords rows → Runs tables lists rows items → AllByRecursion ItemHasWords items
  items_words rows [] words h = tt
  items_words rows (item ∷ items) words h =
      let first = item_words rows item words h.0 in
      (first, items_words (after_writes rows item.writes) items (writes_kept rows item.writes words (recursion_from_All WriteHasWords item.writes first.writes)) h.1)

  pub items_have_words : (rows : Rows) (items : List Item) → RowsHaveWords rows → Runs tables lists rows items → All ItemHasWords items
  items_have_words rows items words h = All-from_recursion ItemHasWords items (items_words rows items words h)

pub rows_have_words : (rows : Rows) (items : List Item) → RowsHaveWords rows → All ItemHasWords items → RowsHaveWords (rows_after rows items)
rows_have_words rows items f h = rows_kept rows items f (recursion_from_All ItemHasWords items h)
