-- What the core decides is serial on the real rows.
use Rattle.std.proofs.Common.{◌≡◌, ◌≢◌, ℕ, zero, suc, ◌+◌, ◌*◌, ◌^◌, ◌<◌, ◌≤◌, List, [], ◌∷◌, ◌++◌, length, map, filter, sum, get_or, slice_index, ◌==◌, Bool, true, false, ◌&&◌, ◌||◌, cond, if◌then◌else◌, Option, Some, None, IfSome, IsSomeAnd, refl, sym, ap, ◌∙◌, subst, arith, inl, inr, true≢false}
use Rattle.std.proofs.lemmas.Bool.{cases_lt}
use Rattle.std.proofs.lemmas.Bool.Decides.{eqb_tells}
use Rattle.std.specs.Option.{option_map_or}
use Rattle.std.specs.List.{range_with_len, find, list_any}
use Rattle.std.specs.Ordering.{eq_by_cmp, is_eq}
use Rattle.std.specs.Cmp.{tied_itself}
use Rattle.std.specs.declared.cmp.Ordering.{Ordering}
use Rattle.std.specs.declared.cmp.Ordering.TheVariants.{Less, Equal, Greater}
use Rattle.std.specs.FinMap as finite
use Rattle.rl_base.specs.Stamps.{packed}
use Rattle.rl_value.specs.Rows.{Rows, place_cmp}
use Rattle.rl_value.specs.Tables.{Table, columns_of}
use Rattle.rl_tables.specs.Numbers.{sizes_of, place_of}
use Rattle.rl_tables.proofs.Sizes.{size_at}
use Rattle.rl_txn.specs.Run.{Overlay, op_done, passes, ops_done, beginning, run, writes_of}
use Rattle.rl_txn.specs.Eval.{rows_of, wants, HasRows, is_new, unknown, places_read, read_by}
use Rattle.rl_txn.specs.Serial.{with_write, after_writes, Runs, IsSerial, indexes_of}
use Rattle.rl_txn.specs.declared.op.Op.{Op}
use Rattle.rl_txn.specs.Run.{Progress}
use Rattle.rl_txn.specs.declared.eval.Wants.TheVariants.{Read as WantsRead, Ended as WantsEnded}
use Rattle.rl_txn.specs.declared.write.End.{End}
use Rattle.rl_txn.specs.declared.write.End.TheVariants.{Declined}
use Rattle.rl_txn.specs.declared.write.Write.{Write}
use Rattle.rl_txn.specs.declared.item.Item as txn
use Rattle.rl_txn.proofs.RowSets.{places_total, same_place}
use Rattle.rl_txn.proofs.Known.{get_after}
use Rattle.rl_txn.proofs.Evals.{op_same}
use Rattle.rl_worker.specs.Phases.{Answer, Read, Rec}
use Rattle.rl_worker.specs.Items.{CoreItem}
use Rattle.rl_worker.specs.Acts.{no_rec}
use Rattle.rl_value.specs.Cells.{cells_of, row_of}
use Rattle.rl_worker.specs.Opening.{overlay_of, install_of, opening_recs, setting_of, item_seen, items_seen, OpenLeader, CoreFits}
use Rattle.rl_worker.proofs.OwnLaw.{AllRows, or_row, apply, Serial, Rising, Distinct, indexes, upto, has, row_at}
use Rattle.rl_worker.proofs.Basics.{has_row}
use Rattle.rl_tables.proofs.Places.{record_of_place, place_past_all}
use Rattle.rl_worker.proofs.Writes.{WriteFits, WritesFit, run_fits, run_distinct, place_of_write}
use Rattle.rl_worker.proofs.Settings.{ending, request_fits, sizes_length, rec_at, rec_past}

-- ---- a transaction on any rows that have what it read ----
or_false : (a b : Bool) → a ≡ false → b ≡ false → (a || b) ≡ false
or_false a b h k = rw h k

-- where nothing new is found, the places are known, and nothing new comes after
find_none : (read written : Overlay) (xs rest : List (ℕ × ℕ)) → find (is_new read) (filter (is_new written) xs ++ rest) ≡ None → (list_any (unknown read written) xs ≡ false) × (find (is_new read) rest ≡ None)
find_none read written [] rest h = (refl, h)
find_none read written (x ∷ xs) rest h = split (is_new read x) (is_new written x) (find (is_new read) (filter (is_new written) xs ++ rest)) (list_any (unknown read written) xs) (find (is_new read) rest)
    (λ e. find_none read written xs rest e) (by_kept (is_new read x) (is_new written x) refl refl h)
  where
    by_kept : (r w : Bool) → is_new read x ≡ r → is_new written x ≡ w → find (is_new read) (cond (is_new written x) (x ∷ filter (is_new written) xs) (filter (is_new written) xs) ++ rest) ≡ None
        → ((is_new read x && is_new written x) ≡ false) × (find (is_new read) (filter (is_new written) xs ++ rest) ≡ None)
    by_kept true true e f h = absurd (some_none (rw (f, e) at h))
      where
        some_none : ◌≡◌ {A = Option (ℕ × ℕ)} (Some x) None → ⊥
        some_none e = cc
    by_kept false true e f h = (rw e refl, rw (f, e) at h)
    by_kept r false e f h = (rw f (and_false (is_new read x)), rw f at h)
      where
        and_false : (b : Bool) → (b && false) ≡ false
        and_false true = refl
        and_false false = refl

    split : (r w : Bool) (o : Option (ℕ × ℕ)) (l : Bool) (p : Option (ℕ × ℕ)) → (o ≡ None → (l ≡ false) × (p ≡ None)) → ((r && w) ≡ false) × (o ≡ None) → (((r && w) || l) ≡ false) × (p ≡ None)
    split r w o l p f h = let k = f h.1 in (or_false (r && w) l h.0 k.0, k.1)

module _ (tables : List Table) (read : Overlay) (rows : Rows) (has : HasRows read rows) where
  run_from : (n passed : ℕ) (ops : List Op) (p : Progress) → find (is_new read) (read_by tables (rows_of read) passed ops p) ≡ None → ops_done tables rows n passed ops p ≡ ops_done tables (rows_of read) n passed ops p
  unfolding read_by ops_done
  run_from n passed [] p h = refl
  run_from n zero (op ∷ ops) p h =
      let parts = find_none read p.written (places_read tables op p) (option_map_or (λ next. read_by tables (rows_of read) (passes op p) ops next) (op_done tables (rows_of read) op p) []) h in
      let same = op_same tables read rows has op p parts.0 in
      ap (λ o. option_map_or (λ next. ops_done tables rows (n + 1) (passes op p) ops next) o (p, Declined n)) same
      ∙ go (op_done tables (rows_of read) op p) parts.1 (λ next k. run_from (n + 1) (passes op p) ops next k)
    where
      go : (o : Option Progress) → find (is_new read) (option_map_or (λ next. read_by tables (rows_of read) (passes op p) ops next) o []) ≡ None
          → ((next : Progress) → find (is_new read) (read_by tables (rows_of read) (passes op p) ops next) ≡ None → ops_done tables rows (n + 1) (passes op p) ops next ≡ ops_done tables (rows_of read) (n + 1) (passes op p) ops next)
          → option_map_or (λ next. ops_done tables rows (n + 1) (passes op p) ops next) o (p, Declined n) ≡ option_map_or (λ next. ops_done tables (rows_of read) (n + 1) (passes op p) ops next) o (p, Declined n)
      go None k f = refl
      go (Some next) k f = f next k
  run_from n (suc passed) (op ∷ ops) p h = run_from (n + 1) passed ops p h

  pub run_same : (txn : List Op) (end : End) → wants tables txn read ≡ WantsEnded end → run tables txn rows ≡ run tables txn (rows_of read)
  unfolding run
  run_same txn end e = ap (λ (d : Progress × End). (record { outs = d.0.outs; end = d.1 }, writes_of d.0 d.1)) (run_from 1 0 txn beginning (none_wanted (find (is_new read) (read_by tables (rows_of read) 0 txn beginning)) e))
    where
      none_wanted : (o : Option (ℕ × ℕ)) → option_map_or (λ (q : ℕ × ℕ). WantsRead q.0 q.1) o (WantsEnded (run tables txn (rows_of read)).0.end) ≡ WantsEnded end → o ≡ None
      none_wanted None e = refl
      none_wanted (Some q) e = absurd (cc)

-- ---- cells by record number stand for rows by place ----
row_cells : (c : ℕ) (o : Option (List ℕ)) → row_of (cells_of c o) ≡ o
row_cells c None = refl
row_cells c (Some row) = refl

tied : (o : Ordering) → is_eq o ≡ true → o ≡ Equal
tied Less e = absurd (true≢false (sym e))
tied Equal e = refl
tied Greater e = absurd (true≢false (sym e))

module _ (tables : List Table) where
  pub record Stands (m : ℕ → List ℕ) (rows : Rows) : Type 0 where
    pub row : (r : ℕ) → row_of (m r) ≡ finite.get rows (place_of (sizes_of tables) r)

  has_rows : (m : ℕ → List ℕ) (rows : Rows) → Stands m rows → (reads : List Read) → AllRows m reads → HasRows (overlay_of tables reads) rows
  has_rows m rows s [] a q = subst (λ o. IfSome o (λ row. finite.get rows q ≡ row)) (sym (finite.get-empty place_cmp q)) tt
  has_rows m rows s (x ∷ xs) a q =
      subst (λ o. IfSome o (λ row. finite.get rows q ≡ row)) (sym (finite.get-insert places_total (overlay_of tables xs) (place_of (sizes_of tables) x.rec) (row_of x.row) q))
      (go (eq_by_cmp place_cmp q (place_of (sizes_of tables) x.rec)) refl (has_rows m rows s xs a.1 q))
    where
      go : (b : Bool) → eq_by_cmp place_cmp q (place_of (sizes_of tables) x.rec) ≡ b → IfSome (finite.get (overlay_of tables xs) q) (λ row. finite.get rows q ≡ row)
          → IfSome (cond b (Some (row_of x.row)) (finite.get (overlay_of tables xs) q)) (λ row. finite.get rows q ≡ row)
      go true e h = ap (finite.get rows) (same_place q (place_of (sizes_of tables) x.rec) (tied _ e)) ∙ sym (s.row x.rec) ∙ ap row_of a.0
      go false e h = h

  stands_write : (m : ℕ → List ℕ) (rows : Rows) → Stands m rows → (w : Write) → WriteFits tables w → Stands (apply (install_of tables w ∷ []) m) (with_write rows w)
  stands_write m rows s w f = record {
    row = λ r. elim (eqb_tells r (install_of tables w).rec) [
      | inl i ↦ (let here : place_of (sizes_of tables) r ≡ (w.table, w.key) = ap (place_of (sizes_of tables)) i.1 ∙ place_of_write tables (size_at tables) (sizes_length tables) w f in
          rw i.0 (row_cells (columns_of tables w.table) w.row ∙ sym (ap (finite.get (with_write rows w)) here ∙ get_after rows (w.table, w.key) w.row (w.table, w.key) ∙ ap (λ o. cond (is_eq o) w.row (finite.get rows (w.table, w.key))) (tied_itself places_total (w.table, w.key)))))
      | inr n ↦ rw n.0 (s.row r ∙ sym (get_after rows (w.table, w.key) w.row (place_of (sizes_of tables) r) ∙ elsewhere r n.1 (eq_by_cmp place_cmp (place_of (sizes_of tables) r) (w.table, w.key)) refl))
    ];
  }
    where
      elsewhere : (r : ℕ) → r ≢ (install_of tables w).rec → (b : Bool) → eq_by_cmp place_cmp (place_of (sizes_of tables) r) (w.table, w.key) ≡ b
          → cond b w.row (finite.get rows (place_of (sizes_of tables) r)) ≡ finite.get rows (place_of (sizes_of tables) r)
      elsewhere r n true e =
          let there : w.table < _ = rw (sizes_length tables) f.0 in
          absurd (n (sym (record_of_place (sizes_of tables) r w.table w.key there (same_place (place_of (sizes_of tables) r) (w.table, w.key) (tied _ e)))))
      elsewhere r n false e = refl

  or_last : (o : Option (List ℕ)) (b : Bool) (new old : List ℕ) → (b ≡ true → o ≡ None) → or_row o (or_row (if b then Some new else None) old) ≡ or_row (if b then Some new else o) old
  or_last None true new old h = refl
  or_last None false new old h = refl
  or_last (Some x) true new old h = absurd (none_some (h refl))
    where
      none_some : ◌≡◌ {A = Option (List ℕ)} (Some x) None → ⊥
      none_some e = cc
  or_last (Some x) false new old h = refl

  stands_writes : (ws : List Write) → WritesFit tables ws → Distinct (map (install_of tables) ws) → (m : ℕ → List ℕ) (rows : Rows) → Stands m rows → Stands (apply (map (install_of tables) ws) m) (after_writes rows ws)
  stands_writes [] f d m rows s = record { row = s.row }
  stands_writes (w ∷ ws) f d m rows s =
      let x = install_of tables w in
      let later = stands_writes ws f.1 d.1 (apply (x ∷ []) m) (with_write rows w) (stands_write m rows s w f.0) in
      record {
        row = λ r. ap row_of (sym (or_last (row_at r (map (install_of tables) ws)) (r == x.rec) x.row (m r)
            (λ e. has_row r (map (install_of tables) ws) (none_here r e)))) ∙ later.row r;
      }
    where
      none_here : (r : ℕ) → (r == (install_of tables w).rec) ≡ true → has r (map (install_of tables) ws) ≡ false
      none_here r e = elim (eqb_tells r (install_of tables w).rec) [
        | inl i ↦ rw i.1 d.0
        | inr n ↦ absurd (true≢false (sym e ∙ n.0))
      ]

module _ (l : OpenLeader) (fits : CoreFits l) where
  abbrev tables : List Table
  tables = l.tables

  abbrev lists : List (List (List Op))
  lists = l.lists

  abbrev rows : Rows
  rows = l.rows

  abbrev stamps : List ℕ
  stamps = l.stamps

  abbrev epoch : ℕ
  epoch = l.epoch

  pub stands_opening : Stands tables (λ r. (get_or (opening_recs tables rows stamps) r no_rec).cells) rows
  stands_opening = record {
    row = λ r. elim (cases_lt r (sum (sizes_of tables))) [
      | inl a ↦ ap (λ (x : Rec). row_of x.cells) (rec_at l fits r a) ∙ row_cells _ _
      | inr b ↦ ap (λ (x : Rec). row_of x.cells) (rec_past l fits r b) ∙ sym (nothing r b (finite.get rows (place_of (sizes_of tables) r)) refl)
    ];
  }
    where
      nothing : (r : ℕ) → sum (sizes_of tables) ≤ r → (o : Option (List ℕ)) → finite.get rows (place_of (sizes_of tables) r) ≡ o → o ≡ None
      nothing r b None e = refl
      nothing r b (Some row) e =
          let within = fits.rows_fit (place_of (sizes_of tables) r).0 (place_of (sizes_of tables) r).1 row e in
          absurd (omega (arith, within.0, place_past_all (sizes_of tables) r b, sizes_length tables))

  runs : (xs : List CoreItem) (m : ℕ → List ℕ) (now : Rows) → Stands tables m now → Serial (setting_of tables lists epoch) m xs → Runs tables lists now (items_seen epoch xs)
  runs [] m now s h = tt
  runs (x ∷ xs) m now s h =
      let d = ending tables lists x.worker x.index h.0.reads x.answer x.writes h.0.ends in
      let txn_fits = request_fits tables lists fits.lists_fit x.worker x.index d.txn d.is in
      let same : run tables d.txn now ≡ x.answer = run_same tables (overlay_of tables h.0.reads) now (has_rows tables m now s h.0.reads h.0.rows) d.txn d.end d.ended ∙ sym d.answer_is in
      let own = rows_of (overlay_of tables h.0.reads) in
      let fit : WritesFit tables x.answer.1 = subst (λ (a : Answer). WritesFit tables a.1) (sym d.answer_is) (run_fits tables d.txn own txn_fits) in
      let apart : Distinct (map (install_of tables) x.answer.1) = subst (λ (a : Answer). Distinct (map (install_of tables) a.1)) (sym d.answer_is) (run_distinct tables (size_at tables) (sizes_length tables) d.txn own txn_fits) in
      let next : Stands tables (apply x.writes m) (after_writes now x.answer.1) = subst (λ z. Stands tables (apply z m) (after_writes now x.answer.1)) (sym d.writes_are) (stands_writes tables x.answer.1 fit apart m now s) in
      (subst (λ o. IsSomeAnd o (λ txn. run tables txn now ≡ (x.answer.0, x.answer.1))) (sym d.is) same, runs xs (apply x.writes m) (after_writes now x.answer.1) next h.1)

  packed_is : (x : CoreItem) → epoch * 2 ^ 40 ≤ x.stamp → packed (item_seen epoch x).stamp ≡ x.stamp
  packed_is x h = omega arith

  stamps_rise : (xs : List CoreItem) (b : ℕ) → epoch * 2 ^ 40 ≤ b → Rising b xs → (k : ℕ) → k + 1 < length (map (λ (i : txn.Item). packed i.stamp) (items_seen epoch xs))
      → slice_index (map (λ (i : txn.Item). packed i.stamp) (items_seen epoch xs)) k < slice_index (map (λ (i : txn.Item). packed i.stamp) (items_seen epoch xs)) (k + 1)
  stamps_rise [] b l r k h = absurd (omega arith)
  stamps_rise (x ∷ []) b l r k h = absurd (omega arith)
  stamps_rise (x ∷ y ∷ xs) b l r zero h =
      let px = packed_is x (omega (arith, r.0)) in
      let py = packed_is y (omega (arith, r.1.0, r.0)) in
      rw (px, py) (omega (arith, r.1.0))
  stamps_rise (x ∷ y ∷ xs) b l r (suc k) h =
      let n : suc k + 1 ≡ suc (k + 1) = omega arith in
      rw n (stamps_rise (y ∷ xs) (suc x.stamp) (omega (arith, r.0)) r.1 k (omega arith))

  pub serial : (xs : List CoreItem) → Rising (epoch * 2 ^ 40 + 2) xs → Serial (setting_of tables lists epoch) (λ r. (get_or (opening_recs tables rows stamps) r no_rec).cells) xs → IsSerial tables lists rows (items_seen epoch xs)
  serial xs rise h = record {
    rising = stamps_rise xs (epoch * 2 ^ 40 + 2) (omega arith) rise;
    runs = runs xs (λ r. (get_or (opening_recs tables rows stamps) r no_rec).cells) rows stands_opening h;
  }

-- ---- the indexes of one worker ----
pub indexes_same : (epoch w : ℕ) (xs : List CoreItem) → indexes_of w (items_seen epoch xs) ≡ indexes w xs
indexes_same epoch w [] = refl
indexes_same epoch w (x ∷ xs) = elim (x.worker == w) as (λ b. map (λ (i : txn.Item). i.index) (cond b (item_seen epoch x ∷ filter (λ (i : txn.Item). i.worker == w) (items_seen epoch xs)) (filter (λ (i : txn.Item). i.worker == w) (items_seen epoch xs))) ≡ (if b then x.index ∷ indexes w xs else indexes w xs)) [
  | true ↦ ap (λ z. x.index ∷ z) (indexes_same epoch w xs)
  | false ↦ indexes_same epoch w xs
]

pub upto_range : (a n : ℕ) → upto a n ≡ range_with_len a n
upto_range a zero = refl
upto_range a (suc n) = ap (λ z. a ∷ z) (upto_range (suc a) n ∙ ap (λ z. range_with_len z n) (omega arith))
