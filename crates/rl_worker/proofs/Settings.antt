-- Real tables, requests and rows are a lawful setting.
use Rattle.std.proofs.Common.{◌≡◌, ℕ, zero, suc, ◌+◌, ◌*◌, ◌^◌, ◌<◌, ◌≤◌, List, [], ◌∷◌, length, map, sum, get_or, slice_get, slice_index, true, Option, Some, None, refl, sym, ap, ◌∙◌, subst, arith, inl, inr, true≢false, All}
use Rattle.std.proofs.lemmas.Bool.{cases_lt}
use Rattle.std.proofs.lemmas.Bool.Decides.{eqb_tells}
use Rattle.std.proofs.lemmas.List.{get_or_past, length-replicate}
use Rattle.std.proofs.lemmas.List.FromFn.{get_or-map-range_with_len, length-map-range_with_len}
use Rattle.std.specs.Option.{option_map_or, option_and_then}
use Rattle.std.specs.List.{range_with_len}
use Rattle.std.specs.FinMap as finite
use Rattle.rl_value.specs.Rows.{Rows}
use Rattle.rl_value.specs.Tables.{Table, columns_of}
use Rattle.rl_tables.specs.Numbers.{sizes_of, record_of, place_of}
use Rattle.rl_tables.proofs.Sizes.{sum_before, size_at}
use Rattle.rl_txn.specs.Fits.{TxnFits, ListsFit}
use Rattle.rl_txn.specs.Run.{run}
use Rattle.rl_txn.specs.Eval.{rows_of, wants}
use Rattle.rl_txn.specs.Serial.{numbered, request}
use Rattle.rl_txn.proofs.Answers.{all_numbered}
use Rattle.rl_txn.specs.declared.op.Op.{Op}
use Rattle.rl_txn.specs.declared.eval.Wants as eval
use Rattle.rl_txn.specs.declared.eval.Wants.TheVariants.{Read as WantsRead, Ended as WantsEnded}
use Rattle.rl_txn.specs.declared.write.End.{End}
use Rattle.rl_txn.specs.declared.write.Write.{Write}
use Rattle.rl_worker.specs.Phases.{Answer, Read, Install, Rec, Wants, Ends, Rest}
use Rattle.rl_worker.specs.Acts.{no_rec}
use Rattle.rl_value.specs.Cells.{cells_of}
use Rattle.rl_worker.specs.Opening.{overlay_of, install_of, outcome_of, outcome, asks, opening_rec, opening_recs, setting_of, first_of, at_rest, OpenLeader, CoreFits}
use Rattle.rl_worker.proofs.OwnLaw.{Ground, Distinct, Widths, Lawful, AllFree, AllRest, Opens, RestAt, has}
use Rattle.rl_worker.proofs.Writes.{RowFits, WriteFits, WritesFit, run_fits, run_distinct, place_of_write}

pub sizes_length : (tables : List Table) → length (sizes_of tables) ≡ length tables
sizes_length [] = refl
sizes_length (x ∷ xs) = ap suc (sizes_length xs)

pub cell_length : (tables : List Table) (c : ℕ) (o : Option (List ℕ)) → RowFits tables c o → length (cells_of c o) ≡ suc c
cell_length tables c None h = ap suc (length-replicate c 0)
cell_length tables c (Some row) h = ap suc h

-- what it means that a request ends
pub record Ending (tables : List Table) (lists : List (List (List Op))) (w q : ℕ) (reads : List Read) (answer : Answer) (writes : List Install) : Type 0 where
  pub txn : List Op
  pub is : request lists w q ≡ Some txn
  pub end : End
  pub ended : wants tables txn (overlay_of tables reads) ≡ WantsEnded end
  pub answer_is : answer ≡ run tables txn (rows_of (overlay_of tables reads))
  pub writes_are : writes ≡ map (install_of tables) answer.1

pub ending : (tables : List Table) (lists : List (List (List Op))) (w q : ℕ) (reads : List Read) (answer : Answer) (writes : List Install) → asks tables lists w q reads ≡ Ends answer writes
    → Ending tables lists w q reads answer writes
ending tables lists w q reads answer writes e = by_request (request lists w q) refl e
  where
    by_wants : (txn : List Op) → request lists w q ≡ Some txn → (v : eval.Wants) → wants tables txn (overlay_of tables reads) ≡ v → outcome_of tables txn reads v ≡ Ends answer writes → Ending tables lists w q reads answer writes
    by_wants txn r (WantsRead t k) f e = absurd (cc)
    by_wants txn r (WantsEnded end) f e =
        let a : answer ≡ run tables txn (rows_of (overlay_of tables reads)) = cc in
        record { txn = txn; is = r; end = end; ended = f; answer_is = a; writes_are = cc }

    by_request : (o : Option (List Op)) → request lists w q ≡ o → option_map_or (λ txn. outcome tables txn reads) o (Wants 0) ≡ Ends answer writes → Ending tables lists w q reads answer writes
    by_request None r e = absurd (cc)
    by_request (Some txn) r e = by_wants txn r (wants tables txn (overlay_of tables reads)) refl e

pub request_fits : (tables : List Table) (lists : List (List (List Op))) → ListsFit tables lists → (w q : ℕ) (txn : List Op) → request lists w q ≡ Some txn → TxnFits tables txn
request_fits tables lists fits w q txn e = go (numbered lists w) refl e
  where
    go : (o : Option (List (List Op))) → numbered lists w ≡ o → option_and_then (λ list. numbered list q) o ≡ Some txn → TxnFits tables txn
    go None f e = absurd (cc)
    go (Some list) f e = all_numbered (TxnFits tables) list q txn e (all_numbered (All (TxnFits tables)) lists w list f fits.each)

module _ (l : OpenLeader) (fits : CoreFits l) where
  abbrev tables : List Table
  tables = l.tables

  abbrev lists : List (List (List Op))
  lists = l.lists

  abbrev rows : Rows
  rows = l.rows

  abbrev stamps : List ℕ
  stamps = l.stamps

  abbrev epoch : ℕ
  epoch = l.epoch

  abbrev recs : List Rec
  recs = opening_recs tables rows stamps

  -- the setting with the records as they open
  abbrev pub ground : Ground
  ground = record {
    setting = setting_of tables lists epoch;
    width = λ r. length (get_or recs r no_rec).cells;
    start = λ r. get_or recs r no_rec;
  }

  pub length_recs : length recs ≡ sum (sizes_of tables)
  length_recs = length-map-range_with_len (opening_rec tables rows stamps) 0 (sum (sizes_of tables))

  pub rec_at : (r : ℕ) → r < sum (sizes_of tables) → get_or recs r no_rec ≡ opening_rec tables rows stamps r
  rec_at r h = get_or-map-range_with_len (opening_rec tables rows stamps) 0 (sum (sizes_of tables)) r r no_rec h (omega arith)

  pub rec_past : (r : ℕ) → sum (sizes_of tables) ≤ r → get_or recs r no_rec ≡ no_rec
  rec_past r h = get_or_past recs r no_rec (rw length_recs h)

  early : (r : ℕ) → (get_or recs r no_rec).stamp < epoch * 2 ^ 40 + 2
  early r = elim (cases_lt r (sum (sizes_of tables))) [
    | inl a ↦ rw (rec_at r a) (omega (arith, fits.earlier r))
    | inr b ↦ rw (rec_past r b) (omega arith)
  ]

  pub write_within : (w : Write) → WriteFits tables w → record_of (sizes_of tables) w.table w.key < sum (sizes_of tables)
  write_within w f =
      let t : w.table < length (sizes_of tables) = rw (sizes_length tables) f.0 in
      let k : w.key < slice_index (sizes_of tables) w.table = rw (size_at tables w.table) f.1 in
      omega (arith, sum_before (sizes_of tables) w.table t)

  row_here : (t k : ℕ) → RowFits tables (columns_of tables t) (finite.get rows (t, k))
  row_here t k = go (finite.get rows (t, k)) refl
    where
      go : (o : Option (List ℕ)) → finite.get rows (t, k) ≡ o → RowFits tables (columns_of tables t) o
      go None e = 0
      go (Some row) e = (fits.rows_fit t k row e).2

  width_is : (w : Write) → WriteFits tables w → length (cells_of (columns_of tables w.table) w.row) ≡ length (get_or recs (record_of (sizes_of tables) w.table w.key) no_rec).cells
  width_is w f =
      let r = record_of (sizes_of tables) w.table w.key in
      let place : place_of (sizes_of tables) r ≡ (w.table, w.key) = place_of_write tables (size_at tables) (sizes_length tables) w f in
      let cells : (get_or recs r no_rec).cells ≡ cells_of (columns_of tables w.table) (finite.get rows (w.table, w.key)) =
      ap (λ (x : Rec). x.cells) (rec_at r (write_within w f)) ∙ ap (λ (p : ℕ × ℕ). cells_of (columns_of tables p.0) (finite.get rows p)) place in
      cell_length tables (columns_of tables w.table) w.row f.2 ∙ sym (ap length cells ∙ cell_length tables (columns_of tables w.table) (finite.get rows (w.table, w.key)) (row_here w.table w.key))

  widths : (ws : List Write) → WritesFit tables ws → Widths ground (map (install_of tables) ws)
  widths [] h = 0
  widths (w ∷ ws) h = (width_is w h.0, widths ws h.1)

  inside : (ws : List Write) → WritesFit tables ws → (r : ℕ) → has r (map (install_of tables) ws) ≡ true → r < length recs
  inside [] h r e = absurd (true≢false (sym e))
  inside (w ∷ ws) h r e = elim (eqb_tells r (install_of tables w).rec) [
    | inl i ↦ rw (length_recs, i.1) (write_within w h.0)
    | inr n ↦ inside ws h.1 r (rw n.0 at e)
  ]

  pub lawful : Lawful ground
  lawful = record {
    early = early;
    widths = λ r. refl;
    ends_ok = λ w q reads answer writes e.
        let d = ending tables lists w q reads answer writes e in
        let txn_fits = request_fits tables lists fits.lists_fit w q d.txn d.is in
        let own = rows_of (overlay_of tables reads) in
        let are : writes ≡ map (install_of tables) (run tables d.txn own).1 = d.writes_are ∙ ap (λ (a : Answer). map (install_of tables) a.1) d.answer_is in (
          subst Distinct (sym are) (run_distinct tables (size_at tables) (sizes_length tables) d.txn own txn_fits),
          subst (Widths ground) (sym are) (widths (run tables d.txn own).1 (run_fits tables d.txn own txn_fits)),
        );
  }

  all_free : (rs : List ℕ) → AllFree (map (opening_rec tables rows stamps) rs)
  all_free [] = 0
  all_free (r ∷ rs) = (refl, all_free rs)

  all_rest : (firsts : List ℕ) → AllRest (map Rest firsts)
  all_rest [] = 0
  all_rest (x ∷ xs) = (refl, all_rest xs)

  pub opens : Opens ground recs (at_rest l.firsts)
  opens = record {
    free = all_free (range_with_len 0 (sum (sizes_of tables)));
    rests = (refl, all_rest l.firsts);
    start_is = λ r. refl;
    inside = λ w q reads answer writes e r h.
        let d = ending tables lists w q reads answer writes e in
        let txn_fits = request_fits tables lists fits.lists_fit w q d.txn d.is in
        let own = rows_of (overlay_of tables reads) in
        let are : writes ≡ map (install_of tables) (run tables d.txn own).1 = d.writes_are ∙ ap (λ (a : Answer). map (install_of tables) a.1) d.answer_is in
        inside (run tables d.txn own).1 (run_fits tables d.txn own txn_fits) r (subst (λ z. has r z ≡ true) are h);
  }

rests_from : (firsts : List ℕ) (w : ℕ) → get_or (map Rest firsts) w (Rest 0) ≡ Rest (slice_index firsts w)
rests_from [] w = refl
rests_from (x ∷ xs) zero = refl
rests_from (x ∷ xs) (suc w) = rests_from xs w

pub rests_at : (firsts : List ℕ) → RestAt (first_of firsts) (at_rest firsts)
rests_at firsts zero l = refl
rests_at firsts (suc w) l = rests_from firsts w

all_rest_from : (firsts : List ℕ) → AllRest (map Rest firsts)
all_rest_from [] = 0
all_rest_from (x ∷ xs) = (refl, all_rest_from xs)

pub all_at_rest : (firsts : List ℕ) → AllRest (at_rest firsts)
all_at_rest firsts = (refl, all_rest_from firsts)
