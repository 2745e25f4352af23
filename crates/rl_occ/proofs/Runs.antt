-- A transaction that has run to its end on what an attempt has read.
use Rattle.std.proofs.Common.{◌≡◌, ◌≢◌, ℕ, ◌<◌, ◌≤◌, List, [], map, length, Option, Some, None, refl, sym, ap, ◌∙◌, subst, arith, inl, inr, All, AllPairs}
use Rattle.std.proofs.lemmas.Bool.{cases_lt}
use Rattle.std.proofs.lemmas.List.{length-map}
use Rattle.std.specs.Prelude.{IfSome}
use Rattle.std.specs.Cmp.{tied_itself}
use Rattle.std.specs.FinMap as finite
use Rattle.std.specs.declared.cmp.Ordering.TheVariants.{Less, Equal}
use mathlib.Core.Option.{some, some-ne-none}
use lib.ListN.{get_elem?}
use Rattle.rl_value.specs.Rows.{Rows, place_cmp}
use Rattle.rl_value.specs.Tables.{Table}
use Rattle.rl_value.proofs.PlacesLemmas.{places_total}
use Rattle.rl_tables.specs.Laws.{RecordsHaveTheirPlaces}
use Rattle.rl_tables.specs.Numbers.{sizes_of, place_of}
use Rattle.rl_tables.proofs.Sizes.{size_at}
use Rattle.rl_txn.specs.Eval.{HasRows, rows_given, rows_of}
use Rattle.rl_txn.specs.Fits.{AnswerFits, TxnFits, WriteFits, IsPlaceBelow}
use Rattle.rl_txn.specs.Laws.{AnswersFit}
use Rattle.rl_txn.specs.Run.{Overlay, run}
use Rattle.rl_txn.specs.declared.eval.Eval.{Eval}
use Rattle.rl_txn.specs.declared.op.Op.{Op}
use Rattle.rl_txn.specs.declared.write.Reply.{Reply}
use Rattle.rl_txn.specs.declared.write.Write.{Write}
use Rattle.rl_txn.proofs.Evals.{has_rows_of}
use Rattle.rl_store.specs.declared.view.Read.{Read}
use Rattle.rl_store.specs.declared.view.View.{View}
use Rattle.rl_store.specs.Entries.{In, RowOf}
use Rattle.rl_store.specs.Views.{blank}
use Rattle.rl_store.proofs.Views.{at_below, at_get}
use Rattle.rl_occ.specs.declared.sets.Seen.{Seen}
use Rattle.rl_occ.specs.Fits.{AreWrites, rec_of}
use Rattle.rl_occ.specs.Reading.{HasRead, HasRowsRead, seen_of}
use Rattle.rl_occ.specs.Working.{HasRun, HasSeen}

less_is_not_equal : Less ≢ Equal
less_is_not_equal e = cc

-- rows that have what was read have what is known
pub has_known : (tables : List Table) (v : View) (m : Overlay) (words : List Seen) → HasRead tables v m words → (rows : Rows) → HasRowsRead tables v.attempt.reads rows → HasRows m rows
has_known tables v m words h rows read q = go (finite.get m q) (h.known q.0 q.1)
  where
    go : (o : Option RowOf) → IfSome o (λ row. (x : Read) × In x v.attempt.reads × (place_of (sizes_of tables) x.rec ≡ q) × (x.row ≡ row)) → IfSome o (λ row. finite.get rows q ≡ row)
    go None i = i
    go (Some row) i = ap (finite.get rows) (sym i.2) ∙ read i.0 i.1 ∙ i.3

pub has_seen : (tables : List Table) (v : View) (m : Overlay) (words : List Seen) → HasRead tables v m words → HasSeen tables v words
has_seen tables v m words h = record { seen = h.seen; once = h.once; below = λ x i. (h.from x i).1 }

-- nothing is read yet
pub none_read : (tables : List Table) (v : View) (m : Overlay) → v.attempt ≡ blank → m ≡ finite.empty → HasRead tables v m []
none_read tables v m rest e = record {
  only = λ i. record (rest i) { reads = (ap (λ a. a.reads) rest ∙ sym (ap (λ a. a.reads) rest)) i };
  seen = ap (λ a. map seen_of a.reads) rest;
  known = λ t k. subst (λ (o : Option RowOf). IfSome o (λ row. (x : Read) × In x v.attempt.reads × (place_of (sizes_of tables) x.rec ≡ (t, k)) × (x.row ≡ row))) (sym (ap (λ (n : Overlay). finite.get n (t, k)) e ∙ finite.get-empty place_cmp (t, k))) tt;
  from = λ x i. absurd (none x i);
  once = λ i j x y p q e. absurd (none x (i, p));
}
  where
    none : (x : Read) → In x v.attempt.reads → ⊥
    none x i = some-ne-none x (sym (subst (λ l. get_elem? l i.0 ≡ some x) (ap (λ a. a.reads) rest) i.1))

-- by the law of record numbers
module _ (tables : List Table) (places : RecordsHaveTheirPlaces) where
  placed : (w : Write) → WriteFits tables w → place_of (sizes_of tables) (rec_of tables w) ≡ (w.table, w.key)
  placed w f = places (sizes_of tables) w.table w.key (subst (λ n. w.table < n) (sym (length-map tables (λ (t : Table). t.size))) f.0) (subst (λ n. w.key < n) (sym (size_at tables w.table)) f.1)

  -- a write whose place is below another's is of another record
  below_apart : (a b : Write) → WriteFits tables a → WriteFits tables b → IsPlaceBelow a b → rec_of tables a ≢ rec_of tables b
  below_apart a b f g below e =
      let same : ◌≡◌ {A = ℕ × ℕ} (a.table, a.key) (b.table, b.key) = sym (placed a f) ∙ ap (place_of (sizes_of tables)) e ∙ placed b g in
      less_is_not_equal (sym below ∙ ap (place_cmp (a.table, a.key)) (sym same) ∙ tied_itself places_total (a.table, a.key))

  module _ (ws : List Write) (fit : All (WriteFits tables) ws) (rising : AllPairs IsPlaceBelow ws) where
    fit_at : (w : Write) → In w ws → WriteFits tables w
    fit_at w i = subst (WriteFits tables) (at_get ws i.0 w w i.1) (fit i.0 w (at_below ws w i.0 i.1))

    rise_apart : (i j : ℕ) (a b : Write) → i < j → get_elem? ws i ≡ some a → get_elem? ws j ≡ some b → rec_of tables a ≢ rec_of tables b
    rise_apart i j a b l p q =
        let below = rising i j a l (at_below ws b j q) in
        below_apart a b (fit_at a (i, p)) (fit_at b (j, q)) (subst (λ (z : Write × Write). IsPlaceBelow z.0 z.1) (λ k. (at_get ws i a a p k, at_get ws j b a q k)) below)

    apart_at : (i j : ℕ) (a b : Write) → get_elem? ws i ≡ some a → get_elem? ws j ≡ some b → rec_of tables a ≡ rec_of tables b → i ≡ j
    apart_at i j a b p q e = elim (cases_lt i j) [
      | inl l ↦ absurd (rise_apart i j a b l p q e)
      | inr m ↦ elim (cases_lt j i) [
        | inl l ↦ absurd (rise_apart j i b a l q p (sym e))
        | inr n ↦ omega arith
      ]
    ]

  pub are_writes : (ws : List Write) → All (WriteFits tables) ws → AllPairs IsPlaceBelow ws → AreWrites tables ws
  are_writes ws fit rising = record { fit = fit_at ws fit rising; apart = apart_at ws fit rising }

-- by the law of transactions
module _ (tables : List Table) (answers : AnswersFit) (places : RecordsHaveTheirPlaces) where
  pub run_writes : (txn : List Op) (rows : Rows) → TxnFits tables txn → AreWrites tables (run tables txn rows).1
  run_writes txn rows fits = let a = answers tables txn rows fits in are_writes tables places (run tables txn rows).1 a.fit a.rising

  pub has_run : (txn : List Op) (e : Eval) (v : View) (words : List Seen) (reply : Reply) (writes : List Write) → TxnFits tables txn → HasRead tables v (rows_given e) words
      → ((rows : Rows) → HasRows (rows_given e) rows → (reply, writes) ≡ run tables txn rows) → HasRun tables txn v reply writes
  has_run txn e v words reply writes fits read ran =
      let own : writes ≡ (run tables txn (rows_of (rows_given e))).1 = ap (λ p. p.1) (ran (rows_of (rows_given e)) (has_rows_of (rows_given e))) in record {
        run = λ rows has_. ran rows (has_known tables v (rows_given e) words read rows has_);
        writes_fit = subst (AreWrites tables) (sym own) (run_writes txn (rows_of (rows_given e)) fits);
        fits = subst (λ (p : Reply × List Write). AnswerFits tables txn p.0 p.1) (sym (ran (rows_of (rows_given e)) (has_rows_of (rows_given e)))) (answers tables txn (rows_of (rows_given e)) fits);
      }
