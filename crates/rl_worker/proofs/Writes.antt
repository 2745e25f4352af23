-- What a transaction writes: each write is at a key that is there, with its table's columns, and no two are at one key.
use Rattle.std.proofs.Common.{◌≡◌, ◌≢◌, ℕ, zero, suc, ◌+◌, ◌<◌, List, [], ◌∷◌, length, map, slice_index, nat_lt, Bool, true, false, ◌&&◌, T, Option, Some, None, refl, sym, ap, ◌∙◌, subst, arith, inl, inr, All}
use Rattle.std.proofs.lemmas.Bool.Decides.{nat_tests, eqb_tells}
use Rattle.std.specs.Option.{option_map_or}
use Rattle.std.specs.FinMap as finite
use Rattle.std.specs.FinMap.Entries.{put, is_sorted, below_all, by_order}
use Rattle.std.specs.Ordering.{is_lt}
use Rattle.std.specs.Cmp.{tied_itself}
use Rattle.std.specs.declared.cmp.Ordering.{Ordering}
use Rattle.std.specs.declared.cmp.Ordering.TheVariants.{Less, Equal, Greater}
use Rattle.rl_value.specs.Rows.{Rows, place_cmp}
use Rattle.rl_value.specs.Tables.{Table, size_of, columns_of}
use Rattle.rl_tables.specs.Numbers.{sizes_of, record_of, place_of}
use Rattle.rl_txn.specs.Fits.{OpFits, TxnFits}
use Rattle.rl_txn.specs.Run.{Overlay, value_of, only_if, op_done, passes, ops_done, beginning, run, write_of, writes_of}
use Rattle.rl_txn.specs.declared.op.Op.{Op}
use Rattle.rl_txn.specs.declared.op.Op.TheVariants.{Set, Add, Sub, Mul, Get, Has, Put, Del, Scan, Need, Skip, Out}
use Rattle.rl_txn.specs.Run.{Progress}
use Rattle.rl_txn.specs.declared.write.Write.{Write}
use Rattle.rl_txn.specs.declared.write.End.{End}
use Rattle.rl_txn.specs.declared.write.End.TheVariants.{Done, Declined}
use Rattle.rl_txn.proofs.RowSets.{places_total, same_place}
use Rattle.rl_worker.specs.Opening.{install_of}
use Rattle.rl_worker.proofs.OwnLaw.{Distinct, has}
use Rattle.rl_tables.proofs.Places.{place_of_record}

abbrev pub Entry : Type 0
Entry = (ℕ × ℕ) × Option (List ℕ)

module _ (tables : List Table) where
  abbrev pub RowFits : ℕ → Option (List ℕ) → Type 0
  RowFits columns None = ℕ
  RowFits columns (Some row) = length row ≡ columns

  -- a write at a key that is there, with its table's columns
  abbrev pub WriteFits : Write → Type 0
  WriteFits w = (w.table < length tables) × (w.key < size_of tables w.table) × RowFits (columns_of tables w.table) w.row

  abbrev pub AllFit : List Entry → Type 0
  AllFit [] = ℕ
  AllFit (e ∷ es) = WriteFits (write_of e) × AllFit es

  put_fits : (q : ℕ × ℕ) (row : Option (List ℕ)) (es : List Entry) → WriteFits (write_of (q, row)) → AllFit es → AllFit (put place_cmp q row es)
  put_fits q row [] f h = (f, 0)
  put_fits q row (e ∷ es) f h = go (place_cmp q e.0) refl (put_fits q row es f h.1)
    where
      go : (o : Ordering) → place_cmp q e.0 ≡ o → AllFit (put place_cmp q row es) → AllFit (by_order o ((q, row) ∷ e ∷ es) ((e.0, row) ∷ es) (e ∷ put place_cmp q row es))
      go Less c rest = (f, h)
      go Equal c rest = (subst (λ p. WriteFits (write_of (p, row))) (same_place q e.0 c) f, h.1)
      go Greater c rest = (h.0, rest)

  abbrev pub Fit : Progress → Type 0
  Fit p = AllFit (finite.entries p.written)

  insert_fits : (m : Overlay) (q : ℕ × ℕ) (row : Option (List ℕ)) → WriteFits (write_of (q, row)) → AllFit (finite.entries m) → AllFit (finite.entries (finite.insert m q row))
  insert_fits m q row f h = subst AllFit (sym (finite.entries-insert places_total m q row)) (put_fits q row (finite.entries m) f h)

  lt_of : (a b : ℕ) → nat_lt a b ≡ true → a < b
  lt_of a b h = grind (arith, nat_tests)

  abbrev pub IfFit : Option Progress → Type 0
  IfFit None = ℕ
  IfFit (Some p) = Fit p

  only_fits : (b : Bool) (p : Progress) → (b ≡ true → Fit p) → IfFit (only_if b p)
  only_fits true p h = h refl
  only_fits false p h = 0

  map_length : {A B : Type 0} (f : A → B) (xs : List A) → length (map f xs) ≡ length xs
  map_length f [] = refl
  map_length f (x ∷ xs) = ap suc (map_length f xs)

  op_fits : (rows : Rows) (op : Op) (p : Progress) → OpFits tables op → Fit p → IfFit (op_done tables rows op p)
  unfolding op_done
  op_fits rows (Set d a) p o h = h
  op_fits rows (Add d a b) p o h = h
  op_fits rows (Sub d a b) p o h = h
  op_fits rows (Mul d a b) p o h = h
  op_fits rows (Get t k c d) p o h = only_fits _ _ (λ e. h)
  op_fits rows (Has t k d) p o h = only_fits _ _ (λ e. h)
  op_fits rows (Put t k values) p o h = only_fits (nat_lt (value_of p k) (size_of tables t)) _
      (λ e. insert_fits p.written (t, value_of p k) (Some (map (value_of p) values)) (o.0, lt_of (value_of p k) (size_of tables t) e, map_length (value_of p) values ∙ o.5) h)
  op_fits rows (Del t k) p o h = only_fits (nat_lt (value_of p k) (size_of tables t)) _
      (λ e. insert_fits p.written (t, value_of p k) None (o.0, lt_of (value_of p k) (size_of tables t) e, 0) h)
  op_fits rows (Scan t k n c d) p o h = only_fits _ _ (λ e. h)
  op_fits rows (Need a rel b) p o h = only_fits _ _ (λ e. h)
  op_fits rows (Skip a rel b n) p o h = h
  op_fits rows (Out a) p o h = h

  abbrev pub OpsFit : List Op → Type 0
  OpsFit [] = ℕ
  OpsFit (op ∷ ops) = OpFits tables op × OpsFit ops

  ops_fit : (rows : Rows) (n passed : ℕ) (ops : List Op) (p : Progress) → OpsFit ops → Fit p → Fit (ops_done tables rows n passed ops p).0
  unfolding ops_done
  ops_fit rows n passed [] p o h = h
  ops_fit rows n zero (op ∷ ops) p o h = go (op_done tables rows op p) (op_fits rows op p o.0 h) (λ next f. ops_fit rows (n + 1) (passes op p) ops next o.1 f)
    where
      go : (d : Option Progress) → IfFit d → ((next : Progress) → Fit next → Fit (ops_done tables rows (n + 1) (passes op p) ops next).0)
          → Fit (option_map_or (λ next. ops_done tables rows (n + 1) (passes op p) ops next) d (p, Declined n)).0
      go None f k = h
      go (Some next) f k = k next f
  ops_fit rows n (suc passed) (op ∷ ops) p o h = ops_fit rows (n + 1) passed ops p o.1 h

  all_ops : (ops : List Op) → All (OpFits tables) ops → OpsFit ops
  all_ops [] h = 0
  all_ops (op ∷ ops) h = (h 0 op (omega arith), all_ops ops (λ i d l. h (suc i) d (omega arith)))

  no_length : (es : List Entry) → length es ≡ 0 → AllFit es
  no_length [] e = 0
  no_length (x ∷ es) e = absurd (omega arith)

  begun : Fit beginning
  begun = no_length (finite.entries (finite.empty {K = ℕ × ℕ} {X = Option (List ℕ)} {R = place_cmp}))
      (sym (finite.len-entries (finite.empty {K = ℕ × ℕ} {X = Option (List ℕ)} {R = place_cmp})) ∙ finite.len-empty place_cmp (Option (List ℕ)))

  abbrev pub WritesFit : List Write → Type 0
  WritesFit [] = ℕ
  WritesFit (w ∷ ws) = WriteFits w × WritesFit ws

  fit_writes : (es : List Entry) → AllFit es → WritesFit (map write_of es)
  fit_writes [] h = 0
  fit_writes (e ∷ es) h = (h.0, fit_writes es h.1)

  -- each write fits
  pub run_fits : (txn : List Op) (rows : Rows) → TxnFits tables txn → WritesFit (run tables txn rows).1
  unfolding run
  run_fits txn rows fits = go (ops_done tables rows 1 0 txn beginning).1
    where
      go : (end : End) → WritesFit (writes_of (ops_done tables rows 1 0 txn beginning).0 end)
      go Done = fit_writes _ (ops_fit rows 1 0 txn beginning (all_ops txn fits.each) begun)
      go (Declined op) = 0

  first : (a b : Bool) → T (a && b) → T a
  first true b h = tt
  first false b h = h

  second : (a b : Bool) → T (a && b) → T b
  second true b h = h
  second false b h = absurd h

  less : (o : Ordering) → T (is_lt o) → o ≡ Less
  less Less h = refl
  less Equal h = absurd h
  less Greater h = absurd h

  not_less : Less ≢ Equal
  not_less e = cc

  module _ (sizes_are : (t : ℕ) → slice_index (sizes_of tables) t ≡ size_of tables t) (count_is : length (sizes_of tables) ≡ length tables) where
    pub place_of_write : (w : Write) → WriteFits w → place_of (sizes_of tables) (record_of (sizes_of tables) w.table w.key) ≡ (w.table, w.key)
    place_of_write w f = place_of_record (sizes_of tables) w.table w.key (rw count_is f.0) (rw (sizes_are w.table) f.1)

    no_record : (e : Entry) (es : List Entry) → WriteFits (write_of e) → AllFit es → T (below_all place_cmp e.0 es) → has (install_of tables (write_of e)).rec (map (install_of tables) (map write_of es)) ≡ false
    no_record e [] f h b = refl
    no_record e (x ∷ es) f h b = elim (eqb_tells (install_of tables (write_of e)).rec (install_of tables (write_of x)).rec) [
      | inl i ↦ (
          let same : e.0 ≡ x.0 = sym (place_of_write (write_of e) f) ∙ ap (place_of (sizes_of tables)) i.1 ∙ place_of_write (write_of x) h.0 in
          absurd (not_less (sym (less (place_cmp e.0 x.0) (first _ _ b)) ∙ ap (place_cmp e.0) (sym same) ∙ tied_itself places_total e.0)))
      | inr n ↦ rw n.0 (no_record e es f h.1 (second _ _ b))
    ]

    distinct_entries : (es : List Entry) → AllFit es → T (is_sorted place_cmp es) → Distinct (map (install_of tables) (map write_of es))
    distinct_entries [] h s = 0
    distinct_entries (e ∷ es) h s = (no_record e es h.0 h.1 (first _ _ s), distinct_entries es h.1 (second _ _ s))

    -- no two are at one key
    pub run_distinct : (txn : List Op) (rows : Rows) → TxnFits tables txn → Distinct (map (install_of tables) (run tables txn rows).1)
    unfolding run
    run_distinct txn rows fits = go (ops_done tables rows 1 0 txn beginning).1
      where
        go : (end : End) → Distinct (map (install_of tables) (writes_of (ops_done tables rows 1 0 txn beginning).0 end))
        go Done = distinct_entries _ (ops_fit rows 1 0 txn beginning (all_ops txn fits.each) begun) (finite.entries_sorted (ops_done tables rows 1 0 txn beginning).0.written)
        go (Declined op) = 0
