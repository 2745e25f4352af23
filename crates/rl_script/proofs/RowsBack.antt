-- The lines of the rows are read as the rows again.
use Rattle.std.proofs.Common.{◌≡◌, ℕ, ◌+◌, ◌-◌, ◌<◌, ◌≤◌, ◌⊎◌, inl, inr, true, false, cond, List, [], ◌∷◌, ◌++◌, All, length, map, Option, None, Some, is_some, Ok, Err, codes, zero, suc, refl, ap, sym, subst, ◌∙◌, arith, if◌then◌else◌}
use Rattle.std.specs.Fmt.{decimal}
use Rattle.std.specs.FinMap as finite
use Rattle.std.specs.List.{flat_map, range_with_len}
use Rattle.std.specs.Ordering.{eq_by_cmp}
use Rattle.std.proofs.lemmas.Bool.{cases_lt}
use Rattle.std.proofs.lemmas.Bool.Decides.{nat_tests}
use Rattle.std.proofs.lemmas.List.{length-map}
use Rattle.rl_base.specs.Results.{◌>>=◌}
use Rattle.rl_value.specs.Fits.{RowsFit}
use Rattle.rl_value.specs.Rows.{Rows, place_cmp}
use Rattle.rl_value.specs.Tables.{Table, IsSchema, name_of, size_of, columns_of}
use Rattle.rl_value.proofs.PlacesLemmas.{places_total}
use Rattle.rl_text.specs.Numbers.{IsNumber}
use Rattle.rl_text.specs.Printed.{Line}
use Rattle.rl_events.specs.Words.{number, within}
use Rattle.rl_events.specs.declared.kind.Kind.TheVariants.{Duplicate}
use Rattle.rl_events.proofs.ReadBack.{within_back}
use Rattle.rl_script.specs.declared.draft.Draft.{Draft}
use Rattle.rl_script.specs.declared.draft.Section.TheVariants as section
use Rattle.rl_script.specs.declared.fault.Problem.TheVariants.{Fault}
use Rattle.rl_script.specs.declared.line.LineKind.TheVariants as line
use Rattle.rl_script.specs.Problems.{as_problem}
use Rattle.rl_script.specs.Fits.{ColumnsFit}
use Rattle.rl_script.specs.Sections.{is_before_requests}
use Rattle.rl_script.specs.Operations.{each_word}
use Rattle.rl_script.specs.Printed.{row_lines, rows_of_table}
use Rattle.rl_script.specs.Read.{row_joined}
use Rattle.rl_script.proofs.FitsLemmas.{at_place}
use Rattle.rl_script.proofs.LinesBack.{reads, kind_line, more_lines, no_lines, one_line}
use Rattle.rl_script.proofs.OpsBack.{each_number_back, table_for_back}

-- a row that is not there yet
row_back : (draft : Draft) (t k : ℕ) (row : List ℕ) → IsSchema draft.schema → t < length draft.schema → k < size_of draft.schema t → size_of draft.schema t ≤ 65536 → length row ≡ columns_of draft.schema t → All IsNumber row → finite.get draft.rows (t, k) ≡ None
    → row_joined draft (name_of draft.schema t) (decimal k) (map decimal row) ≡ Ok (record draft { section = section.Tables; rows = finite.insert draft.rows (t, k) row })
unfolding row_joined
row_back draft t k row ok there within_size few all numbers new =
    ap (λ r. as_problem r >>= λ t. as_problem (within 0 (size_of draft.schema t - 1) (decimal k)) >>= λ key. as_problem (each_word number (map decimal row)) >>= λ cells. if is_some (finite.get draft.rows (t, key)) then Err (Fault Duplicate) else Ok (record draft { section = section.Tables; rows = finite.insert draft.rows (t, key) cells }))
    (table_for_back draft.schema t (length (map decimal row)) ok there (length-map row decimal ∙ all))
    ∙ ap (λ r. as_problem r >>= λ key. as_problem (each_word number (map decimal row)) >>= λ cells. if is_some (finite.get draft.rows (t, key)) then Err (Fault Duplicate) else Ok (record draft { section = section.Tables; rows = finite.insert draft.rows (t, key) cells }))
    (within_back 0 (size_of draft.schema t - 1) k (omega arith) (omega arith) (omega arith))
    ∙ ap (λ r. as_problem r >>= λ cells. if is_some (finite.get draft.rows (t, k)) then Err (Fault Duplicate) else Ok (record draft { section = section.Tables; rows = finite.insert draft.rows (t, k) cells })) (each_number_back row numbers)
    ∙ ap (λ o. if is_some o then Err (Fault Duplicate) else Ok (record draft { section = section.Tables; rows = finite.insert draft.rows (t, k) row })) new

-- the rows are those of all places before the key k of the table t
pub record Upto (now rows : Rows) (t k : ℕ) : Type 0 where
  pub before : (q j : ℕ) → (q < t) ⊎ ((q ≡ t) × (j < k)) → finite.get now (q, j) ≡ finite.get rows (q, j)
  pub behind : (q j : ℕ) → (t < q) ⊎ ((q ≡ t) × (k ≤ j)) → finite.get now (q, j) ≡ None

elsewhere : (now : Rows) (t k q j : ℕ) (row : List ℕ) → eq_by_cmp place_cmp (q, j) (t, k) ≡ false → finite.get (finite.insert now (t, k) row) (q, j) ≡ finite.get now (q, j)
elsewhere now t k q j row other = finite.get-insert places_total now (t, k) row (q, j) ∙ ap (λ b. cond b (Some row) (finite.get now (q, j))) other

right_there : (now : Rows) (t k : ℕ) (row : List ℕ) → finite.get (finite.insert now (t, k) row) (t, k) ≡ Some row
right_there now t k row =
    let same : eq_by_cmp place_cmp (t, k) (t, k) ≡ true = at_place t k t k ∙ grind (arith, nat_tests) in
    finite.get-insert places_total now (t, k) row (t, k) ∙ ap (λ b. cond b (Some row) (finite.get now (t, k))) same

other_table : (t k q j : ℕ) → (q < t) ⊎ (t < q) → eq_by_cmp place_cmp (q, j) (t, k) ≡ false
other_table t k q j (inl h) = at_place q j t k ∙ grind (arith, nat_tests)
other_table t k q j (inr h) = at_place q j t k ∙ grind (arith, nat_tests)

other_key : (t k j : ℕ) → (j < k) ⊎ (k < j) → eq_by_cmp place_cmp (t, j) (t, k) ≡ false
other_key t k j (inl h) = at_place t j t k ∙ grind (arith, nat_tests)
other_key t k j (inr h) = at_place t j t k ∙ grind (arith, nat_tests)

upto_row : (now rows : Rows) (t k : ℕ) (row : List ℕ) → Upto now rows t k → finite.get rows (t, k) ≡ Some row → Upto (finite.insert now (t, k) row) rows t (k + 1)
upto_row now rows t k row upto is = record { before = before; behind = behind }
  where
    here : (j : ℕ) → (j < k) ⊎ (j ≡ k) → finite.get (finite.insert now (t, k) row) (t, j) ≡ finite.get rows (t, j)
    here j (inl h) = elsewhere now t k t j row (other_key t k j (inl h)) ∙ upto.before t j (inr (refl, h))
    here j (inr h) = rw h (right_there now t k row ∙ sym is)

    before : (q j : ℕ) → (q < t) ⊎ ((q ≡ t) × (j < k + 1)) → finite.get (finite.insert now (t, k) row) (q, j) ≡ finite.get rows (q, j)
    before q j (inl h) = elsewhere now t k q j row (other_table t k q j (inl h)) ∙ upto.before q j (inl h)
    before q j (inr h) = rw h.0 (here j (elim (cases_lt j k) [
      | inl less ↦ inl less
      | inr not_less ↦ inr (omega (arith, h.1))
    ]))

    behind : (q j : ℕ) → (t < q) ⊎ ((q ≡ t) × (k + 1 ≤ j)) → finite.get (finite.insert now (t, k) row) (q, j) ≡ None
    behind q j (inl h) = elsewhere now t k q j row (other_table t k q j (inr h)) ∙ upto.behind q j (inl h)
    behind q j (inr h) = rw h.0 (elsewhere now t k t j row (other_key t k j (inr (omega (arith, h.1)))) ∙ upto.behind t j (inr (refl, omega (arith, h.1))))

upto_none : (now rows : Rows) (t k : ℕ) → Upto now rows t k → finite.get rows (t, k) ≡ None → Upto now rows t (k + 1)
upto_none now rows t k upto is = record {
  before = before;
  behind = λ q j h. upto.behind q j (later q j h);
}
  where
    here : (j : ℕ) → (j < k) ⊎ (j ≡ k) → finite.get now (t, j) ≡ finite.get rows (t, j)
    here j (inl h) = upto.before t j (inr (refl, h))
    here j (inr h) = rw h (upto.behind t k (inr (refl, omega arith)) ∙ sym is)

    before : (q j : ℕ) → (q < t) ⊎ ((q ≡ t) × (j < k + 1)) → finite.get now (q, j) ≡ finite.get rows (q, j)
    before q j (inl h) = upto.before q j (inl h)
    before q j (inr h) = rw h.0 (here j (elim (cases_lt j k) [
      | inl less ↦ inl less
      | inr not_less ↦ inr (omega (arith, h.1))
    ]))

    later : (q j : ℕ) → (t < q) ⊎ ((q ≡ t) × (k + 1 ≤ j)) → (t < q) ⊎ ((q ≡ t) × (k ≤ j))
    later q j (inl h) = inl h
    later q j (inr h) = inr (h.0, omega (arith, h.1))

-- what the lines of some rows are read as
pub record RowsRead (draft : Draft) (lines : List Line) (rows : Rows) (t k : ℕ) : Type 0 where
  pub next : Rows
  pub is : reads draft lines ≡ Ok (record draft { rows = next })
  pub upto : Upto next rows t k

-- what rows to print keep, and the draft that reads them
pub record RowsFor (tables : List Table) (rows : Rows) (draft : Draft) : Type 0 where
  pub schema : IsSchema tables
  pub fit : RowsFit tables rows
  pub columns : ColumnsFit rows
  pub same : draft.schema ≡ tables
  pub there : draft.section ≡ section.Tables

abbrev key_lines : List Table → Rows → ℕ → ℕ → List Line
key_lines tables rows t k = row_lines (name_of tables t) k (finite.get rows (t, k))

key_back : (tables : List Table) (rows : Rows) (draft : Draft) (t k : ℕ) → RowsFor tables rows draft → size_of tables t ≤ 65536 → Upto draft.rows rows t k → RowsRead draft (key_lines tables rows t k) rows t (k + 1)
key_back tables rows draft t k for_it few upto = go (finite.get rows (t, k)) refl
  where
    go : (o : Option (List ℕ)) → finite.get rows (t, k) ≡ o → RowsRead draft (row_lines (name_of tables t) k o) rows t (k + 1)
    go None is = record { next = draft.rows; is = no_lines draft; upto = upto_none draft.rows rows t k upto is }
    go (Some row) is =
        let fit = for_it.fit t k row is in
        let words : Line = name_of tables t ∷ decimal k ∷ map decimal row in
        let early : is_before_requests draft.section ≡ true = ap is_before_requests for_it.there in
        let read : row_joined draft (name_of tables t) (decimal k) (map decimal row) ≡ Ok (record draft { section = section.Tables; rows = finite.insert draft.rows (t, k) row }) =
        subst (λ (ts : List Table). row_joined draft (name_of ts t) (decimal k) (map decimal row) ≡ Ok (record draft { section = section.Tables; rows = finite.insert draft.rows (t, k) row })) for_it.same
        (row_back draft t k row (subst IsSchema (sym for_it.same) for_it.schema) (rw for_it.same fit.0) (rw for_it.same fit.1) (rw for_it.same few) (rw for_it.same fit.2) (for_it.columns t k row is) (upto.behind t k (inr (refl, omega arith)))) in
        record {
          next = finite.insert draft.rows (t, k) row;
          is = one_line draft (record draft { section = section.Tables; rows = finite.insert draft.rows (t, k) row }) (codes "row" ∷ words) [] (kind_line draft (codes "row") words line.Row refl refl early ∙ read)
              ∙ no_lines (record draft { section = section.Tables; rows = finite.insert draft.rows (t, k) row })
              ∙ ap (λ s. Ok (record draft { section = s; rows = finite.insert draft.rows (t, k) row })) (sym for_it.there);
          upto = upto_row draft.rows rows t k row upto is;
        }

-- one thing after the other
then_rows : (draft : Draft) (front lines : List Line) (rows : Rows) (t k q j : ℕ) → (first : RowsRead draft front rows t k) → RowsRead (record draft { rows = first.next }) lines rows q j → RowsRead draft (front ++ lines) rows q j
then_rows draft front lines rows t k q j first more = record {
  next = more.next;
  is = more_lines draft (record draft { rows = first.next }) front lines first.is ∙ more.is;
  upto = more.upto;
}

for_next : (tables : List Table) (rows next : Rows) (draft : Draft) → RowsFor tables rows draft → RowsFor tables rows (record draft { rows = next })
for_next tables rows next draft f = record { schema = f.schema; fit = f.fit; columns = f.columns; same = f.same; there = f.there }

keys_back : (tables : List Table) (rows : Rows) (draft : Draft) (t k n : ℕ) → RowsFor tables rows draft → size_of tables t ≤ 65536 → Upto draft.rows rows t k → RowsRead draft (flat_map (key_lines tables rows t) (range_with_len k n)) rows t (k + n)
keys_back tables rows draft t k zero for_it few upto = record { next = draft.rows; is = no_lines draft; upto = subst (λ (n : ℕ). Upto draft.rows rows t n) (omega arith) upto }
keys_back tables rows draft t k (suc n) for_it few upto =
    let first = key_back tables rows draft t k for_it few upto in
    let rest = keys_back tables rows (record draft { rows = first.next }) t (k + 1) n (for_next tables rows first.next draft for_it) few first.upto in
    subst (λ (m : ℕ). RowsRead draft (flat_map (key_lines tables rows t) (range_with_len k (suc n))) rows t m) (omega arith)
    (then_rows draft (key_lines tables rows t k) (flat_map (key_lines tables rows t) (range_with_len (k + 1) n)) rows t (k + 1) t (k + 1 + n) first rest)

-- past the last key of a table begins the next
next_table : (tables : List Table) (now rows : Rows) (t : ℕ) → RowsFit tables rows → Upto now rows t (0 + size_of tables t) → Upto now rows (t + 1) 0
next_table tables now rows t fit upto = record {
  before = λ q j h. before q j h;
  behind = λ q j h. upto.behind q j (later q j h);
}
  where
    no_row : (j : ℕ) → size_of tables t ≤ j → (o : Option (List ℕ)) → finite.get rows (t, j) ≡ o → o ≡ None
    no_row j past None is = refl
    no_row j past (Some row) is = absurd (omega (arith, (fit t j row is).1))

    here : (j : ℕ) → finite.get now (t, j) ≡ finite.get rows (t, j)
    here j = elim (cases_lt j (size_of tables t)) [
      | inl less ↦ upto.before t j (inr (refl, omega arith))
      | inr not_less ↦ upto.behind t j (inr (refl, omega arith)) ∙ sym (no_row j (omega arith) (finite.get rows (t, j)) refl)
    ]

    before : (q j : ℕ) → (q < t + 1) ⊎ ((q ≡ t + 1) × (j < 0)) → finite.get now (q, j) ≡ finite.get rows (q, j)
    before q j (inl h) = elim (cases_lt q t) [
      | inl less ↦ upto.before q j (inl less)
      | inr not_less ↦ let same : q ≡ t = omega arith in rw same (here j)
    ]
    before q j (inr h) = absurd (omega (arith, h.1))

    later : (q j : ℕ) → (t + 1 < q) ⊎ ((q ≡ t + 1) × (0 ≤ j)) → (t < q) ⊎ ((q ≡ t) × (0 + size_of tables t ≤ j))
    later q j (inl h) = inl (omega arith)
    later q j (inr h) = inl (omega (arith, h.0))

pub every_table : (tables : List Table) (rows : Rows) (draft : Draft) (t n : ℕ) → RowsFor tables rows draft → ((q : ℕ) → size_of tables q ≤ 65536) → Upto draft.rows rows t 0 → RowsRead draft (flat_map (rows_of_table tables rows) (range_with_len t n)) rows (t + n) 0
every_table tables rows draft t zero for_it few upto = record { next = draft.rows; is = no_lines draft; upto = subst (λ (n : ℕ). Upto draft.rows rows n 0) (omega arith) upto }
every_table tables rows draft t (suc n) for_it few upto =
    let keys = keys_back tables rows draft t 0 (size_of tables t) for_it (few t) upto in
    let first : RowsRead draft (rows_of_table tables rows t) rows (t + 1) 0 = record { next = keys.next; is = keys.is; upto = next_table tables keys.next rows t for_it.fit keys.upto } in
    let rest = every_table tables rows (record draft { rows = first.next }) (t + 1) n (for_next tables rows first.next draft for_it) few first.upto in
    subst (λ (m : ℕ). RowsRead draft (flat_map (rows_of_table tables rows) (range_with_len t (suc n))) rows m 0) (omega arith)
    (then_rows draft (rows_of_table tables rows t) (flat_map (rows_of_table tables rows) (range_with_len (t + 1) n)) rows (t + 1) 0 (t + 1 + n) 0 first rest)
