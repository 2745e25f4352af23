-- Searches in rows that are in order, and edits of them.
use Rattle.std.proofs.Common.{IsOk, OnOk, IsNone, ◌≡◌, ℕ, ◌+◌, ◌<◌, ◌≤◌, List, [], ◌∷◌, length, map, set, get_or, false, T, Option, Some, None, Result, Ok, Err, IfOk, IfErr, refl, ap, sym, ◌∙◌, subst, zero, suc, arith}
use Rattle.std.specs.List.{insert, refill}
use Rattle.std.proofs.Math.ListN.{length-set}
use Rattle.std.proofs.lemmas.Grind.{common_steps}
use Rattle.std.specs.List.Sorted.{IsBinarySearchResult, IsPartitionPoint}
use Rattle.std.specs.Ordering.{is_lt, ordering_reverse}
use Rattle.std.specs.declared.cmp.Ordering.{Ordering}
use Rattle.std.specs.declared.cmp.Ordering.TheVariants.{Less, Equal, Greater}
use Rattle.std.specs.Cmp.{tied_itself}
use Rattle.std.proofs.lemmas.List.Sorted.{searchable_from_sorted}
use mathlib.Core.Bool.{false≢true}
use Rattle.std.proofs.lemmas.List.{get_or_default}
use Rattle.std.specs.FinMap as finite
use Rattle.std.specs.FinMap.Entries.{put, find, is_sorted, below_all, is_sorted-put}
use Rattle.rl_value.specs.Rows.{place_cmp}
pub use Rattle.rl_value.proofs.PlacesLemmas.{places_total, same_place}
use Rattle.rl_base.proofs.Tests.{first_T, second_T, is_less}
use Rattle.rl_txn.specs.Run.{write_of}
use Rattle.rl_txn.specs.declared.row_set.RowAt.{RowAt}
use Rattle.rl_txn.specs.RowSets.{place_at, entry_of, IsInOrder, rows_at}

turned : (p q : ℕ × ℕ) (o : Ordering) → place_cmp p q ≡ o → place_cmp q p ≡ ordering_reverse o
turned p q o e = places_total.antisymm q p ∙ ap ordering_reverse e

-- the first of rows in order is before each later one
above_first : (p : ℕ × ℕ) (rows : List RowAt) (i : ℕ) (d : RowAt) → T (below_all place_cmp p (map entry_of rows)) → i < length rows → place_cmp p (place_at (get_or rows i d)) ≡ Less
above_first p [] i d h l = absurd (omega arith)
above_first p (r ∷ rows) zero d h l = is_less (place_cmp p (place_at r)) (first_T _ _ h)
above_first p (r ∷ rows) (suc i) d h l = above_first p rows i d (second_T _ _ h) (omega arith)

in_order : (rows : List RowAt) → IsInOrder rows → (k : ℕ) (d : RowAt) → 0 ≤ k → k + 1 < length rows → is_lt (place_cmp (place_at (get_or rows (k + 1) d)) (place_at (get_or rows k d))) ≡ false
in_order [] h k d z l = absurd (omega arith)
in_order (r ∷ rows) h zero d z l = ap is_lt (turned (place_at r) (place_at (get_or rows 0 d)) Less (above_first (place_at r) rows 0 d (first_T _ _ h) (omega arith)))
in_order (r ∷ rows) h (suc k) d z l = rw next (in_order rows (second_T _ _ h) k d (omega arith) (omega arith))
  where
    next : suc k + 1 ≡ suc (k + 1)
    next = omega arith

-- what a binary search answers
pub searched : (rows : List RowAt) (q : ℕ × ℕ) (r : Result ℕ ℕ) → IsInOrder rows → IsBinarySearchResult (λ x. place_cmp (place_at x) q) rows r
    → record { found : IfOk r (λ i. (d : RowAt) → place_at (get_or rows i d) ≡ q); between : IfErr r (IsPartitionPoint (λ x. place_cmp (place_at x) q ≡ Less) (λ x. place_cmp (place_at x) q ≡ Greater) rows) }
searched rows q (Ok i) h b = record { found = λ d. same_place (place_at (get_or rows i d)) q (b d); between = tt }
searched rows q (Err i) h b = record { found = tt; between = b (searchable_from_sorted places_total place_at rows q (in_order rows h)) }

module _ (q : ℕ × ℕ) where
  abbrev pub Before : List RowAt → ℕ → Type 0
  Before rows i = (k : ℕ) (d : RowAt) → 0 ≤ k → k < i → place_cmp (place_at (get_or rows k d)) q ≡ Less

  abbrev pub Behind : List RowAt → ℕ → Type 0
  Behind rows i = (k : ℕ) (d : RowAt) → i ≤ k → k < length rows → place_cmp (place_at (get_or rows k d)) q ≡ Greater

  -- at a gap nothing is found, and a new row goes there
  pub find_gap : (rows : List RowAt) (i : ℕ) → Before rows i → Behind rows i → find place_cmp q (map entry_of rows) ≡ None
  find_gap [] i b a = refl
  find_gap (r ∷ rows) zero b a =
      let here : place_cmp q (place_at r) ≡ Less = turned (place_at r) q Greater (a 0 r (omega arith) (omega arith)) in
      rw here (find_gap rows 0 (λ k d z l. absurd (omega arith)) (λ k d z l. a (suc k) d (omega arith) (omega arith)))
  find_gap (r ∷ rows) (suc i) b a =
      let here : place_cmp q (place_at r) ≡ Greater = turned (place_at r) q Less (b 0 r (omega arith) (omega arith)) in
      rw here (find_gap rows i (λ k d z l. b (suc k) d (omega arith) (omega arith)) (λ k d z l. a (suc k) d (omega arith) (omega arith)))

  pub put_gap : (rows : List RowAt) (i : ℕ) (x : RowAt) → place_at x ≡ q → i ≤ length rows → Before rows i → Behind rows i → put place_cmp q x.row (map entry_of rows) ≡ map entry_of (insert rows i x)
  put_gap [] zero x e l b a = ap (λ p. (p, x.row) ∷ []) (sym e)
  put_gap [] (suc i) x e l b a = absurd (omega arith)
  put_gap (r ∷ rows) zero x e l b a =
      let here : place_cmp q (place_at r) ≡ Less = turned (place_at r) q Greater (a 0 r (omega arith) (omega arith)) in
      rw here (ap (λ p. (p, x.row) ∷ map entry_of (r ∷ rows)) (sym e))
  put_gap (r ∷ rows) (suc i) x e l b a =
      let here : place_cmp q (place_at r) ≡ Greater = turned (place_at r) q Less (b 0 r (omega arith) (omega arith)) in
      rw here (ap (λ es. entry_of r ∷ es) (put_gap rows i x e (omega arith) (λ k d z m. b (suc k) d (omega arith) (omega arith)) (λ k d z m. a (suc k) d (omega arith) (omega arith))))

  -- at its place a row is found, and a new one takes that place
  pub find_here : (rows : List RowAt) (i : ℕ) (x : RowAt) → IsInOrder rows → i < length rows → place_at (get_or rows i x) ≡ q → find place_cmp q (map entry_of rows) ≡ Some (get_or rows i x).row
  find_here [] i x h l e = absurd (omega arith)
  find_here (r ∷ rows) zero x h l e =
      let here : place_cmp q (place_at r) ≡ Equal = ap (λ p. place_cmp q p) e ∙ tied_itself places_total q in
      rw here refl
  find_here (r ∷ rows) (suc i) x h l e =
      let here : place_cmp q (place_at r) ≡ Greater = turned (place_at r) q Less (ap (place_cmp (place_at r)) (sym e) ∙ above_first (place_at r) rows i x (first_T _ _ h) (omega arith)) in
      rw here (find_here rows i x (second_T _ _ h) (omega arith) e)

  pub put_here : (rows : List RowAt) (i : ℕ) (x : RowAt) → place_at x ≡ q → IsInOrder rows → i < length rows → place_at (get_or rows i x) ≡ q → put place_cmp q x.row (map entry_of rows) ≡ map entry_of (set rows i x)
  put_here [] i x is h l e = absurd (omega arith)
  put_here (r ∷ rows) zero x is h l e =
      let here : place_cmp q (place_at r) ≡ Equal = ap (λ p. place_cmp q p) e ∙ tied_itself places_total q in
      rw here (ap (λ p. (p, x.row) ∷ map entry_of rows) (e ∙ sym is))
  put_here (r ∷ rows) (suc i) x is h l e =
      let here : place_cmp q (place_at r) ≡ Greater = turned (place_at r) q Less (ap (place_cmp (place_at r)) (sym e) ∙ above_first (place_at r) rows i x (first_T _ _ h) (omega arith)) in
      rw here (ap (λ es. entry_of r ∷ es) (put_here rows i x is (second_T _ _ h) (omega arith) e))

-- rows that `put` leaves stand for the map after an insert, in order
pub after_put : (rows new : List RowAt) (q : ℕ × ℕ) (row : Option (List ℕ)) → IsInOrder rows → put place_cmp q row (map entry_of rows) ≡ map entry_of new
    → record { map_is : rows_at new ≡ finite.insert (rows_at rows) q row; order : IsInOrder new }
after_put rows new q row h e =
    let order : IsInOrder new = subst (λ es. T (is_sorted place_cmp es)) e (is_sorted-put place_cmp places_total q row (map entry_of rows) h) in
    record {
      order = order;
      map_is = finite.same_entries_map (rows_at new) (finite.insert (rows_at rows) q row)
          (finite.entries-from_sorted place_cmp (map entry_of new) order ∙ sym e ∙ ap (put place_cmp q row) (sym (finite.entries-from_sorted place_cmp (map entry_of rows) h))
          ∙ sym (finite.entries-insert places_total (rows_at rows) q row));
    }

pub get_rows : (rows : List RowAt) (q : ℕ × ℕ) → IsInOrder rows → finite.get (rows_at rows) q ≡ find place_cmp q (map entry_of rows)
get_rows rows q h = finite.get-from_sorted place_cmp (map entry_of rows) q h

-- a slice of the same length takes the place of all elements
pub refilled : {X : Type 0} (xs ws : List X) → length ws ≡ length xs → refill (length xs) xs ws ≡ ws
refilled xs ws e = grind (arith, common_steps)

-- one row takes the place of another at its place
pub put_set : (rows : List RowAt) (q : ℕ × ℕ) (i : ℕ) (x : RowAt) → place_at x ≡ q → IsInOrder rows → i < length rows → ((d : RowAt) → place_at (get_or rows i d) ≡ q)
    → record { map_is : rows_at (refill (length rows) rows (set rows i x)) ≡ finite.insert (rows_at rows) q x.row; order : IsInOrder (refill (length rows) rows (set rows i x)) }
put_set rows q i x is h l e =
    let whole : refill (length rows) rows (set rows i x) ≡ set rows i x = refilled rows (set rows i x) (simp length-set) in
    let put_is = after_put rows (set rows i x) q x.row h (put_here q rows i x is h l (e x)) in
    record { map_is = ap rows_at whole ∙ put_is.map_is; order = subst IsInOrder (sym whole) put_is.order }

no_length : {X : Type 0} (xs : List X) → length xs ≡ 0 → xs ≡ []
no_length [] e = refl
no_length (x ∷ xs) e = absurd (omega arith)

no_entries : finite.entries (finite.empty {K = ℕ × ℕ} {X = Option (List ℕ)} {R = place_cmp}) ≡ []
no_entries = no_length _ (sym (finite.len-entries (finite.empty {K = ℕ × ℕ} {X = Option (List ℕ)} {R = place_cmp})) ∙ finite.len-empty place_cmp (Option (List ℕ)))

pub no_rows : rows_at [] ≡ finite.empty
no_rows = finite.same_entries_map (rows_at []) finite.empty (finite.entries-from_sorted place_cmp [] tt ∙ sym no_entries)

pub write_of_entry : (rows : List RowAt) → map write_of (map entry_of rows) ≡ map (λ r. write_of (entry_of r)) rows
write_of_entry [] = refl
write_of_entry (r ∷ rows) = ap (λ ws. write_of (entry_of r) ∷ ws) (write_of_entry rows)

-- what `get` answers, where a search ended at a row or at a gap
pub got_here : (rows seen : List RowAt) (q : ℕ × ℕ) (i : ℕ) (x : RowAt) → IsInOrder rows → seen ≡ rows → i < length seen → ((d : RowAt) → place_at (get_or seen i d) ≡ q) → x ≡ get_or rows i x
    → Some x.row ≡ finite.get (rows_at rows) q
got_here rows seen q i x h s l e is =
    let l2 : i < length rows = rw s at l in
    let e2 : (d : RowAt) → place_at (get_or rows i d) ≡ q = λ d. rw (← s) (e d) in
    ap (λ (z : RowAt). Some z.row) is ∙ sym (get_rows rows q h ∙ find_here q rows i x h l2 (e2 x))

pub got_gap : (rows seen : List RowAt) (q : ℕ × ℕ) (i : ℕ) → IsInOrder rows → seen ≡ rows
    → IsPartitionPoint (λ x. place_cmp (place_at x) q ≡ Less) (λ x. place_cmp (place_at x) q ≡ Greater) seen i → None ≡ finite.get (rows_at rows) q
got_gap rows seen q i h s b =
    let b2 : IsPartitionPoint (λ x. place_cmp (place_at x) q ≡ Less) (λ x. place_cmp (place_at x) q ≡ Greater) rows i = subst (λ xs. IsPartitionPoint (λ x. place_cmp (place_at x) q ≡ Less) (λ x. place_cmp (place_at x) q ≡ Greater) xs i) s b in
    sym (get_rows rows q h ∙ find_gap q rows i b2.0 b2.1)

not_none : {X : Type 0} (o : Option X) (x : X) → Some x ≡ o → IsNone o → ⊥
not_none None x e n = absurd (cc)
not_none (Some y) x e n = absurd (false≢true (sym n))

-- there is a row where a search ended at one
pub not_new : (rows seen : List RowAt) (q : ℕ × ℕ) (i : ℕ) → IsInOrder rows → seen ≡ rows → i < length seen → ((d : RowAt) → place_at (get_or seen i d) ≡ q) → IsNone (finite.get (rows_at rows) q) → ⊥
not_new rows seen q i h s l e none =
    let d : RowAt = record { table = q.0; key = q.1; row = None } in
    let l2 : i < length rows = rw s at l in
    not_none (finite.get (rows_at rows) q) (get_or rows i d).row (got_here rows seen q i (get_or rows i d) h s l e (get_or_default rows i d (get_or rows i d) l2)) none

abbrev pub IsPut : List RowAt → List RowAt → ℕ × ℕ → Option (List ℕ) → Type 0
IsPut rows new q row = record { map_is : rows_at new ≡ finite.insert (rows_at rows) q row; order : IsInOrder new }

pub was_set : (rows seen written : List RowAt) (q : ℕ × ℕ) (i : ℕ) (x : RowAt) → place_at x ≡ q → IsInOrder rows → seen ≡ rows → written ≡ rows → i < length seen → ((d : RowAt) → place_at (get_or seen i d) ≡ q)
    → IsPut rows (refill (length rows) rows (set written i x)) q x.row
was_set rows seen written q i x is h s w l e =
    let l2 : i < length rows = rw s at l in
    let done = put_set rows q i x is h l2 (λ d. rw (← s) (e d)) in
    subst (λ ws. IsPut rows (refill (length rows) rows (set ws i x)) q x.row) (sym w) done

pub was_inserted : (rows seen new : List RowAt) (q : ℕ × ℕ) (i : ℕ) (x : RowAt) → place_at x ≡ q → IsInOrder rows → seen ≡ rows → i ≤ length seen
    → IsPartitionPoint (λ x. place_cmp (place_at x) q ≡ Less) (λ x. place_cmp (place_at x) q ≡ Greater) seen i → new ≡ insert rows i x → IsPut rows new q x.row
was_inserted rows seen new q i x is h s l b n =
    let b2 : IsPartitionPoint (λ x. place_cmp (place_at x) q ≡ Less) (λ x. place_cmp (place_at x) q ≡ Greater) rows i = subst (λ xs. IsPartitionPoint (λ x. place_cmp (place_at x) q ≡ Less) (λ x. place_cmp (place_at x) q ≡ Greater) xs i) s b in
    let l2 : i ≤ length rows = rw s at l in
    after_put rows new q x.row h (put_gap q rows i x is l2 b2.0 b2.1 ∙ ap (map entry_of) (sym n))

pub ok_gives : {A B : Type 0} (r : Result A B) {P : Type 0} → IsOk r → OnOk r P → P
ok_gives (Ok a) i p = p
ok_gives (Err b) i p = absurd (false≢true i)

-- the entries of rows in order
pub entries_rows : (rows : List RowAt) → IsInOrder rows → finite.entries (rows_at rows) ≡ map entry_of rows
entries_rows rows h = finite.entries-from_sorted place_cmp (map entry_of rows) h
