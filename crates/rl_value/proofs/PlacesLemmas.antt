-- A map from places that is kept as entries in order.
use Rattle.std.proofs.Common.{◌≡◌, ℕ, List, Option, Some, None, Bool, cond, refl, ap, sym, ◌∙◌, [], ◌∷◌, T, true, false, ◌&&◌, map, subst}
use Rattle.std.specs.BTreeMap.{BTreeMap, is_at, IsOrdered}
use Rattle.std.specs.Map.{lookup}
use Rattle.std.specs.Cmp.{IsTotalOrder, nat_cmp_total, eq_by_cmp_equiv}
use Rattle.std.specs.FinMap.{get, find, insert, remove, from_entries, get-from_entries, get-insert, get-remove, same_map, entries, from_sorted, entries-from_sorted, get-from_sorted, is_sorted}
use Rattle.std.proofs.lemmas.Map.Lookups.{exact_pairs, exact_unsigned}
use Rattle.std.proofs.lemmas.Cmp.{on_total, then_total}
use Rattle.std.specs.Ordering.{nat_cmp}
use Rattle.std.specs.FinMap.Entries.{below_all}
use Rattle.std.specs.Ordering.{is_lt}
use Rattle.std.specs.declared.cmp.Ordering.TheVariants.{Less, Equal}
use Rattle.std.specs.List.{AllByRecursion}
use Rattle.std.specs.List.Sorted.{IsStrictlySortedBy}
use Rattle.std.proofs.lemmas.Map.Keys.{sorted_head, sorted_tail}
use Rattle.rl_value.specs.Rows.{place_cmp}

pub places_total : IsTotalOrder place_cmp
places_total = then_total (on_total (λ (p : ℕ × ℕ). p.0) nat_cmp_total) (on_total (λ (p : ℕ × ℕ). p.1) nat_cmp_total)

pub same_place : (p q : ℕ × ℕ) → place_cmp p q ≡ Equal → p ≡ q
same_place p q e = exact_pairs nat_cmp nat_cmp exact_unsigned exact_unsigned p q e

-- what entries have at a place
abbrev pub value_at : {X : Type 0} → List ((ℕ × ℕ) × X) → ℕ × ℕ → Option X
value_at es q = lookup (is_at (place_cmp q)) es

find_value : {X : Type 0} → (es : List ((ℕ × ℕ) × X)) (q : ℕ × ℕ) → find place_cmp q es ≡ value_at es q
find_value [] q = refl
find_value (e ∷ es) q = ap (cond (is_at (place_cmp q) e.0) (Some e.1)) (find_value es q)

-- what the map of the entries has at a place
pub place_get : {X : Type 0} → (es : List ((ℕ × ℕ) × X)) (q : ℕ × ℕ) → get (from_entries {R = place_cmp} es) q ≡ value_at es q
place_get es q = get-from_entries places_total es q ∙ find_value es q

-- entries that differ at one place make maps that differ there
pub place_put : {X : Type 0} → (es fs : List ((ℕ × ℕ) × X)) (p : ℕ × ℕ) (row : X) → ((q : ℕ × ℕ) → value_at fs q ≡ cond (is_at (place_cmp p) q) (Some row) (value_at es q)) → from_entries {R = place_cmp} fs ≡ insert (from_entries es) p row
place_put es fs p row h = same_map places_total (exact_pairs nat_cmp nat_cmp exact_unsigned exact_unsigned) _ _ (λ q.
    place_get fs q ∙ h q ∙ ap (λ b. cond b (Some row) (value_at es q)) ((eq_by_cmp_equiv places_total).symm p q)
    ∙ sym (get-insert places_total (from_entries es) p row q ∙ ap (cond (is_at (place_cmp q) p) (Some row)) (place_get es q)))

pub place_del : {X : Type 0} → (es fs : List ((ℕ × ℕ) × X)) (p : ℕ × ℕ) → ((q : ℕ × ℕ) → value_at fs q ≡ cond (is_at (place_cmp p) q) None (value_at es q)) → from_entries {R = place_cmp} fs ≡ remove (from_entries es) p
place_del es fs p h = same_map places_total (exact_pairs nat_cmp nat_cmp exact_unsigned exact_unsigned) _ _ (λ q.
    place_get fs q ∙ h q ∙ ap (λ b. cond b None (value_at es q)) ((eq_by_cmp_equiv places_total).symm p q)
    ∙ sym (get-remove places_total (from_entries es) p q ∙ ap (cond (is_at (place_cmp q) p) None) (place_get es q)))

-- entries in order are those of the map that they make
pub in_order : {X : Type 0} → (es : List ((ℕ × ℕ) × X)) → T (is_sorted place_cmp es) → entries (from_entries {R = place_cmp} es) ≡ es
in_order es h = ap entries (same_map places_total (exact_pairs nat_cmp nat_cmp exact_unsigned exact_unsigned) (from_entries es) (from_sorted es) (λ q. get-from_entries places_total es q ∙ sym (get-from_sorted place_cmp es q h))) ∙ entries-from_sorted place_cmp es h

both : (a b : Bool) → T a → T b → T (a && b)
both true true h k = tt
both true false h k = absurd k
both false b h k = absurd h

below : {X : Type 0} → (k : ℕ × ℕ) (es : List ((ℕ × ℕ) × X)) → AllByRecursion (λ y. place_cmp k y ≡ Less) (map (λ e. e.0) es) → T (below_all place_cmp k es)
below k [] h = tt
below k (e ∷ es) h = both _ _ (subst (λ r. T (is_lt r)) (sym h.0) tt) (below k es h.1)

rising : {X : Type 0} → (es : List ((ℕ × ℕ) × X)) → IsStrictlySortedBy place_cmp (map (λ e. e.0) es) → T (is_sorted place_cmp es)
rising [] h = tt
rising (e ∷ es) h = both _ _ (below e.0 es (sorted_head place_cmp e.0 _ h)) (rising es (sorted_tail place_cmp e.0 _ h))

pub entries_in_order : {X : Type 0} → (m : BTreeMap (ℕ × ℕ) X) → IsOrdered place_cmp m → entries (from_entries {R = place_cmp} m.entries) ≡ m.entries
entries_in_order m o = in_order m.entries (rising m.entries o)
