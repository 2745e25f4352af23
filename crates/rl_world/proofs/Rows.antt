-- Rows that fit have tables that are there.
use Rattle.std.proofs.Common.{◌≡◌, ℕ, ◌<◌, Bool, true, false, cond, List, [], ◌∷◌, ◌++◌, length, All, Option, Some, None, is_some, IsSome, refl, ap, ◌∙◌}
use Rattle.std.specs.BTreeMap.{is_at}
use Rattle.std.specs.Cmp.{IsTotalOrder, nat_cmp_total, eq_by_cmp_equiv}
use Rattle.std.specs.FinMap.{find, entries, get-entries}
use Rattle.std.proofs.lemmas.Cmp.{on_total, then_total}
use Rattle.std.proofs.lemmas.List.Elements.{All-nil, All-cons, All-head, All-tail}
use Rattle.rl_value.specs.Fits.{RowsFit}
use Rattle.rl_value.specs.Rows.{Rows, place_cmp}
use Rattle.rl_value.specs.Tables.{Table}

places_total : IsTotalOrder place_cmp
places_total = then_total (on_total (λ (p : ℕ × ℕ). p.0) nat_cmp_total) (on_total (λ (p : ℕ × ℕ). p.1) nat_cmp_total)

module _ {X : Type 0} where
  found_first : (e : ((ℕ × ℕ) × X)) (es : List ((ℕ × ℕ) × X)) → IsSome (find place_cmp e.0 (e ∷ es))
  found_first e es = ap (λ b. is_some (cond b (Some e.1) (find place_cmp e.0 es))) ((eq_by_cmp_equiv places_total).refl e.0)

  found_still : (b : Bool) (x : X) (o : Option X) → IsSome o → IsSome (cond b (Some x) o)
  found_still true x o h = refl
  found_still false x o h = h

  all_there : (n : ℕ) (es : List ((ℕ × ℕ) × X)) → ((q : ℕ × ℕ) → IsSome (find place_cmp q es) → q.0 < n) → All (λ (e : ((ℕ × ℕ) × X)). e.0.0 < n) es
  all_there n [] h = All-nil (λ (e : ((ℕ × ℕ) × X)). e.0.0 < n)
  all_there n (e ∷ es) h =
      All-cons (λ (x : ((ℕ × ℕ) × X)). x.0.0 < n) e es (h e.0 (found_first e es))
      (all_there n es (λ q some. h q (found_still (is_at (place_cmp q) e.0) e.1 (find place_cmp q es) some)))

  is_read : (o : Option X) → IsSome o → (x : X) × (o ≡ Some x)
  is_read None h = absurd cc
  is_read (Some x) h = (x, refl)

pub tables_there : (tables : List Table) (rows : Rows) → RowsFit tables rows
    → All (λ (e : (ℕ × ℕ) × List ℕ). e.0.0 < length tables) (entries rows)
tables_there tables rows fit =
    all_there (length tables) (entries rows) (λ q some.
    let row = is_read (find place_cmp q (entries rows)) some in
    (fit q.0 q.1 row.0 (get-entries rows q ∙ row.1)).0)

-- what is true of all is true of one in the middle
pub all_middle : {X : Type 0} (P : X → Type 0) (xs ys : List X) (x : X) → All P (xs ++ x ∷ ys) → P x
all_middle P [] ys x h = All-head P x ys h
all_middle P (y ∷ xs) ys x h = all_middle P xs ys x (All-tail P y (xs ++ x ∷ ys) h)
