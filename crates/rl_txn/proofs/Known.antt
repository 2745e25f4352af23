-- What is known of the rows that were read.
use Rattle.std.proofs.lemmas.List.{take_more, take_more_set, length-map}
use Rattle.std.proofs.Common.{set, ◌≡◌, ℕ, ◌+◌, ◌<◌, ◌≤◌, List, [], ◌∷◌, ◌++◌, length, map, take, get_or, Bool, true, false, cond, Option, Some, None, refl, ap, sym, ◌∙◌, zero, suc, arith}
use Rattle.std.specs.Option.{option_map_or}
use Rattle.std.specs.FinMap as finite
use Rattle.std.specs.FinMap.Entries as entries
use Rattle.std.specs.Ordering.{eq_by_cmp}
use Rattle.rl_value.specs.Rows.{Rows, place_cmp}
use Rattle.rl_txn.specs.Run.{Overlay, row_seen}
use Rattle.rl_txn.specs.Serial.{put_or_remove}
use Rattle.rl_txn.specs.Eval.{rows_from, rows_of}
use Rattle.rl_value.proofs.PlacesLemmas.{places_total}

-- a row after a write, which makes it or takes it away
pub get_after : (rows : Rows) (place : ℕ × ℕ) (row : Option (List ℕ)) (q : ℕ × ℕ) → finite.get (put_or_remove rows place row) q ≡ cond (eq_by_cmp place_cmp q place) row (finite.get rows q)
get_after rows place None q = finite.get-remove places_total rows place q
get_after rows place (Some row) q = finite.get-insert places_total rows place row q

either : (b : Bool) (x : Option (List ℕ)) (y : Option (Option (List ℕ))) → cond b x (option_map_or (λ row. row) y None) ≡ option_map_or (λ row. row) (cond b (Some x) y) None
either true x y = refl
either false x y = refl

get_rows_from : (es : List ((ℕ × ℕ) × Option (List ℕ))) (q : ℕ × ℕ) → finite.get (rows_from es) q ≡ option_map_or (λ row. row) (entries.find place_cmp q es) None
get_rows_from [] q = finite.get-empty place_cmp q
get_rows_from (e ∷ es) q = get_after (rows_from es) e.0 e.1 q ∙ ap (cond (eq_by_cmp place_cmp q e.0) e.1) (get_rows_from es q) ∙ either (eq_by_cmp place_cmp q e.0) e.1 (entries.find place_cmp q es)

-- the rows that were read have what was read, and nothing else
pub get_rows_of : (read : Overlay) (q : ℕ × ℕ) → finite.get (rows_of read) q ≡ option_map_or (λ row. row) (finite.get read q) None
get_rows_of read q = get_rows_from (finite.entries read) q ∙ ap (λ o. option_map_or (λ row. row) o None) (sym (finite.get-entries read q))

-- a row that was read and not written is seen as it was read
pub seen_of_read : (read written : Overlay) (t k : ℕ) (row : Option (List ℕ)) → finite.get written (t, k) ≡ None → finite.get read (t, k) ≡ Some row → row_seen (rows_of read) written t k ≡ row
seen_of_read read written t k row w r =
    ap (λ o. option_map_or (λ row. row) o (finite.get (rows_of read) (t, k))) w ∙ get_rows_of read (t, k) ∙ ap (λ o. option_map_or (λ row. row) o None) r

pub seen_of_none : (read written : Overlay) (t k : ℕ) → finite.get written (t, k) ≡ None → finite.get read (t, k) ≡ None → row_seen (rows_of read) written t k ≡ None
seen_of_none read written t k w r =
    ap (λ o. option_map_or (λ row. row) o (finite.get (rows_of read) (t, k))) w ∙ get_rows_of read (t, k) ∙ ap (λ o. option_map_or (λ row. row) o None) r

-- one more write takes at most one more entry
one_more : (b : Bool) (m n : ℕ) → m ≡ cond b n (n + 1) → m ≤ n + 1
one_more true m n e = omega arith
one_more false m n e = omega arith

pub entries_insert : (m : Overlay) (q : ℕ × ℕ) (row : Option (List ℕ)) → length (finite.entries (finite.insert m q row)) ≤ length (finite.entries m) + 1
entries_insert m q row =
    let more = finite.len-insert places_total m q row in
    one_more (finite.contains_key m q) _ _ (sym (finite.len-entries (finite.insert m q row)) ∙ more ∙ ap (λ n. cond (finite.contains_key m q) n (n + 1)) (finite.len-entries m))

pub get_map : {A B : Type 0} (f : A → B) (xs : List A) (i : ℕ) (d : A) (e : B) → i < length xs → get_or (map f xs) i e ≡ f (get_or xs i d)
get_map f [] i d e h = absurd (omega arith)
get_map f (x ∷ xs) zero d e h = refl
get_map f (x ∷ xs) (suc i) d e h = get_map f xs i d e (omega arith)

-- one more cell of a row that is filled from a list
pub fill_more : {A : Type 0} (f : A → ℕ) (cells : List ℕ) (xs : List A) (i x : ℕ) (d : A) → i < length cells → i < length xs → x ≡ f (get_or xs i d)
    → take i cells ≡ take i (map f xs) → take (i + 1) (set cells i x) ≡ take (i + 1) (map f xs)
fill_more f cells xs i x d c l is e =
    let there : i < length (map f xs) = simp length-map l in
    take_more_set cells i x c ∙ ap (λ z. z ++ x ∷ []) e ∙ ap (λ z. take i (map f xs) ++ z ∷ []) (is ∙ sym (get_map f xs i d x l)) ∙ sym (take_more (map f xs) i x there)
