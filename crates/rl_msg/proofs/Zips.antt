-- Two lists of one length, element by element.
use Rattle.std.proofs.Common.{◌≡◌, ℕ, zero, suc, ◌<◌, List, [], ◌∷◌, ◌++◌, length, get_or, map, refl, sym, ap, ◌∙◌, arith}
use Rattle.std.proofs.lemmas.Slice.Zip.{get_or-zip}
use Rattle.std.specs.List.{zip}

pub zip-push : {X Y : Type 0} (xs : List X) (ys : List Y) (x : X) (y : Y) → length ys ≡ length xs → zip (xs ++ x ∷ []) (ys ++ y ∷ []) ≡ zip xs ys ++ (x, y) ∷ []
zip-push [] [] x y same = refl
zip-push [] (z ∷ ys) x y same = absurd (omega arith)
zip-push (w ∷ xs) [] x y same = absurd (omega arith)
zip-push {X = X} {Y = Y} (w ∷ xs) (z ∷ ys) x y same = ap (λ (zs : List (X × Y)). (w, z) ∷ zs) (zip-push xs ys x y (omega arith))

pub zip-maps : {X Y : Type 0} (zs : List (X × Y)) → zip (map (λ (s : X × Y). s.0) zs) (map (λ (s : X × Y). s.1) zs) ≡ zs
zip-maps [] = refl
zip-maps {X = X} {Y = Y} (z ∷ zs) = ap (λ (ws : List (X × Y)). z ∷ ws) (zip-maps zs)

same_default : {X : Type 0} (xs : List X) (i : ℕ) (d e : X) → i < length xs → get_or xs i d ≡ get_or xs i e
same_default [] i d e within = absurd (omega arith)
same_default (x ∷ xs) zero d e within = refl
same_default (x ∷ xs) (suc i) d e within = same_default xs i d e (omega arith)

-- the two elements at one stream_and_slot
pub zip-at : {X Y : Type 0} (xs : List X) (ys : List Y) (i : ℕ) (d : X) (y : Y) → i < length xs → i < length ys → y ≡ get_or ys i y → (get_or xs i d, y) ≡ get_or (zip xs ys) i (get_or xs i d, y)
zip-at {X = X} {Y = Y} xs ys i d y in_xs in_ys is =
    let pair : X × Y = (get_or xs i d, y) in
    let first : X × Y = (get_or xs i (get_or xs i d), get_or ys i y) in
    let middle : X × Y = (get_or xs i d, get_or ys i y) in
    let left : first ≡ middle = ap (λ (a : X). let p : X × Y = (a, get_or ys i y) in p) (same_default xs i (get_or xs i d) d in_xs) in
    let right : middle ≡ pair = ap (λ (b : Y). let p : X × Y = (get_or xs i d, b) in p) (sym is) in
    sym (get_or-zip xs ys i pair in_xs in_ys ∙ left ∙ right)
