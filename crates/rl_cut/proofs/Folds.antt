-- What is gathered along a list, one element further.
use Rattle.std.proofs.Common.{◌≡◌, ℕ, zero, suc, ◌+◌, ◌-◌, ◌<◌, min, List, [], ◌∷◌, ◌++◌, length, get_or, map, take, Option, Some, None, unwrap_or, refl, sym, ap, ◌∙◌, arith}
use Rattle.std.specs.Prelude.{slice_get}
use Rattle.std.proofs.lemmas.List.{take_more, map-append}
use Rattle.std.specs.Option.{option_map_or, option_map, option_or}
use Rattle.rl_base.specs.declared.stamp.Stamp.{Stamp}
use Rattle.rl_txn.specs.declared.item.Item.{Item}
use Rattle.rl_families.specs.Logs.{first_stamp, last_stamp}
use Rattle.rl_families.specs.Families.{least}

-- the stamps of one more item
pub stamps_more : (xs : List Item) (i : ℕ) (x : Item) → i < length xs → x ≡ get_or xs i x → map (λ (y : Item). y.stamp) (take (i + 1) xs) ≡ map (λ (y : Item). y.stamp) (take i xs) ++ x.stamp ∷ []
stamps_more xs i x l e = ap (map (λ (y : Item). y.stamp)) (take_more xs i x l) ∙ map_push (take i xs) ∙ ap (λ (y : Item). map (λ (z : Item). z.stamp) (take i xs) ++ y.stamp ∷ []) (sym e)
  where
    map_push : (ys : List Item) → map (λ (y : Item). y.stamp) (ys ++ get_or xs i x ∷ []) ≡ map (λ (y : Item). y.stamp) ys ++ (get_or xs i x).stamp ∷ []
    map_push [] = refl
    map_push (y ∷ ys) = ap (λ zs. y.stamp ∷ zs) (map_push ys)

-- the last_seq stamp of two lists is that of the second, if it has one
pub last_stamp-append : (xs ys : List Stamp) → last_stamp (xs ++ ys) ≡ option_or (last_stamp ys) (last_stamp xs)
last_stamp-append [] [] = refl
last_stamp-append [] (y ∷ ys) = nothing_before (y ∷ ys)
  where
    nothing_before : (zs : List Stamp) → last_stamp zs ≡ option_or (last_stamp zs) None
    nothing_before zs = elim (last_stamp zs) as (λ o. o ≡ option_or o None) [ None ↦ refl | Some s ↦ refl ]
last_stamp-append (x ∷ []) [] = refl
last_stamp-append (x ∷ []) (y ∷ ys) = has_last y ys (Some x)
  where
    has_last : (z : Stamp) (zs : List Stamp) (o : Option Stamp) → last_stamp (z ∷ zs) ≡ option_or (last_stamp (z ∷ zs)) o
    has_last z [] o = refl
    has_last z (w ∷ ws) o = has_last w ws o
last_stamp-append (x ∷ (z ∷ zs)) ys = last_stamp-append (z ∷ zs) ys

-- the last_seq item has the last_seq stamp
last_at : (xs : List Item) (n : ℕ) → length xs ≡ suc n → option_map (λ (x : Item). x.stamp) (slice_get xs n) ≡ last_stamp (map (λ (x : Item). x.stamp) xs)
last_at [] n e = absurd (omega arith)
last_at (x ∷ []) zero e = refl
last_at (x ∷ []) (suc n) e = absurd (omega arith)
last_at (x ∷ (y ∷ ys)) zero e = absurd (omega arith)
last_at (x ∷ (y ∷ ys)) (suc n) e = last_at (y ∷ ys) n (omega arith)

pub last_item : (xs : List Item) → option_map (λ (x : Item). x.stamp) (slice_get xs (length xs - 1)) ≡ last_stamp (map (λ (x : Item). x.stamp) xs)
last_item [] = refl
last_item (x ∷ xs) = let e : length (x ∷ xs) - 1 ≡ length xs = omega arith in rw e (last_at (x ∷ xs) (length xs) refl)

last_stamp_at : (xs : List Stamp) (n : ℕ) → length xs ≡ suc n → slice_get xs n ≡ last_stamp xs
last_stamp_at [] n e = absurd (omega arith)
last_stamp_at (x ∷ []) zero e = refl
last_stamp_at (x ∷ []) (suc n) e = absurd (omega arith)
last_stamp_at (x ∷ (y ∷ ys)) zero e = absurd (omega arith)
last_stamp_at (x ∷ (y ∷ ys)) (suc n) e = last_stamp_at (y ∷ ys) n (omega arith)

pub last_of_stamps : (xs : List Stamp) → slice_get xs (length xs - 1) ≡ last_stamp xs
last_of_stamps [] = refl
last_of_stamps (x ∷ xs) = let e : length (x ∷ xs) - 1 ≡ length xs = omega arith in rw e (last_stamp_at (x ∷ xs) (length xs) refl)

pub first_item : (xs : List Item) → option_map (λ (x : Item). x.stamp) (slice_get xs 0) ≡ first_stamp (map (λ (x : Item). x.stamp) xs)
first_item [] = refl
first_item (x ∷ xs) = refl

-- the least of what was gone over, if anything was
abbrev pub found : List ℕ → Option ℕ
found [] = None
found (x ∷ xs) = Some (least (x ∷ xs))

least-push : (x : ℕ) (xs : List ℕ) (y : ℕ) → least ((x ∷ xs) ++ y ∷ []) ≡ min (least (x ∷ xs)) y
least-push x [] y = refl
least-push x (z ∷ zs) y = ap (λ n. min x n) (least-push z zs y) ∙ three x (least (z ∷ zs)) y
  where
    three : (a b c : ℕ) → min a (min b c) ≡ min (min a b) c
    three a b c = omega arith

found-push : (xs : List ℕ) (y : ℕ) → found (xs ++ y ∷ []) ≡ Some (option_map_or (λ l. min l y) (found xs) y)
found-push [] y = refl
found-push (x ∷ xs) y = ap Some (least-push x xs y)

pub found_least : (xs : List ℕ) → unwrap_or (found xs) 0 ≡ least xs
found_least [] = refl
found_least (x ∷ xs) = refl

pub found_more : {X : Type 0} (h : X → ℕ) (xs : List X) (i : ℕ) (x : X) → i < length xs → x ≡ get_or xs i x
    → Some (option_map_or (λ l. min l (h x)) (found (map h (take i xs))) (h x)) ≡ found (map h (take (i + 1) xs))
found_more h xs i x l p = sym (ap (λ ys. found (map h ys)) (take_more xs i x l) ∙ ap found (map-append h (take i xs) (get_or xs i x ∷ [])) ∙ ap (λ y. found (map h (take i xs) ++ h y ∷ [])) (sym p) ∙ found-push (map h (take i xs)) (h x))
