-- Members of lists, and cells by place.
use Rattle.std.proofs.Common.{◌≡◌, ◌⊎◌, ℕ, zero, suc, ◌+◌, ◌<◌, ◌≤◌, List, [], ◌∷◌, ◌++◌, length, get_or, Contains, refl, sym, ap, subst, inl, inr, ⊎_elim, arith, length-append}
use Rattle.rl_base.proofs.Members.{In, contains_in, in_contains, in_prefix, in_suffix, in_split}

pub has_front : {X : Type 0} (xs ys : List X) (x : X) → Contains xs x → Contains (xs ++ ys) x
has_front xs ys x c = in_contains (xs ++ ys) x (in_prefix xs ys x (contains_in xs x c))

pub has_back : {X : Type 0} (xs ys : List X) (x : X) → Contains ys x → Contains (xs ++ ys) x
has_back xs ys x c = in_contains (xs ++ ys) x (in_suffix xs ys x (contains_in ys x c))

pub has_split : {X : Type 0} (xs ys : List X) (x : X) → Contains (xs ++ ys) x → Contains xs x ⊎ Contains ys x
has_split xs ys x c = ⊎_elim (λ (i : In x xs). inl (in_contains xs x i)) (λ (i : In x ys). inr (in_contains ys x i)) (in_split xs ys x (contains_in (xs ++ ys) x c))

pub has_none : {X : Type 0} (x : X) → Contains [] x → ⊥
has_none x c = contains_in [] x c

pub has_last : {X : Type 0} (xs : List X) (x : X) → Contains (xs ++ x ∷ []) x
has_last xs x = has_back xs (x ∷ []) x (in_contains (x ∷ []) x (inl refl))

-- a member of a longer list is an old one, or the last
pub has_more : {X : Type 0} (xs : List X) (y x : X) → Contains (xs ++ y ∷ []) x → Contains xs x ⊎ (x ≡ y)
has_more xs y x c = ⊎_elim (λ h. inl h) (λ (h : Contains (y ∷ []) x). inr (only (contains_in (y ∷ []) x h))) (has_split xs (y ∷ []) x c)
  where
    only : In x (y ∷ []) → x ≡ y
    only i = ⊎_elim (λ (e : x ≡ y). e) (λ (n : ⊥). absurd n) i

-- what holds of each cell of a list and of one more
pub more_cells : (xs : List ℕ) (x : ℕ) (f : ℕ → ℕ) → ((k : ℕ) → k < length xs → f k ≡ get_or xs k 0) → f (length xs) ≡ x → (k : ℕ) → k < length (xs ++ x ∷ []) → f k ≡ get_or (xs ++ x ∷ []) k 0
more_cells [] x f old new zero l = new
more_cells [] x f old new (suc k) l = absurd (omega arith)
more_cells (y ∷ ys) x f old new zero l = old 0 (omega arith)
more_cells (y ∷ ys) x f old new (suc k) l = more_cells ys x (λ j. f (suc j)) (λ j m. old (suc j) (omega arith)) new k (omega arith)
