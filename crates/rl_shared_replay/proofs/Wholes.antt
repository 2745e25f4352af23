-- What holds of each element of a list.
use Rattle.std.proofs.Common.{◌≡◌, ℕ, zero, suc, ◌<◌, List, [], ◌∷◌, ◌++◌, length, get_or, map, All, refl, sym, ap, ◌∙◌, subst, arith}

pub all_none : {X : Type 0} (P : X → Type 0) → All P []
all_none P k d l = absurd (omega arith)

pub all_more : {X : Type 0} (P : X → Type 0) (xs : List X) (x : X) → All P xs → P x → All P (xs ++ x ∷ [])
all_more P [] x h p zero d l = p
all_more P [] x h p (suc k) d l = absurd (omega arith)
all_more P (y ∷ ys) x h p zero d l = h 0 d (omega arith)
all_more P (y ∷ ys) x h p (suc k) d l = all_more P ys x (λ j e m. h (suc j) e (omega arith)) p k d (omega arith)

pub all_middle : {X : Type 0} (P : X → Type 0) (xs : List X) (x : X) (ys : List X) → All P (xs ++ x ∷ ys) → P x
all_middle P [] x ys h = h 0 x (omega arith)
all_middle P (y ∷ xs) x ys h = all_middle P xs x ys (λ j e m. h (suc j) e (omega arith))

-- an element of a list
pub pick : {X : Type 0} (xs : List X) (k : ℕ) → k < length xs → X
pick [] k l = absurd (omega arith)
pick (x ∷ xs) zero l = x
pick (x ∷ xs) (suc k) l = pick xs k (omega arith)

pub map_at : {X Y : Type 0} (f : X → Y) (xs : List X) (k : ℕ) (d : X) → get_or (map f xs) k (f d) ≡ f (get_or xs k d)
map_at f [] k d = refl
map_at f (x ∷ xs) zero d = refl
map_at f (x ∷ xs) (suc k) d = map_at f xs k d

pub no_more : {X : Type 0} (xs : List X) → length xs ≡ 0 → xs ≡ []
no_more [] e = refl
no_more (x ∷ xs) e = absurd (omega arith)
