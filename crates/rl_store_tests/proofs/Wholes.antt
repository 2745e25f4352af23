-- What holds of each element of a list.
use Rattle.std.proofs.Common.{zero, suc, List, [], ◌∷◌, ◌++◌, All, arith}

pub all_more : {X : Type 0} (P : X → Type 0) (xs : List X) (x : X) → All P xs → P x → All P (xs ++ x ∷ [])
all_more P [] x h p zero d l = p
all_more P [] x h p (suc k) d l = absurd (omega arith)
all_more P (y ∷ ys) x h p zero d l = h 0 d (omega arith)
all_more P (y ∷ ys) x h p (suc k) d l = all_more P ys x (λ j e m. h (suc j) e (omega arith)) p k d (omega arith)

pub all_middle : {X : Type 0} (P : X → Type 0) (xs : List X) (x : X) (ys : List X) → All P (xs ++ x ∷ ys) → P x
all_middle P [] x ys h = h 0 x (omega arith)
all_middle P (y ∷ xs) x ys h = all_middle P xs x ys (λ j e m. h (suc j) e (omega arith))
