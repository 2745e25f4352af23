-- Elements of lists by their places.
use Rattle.std.proofs.Common.{◌≡◌, ℕ, zero, suc, ◌+◌, ◌-◌, ◌<◌, List, [], ◌∷◌, length, get_or, slice_get, Some, ap, ◌∙◌, arith}

-- an element that was read is there, whatever stands for one that is not
pub item_is : {X : Type 0} (xs : List X) (i : ℕ) (x d : X) → i < length xs → x ≡ get_or xs i x → x ≡ get_or xs i d
item_is [] i x d l e = absurd (omega arith)
item_is (y ∷ ys) zero x d l e = e
item_is (y ∷ ys) (suc i) x d l e = item_is ys i x d (omega arith) e

-- the same by the number of a stream
pub stream_is : {X : Type 0} (xs : List X) (i : ℕ) (x d : X) → i < length xs → x ≡ get_or xs i x → x ≡ get_or xs (i + 1 - 1) d
stream_is xs i x d l e = item_is xs i x d l e ∙ ap (λ k. get_or xs k d) (omega arith)

-- an element that was got
pub got_is : {X : Type 0} (xs : List X) (i : ℕ) (x d : X) → slice_get xs i ≡ Some x → x ≡ get_or xs i d
got_is [] i x d e = absurd (cc)
got_is (y ∷ ys) zero x d e = cc
got_is (y ∷ ys) (suc i) x d e = got_is ys i x d e
