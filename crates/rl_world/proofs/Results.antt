-- What follows of what is true of a result.
use Rattle.std.proofs.Common.{◌≡◌, Result, Ok, Err, sym, subst}
use Rattle.std.specs.Result.{IsErrAnd, IfErr, IfOk}

-- an error that is a known one has what is true of that
pub known_error : {T E : Type 0} (P : E → Type 0) (e : E) (r : Result T E) → IsErrAnd r (λ x. x ≡ e) → P e → IfErr r P
known_error P e (Ok x) is h = tt
known_error P e (Err x) is h = subst P (sym is) h

-- so a result that is one
pub known_result : {T E : Type 0} (Q : Result T E → Type 0) (e : E) (r : Result T E) → IsErrAnd r (λ x. x ≡ e) → Q (Err e) → Q r
known_result Q e (Ok x) is h = absurd is
known_result Q e (Err x) is h = subst (λ y. Q (Err y)) (sym is) h

-- what follows of a result's value
pub if_ok : {T E : Type 0} (P Q : T → Type 0) (r : Result T E) → ((x : T) → P x → Q x) → IfOk r P → IfOk r Q
if_ok P Q (Ok x) then h = then x h
if_ok P Q (Err e) then h = tt
