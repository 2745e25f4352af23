-- What holds of an answer.
use Rattle.std.proofs.Common.{Ok, Err, Result, IfOk}

pub ok_more : {T E : Type 0} (r : Result T E) (P Q : T → Type 0) → IfOk r P → ((v : T) → P v → Q v) → IfOk r Q
ok_more (Ok v) P Q a f = f v a
ok_more (Err e) P Q a f = tt

pub ok_both : {T E : Type 0} (r : Result T E) (P Q S : T → Type 0) → IfOk r P → IfOk r Q → ((v : T) → P v → Q v → S v) → IfOk r S
ok_both (Ok v) P Q S a b f = f v a b
ok_both (Err e) P Q S a b f = tt
