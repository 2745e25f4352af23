-- What a reader of a field takes is encoded so, and what is encoded so is read again.
use Rattle.std.proofs.Common.{◌≡◌, ◌⊎◌, inl, inr, ℕ, suc, ◌+◌, ◌^◌, ◌<◌, ◌≤◌, Bool, true, false, cond, ltb, leb, ◌&&◌, List, [], ◌∷◌, ◌++◌, length, take, drop, Result, Ok, Err, refl, sym, ap, subst, ◌∙◌, append_assoc, arith}
use Rattle.std.proofs.lemmas.Bool.{ltb-false, le-ltb, leb-true, le-leb}
use Rattle.std.proofs.lemmas.List.{take_at, drop_at, take-append-drop, length-append, length-take, get_or-drop}
use Rattle.byteorder.specs.Endian.{big_number, big_bytes}
use Rattle.byteorder.specs.Numbers.{big_from-lt, length-bytes_high_first, big_number-reads_back}
use Rattle.rl_base.specs.Numbers.{IsBytes}
use Rattle.rl_base.proofs.NumberLemmas.{big_bytes-number}
use Rattle.rl_base.specs.declared.flaw.Flaw.{Flaw}
use Rattle.rl_base.specs.declared.flaw.Flaw.TheVariants.{Short, Range}
use Rattle.rl_base.specs.Results.{◌>>=◌}
use Rattle.rl_fields.specs.Faults.{fault_at, with_offset}
use Rattle.rl_fields.specs.declared.fault.Fault.{Fault}
use Rattle.rl_fields.specs.Fields.{number, within, string, alone}

pub IsBytes-drop : (n : ℕ) (bytes : List ℕ) → IsBytes bytes → IsBytes (drop n bytes)
IsBytes-drop n bytes h i = rw get_or-drop (h (n + i))

pub IsBytes-rest : (b : ℕ) (bytes : List ℕ) → IsBytes (b ∷ bytes) → IsBytes bytes
IsBytes-rest b bytes h i = h (suc i)

-- the value of a step that did not fail
pub bind_ok : {A B E : Type 0} (r : Result A E) (f : A → Result B E) (y : B) → (r >>= f) ≡ Ok y → (x : A) × (r ≡ Ok x) × (f x ≡ Ok y)
bind_ok (Ok x) f y e = (x, refl, e)
bind_ok (Err d) f y e = absurd cc

-- a test that did not fail, where a fault comes first
pub guard_not : {A E : Type 0} (b : Bool) (d : E) (x y : A) → cond b (Err d) (Ok x) ≡ Ok y → (b ≡ false) × (x ≡ y)
guard_not true d x y e = absurd cc
guard_not false d x y e = (refl, cc)

-- and where it comes last
pub guard_ok : {A E : Type 0} (b : Bool) (d : E) (x y : A) → cond b (Ok x) (Err d) ≡ Ok y → (b ≡ true) × (x ≡ y)
guard_ok true d x y e = (refl, cc)
guard_ok false d x y e = absurd cc

abbrev done : {A E : Type 0} → A → Result A E
done x = Ok x

pub ok_is : {A E : Type 0} (x y : A) → done {E = E} x ≡ done y → x ≡ y
ok_is x y e = cc

-- what a reader took from the prefix
pub record Takes (bytes text rest : List ℕ) : Type 0 where
  pub parts : bytes ≡ text ++ rest
  pub rest_fits : IsBytes rest

pub Takes-then : (a x b y c : List ℕ) → Takes a x b → Takes b y c → Takes a (x ++ y) c
Takes-then a x b y c p q = record { parts = p.parts ∙ ap (λ (t : List ℕ). x ++ t) q.parts ∙ sym (append_assoc x y c); rest_fits = q.rest_fits }

pub both : (a b : Bool) → (a && b) ≡ true → (a ≡ true) × (b ≡ true)
both true b e = (refl, e)
both false b e = absurd cc

-- which of two was taken
pub chosen : {A : Type 0} (b : Bool) (x y z : A) → cond b x y ≡ z → ((b ≡ true) × (x ≡ z)) ⊎ ((b ≡ false) × (y ≡ z))
chosen true x y z e = inl (refl, e)
chosen false x y z e = inr (refl, e)

-- what is read with the offset of its fault is what is read
pub with_offset_ok : {A : Type 0} (bytes : List ℕ) (r : Result A Fault) (x : A) → with_offset bytes r ≡ Ok x → r ≡ Ok x
with_offset_ok bytes (Ok x) y e = ap Ok (ok_is {E = ℕ × Flaw} x y e)
with_offset_ok bytes (Err f) y e = absurd cc

both_true : (a b : Bool) → a ≡ true → b ≡ true → (a && b) ≡ true
both_true true b p q = q
both_true false b p q = absurd cc

pub number_takes : (n : ℕ) (bytes : List ℕ) (x : ℕ × List ℕ) → IsBytes bytes → number n bytes ≡ Ok x → Takes bytes (big_bytes n x.0) x.1 × (x.0 < 256 ^ n)
unfolding number
number_takes n bytes x fits e =
    let g = guard_not (ltb (length bytes) n) (fault_at bytes Short) (big_number n bytes, drop n bytes) x e in
    let long : n ≤ length bytes = ltb-false _ _ g.0 in
    let parts : bytes ≡ big_bytes n (big_number n bytes) ++ drop n bytes = sym (take-append-drop n bytes) ∙ ap (λ (t : List ℕ). t ++ drop n bytes) (sym (big_bytes-number n bytes long fits)) in
    subst (λ (y : ℕ × List ℕ). Takes bytes (big_bytes n y.0) y.1 × (y.0 < 256 ^ n)) g.1 (record { parts = parts; rest_fits = IsBytes-drop n bytes fits }, big_from-lt 0 n bytes fits)

pub number_again : (n x : ℕ) (rest : List ℕ) → x < 256 ^ n → number n (big_bytes n x ++ rest) ≡ Ok (x, rest)
unfolding number
number_again n x rest small =
    let len : length (big_bytes n x) ≡ n = length-bytes_high_first n x in
    let long : ltb (length (big_bytes n x ++ rest)) n ≡ false = le-ltb _ _ (omega (arith, length-append (big_bytes n x) rest)) in
    rw (long, drop_at (big_bytes n x) rest n len, big_number-reads_back n x rest small) refl

pub within_takes : (n low high : ℕ) (bytes : List ℕ) (x : ℕ × List ℕ) → IsBytes bytes → within n low high bytes ≡ Ok x → Takes bytes (big_bytes n x.0) x.1 × (low ≤ x.0) × (x.0 ≤ high)
unfolding within
within_takes n low high bytes x fits e =
    let a = bind_ok (number n bytes) (λ x. cond (leb low x.0 && leb x.0 high) (Ok x) (Err (fault_at bytes Range))) x e in
    let t = number_takes n bytes a.0 fits a.1 in
    let g = guard_ok (leb low a.0.0 && leb a.0.0 high) (fault_at bytes Range) a.0 x a.2 in
    let tests = both (leb low a.0.0) (leb a.0.0 high) g.0 in
    subst (λ (y : ℕ × List ℕ). Takes bytes (big_bytes n y.0) y.1 × (low ≤ y.0) × (y.0 ≤ high)) g.1 (t.0, leb-true _ _ tests.0, leb-true _ _ tests.1)

pub within_again : (n low high x : ℕ) (rest : List ℕ) → low ≤ x → x ≤ high → x < 256 ^ n → within n low high (big_bytes n x ++ rest) ≡ Ok (x, rest)
unfolding within
within_again n low high x rest above below small =
    let tests : (leb low x && leb x high) ≡ true = both_true _ _ (le-leb _ _ above) (le-leb _ _ below) in
    rw (number_again n x rest small, tests) refl

pub string_takes : (n : ℕ) (bytes : List ℕ) (x : List ℕ × List ℕ) → IsBytes bytes → string n bytes ≡ Ok x → Takes bytes x.0 x.1 × (length x.0 ≡ n)
unfolding string
string_takes n bytes x fits e =
    let g = guard_not (ltb (length bytes) n) (fault_at bytes Short) (take n bytes, drop n bytes) x e in
    let long : n ≤ length bytes = ltb-false _ _ g.0 in
    subst (λ (y : List ℕ × List ℕ). Takes bytes y.0 y.1 × (length y.0 ≡ n)) g.1 (record { parts = sym (take-append-drop n bytes); rest_fits = IsBytes-drop n bytes fits }, omega (arith, length-take n bytes))

pub string_again : (text rest : List ℕ) → string (length text) (text ++ rest) ≡ Ok (text, rest)
unfolding string
string_again text rest =
    let long : ltb (length (text ++ rest)) (length text) ≡ false = le-ltb _ _ (omega (arith, length-append text rest)) in
    rw (long, take_at text rest (length text) refl, drop_at text rest (length text) refl) refl

pub alone_takes : {A : Type 0} (x y : A) (bytes : List ℕ) → alone x bytes ≡ Ok y → (x ≡ y) × (bytes ≡ [])
alone_takes x y [] e = (ok_is x y e, refl)
alone_takes x y (b ∷ bytes) e = absurd cc
