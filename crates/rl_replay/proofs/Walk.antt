-- Going over the entries of a log.
use Rattle.std.proofs.Common.{◌≡◌, ℕ, zero, suc, ◌+◌, ◌<◌, List, [], ◌∷◌, ◌++◌, length, get_or, take, Some, refl, sym, ap, ◌∙◌, subst, arith, length-append}
use Rattle.std.specs.Prelude.{slice_get}
use Rattle.std.proofs.lemmas.Grind.{flat_map-append}
use Rattle.std.proofs.lemmas.List.{take_more, append-nil}
use Rattle.rl_txn.specs.declared.batch.Batch.{Batch}
use Rattle.rl_replay.specs.Entries.{Entry, entries_of, entries}

pub entries-append : (xs ys : List Batch) → entries (xs ++ ys) ≡ entries xs ++ entries ys
entries-append xs ys = flat_map-append entries_of xs ys

pub length-entries_more : (log : List Batch) (i : ℕ) (b : Batch) → i < length log → b ≡ get_or log i b → length (entries (take (i + 1) log)) ≡ length (entries (take i log)) + length (entries_of b)
length-entries_more log i b l e =
    ap (λ z. length (entries z)) (take_more log i b l) ∙ ap length (entries-append (take i log) (get_or log i b ∷ []))
    ∙ length-append (entries (take i log)) (entries_of (get_or log i b) ++ [])
    ∙ ap (λ z. length (entries (take i log)) + length z) (append-nil (entries_of (get_or log i b)) ∙ ap entries_of (sym e))

pub front : (xs ys : List Entry) (n : ℕ) → n < length xs → slice_get (xs ++ ys) n ≡ slice_get xs n
front [] ys n l = absurd (omega arith)
front (x ∷ xs) ys zero l = refl
front (x ∷ xs) ys (suc n) l = front xs ys n (omega arith)

back : (xs ys : List Entry) (n : ℕ) → slice_get (xs ++ ys) (length xs + n) ≡ slice_get ys n
back [] ys n = let e : 0 + n ≡ n = omega arith in ap (slice_get ys) e
back (x ∷ xs) ys n = let e : suc (length xs) + n ≡ suc (length xs + n) = omega arith in ap (slice_get (x ∷ (xs ++ ys))) e ∙ back xs ys n

-- an entry by its batch and its index there
pub entry_here : (log : List Batch) (i : ℕ) (b : Batch) (left : ℕ) → slice_get log i ≡ Some b → left < length (entries_of b)
    → slice_get (entries_of b) left ≡ slice_get (entries log) (left + length (entries (take i log)))
entry_here [] i b left h l = absurd (let n = h in cc)
entry_here (c ∷ cs) zero b left h l =
    let same : c ≡ b = (let n = h in cc) in
    let at : left + 0 ≡ left = omega arith in
    sym (ap (λ z. slice_get (entries_of c ++ entries cs) z) at ∙ front (entries_of c) (entries cs) left (subst (λ z. left < length (entries_of z)) (sym same) l) ∙ ap (λ z. slice_get (entries_of z) left) same)
entry_here (c ∷ cs) (suc i) b left h l =
    let m = length (entries (take i cs)) in
    let at : left + length (entries_of c ++ entries (take i cs)) ≡ length (entries_of c) + (left + m) = omega (arith, length-append (entries_of c) (entries (take i cs))) in
    entry_here cs i b left h l ∙ sym (ap (slice_get (entries_of c ++ entries cs)) at ∙ back (entries_of c) (entries cs) (left + m))
