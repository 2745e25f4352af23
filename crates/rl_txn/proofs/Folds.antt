-- One more step of what is done over a list or a range.
use Rattle.std.proofs.Common.{◌≡◌, ℕ, ◌+◌, ◌-◌, ◌*◌, ◌/◌, ◌%◌, ◌^◌, ◌<◌, ◌≤◌, List, [], ◌∷◌, ◌++◌, length, get_or, take, refl, ap, sym, ◌∙◌, sum_by, zero, suc, arith}
use Rattle.std.specs.List.{range_with_len}
use Rattle.std.proofs.lemmas.List.{take_more}
use Rattle.std.proofs.lemmas.Nat.{div-add-mod'}
use Rattle.std.proofs.Math.Nat.{add-mul-mod_self_right}
use Rattle.std.proofs.lemmas.List.Sums.{sum_by_push}
use Rattle.rl_value.specs.Rows.{Rows}
use Rattle.rl_txn.specs.Run.{Overlay, row_seen, column_of, scan_sum}
use Rattle.rl_txn.specs.Serial.{with_write, after_writes, rows_after}
use Rattle.rl_txn.specs.declared.write.Write.{Write}
use Rattle.rl_txn.specs.declared.item.Item.{Item}

pub range_push : (a n : ℕ) → range_with_len a (suc n) ≡ range_with_len a n ++ (a + n) ∷ []
range_push a zero = ap (λ x. x ∷ []) (omega arith)
range_push a (suc n) = ap (λ xs. a ∷ xs) (range_push (a + 1) n ∙ ap (λ x. range_with_len (a + 1) n ++ x ∷ []) (omega arith))

sum_mod : (a b m : ℕ) → (a % m + b) % m ≡ (a + b) % m
sum_mod a b m =
    let parts : a / m * m + a % m ≡ a = div-add-mod' a m in
    let whole : a % m + b + a / m * m ≡ a + b = omega arith in
    sym (add-mul-mod_self_right (a % m + b) (a / m) m) ∙ ap (λ x. x % m) whole

-- the sum over the keys from one up to another, and one more row
pub scan_more : (rows : Rows) (written : Overlay) (t from k c sum : ℕ) → from ≤ k → sum ≡ scan_sum rows written t from (k - from) c
    → (sum + column_of (row_seen rows written t k) c) % 2 ^ 64 ≡ scan_sum rows written t from (k + 1 - from) c
scan_more rows written t from k c sum above is =
    let f : ℕ → ℕ = λ key. column_of (row_seen rows written t key) c in
    let n = k - from in
    let one_more : k + 1 - from ≡ suc n = omega arith in
    let last : from + n ≡ k = omega arith in
    let more : sum_by f (range_with_len from (k + 1 - from)) ≡ sum_by f (range_with_len from n) + f k =
    ap (λ m. sum_by f (range_with_len from m)) one_more ∙ ap (sum_by f) (range_push from n) ∙ sum_by_push f (range_with_len from n) (from + n) ∙ ap (λ key. sum_by f (range_with_len from n) + f key) last in
    ap (λ s. (s + f k) % 2 ^ 64) is ∙ sum_mod (sum_by f (range_with_len from n)) (f k) (2 ^ 64) ∙ sym (ap (λ s. s % 2 ^ 64) more)

pub after_writes-append : (rows : Rows) (xs ys : List Write) → after_writes rows (xs ++ ys) ≡ after_writes (after_writes rows xs) ys
after_writes-append rows [] ys = refl
after_writes-append rows (x ∷ xs) ys = after_writes-append (with_write rows x) xs ys

-- the rows after one more write of a list
pub after_writes_more : (rows : Rows) (writes : List Write) (i : ℕ) (w : Write) → i < length writes → w ≡ get_or writes i w → with_write (after_writes rows (take i writes)) w ≡ after_writes rows (take (i + 1) writes)
after_writes_more rows writes i w within at =
    sym (ap (after_writes rows) (take_more writes i w within) ∙ after_writes-append rows (take i writes) (get_or writes i w ∷ []) ∙ ap (λ x. with_write (after_writes rows (take i writes)) x) (sym at))

pub rows_after-append : (rows : Rows) (xs ys : List Item) → rows_after rows (xs ++ ys) ≡ rows_after (rows_after rows xs) ys
rows_after-append rows [] ys = refl
rows_after-append rows (x ∷ xs) ys = rows_after-append (after_writes rows x.writes) xs ys
