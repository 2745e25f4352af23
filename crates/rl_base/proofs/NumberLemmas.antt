-- The bytes of a number that was read are the bytes that were read.
use Rattle.std.proofs.Common.{◌/◌, ◌%◌, ◌≡◌, ℕ, zero, suc, ◌+◌, ◌-◌, ◌*◌, ◌^◌, ◌<◌, ◌≤◌, List, [], ◌∷◌, length, take, refl, sym, ap, ◌∙◌, arith}
use Rattle.std.proofs.Math.Nat.{mul-add-div_right, mul-add-mod_self_right, mod-eq_of_lt, one-le-pow, div-one, mul_assoc}
use Rattle.std.proofs.lemmas.Nat.{pow-add, div-mul-add}
use Rattle.std.specs.Int.{byte_at, bytes_high_first}
use Rattle.byteorder.specs.Endian.{big_number, big_bytes}
use Rattle.byteorder.specs.Numbers.{big_from-cons, big_from-lt}
use Rattle.rl_base.specs.Numbers.{IsBytes}

-- a byte of a number, by its place
byte_at-place : (k x : ℕ) → byte_at k x ≡ x / 256 ^ k % 256
byte_at-place zero x = ap (λ (y : ℕ). y % 256) (sym (div-one x))
byte_at-place (suc k) x = refl

-- a power of 256 is above zero
power-above : (n : ℕ) → zero < 256 ^ n
power-above n = let h = one-le-pow n 256 (omega arith) in omega arith

-- a low byte does not tell what stands above it
byte_at-low : (k d b r : ℕ) → byte_at k (b * 256 ^ (d + 1 + k) + r) ≡ byte_at k r
byte_at-low k d b r =
    let powers : 256 ^ (d + 1 + k) ≡ 256 ^ d * 256 * 256 ^ k = pow-add 256 (d + 1) k ∙ ap (λ (p : ℕ). p * 256 ^ k) (pow-add 256 d 1) in
    let regrouped : b * 256 ^ (d + 1 + k) ≡ b * 256 ^ d * 256 * 256 ^ k = ap (λ (p : ℕ). b * p) powers ∙ sym (mul_assoc b (256 ^ d * 256) (256 ^ k)) ∙ ap (λ (p : ℕ). p * 256 ^ k) (sym (mul_assoc b (256 ^ d) 256)) in
    byte_at-place k (b * 256 ^ (d + 1 + k) + r)
    ∙ ap (λ (x : ℕ). (x + r) / 256 ^ k % 256) regrouped
    ∙ ap (λ (x : ℕ). x % 256) (mul-add-div_right (power-above k) (b * 256 ^ d * 256) r)
    ∙ mul-add-mod_self_right (b * 256 ^ d) 256 (r / 256 ^ k)
    ∙ sym (byte_at-place k r)

-- nor do some low bytes
bytes-low : (k n b r : ℕ) → k ≤ n → bytes_high_first k (b * 256 ^ n + r) ≡ bytes_high_first k r
bytes-low zero n b r within = refl
bytes-low (suc k) n b r within =
    let place : n ≡ (n - k - 1) + 1 + k = omega arith in
    let head : byte_at k (b * 256 ^ n + r) ≡ byte_at k r = ap (λ (m : ℕ). byte_at k (b * 256 ^ m + r)) place ∙ byte_at-low k (n - k - 1) b r in
    let tail = bytes-low k n b r (omega arith) in
    rw (head, tail) refl

-- the highest byte of a number
byte_at-high : (n b r : ℕ) → b < 256 → r < 256 ^ n → byte_at n (b * 256 ^ n + r) ≡ b
byte_at-high n b r low small = byte_at-place n (b * 256 ^ n + r) ∙ ap (λ (x : ℕ). x % 256) (div-mul-add b (256 ^ n) r small) ∙ mod-eq_of_lt low

-- the bytes of the number that some bytes are, the highest first, are these bytes
pub big_bytes-number : (n : ℕ) (bytes : List ℕ) → n ≤ length bytes → IsBytes bytes → big_bytes n (big_number n bytes) ≡ take n bytes
big_bytes-number zero bytes long fits = refl
big_bytes-number (suc n) [] long fits = absurd (omega arith)
big_bytes-number (suc n) (b ∷ bytes) long fits =
    let after : IsBytes bytes = λ i. fits (suc i) in
    let r = big_number n bytes in
    let small : r < 256 ^ n = big_from-lt 0 n bytes after in
    let moved : big_number (suc n) (b ∷ bytes) ≡ b * 256 ^ n + r = ap (λ (x : ℕ). b * 256 ^ n + x) (big_from-cons 0 n b bytes) in
    let head : byte_at n (b * 256 ^ n + r) ≡ b = byte_at-high n b r (fits 0) small in
    let tail : bytes_high_first n (b * 256 ^ n + r) ≡ take n bytes = bytes-low n n b r (omega arith) ∙ big_bytes-number n bytes (omega arith) after in
    ap (bytes_high_first (suc n)) moved ∙ rw (head, tail) refl
