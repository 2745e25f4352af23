-- A length that a quorum reached is no longer than one that a node acked and that the quorum reached too.
use Rattle.std.proofs.Common.{◌≡◌, ◌⊎◌, ℕ, zero, suc, ◌+◌, ◌<◌, ◌≤◌, List, [], ◌∷◌, length, get_or, All, cond, nat_le, refl, sym, ◌∙◌, arith, inl, inr, le-leb}
use Rattle.std.proofs.lemmas.Bool.{cases_lt, lt-leb}
use Rattle.std.proofs.lemmas.List.Elements.{All-get_or}
use Rattle.std.proofs.lemmas.List.Sums.{sum_by-cons}
use Rattle.rl_paxos.specs.Leaders.{acked_count}

-- whether a length was acked, as a number
abbrev one_if : ℕ → ℕ → ℕ
one_if m x = cond (nat_le m x) 1 0

at_least : (m x : ℕ) → m ≤ x → one_if m x ≡ 1
at_least m x h = rw (le-leb m x h) refl

too_short : (m x : ℕ) → x < m → one_if m x ≡ 0
too_short m x h = rw (lt-leb m x h) refl

order : (a b : ℕ) → (a ≤ b) ⊎ (b < a)
order a b = elim (cases_lt b a) [ inl h ↦ inr h | inr h ↦ inl h ]

reached-cons : (m x : ℕ) (xs : List ℕ) → acked_count (x ∷ xs) m ≡ one_if m x + acked_count xs m
reached-cons m x xs = sum_by-cons (λ y. cond (nat_le m y) 1 0) x xs

-- each node has acked no length at all
pub all_reach : (xs : List ℕ) → acked_count xs 0 ≡ length xs
all_reach [] = refl
all_reach (x ∷ xs) = omega (arith, reached-cons 0 x xs, at_least 0 x (omega arith), all_reach xs)

-- the place of the least acked length that reaches m
pub record Least (xs : List ℕ) (m : ℕ) : Type 0 where
  pub place : ℕ
  pub inside : place < length xs
  pub above : m ≤ get_or xs place 0
  pub least : (k : ℕ) → k < length xs → m ≤ get_or xs k 0 → get_or xs place 0 ≤ get_or xs k 0

pub least : (xs : List ℕ) (m : ℕ) → 0 < acked_count xs m → Least xs m
least [] m h = absurd (omega arith)
least (x ∷ xs) m h = elim (order m x) [
  | inl up ↦ elim (order (acked_count xs m) 0) [
    | inl none ↦ record { place = 0; inside = omega arith; above = up; least = λ k. alone k none }
    | inr some ↦ both up (least xs m some)
  ]
  | inr down ↦ (let t : 0 < one_if m x + acked_count xs m = omega (arith, h, reached-cons m x xs) in
      let z = too_short m x down in
      let r = least xs m (omega (arith, z, t)) in
      record { place = suc r.place; inside = omega (arith, r.inside); above = r.above; least = λ k. later down r k })
]
  where
    empty : (ys : List ℕ) (k : ℕ) → acked_count ys m ≤ 0 → k < length ys → m ≤ get_or ys k 0 → ⊥
    empty [] k n l u = omega arith
    empty (y ∷ ys) zero n l u = let a = at_least m y u in let t : one_if m y + acked_count ys m ≤ 0 = omega (arith, n, reached-cons m y ys) in omega (arith, a, t)
    empty (y ∷ ys) (suc k) n l u = empty ys k (let t : one_if m y + acked_count ys m ≤ 0 = omega (arith, n, reached-cons m y ys) in omega (arith, t)) (omega (arith, l)) u

    alone : (k : ℕ) → acked_count xs m ≤ 0 → k < length (x ∷ xs) → m ≤ get_or (x ∷ xs) k 0 → x ≤ get_or (x ∷ xs) k 0
    alone zero n l u = omega arith
    alone (suc k) n l u = absurd (empty xs k n (omega (arith, l)) u)

    later : x < m → (r : Least xs m) → (k : ℕ) → k < length (x ∷ xs) → m ≤ get_or (x ∷ xs) k 0 → get_or xs r.place 0 ≤ get_or (x ∷ xs) k 0
    later down r zero l u = absurd (omega arith)
    later down r (suc k) l u = r.least k (omega (arith, l)) u

    first : (r : Least xs m) → x ≤ get_or xs r.place 0 → (k : ℕ) → k < length (x ∷ xs) → m ≤ get_or (x ∷ xs) k 0 → x ≤ get_or (x ∷ xs) k 0
    first r lo zero l u = omega arith
    first r lo (suc k) l u = let t = r.least k (omega (arith, l)) u in omega (arith, t, lo)

    rest : (r : Least xs m) → get_or xs r.place 0 < x → (k : ℕ) → k < length (x ∷ xs) → m ≤ get_or (x ∷ xs) k 0 → get_or xs r.place 0 ≤ get_or (x ∷ xs) k 0
    rest r hi zero l u = omega arith
    rest r hi (suc k) l u = r.least k (omega (arith, l)) u

    both : m ≤ x → Least xs m → Least (x ∷ xs) m
    both up r = elim (order x (get_or xs r.place 0)) [
      | inl lo ↦ record { place = 0; inside = omega arith; above = up; least = λ k. first r lo k }
      | inr hi ↦ record { place = suc r.place; inside = omega (arith, r.inside); above = r.above; least = λ k. rest r hi k }
    ]

-- as many reach it as reach m
pub as_many : (xs : List ℕ) (m v : ℕ) → m ≤ v → ((k : ℕ) → k < length xs → m ≤ get_or xs k 0 → v ≤ get_or xs k 0) → acked_count xs m ≡ acked_count xs v
as_many [] m v h each = refl
as_many (x ∷ xs) m v h each =
    let r : acked_count xs m ≡ acked_count xs v = as_many xs m v h (λ k l u. each (suc k) (omega (arith, l)) u) in
    let e : one_if m x ≡ one_if v x = elim (order m x) [
      | inl up ↦ at_least m x up ∙ sym (at_least v x (each 0 (omega arith) up))
      | inr down ↦ too_short m x down ∙ sym (too_short v x (omega arith))
    ] in
    omega (arith, r, e, reached-cons m x xs, reached-cons v x xs)

-- where each acked length above greatest is short of a quorum, so is each length above it
pub none_above : (xs : List ℕ) (quorum greatest : ℕ) → 1 ≤ quorum → ((k : ℕ) → k < length xs → greatest < get_or xs k 0 → acked_count xs (get_or xs k 0) < quorum) → (more : ℕ) → quorum ≤ acked_count xs more → more ≤ greatest
none_above xs quorum greatest some each more q = elim (order more greatest) [
  | inl h ↦ h
  | inr h ↦ (let r = least xs more (omega arith) in
      let v : ℕ = get_or xs r.place 0 in
      let same : acked_count xs more ≡ acked_count xs v = as_many xs more v r.above r.least in
      let short : acked_count xs v < quorum = each r.place r.inside (omega (arith, r.above)) in
      absurd (omega arith))
]

-- no node reaches a length above all that were acked
pub reached_within : (xs : List ℕ) (m top : ℕ) → All (λ a. a ≤ top) xs → 0 < acked_count xs m → m ≤ top
reached_within xs m top each h =
    let r = least xs m h in
    let t : get_or xs r.place 0 ≤ top = All-get_or (λ a. a ≤ top) xs r.place 0 r.inside each in
    omega (arith, t, r.above)
