-- Quorums that meet.
use Rattle.std.proofs.Common.{◌≡◌, ◌≢◌, ℕ, zero, suc, ◌+◌, ◌<◌, ◌≤◌, List, [], ◌∷◌, ◌++◌, length, Bool, true, false, ◌||◌, ◌==◌, nat_le, if◌then◌else◌, refl, sym, arith, inl, inr, le-leb, eq-eqb, ne_eqb, length-append}
use Rattle.std.proofs.lemmas.Bool.{leb-true, cases_eq, and_parts, cond_both}
use Rattle.rl_paxos.specs.Quorums.{is_node, count, is_quorum}
use Rattle.rl_paxos.specs.Recovery.{Promise, has_promised}

pub node_is : (n a : ℕ) → 1 ≤ a → a ≤ n → is_node n a ≡ true
node_is n a low high = rw (le-leb 1 a low, le-leb a n high) refl

-- by how many pass the one and the other test
shared : (f g : ℕ → Bool) (n : ℕ) → n < count f n + count g n → (a : ℕ) × (1 ≤ a) × (a ≤ n) × (f a ≡ true) × (g a ≡ true)
shared f g zero h = absurd (omega arith)
shared f g (suc n) h = go (f (suc n)) (g (suc n)) refl refl (λ k. let r = shared f g n k in (r.0, r.1, omega (arith, r.2), r.3, r.4))
  where
    go : (x y : Bool) → f (suc n) ≡ x → g (suc n) ≡ y → (n < count f n + count g n → (a : ℕ) × (1 ≤ a) × (a ≤ suc n) × (f a ≡ true) × (g a ≡ true)) → (a : ℕ) × (1 ≤ a) × (a ≤ suc n) × (f a ≡ true) × (g a ≡ true)
    go true true p q ih = (suc n, omega arith, omega arith, p, q)
    go true false p q ih = ih (let k : suc n < ((if f (suc n) then 1 else 0) + count f n) + ((if g (suc n) then 1 else 0) + count g n) = h in let k2 = rw (p, q) at k in omega arith)
    go false true p q ih = ih (let k : suc n < ((if f (suc n) then 1 else 0) + count f n) + ((if g (suc n) then 1 else 0) + count g n) = h in let k2 = rw (p, q) at k in omega arith)
    go false false p q ih = ih (let k : suc n < ((if f (suc n) then 1 else 0) + count f n) + ((if g (suc n) then 1 else 0) + count g n) = h in let k2 = rw (p, q) at k in omega arith)

pub meet : (first second n : ℕ) (f g : ℕ → Bool) → n < first + second → is_quorum first n f ≡ true → is_quorum second n g ≡ true → (a : ℕ) × (is_node n a ≡ true) × (f a ≡ true) × (g a ≡ true)
meet first second n f g h p q =
    let k = shared f g n (omega (arith, leb-true first (count f n) p, leb-true second (count g n) q)) in
    (k.0, node_is n k.0 k.1 k.2, k.3, k.4)

-- ---- how many have promised ----
same_count : (f g : ℕ → Bool) (n : ℕ) → ((a : ℕ) → 1 ≤ a → a ≤ n → f a ≡ g a) → count f n ≡ count g n
same_count f g zero h = refl
same_count f g (suc n) h =
    let e = same_count f g n (λ a low high. h a low (omega arith)) in
    let k : f (suc n) ≡ g (suc n) = h (suc n) (omega arith) (omega arith) in
    rw (k, e) refl

-- one more passes
pub one_more : (f g : ℕ → Bool) (x n : ℕ) → 1 ≤ x → x ≤ n → f x ≡ false → g x ≡ true → ((a : ℕ) → a ≢ x → f a ≡ g a) → count g n ≡ count f n + 1
one_more f g x zero low high out passes others = absurd (omega arith)
one_more f g x (suc n) low high out passes others = elim (cases_eq x (suc n)) [
  | inl e ↦ (
      let out2 : f (suc n) ≡ false = rw e at out in
      let passes2 : g (suc n) ≡ true = rw e at passes in
      let same : count f n ≡ count g n = same_count f g n (λ a l h. others a (omega arith)) in
      rw (out2, passes2) (omega (arith, same)))
  | inr m ↦ (
      let below : x ≤ n = omega (arith, m) in
      let ih : count g n ≡ count f n + 1 = one_more f g x n low below out passes others in
      let k : f (suc n) ≡ g (suc n) = others (suc n) (λ q. m (sym q)) in
      rw k (omega (arith, ih)))
]

at_most : (f : ℕ → Bool) (n : ℕ) → count f n ≤ n
at_most f zero = omega arith
at_most f (suc n) = cond_both (f (suc n)) 1 0 (λ z. z + count f n ≤ suc n) (λ t. omega (arith, at_most f n)) (λ t. omega (arith, at_most f n))

-- where one does not pass, they are not all
pub not_all : (f : ℕ → Bool) (x n : ℕ) → 1 ≤ x → x ≤ n → f x ≡ false → count f n < n
not_all f x zero low high out = absurd (omega arith)
not_all f x (suc n) low high out = elim (cases_eq x (suc n)) [
  | inl e ↦ (let out2 : f (suc n) ≡ false = rw e at out in rw out2 (omega (arith, at_most f n)))
  | inr m ↦ (let below : x ≤ n = omega (arith, m) in
      let ih = not_all f x n low below out in
      cond_both (f (suc n)) 1 0 (λ z. z + count f n < suc n) (λ t. omega (arith, ih)) (λ t. omega (arith, ih)))
]

-- none of out nodes
pub none : (n : ℕ) → count (has_promised []) n ≡ 0
none zero = refl
none (suc n) = omega (arith, none n)

any_append : (xs : List Promise) (p : Promise) (a : ℕ) → has_promised (xs ++ p ∷ []) a ≡ (has_promised xs a || (p.node == a))
any_append [] p a = grind arith
any_append (x ∷ xs) p a = rw (any_append xs p a) (assoc (x.node == a) (has_promised xs a) (p.node == a))
  where
    assoc : (b c d : Bool) → (b || (c || d)) ≡ ((b || c) || d)
    assoc true c d = refl
    assoc false c d = refl

pub is_node_low : (n a : ℕ) → is_node n a ≡ true → 1 ≤ a
is_node_low n a h = leb-true 1 a (and_parts (nat_le 1 a) (nat_le a n) h).0

pub is_node_high : (n a : ℕ) → is_node n a ≡ true → a ≤ n
is_node_high n a h = leb-true a n (and_parts (nat_le 1 a) (nat_le a n) h).1

-- the promises counted are those of as many nodes
abbrev pub EachOnce : (nodes : ℕ) → List Promise → Type 0
EachOnce nodes promises = count (has_promised promises) nodes ≡ length promises

pub once_at_most : (nodes : ℕ) (ps : List Promise) → EachOnce nodes ps → length ps ≤ nodes
once_at_most nodes ps h = omega (arith, at_most (has_promised ps) nodes, h)

pub once_below : (nodes : ℕ) (ps : List Promise) (x : ℕ) → EachOnce nodes ps → is_node nodes x ≡ true → has_promised ps x ≡ false → length ps < nodes
once_below nodes ps x h node out = omega (arith, not_all (has_promised ps) x nodes (is_node_low nodes x node) (is_node_high nodes x node) out, h)

pub counted_once : (nodes : ℕ) (ps : List Promise) (p : Promise) → EachOnce nodes ps → is_node nodes p.node ≡ true → has_promised ps p.node ≡ false → EachOnce nodes (ps ++ p ∷ [])
counted_once nodes ps p h node out =
    let more : count (has_promised (ps ++ p ∷ [])) nodes ≡ count (has_promised ps) nodes + 1 =
    one_more (has_promised ps) (has_promised (ps ++ p ∷ [])) p.node nodes (is_node_low nodes p.node node) (is_node_high nodes p.node node) out
    (rw (any_append ps p p.node, out, eq-eqb p.node p.node refl) refl)
    (λ a m. rw (any_append ps p a, ne_eqb p.node a (λ e. m (sym e))) (right_false (has_promised ps a))) in
    omega (arith, more, h, length-append ps (p ∷ []))
  where
    right_false : (b : Bool) → b ≡ (b || false)
    right_false true = refl
    right_false false = refl
