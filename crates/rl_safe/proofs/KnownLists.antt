-- Lists of what stands at numbers, and prefixes of them.
use Rattle.std.proofs.Common.{◌≡◌, ℕ, zero, suc, ◌+◌, ◌-◌, ◌≤◌, ◌<◌, List, [], ◌∷◌, ◌++◌, length, get_or, set, take, map, true, nat_le, refl, ap, ap₂, sym, ◌∙◌, subst, arith, inl, inr}
use Rattle.std.proofs.lemmas.Bool.{cases_eq, and_parts, leb-true}
use Rattle.std.proofs.lemmas.List.{map-append, take_at, length-take-le}
use Rattle.std.proofs.lemmas.List.Elements.{filter_map-append}
use Rattle.std.specs.List.{range_with_len, AllZip}
use Rattle.rl_base.specs.Lists.{IsPrefix}
use Rattle.rl_base.proofs.Members.{In}
use Rattle.rl_paxos.specs.Logs as bytes
use Rattle.rl_paxos.specs.Quorums.{is_node}
use Rattle.rl_txn.specs.declared.batch.Batch.{Batch}
use Rattle.rl_families.specs.Leaders.{logs_of_streams}
use Rattle.rl_nodes.specs.Batches.{batch_of, batches_of}
use Rattle.rl_nodes.proofs.Deliveries.{in_range}

-- ---- at one place ----

-- what holds of what was set, and of what stood there
pub by_set : {A : Type 0} (P : A → Type 0) (xs : List A) (i j : ℕ) (v d : A) → (j ≡ i → P v) → P (get_or xs j d)
    → P (get_or (set xs i v) j d)
by_set P [] i j v d h k = k
by_set P (x ∷ xs) zero zero v d h k = h refl
by_set P (x ∷ xs) zero (suc j) v d h k = k
by_set P (x ∷ xs) (suc i) zero v d h k = k
by_set P (x ∷ xs) (suc i) (suc j) v d h k = by_set P xs i j v d (λ e. h (ap suc e)) k

-- ---- numbers from one on ----

in_from : (a n k : ℕ) → a ≤ k → k < a + n → In k (range_with_len a n)
in_from a zero k low high = absurd (omega (arith, low, high))
in_from a (suc n) k low high = elim (cases_eq k a) [
  | inl e ↦ inl e
  | inr m ↦ inr (in_from (a + 1) n k (omega (arith, low, m)) (omega (arith, high)))
]

pub node_low : (n k : ℕ) → is_node n k ≡ true → 1 ≤ k
node_low n k h = leb-true 1 k (and_parts (nat_le 1 k) (nat_le k n) h).0

pub node_high : (n k : ℕ) → is_node n k ≡ true → k ≤ n
node_high n k h = leb-true k n (and_parts (nat_le 1 k) (nat_le k n) h).1

pub numbers_in : (n k : ℕ) → is_node n k ≡ true → In k (range_with_len 1 n)
numbers_in n k h = let high = node_high n k h in in_from 1 n k (node_low n k h) (omega (arith, high))

pub range_length : (a n : ℕ) → length (range_with_len a n) ≡ n
range_length a zero = refl
range_length a (suc n) = ap suc (range_length (a + 1) n)

-- ---- functions of numbers ----

pub map_length : {A : Type 0} (f : ℕ → A) (ks : List ℕ) → length (map f ks) ≡ length ks
map_length f [] = refl
map_length f (k ∷ ks) = ap suc (map_length f ks)

pub map_same : {A : Type 0} (f h : ℕ → A) (ks : List ℕ) → ((k : ℕ) → In k ks → f k ≡ h k) → map f ks ≡ map h ks
map_same f h [] e = refl
map_same f h (k ∷ ks) e = ap₂ ◌∷◌ (e k (inl refl)) (map_same f h ks (λ j i. e j (inr i)))

pub map_inside : {A : Type 0} (f h : ℕ → List A) (ks : List ℕ) → ((k : ℕ) → In k ks → IsPrefix (f k) (h k))
    → AllZip IsPrefix (map f ks) (map h ks)
map_inside f h [] p = tt
map_inside f h (k ∷ ks) p = (p k (inl refl), map_inside f h ks (λ j i. p j (inr i)))

-- what is made of each element is made of what stands at each place
pub map_places : {A B : Type 0} (f : A → B) (d : A) (xs : List A) (a : ℕ)
    → map f xs ≡ map (λ s. f (get_or xs (s - a) d)) (range_with_len a (length xs))
map_places f d [] a = refl
map_places f d (x ∷ xs) a = ap₂ ◌∷◌ (ap (λ i. f (get_or (x ∷ xs) i d)) (none_left a))
    (map_places f d xs (a + 1) ∙ map_same (λ s. f (get_or xs (s - (a + 1)) d)) (λ s. f (get_or (x ∷ xs) (s - a) d))
    (range_with_len (a + 1) (length xs))
    (λ s i. ap (λ j. f (get_or (x ∷ xs) j d)) (one_less a s (in_range (a + 1) (length xs) s i).0)))
  where
    none_left : (a : ℕ) → 0 ≡ a - a
    none_left a = omega arith

    one_less : (a s : ℕ) → a + 1 ≤ s → suc (s - (a + 1)) ≡ s - a
    one_less a s h = omega arith

range_last : (a n : ℕ) → range_with_len a (suc n) ≡ range_with_len a n ++ (a + n) ∷ []
range_last a zero = ap (λ k. k ∷ []) (same a)
  where
    same : (a : ℕ) → a ≡ a + 0
    same a = omega arith
range_last a (suc n) = ap (λ ks. a ∷ ks) (range_last (a + 1) n ∙ ap (λ k. range_with_len (a + 1) n ++ k ∷ []) (moved a n))
  where
    moved : (a n : ℕ) → (a + 1) + n ≡ a + suc n
    moved a n = omega arith

-- the logs of streams 1 to n
pub logs_are : (n : ℕ) (f : ℕ → List Batch) → map f (range_with_len 1 n) ≡ logs_of_streams n f
logs_are zero f = refl
logs_are (suc n) f =
    ap (map f) (range_last 1 n) ∙ map-append f (range_with_len 1 n) ((1 + n) ∷ [])
    ∙ ap (λ xs. xs ++ f (1 + n) ∷ []) (logs_are n f) ∙ ap (λ k. logs_of_streams n f ++ f k ∷ []) (next n)
  where
    next : (n : ℕ) → 1 + n ≡ suc n
    next n = omega arith

-- ---- prefixes ----

-- a list that has the elements of another begins with it
pub prefix_from : {A : Type 0} (d : A) (xs ys : List A) → ((i : ℕ) → i < length xs → (i < length ys) × (get_or ys i d ≡ get_or xs i d))
    → IsPrefix xs ys
prefix_from d [] ys h = (ys, refl)
prefix_from d (x ∷ xs) [] h = absurd (let k = h 0 (omega arith) in omega (arith, k.0))
prefix_from d (x ∷ xs) (y ∷ ys) h =
    let rest = prefix_from d xs ys (λ i l. let k = h (suc i) (omega (arith, l)) in (omega (arith, k.0), k.1)) in
    (rest.0, ap₂ ◌∷◌ (sym (h 0 (omega arith)).1) rest.1)

-- a shorter and a longer front of one list
pub fronts : {A : Type 0} (n m : ℕ) (xs : List A) → n ≤ m → IsPrefix (take n xs) (take m xs)
fronts zero m xs h = (take m xs, refl)
fronts (suc n) zero xs h = absurd (omega arith)
fronts (suc n) (suc m) [] h = ([], refl)
fronts (suc n) (suc m) (x ∷ xs) h = let k = fronts n m xs (omega arith) in (k.0, ap (λ ys. x ∷ ys) k.1)

pub front : {A : Type 0} (n : ℕ) (xs : List A) → IsPrefix (take n xs) xs
front zero xs = (xs, refl)
front (suc n) [] = ([], refl)
front (suc n) (x ∷ xs) = let k = front n xs in (k.0, ap (λ ys. x ∷ ys) k.1)

pub front_short : {A : Type 0} (n : ℕ) (xs : List A) → length (take n xs) ≤ n
front_short zero xs = omega arith
front_short (suc n) [] = omega arith
front_short (suc n) (x ∷ xs) = let k = front_short n xs in omega (arith, k)

-- a list that begins with a front has the same front
pub front_stays : {A : Type 0} (n : ℕ) (xs ys : List A) → n ≤ length xs → IsPrefix (take n xs) ys
    → (n ≤ length ys) × (take n ys ≡ take n xs)
front_stays {A} n xs ys h p =
    subst (λ zs. (n ≤ length zs) × (take n zs ≡ take n xs)) p.1
    (long (take n xs) p.0 n (length-take-le n xs h), take_at (take n xs) p.0 n (length-take-le n xs h))
  where
    long : (us vs : List A) (n : ℕ) → length us ≡ n → n ≤ length (us ++ vs)
    long [] vs n e = omega (arith, e)
    long (u ∷ us) vs zero e = omega arith
    long (u ∷ us) vs (suc n) e = let k = long us vs n (omega (arith, e)) in omega (arith, k)

-- a longer log of bytes has more batches
pub batches_begin : (log longer : bytes.Log) → IsPrefix log longer → IsPrefix (batches_of log) (batches_of longer)
batches_begin log longer p = (batches_of p.0, sym (filter_map-append batch_of log p.0) ∙ ap batches_of p.1)
