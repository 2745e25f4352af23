-- Members of a list, by cases.
use Rattle.std.proofs.Common.{◌≡◌, ◌⊎◌, ℕ, zero, suc, ◌<◌, List, [], ◌∷◌, ◌++◌, length, get_or, map, All, Contains, Bool, true, false, refl, sym, ap, ◌∙◌, subst, arith, inl, inr, true≢false}
use Rattle.std.specs.List.{filter, list_any}
use Rattle.std.proofs.lemmas.Bool.{cases_Bool, or_parts, or_cases, or_left, or_right, or_from}

-- x is a member: the first, or one of the rest
abbrev pub In : {X : Type 0} → X → List X → Type 0
In x [] = ⊥
In x (y ∷ ys) = (x ≡ y) ⊎ In x ys

pub in_contains : {X : Type 0} (xs : List X) (x : X) → In x xs → Contains xs x
in_contains [] x i = absurd i
in_contains (y ∷ ys) x i = elim i [
  | inl e ↦ (0, omega arith, sym e)
  | inr j ↦ (let k = in_contains ys x j in (suc k.0, omega (arith, k.1), k.2))
]

pub contains_in : {X : Type 0} (xs : List X) (x : X) → Contains xs x → In x xs
contains_in {X} xs x c = go xs c.0 c.1 c.2
  where
    go : (ys : List X) (k : ℕ) → k < length ys → get_or ys k x ≡ x → In x ys
    go [] k l e = absurd (omega arith)
    go (y ∷ ys) zero l e = inl (sym e)
    go (y ∷ ys) (suc k) l e = inr (go ys k (omega arith) e)

-- ---- of two lists, one behind the other ----
pub in_prefix : {A : Type 0} (xs ys : List A) (x : A) → In x xs → In x (xs ++ ys)
in_prefix [] ys x i = absurd i
in_prefix (y ∷ xs) ys x i = elim i [ inl e ↦ inl e | inr j ↦ inr (in_prefix xs ys x j) ]

pub in_suffix : {A : Type 0} (xs ys : List A) (x : A) → In x ys → In x (xs ++ ys)
in_suffix [] ys x i = i
in_suffix (y ∷ xs) ys x i = inr (in_suffix xs ys x i)

pub in_split : {A : Type 0} (xs ys : List A) (x : A) → In x (xs ++ ys) → In x xs ⊎ In x ys
in_split [] ys x i = inr i
in_split (y ∷ xs) ys x i = elim i [
  | inl e ↦ inl (inl e)
  | inr j ↦ elim (in_split xs ys x j) [ inl k ↦ inl (inr k) | inr k ↦ inr k ]
]

-- ---- what all members are, and where they go ----
pub all_in : {X : Type 0} (P : X → Type 0) (xs : List X) → All P xs → (x : X) → In x xs → P x
all_in P [] h x i = absurd i
all_in P (y ∷ ys) h x i = elim i [ inl e ↦ subst P (sym e) (h 0 y (omega arith)) | inr j ↦ all_in P ys (λ k d l. h (suc k) d (omega arith)) x j ]

pub in_map : {X Y : Type 0} (f : X → Y) (x : X) (xs : List X) → In x xs → In (f x) (map f xs)
in_map f x [] i = absurd i
in_map f x (y ∷ ys) i = elim i [ inl e ↦ inl (ap f e) | inr j ↦ inr (in_map f x ys j) ]

pub map_in : {X Y : Type 0} (f : X → Y) (y : Y) (xs : List X) → In y (map f xs) → (x : X) × In x xs × (f x ≡ y)
map_in f y [] i = absurd i
map_in f y (x ∷ xs) i = elim i [ inl e ↦ (x, inl refl, sym e) | inr j ↦ (let k = map_in f y xs j in (k.0, inr k.1, k.2)) ]

-- ---- members that pass a test ----
pub in_filter : {X : Type 0} (f : X → Bool) (x : X) (ys : List X) → In x (filter f ys) → In x ys × (f x ≡ true)
in_filter f x [] i = absurd i
in_filter f x (y ∷ ys) i = elim (cases_Bool (f y)) [
  | inl t ↦ elim (rw t at i) [ inl e ↦ (inl e, ap f e ∙ t) | inr j ↦ (let k = in_filter f x ys j in (inr k.0, k.1)) ]
  | inr t ↦ (let k = in_filter f x ys (rw t at i) in (inr k.0, k.1))
]

pub filter_in : {X : Type 0} (f : X → Bool) (x : X) (ys : List X) → In x ys → f x ≡ true → In x (filter f ys)
filter_in f x [] i h = absurd i
filter_in f x (y ∷ ys) i h = elim (cases_Bool (f y)) [
  | inl t ↦ rw t (elim i [ inl e ↦ inl e | inr j ↦ inr (filter_in f x ys j h) ])
  | inr t ↦ rw t (elim i [ inl e ↦ absurd (true≢false (sym h ∙ ap f e ∙ t)) | inr j ↦ filter_in f x ys j h ])
]

-- ---- tests of some member ----
pub any_true : {X : Type 0} (f : X → Bool) (xs : List X) (x : X) → In x xs → f x ≡ true → list_any f xs ≡ true
any_true f [] x i h = absurd i
any_true f (y ∷ ys) x i h = elim i [
  | inl e ↦ or_left (f y) (list_any f ys) (ap f (sym e) ∙ h)
  | inr j ↦ or_right (f y) (list_any f ys) (any_true f ys x j h)
]

pub any_false : {X : Type 0} (f : X → Bool) (xs : List X) → ((x : X) → In x xs → f x ≡ false) → list_any f xs ≡ false
any_false f [] h = refl
any_false f (y ∷ ys) h = or_from (f y) (list_any f ys) (h y (inl refl)) (any_false f ys (λ x i. h x (inr i)))

pub false_any : {X : Type 0} (f : X → Bool) (xs : List X) → list_any f xs ≡ false → (x : X) → In x xs → f x ≡ false
false_any f [] h x i = absurd i
false_any f (y ∷ ys) h x i = let k = or_parts (f y) (list_any f ys) h in elim i [ inl e ↦ ap f e ∙ k.0 | inr j ↦ false_any f ys k.1 x j ]

pub true_any : {X : Type 0} (f : X → Bool) (xs : List X) → list_any f xs ≡ true → (x : X) × In x xs × (f x ≡ true)
true_any f [] h = absurd (true≢false (sym h))
true_any f (y ∷ ys) h = elim (or_cases (f y) (list_any f ys) h) [
  | inl t ↦ (y, inl refl, t)
  | inr t ↦ (let k = true_any f ys t in (k.0, inr k.1, k.2))
]
