-- Lists of which the first elements are changed, and lists by their elements.
use Rattle.std.proofs.Common.{◌≡◌, ℕ, zero, suc, ◌+◌, ◌<◌, ◌≤◌, List, [], ◌∷◌, ◌++◌, length, map, All, get_or, refl, sym, ap, ◌∙◌, arith}
use lib.ListN.{set}

-- the first i elements are changed
abbrev pub firsts : {A : Type 0} (f : A → A) (i : ℕ) (xs : List A) → List A
firsts f zero xs = xs
firsts f (suc i) [] = []
firsts f (suc i) (x ∷ xs) = f x ∷ firsts f i xs

pub firsts_length : {A : Type 0} (f : A → A) (i : ℕ) (xs : List A) → length (firsts f i xs) ≡ length xs
firsts_length f zero xs = refl
firsts_length f (suc i) [] = refl
firsts_length f (suc i) (x ∷ xs) = ap (λ n. suc n) (firsts_length f i xs)

-- the next one is as it was
pub firsts_next : {A : Type 0} (f : A → A) (i : ℕ) (xs : List A) (d : A) → get_or (firsts f i xs) i d ≡ get_or xs i d
firsts_next f zero xs d = refl
firsts_next f (suc i) [] d = refl
firsts_next f (suc i) (x ∷ xs) d = firsts_next f i xs d

-- and is changed
pub firsts_more : {A : Type 0} (f : A → A) (i : ℕ) (xs : List A) (x y : A) → i < length xs → get_or xs i x ≡ x → y ≡ f x → set (firsts f i xs) i y ≡ firsts f (suc i) xs
firsts_more f zero [] x y l e c = absurd (omega arith)
firsts_more f zero (z ∷ xs) x y l e c = ap (λ w. w ∷ xs) (c ∙ ap f (sym e))
firsts_more f (suc i) [] x y l e c = absurd (omega arith)
firsts_more f (suc i) (z ∷ xs) x y l e c = ap (λ w. f z ∷ w) (firsts_more f i xs x y (omega arith) e c)

pub one_more : (i : ℕ) → suc i ≡ i + 1
one_more i = omega arith

-- in the end all are
pub firsts_all : {A : Type 0} (f : A → A) (i : ℕ) (xs : List A) → length xs ≤ i → firsts f i xs ≡ map f xs
firsts_all f zero [] l = refl
firsts_all f zero (x ∷ xs) l = absurd (omega arith)
firsts_all f (suc i) [] l = refl
firsts_all f (suc i) (x ∷ xs) l = ap (λ w. f x ∷ w) (firsts_all f i xs (omega arith))

-- ---- all elements ----
pub all_map : {A B : Type 0} (P : B → Type 0) (f : A → B) (xs : List A) → All (λ a. P (f a)) xs → All P (map f xs)
all_map P f [] h k d l = absurd (omega arith)
all_map P f (x ∷ xs) h zero d l = h 0 x (omega arith)
all_map P f (x ∷ xs) h (suc k) d l = all_map P f xs (λ j e m. h (suc j) e (omega arith)) k d (omega arith)

pub all_so : {A : Type 0} (P Q : A → Type 0) → ((a : A) → P a → Q a) → (xs : List A) → All P xs → All Q xs
all_so P Q f xs h k d l = f (get_or xs k d) (h k d l)

pub map_more : {A B : Type 0} (f : A → B) (xs : List A) (x : A) → map f (xs ++ x ∷ []) ≡ map f xs ++ f x ∷ []
map_more f [] x = refl
map_more f (y ∷ ys) x = ap (λ w. f y ∷ w) (map_more f ys x)

pub map_twice : {A B C : Type 0} (g : B → C) (f : A → B) (xs : List A) → map g (map f xs) ≡ map (λ x. g (f x)) xs
map_twice g f [] = refl
map_twice g f (x ∷ xs) = ap (λ w. g (f x) ∷ w) (map_twice g f xs)

pub map_long : {A B : Type 0} (f : A → B) (xs : List A) → length (map f xs) ≡ length xs
map_long f [] = refl
map_long f (x ∷ xs) = ap (λ n. suc n) (map_long f xs)
