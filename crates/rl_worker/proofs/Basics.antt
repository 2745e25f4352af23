-- Updates of functions, tests, and lists of writes.
use Rattle.std.proofs.Common.{◌≡◌, ◌⊎◌, ℕ, List, [], ◌∷◌, ◌++◌, true, false, Some, None, refl, sym, arith, inl, inr, eq-eqb, true≢false, ◌<◌, ◌≤◌, Bool, nat_lt, if◌then◌else◌, zero, suc, get_or}
use Rattle.std.proofs.lemmas.Bool.Decides.{eqb_tells, nat_tests}
use Rattle.rl_worker.specs.Acts.{resting}
use Rattle.rl_worker.proofs.States.{Install, Phase, Rest, has, row_at}
use Rattle.rl_worker.proofs.OwnLaw.{AllRest}

pub has_append : (r : ℕ) (xs : List Install) (x : Install) → has r (xs ++ x ∷ []) ≡ true → (has r xs ≡ true) ⊎ (r ≡ x.rec)
has_append r [] x h = elim (eqb_tells r x.rec) [ inl e ↦ inr e.1 | inr e ↦ inl (rw e.0 at h) ]
has_append r (y ∷ xs) x h = elim (eqb_tells r y.rec) [ inl e ↦ inl (rw e.0) | inr e ↦ rw e.0 (has_append r xs x (rw e.0 at h)) ]

pub has_append_old : (r : ℕ) (xs : List Install) (x : Install) → has r xs ≡ true → has r (xs ++ x ∷ []) ≡ true
has_append_old r [] x h = absurd (true≢false (sym h))
has_append_old r (y ∷ xs) x h = elim (eqb_tells r y.rec) [ inl e ↦ rw e.0 | inr e ↦ rw e.0 (has_append_old r xs x (rw e.0 at h)) ]

pub has_append_new : (r : ℕ) (xs : List Install) (x : Install) → r ≡ x.rec → has r (xs ++ x ∷ []) ≡ true
has_append_new r [] x e = rw (eq-eqb r x.rec e)
has_append_new r (y ∷ xs) x e = elim (eqb_tells r y.rec) [ inl t ↦ rw t.0 | inr t ↦ rw t.0 (has_append_new r xs x e) ]

pub has_row : (r : ℕ) (xs : List Install) → has r xs ≡ false → row_at r xs ≡ None
has_row r [] h = refl
has_row r (y ∷ xs) h = elim (eqb_tells r y.rec) [ inl t ↦ absurd (true≢false (rw t.0 at h)) | inr t ↦ rw t.0 (has_row r xs (rw t.0 at h)) ]

pub row_has : (r : ℕ) (xs : List Install) (row : List ℕ) → row_at r xs ≡ Some row → has r xs ≡ true
row_has r [] row h = absurd (cc)
row_has r (y ∷ xs) row h = elim (eqb_tells r y.rec) [ inl t ↦ rw t.0 | inr t ↦ rw t.0 (row_has r xs row (rw t.0 at h)) ]

pub has_dec : (r : ℕ) (xs : List Install) → (has r xs ≡ true) ⊎ (has r xs ≡ false)
has_dec r xs = grind arith

-- the two ways of a test
pub by_test : {A : Type 0} (P : A → Type 0) (b : Bool) (x y : A) → (b ≡ true → P x) → (b ≡ false → P y) → P (if b then x else y)
by_test P true x y f g = f refl
by_test P false x y f g = g refl

pub test_lt : (a b : ℕ) → nat_lt a b ≡ true → a < b
test_lt a b h = grind (arith, nat_tests)

pub test_ge : (a b : ℕ) → nat_lt a b ≡ false → b ≤ a
test_ge a b h = grind (arith, nat_tests)

-- each of these workers is at rest
pub rest_at : (ps : List Phase) (w : ℕ) → AllRest ps → resting (get_or ps w (Rest 0)) ≡ true
rest_at [] w h = refl
rest_at (p ∷ ps) zero h = h.0
rest_at (p ∷ ps) (suc w) h = rest_at ps w h.1
