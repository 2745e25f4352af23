-- Functions that change at one number.
use Rattle.std.proofs.Common.{◌≡◌, ◌≢◌, ℕ, refl, inl, inr, eq-eqb, ne_eqb}
use Rattle.std.proofs.lemmas.Bool.{cases_eq}
use Rattle.rl_base.specs.Lists.{updated}

-- what holds of the new value at i, and of the old ones elsewhere, holds everywhere
pub by_updated : {A : Type 0} (P : A → Type 0) (f : ℕ → A) (i : ℕ) (x : A) (j : ℕ) → (j ≡ i → P x) → (j ≢ i → P (f j)) → P (updated f i x j)
by_updated P f i x j here there =
    elim (cases_eq j i) [ inl e ↦ rw (eq-eqb j i e) (here e) | inr e ↦ rw (ne_eqb j i e) (there e) ]

pub updated_same : {A : Type 0} (f : ℕ → A) (i : ℕ) (x : A) → updated f i x i ≡ x
updated_same f i x = rw (eq-eqb i i refl)

pub updated_other : {A : Type 0} (f : ℕ → A) (i : ℕ) (x : A) (j : ℕ) → j ≢ i → updated f i x j ≡ f j
updated_other f i x j n = rw (ne_eqb j i n)
