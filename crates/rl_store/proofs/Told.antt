-- What the steps of a read tell, in the words of the calls.
use Rattle.std.proofs.Common.{◌≡◌, ◌≢◌, ℕ, ◌%◌, ap, ◌∙◌, arith}
use mathlib.Core.Logic.{dite}
use native.Mathlib.Decide.{ℕ_discrete}
use Rattle.rl_store.specs.declared.view.View.{View}

pub first_tries : (n t : ℕ) (w a c : View) → (n % 2 ≡ 1 → w ≡ a) → (n % 2 ≡ 0 → w ≡ c) → a.tries ≡ t → c.tries ≡ t → w.tries ≡ t
first_tries n t w a c p q s r = dite (ℕ_discrete (n % 2) 1) (λ odd. ap (λ v. v.tries) (p odd) ∙ s) (λ even. ap (λ v. v.tries) (q (omega arith)) ∙ r)

pub again_tries : (n k t : ℕ) (w a c d : View) → (n ≡ k → w ≡ a) → (n ≢ k → n % 2 ≡ 1 → w ≡ c) → (n ≢ k → n % 2 ≡ 0 → w ≡ d) → a.tries ≡ t → c.tries ≡ t → d.tries ≡ t → w.tries ≡ t
again_tries n k t w a c d p q r s u x = dite (ℕ_discrete n k) (λ same. ap (λ v. v.tries) (p same) ∙ s) (λ other. first_tries n t w c d (q other) (r other) u x)
