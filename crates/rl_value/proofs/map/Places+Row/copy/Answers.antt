use Rattle.std.proofs.Common.{◌≡◌, ℕ, List, ap, ◌∙◌}
use Rattle.std.specs.FinMap as map
use Rattle.std.proofs.lemmas.Map.Entries.{entries_from_clone}
use Rattle.rl_value.specs.Rows.{place_cmp}
use Rattle.rl_value.proofs.map.Places+Row.copy.Goals as goal

same_pair : (x y : ℕ × ℕ) → y.0 ≡ x.0 → y.1 ≡ x.1 → y ≡ x
same_pair x y first second = ap (λ (a : ℕ). (a, y.1)) first ∙ ap (λ (b : ℕ). (x.0, b)) second

pub returns : goal.returns
returns c =
    ap (map.from_entries {R = place_cmp}) (entries_from_clone {K = ℕ × ℕ} {X = List ℕ} _ _ (λ x y same. same_pair x y same.0 same.1) (λ v w same. same) _ _ c.in_ok-clone.ensures.cases) ∙ c.self.view_is
