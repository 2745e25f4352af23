-- Where lists differ. No public contract cites it.
use Rattle.std.specs.Prelude.{◌≡◌, ◌≢◌, List, ◌∷◌, ◌++◌, slice_get, Some}

-- a list begins with some of those due, and then another comes than the next: this is left of it
pub record Differ {X : Type 0} (due xs left : List X) : Type 0 where
  pub same : List X
  pub next : X
  pub more : List X
  pub of_list : xs ≡ same ++ left
  pub of_due : due ≡ same ++ next ∷ more
  pub differ : slice_get left 0 ≢ Some next
