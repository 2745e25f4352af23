-- Members of mapped lists, and the entry of an attempt.
use Rattle.std.proofs.Common.{◌≡◌, ℕ, zero, suc, List, [], ◌∷◌, map, refl, sym}
use Rattle.std.specs.Prelude.{Option, Some, None}
use mathlib.Core.Option.{some, some-ne-none, some-injective}
use lib.ListN.{get_elem?}
pub use Rattle.atomic_table.proofs.Lists.{at_index, at_longer, at_map, drop_at}
use Rattle.rl_store.specs.declared.view.Attempt.{Attempt}
use Rattle.rl_store.specs.Entries.{In, Entry, drawn_entry, of_attempt}

pub in_map : {A B : Type 0} (f : A → B) (xs : List A) (k : ℕ) (y : B) → get_elem? (map f xs) k ≡ some y → (x : A) × In x xs × (f x ≡ y)
in_map f [] k y e = absurd (some-ne-none y (sym e))
in_map f (x ∷ xs) zero y e = (x, (0, refl), some-injective _ _ e)
in_map f (x ∷ xs) (suc k) y e = let z = in_map f xs k y e in (z.0, (suc z.1.0, z.1.1), z.2)

pub drawn_case : (a : Attempt) (d : Option ℕ) (k : ℕ) (f : Entry) → get_elem? (drawn_entry a d) k ≡ some f → (t : ℕ) × (d ≡ Some t) × (of_attempt a t ≡ f)
drawn_case a None k f e = absurd (some-ne-none f (sym e))
drawn_case a (Some t) zero f e = (t, refl, some-injective _ _ e)
drawn_case a (Some t) (suc k) f e = absurd (some-ne-none f (sym e))
