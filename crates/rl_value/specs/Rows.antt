-- The rows of all tables: a finite map from a place, which is a table and a key in it.
use Rattle.std.specs.Prelude.{ℕ, List}
use Rattle.std.specs.Ordering.{nat_cmp, ordering_then}
use Rattle.std.specs.declared.cmp.Ordering.{Ordering}
use Rattle.std.specs.FinMap.{FinMap}

-- places are ordered by table, then by key, as record numbers are
abbrev pub place_cmp : ℕ × ℕ → ℕ × ℕ → Ordering
place_cmp x y = ordering_then (nat_cmp x.0 y.0) (nat_cmp x.1 y.1)

-- a row at each place that has one
abbrev pub Rows : Type 0
Rows = FinMap place_cmp (List ℕ)
