use Rattle.std.proofs.Common.{◌≡◌, ℕ, ◌<◌, length, List, Some, None, sym, subst}
use Rattle.std.specs.FinMap as finite
use Rattle.rl_value.specs.Fits.{RowsFit}
use Rattle.rl_value.specs.Rows.{place_cmp}
use Rattle.rl_value.specs.Tables.{Table, size_of, columns_of}
use Rattle.rl_core_tests.proofs.leader.opened.Goals as goal

-- no rows fit any tables
no_rows_fit : (tables : List Table) → RowsFit tables finite.empty
no_rows_fit tables t k row e = none (finite.get-empty place_cmp (t, k)) e
  where
    none : finite.get (finite.empty {K = ℕ × ℕ} {X = List ℕ} {R = place_cmp}) (t, k) ≡ None → finite.get (finite.empty {K = ℕ × ℕ} {X = List ℕ} {R = place_cmp}) (t, k) ≡ Some row → (t < length tables) × (k < size_of tables t) × (length row ≡ columns_of tables t)
    none n s = absurd (cc)

pub at-requires-clause-rows : goal.at-requires-clause-rows
at-requires-clause-rows c = subst (RowsFit c.declare.new.self) (sym c.new-map.ensures) (no_rows_fit c.declare.new.self)
