-- What the words and rows are at the end.
use Rattle.std.specs.Prelude.{◌≡◌, ℕ, ◌<◌, ◌≤◌, ◌⊎◌, List, length, slice_index, Contains, Some, None}
use Rattle.std.specs.FinMap as finite
use Rattle.rl_value.specs.Rows.{Rows}
use Rattle.rl_tables.specs.Numbers.{record_of}
use Rattle.rl_shared_replay.specs.declared.view.Version.{Version}
use Rattle.rl_shared_replay.specs.Layout.{RowOf, Shows}
use Rattle.rl_shared_replay.specs.Rule.{Plan}
use Rattle.rl_shared_replay.specs.Start.{Made, plan_in}

-- the row of r is that of its newest version, or the opening row, under stamp 0
pub record IsNewest (p : Plan) (r : ℕ) (row : RowOf) : Type 0 where
  pub stamp : ℕ
  pub version : ((stamp ≡ 0) × Shows (p.columns r) p.opening r row)
      ⊎ ((x : Version) × Contains p.versions x × (x.rec ≡ r) × (x.stamp ≡ stamp) × (x.row ≡ row))
  pub newest : (x : Version) → Contains p.versions x → x.rec ≡ r → x.stamp ≤ stamp

-- the place is a key of a table that is there
pub record IsKey (sizes : List ℕ) (q : ℕ × ℕ) : Type 0 where
  pub table : q.0 < length sizes
  pub key : q.1 < slice_index sizes q.0

-- each key has its newest row, and no other place has one
pub record IsNewestMap (made : Made) (map : Rows) : Type 0 where
  pub rows : (q : ℕ × ℕ) → IsKey made.sizes q
      → IsNewest (plan_in made) (record_of made.sizes q.0 q.1) (finite.get map q)
  pub none : (q : ℕ × ℕ) → (IsKey made.sizes q → ⊥) → finite.get map q ≡ None

-- a row is put where there is one
abbrev pub put_present : (map : Rows) (q : ℕ × ℕ) (row : RowOf) → Rows
put_present map q None = map
put_present map q (Some row) = finite.insert map q row

-- the rows that the words show at the first n records, each at its key
pub record ReadBelow (sizes columns words : List ℕ) (n : ℕ) (map : Rows) : Type 0 where
  pub rows : (q : ℕ × ℕ) → IsKey sizes q → record_of sizes q.0 q.1 < n
      → (row : RowOf) → Shows (slice_index columns (record_of sizes q.0 q.1)) words (record_of sizes q.0 q.1) row → finite.get map q ≡ row
  pub later : (q : ℕ × ℕ) → IsKey sizes q → n ≤ record_of sizes q.0 q.1 → finite.get map q ≡ None
  pub none : (q : ℕ × ℕ) → (IsKey sizes q → ⊥) → finite.get map q ≡ None
