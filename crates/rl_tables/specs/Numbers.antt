-- Records are numbered table by table, by rising key: one order of all records, as Silo locks them
-- in.
use Rattle.std.specs.Prelude.{◌≡◌, ℕ, ◌+◌, ◌-◌, ◌<◌, List, [], ◌∷◌, length, map, sum, take, slice_index, nat_lt, if◌then◌else◌}
use Rattle.rl_value.specs.Tables.{Table}

-- how many keys each table has
abbrev pub sizes_of : List Table → List ℕ
sizes_of tables = map (λ t. t.size) tables

-- the number of a key's record: the records of the tables before its own, and the key
abbrev pub record_of : List ℕ → ℕ → ℕ → ℕ
record_of sizes t k = sum (take t sizes) + k

-- a record's place from a table on, where the tables before it are skipped
abbrev pub place_from : ℕ → List ℕ → ℕ → ℕ × ℕ
place_from t [] rec = (t, rec)
place_from t (size ∷ sizes) rec = if nat_lt rec size then (t, rec) else place_from (t + 1) sizes (rec - size)

-- the table and the key of a record
abbrev pub place_of : List ℕ → ℕ → ℕ × ℕ
place_of sizes rec = place_from 0 sizes rec

-- a key of a table that is there, with this record number
pub record IsPlace (sizes : List ℕ) (rec t k : ℕ) : Type 0 where
  pub table : t < length sizes
  pub key : k < slice_index sizes t
  pub number : record_of sizes t k ≡ rec
