-- Record numbers and places are each other's inverse, whatever the sizes of the tables.
use Rattle.std.specs.Prelude.{◌≡◌, ℕ, ◌<◌, List, length, sum, slice_index}
use Rattle.rl_tables.specs.Numbers.{record_of, place_of, IsPlace}

-- the record of a key has that key's place
abbrev pub RecordsHaveTheirPlaces : Type 0
RecordsHaveTheirPlaces = (sizes : List ℕ) (t k : ℕ) → t < length sizes → k < slice_index sizes t
    → place_of sizes (record_of sizes t k) ≡ (t, k)

-- the place of a record is a key that is there, and has that record's number
abbrev pub PlacesHaveTheirRecords : Type 0
PlacesHaveTheirRecords = (sizes : List ℕ) (rec : ℕ) → rec < sum sizes
    → IsPlace sizes rec (place_of sizes rec).0 (place_of sizes rec).1

-- the record of a key is one of all records
abbrev pub RecordsAreThere : Type 0
RecordsAreThere = (sizes : List ℕ) (t k : ℕ) → t < length sizes → k < slice_index sizes t
    → record_of sizes t k < sum sizes
