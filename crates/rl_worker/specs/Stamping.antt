-- The stamps with which the records of an epoch open.
use Rattle.std.specs.Prelude.{ℕ, ◌^◌, ◌<◌, Bool, List, [], ◌∷◌, map, length, sum, slice_index, ◌==◌, if◌then◌else◌, All}
use Rattle.std.specs.List.{list_any, range_with_len}
use Rattle.rl_base.specs.Stamps.{packed}
use Rattle.rl_tables.specs.Numbers.{record_of}
use Rattle.rl_txn.specs.declared.item.Item.{Item}
use Rattle.rl_txn.specs.declared.write.Write.{Write}

-- the records that an item writes are there
abbrev pub WritesAreThere : (sizes : List ℕ) → Item → Type 0
WritesAreThere sizes item =
    All (λ (w : Write). (w.table < length sizes) × (w.key < slice_index sizes w.table)) item.writes

-- an item's stamp has an epoch and a seq in range
abbrev pub HasStamp : Item → Type 0
HasStamp item = (item.stamp.epoch < 2 ^ 20) × (item.stamp.seq < 2 ^ 40)

-- whether a write is of record r
abbrev pub is_at : (sizes : List ℕ) → (r : ℕ) → Write → Bool
is_at sizes r w = record_of sizes w.table w.key == r

-- the stamp of record r after an item, where it was n before
abbrev pub stamp_after : (sizes : List ℕ) → (r n : ℕ) → Item → ℕ
stamp_after sizes r n item = if list_any (is_at sizes r) item.writes then packed item.stamp else n

-- the stamp of the last of some items that writes record r, or n where none does
abbrev pub last_stamp : (sizes : List ℕ) → (r n : ℕ) → List Item → ℕ
last_stamp sizes r n [] = n
last_stamp sizes r n (item ∷ items) = last_stamp sizes r (stamp_after sizes r n item) items

-- each record's stamp after an opening list: that of the last item that writes it, or 0
abbrev pub opening_stamps : (sizes : List ℕ) → List Item → List ℕ
opening_stamps sizes items = map (λ r. last_stamp sizes r 0 items) (range_with_len 0 (sum sizes))
