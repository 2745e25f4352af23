-- What a family keeps beside its logs. No public contract cites it.
use Rattle.std.specs.Prelude.{◌≡◌, true, ℕ, ◌<◌, ◌≤◌, List, [], Bool, ◌&&◌, ◌||◌, ◌==◌, if◌then◌else◌, not, nat_lt, nat_le, map, length, take, slice_index_or, slice_index, All, AllPairs}
use Rattle.std.specs.Option.{option_map_or}
use Rattle.rl_base.specs.declared.stamp.Stamp.{Stamp}
use Rattle.rl_txn.specs.declared.item.Item.{Item}
use Rattle.rl_txn.specs.declared.batch.Batch.{Batch}
use Rattle.rl_families.specs.Logs.{stamps_along, last_stamp, last_seq_among}
use Rattle.rl_families.specs.Families.{least, AllRise, IsInside, watermark, history}
use Rattle.rl_families.specs.Laws.{is_up_to_watermark}
use Rattle.rl_cut.specs.declared.family.Family.TheInside.{Inside}

-- the last stamps of the epochs among some stamps: they have the same last stamp, and the same
-- greatest seq of each epoch
pub record AreLastOf (stamps lasts : List Stamp) : Type 0 where
  pub last : last_stamp lasts ≡ last_stamp stamps
  pub seqs : (epoch : ℕ) → last_seq_among lasts epoch ≡ last_seq_among stamps epoch

-- one stamp for each epoch, by rising epoch
abbrev pub AreByEpoch : List Stamp → Type 0
AreByEpoch stamps = AllPairs (λ s t. s.epoch < t.epoch) stamps

-- the epoch of the last of some stamps, or 0
abbrev pub last_epoch : List Stamp → ℕ
last_epoch stamps = option_map_or (λ s. s.epoch) (last_stamp stamps) 0

-- the least of the last epochs
abbrev pub least_epoch : List (List Stamp) → ℕ
least_epoch reached = least (map last_epoch reached)

-- the least of the greatest seqs of an epoch
abbrev pub least_seq : List (List Stamp) → (epoch : ℕ) → ℕ
least_seq reached epoch = least (map (λ lasts. last_seq_among lasts epoch) reached)

-- how far all streams have come: the watermark
abbrev pub mark_of : List (List Stamp) → ℕ × ℕ
mark_of reached =
    (least_epoch reached, (if least_epoch reached == 0 then 0 else least_seq reached (least_epoch reached)))

-- the bounds of the epochs below one that all streams have come to, as a stamp for each
pub record AreSettled (reached : List (List Stamp)) (top : ℕ) (settled : List Stamp) : Type 0 where
  pub epochs : AreByEpoch settled
  pub below : All (λ s. s.epoch < top) settled
  pub bounds : (epoch : ℕ) → epoch < top
      → last_seq_among settled epoch ≡ least_seq reached epoch

-- a stamp counts at a watermark, and did not at an earlier one: in the watermark's epoch up to it,
-- and in an earlier epoch up to the bound that was settled
abbrev pub counts_now : (before now : ℕ × ℕ) → (settled : List Stamp) → Stamp → Bool
counts_now before now settled s =
    (nat_lt 0 s.epoch && not (is_up_to_watermark before s))
    && (is_up_to_watermark now s && ((s.epoch == now.0) || nat_le s.seq (last_seq_among settled s.epoch)))

-- the first batches of a log are wholly up to a watermark
pub record AreUpTo (mark : ℕ × ℕ) (log : List Batch) (count : ℕ) : Type 0 where
  pub within : count ≤ length log
  pub up_to : All (λ s. is_up_to_watermark mark s ≡ true) (stamps_along (take count log))

-- what is kept of each stream fits its log: its last stamps, the bounds of the epochs below the
-- watermark's, and how many first batches are wholly up to the watermark
pub record FitsLogs (logs : List (List Batch)) (lasts : List (List Stamp)) (bounds : List Stamp)
    (counts : List ℕ) (m : ℕ × ℕ) : Type 0 where
  pub rising : AllRise logs
  pub streams : length lasts ≡ length logs
  pub places : length counts ≡ length logs
  pub reached : (i : ℕ) → AreLastOf (stamps_along (slice_index_or logs i [])) (slice_index_or lasts i [])
  pub epochs : All AreByEpoch lasts
  pub settled : AreSettled lasts m.0 bounds
  pub counted : (i : ℕ) → AreUpTo m (slice_index_or logs i []) (slice_index counts i)

-- what a family keeps of its logs
pub record Keeps (logs : List (List Batch)) (lasts : List (List Stamp)) (bounds : List Stamp)
    (counts : List ℕ) (m : ℕ × ℕ) (items : List Item) : Type 0 where
  pub fits : FitsLogs logs lasts bounds counts m
  pub mark : m ≡ watermark logs
  pub history : items ≡ history logs

-- the same where the logs have grown since
pub record HasGrown (logs : List (List Batch)) (lasts : List (List Stamp)) (bounds : List Stamp)
    (counts : List ℕ) (m : ℕ × ℕ) (items : List Item) : Type 0 where
  pub fits : FitsLogs logs lasts bounds counts m
  pub rises : m.0 ≤ least_epoch lasts
  pub smaller : List (List Batch)
  pub inside : IsInside smaller logs
  pub mark : m ≡ watermark smaller
  pub history : items ≡ history smaller

-- what is true of the fields of every family
abbrev pub IsKept : Inside → Type 0
IsKept f = Keeps f.logs.items f.reached.items f.settled.items f.counted.items f.mark f.history
