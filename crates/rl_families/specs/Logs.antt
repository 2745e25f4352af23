-- The stamps and the items along a log.
use Rattle.std.specs.Prelude.{ℕ, max, List, [], ◌∷◌, ◌==◌, map, filter, Option, Some, None, AllPairs}
use Rattle.std.specs.List.{flat_map}
use Rattle.std.specs.Option.{option_map_or}
use Rattle.rl_base.specs.Order.{IsBelow}
use Rattle.rl_base.specs.declared.stamp.Stamp.{Stamp}
use Rattle.rl_txn.specs.declared.item.Item.{Item}
use Rattle.rl_txn.specs.declared.batch.Batch.{Batch}
use Rattle.rl_txn.specs.declared.batch.Batch.TheVariants.{Items, Idle, Opened}

-- the stamps in a batch: those of its items, or that of the mark
abbrev pub stamps_in_batch : Batch → List Stamp
stamps_in_batch (Items items) = map (λ item. item.stamp) items
stamps_in_batch (Idle stamp) = stamp ∷ []
stamps_in_batch (Opened stamp) = stamp ∷ []

-- the items in a batch: a mark has none
abbrev pub items_in_batch : Batch → List Item
items_in_batch (Items items) = items
items_in_batch _ = []

-- all stamps along a log
abbrev pub stamps_along : List Batch → List Stamp
stamps_along log = flat_map stamps_in_batch log

-- all items along a log
abbrev pub items_along : List Batch → List Item
items_along log = flat_map items_in_batch log

-- each stamp is below all that come after it
abbrev pub IsRising : List Stamp → Type 0
IsRising stamps = AllPairs IsBelow stamps

-- the first of some stamps
abbrev pub first_stamp : List Stamp → Option Stamp
first_stamp [] = None
first_stamp (s ∷ ss) = Some s

-- the last of some stamps
abbrev pub last_stamp : List Stamp → Option Stamp
last_stamp [] = None
last_stamp (s ∷ []) = Some s
last_stamp (s ∷ (t ∷ ss)) = last_stamp (t ∷ ss)

-- the greatest of some numbers, and 0 of none
abbrev pub greatest : List ℕ → ℕ
greatest [] = 0
greatest (n ∷ ns) = max n (greatest ns)

-- the epoch of the last stamp of a log, or 0
abbrev pub top_epoch : List Batch → ℕ
top_epoch log = option_map_or (λ s. s.epoch) (last_stamp (stamps_along log)) 0

-- the greatest seq of an epoch among some stamps, or 0
abbrev pub last_seq_among : List Stamp → (epoch : ℕ) → ℕ
last_seq_among stamps epoch = greatest (map (λ s. s.seq) (filter (λ s. s.epoch == epoch) stamps))

-- the greatest seq of an epoch along a log, or 0
abbrev pub last_seq : List Batch → (epoch : ℕ) → ℕ
last_seq log epoch = last_seq_among (stamps_along log) epoch
