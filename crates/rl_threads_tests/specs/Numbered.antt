-- Items whose seqs rise by one.
use Rattle.std.specs.Prelude.{◌≡◌, ℕ, ◌+◌, ◌<◌, List, length, slice_index_or}
use Rattle.rl_txn.specs.declared.item.Item.{Item}

-- the seqs are first, first + 1 and so on
abbrev pub IsNumbered : (first : ℕ) (xs : List Item) → Type 0
IsNumbered first xs = (k : ℕ) (d : Item) → k < length xs → (slice_index_or xs k d).stamp.seq ≡ first + k
