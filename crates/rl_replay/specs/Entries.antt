-- The entries of a log, one after another, as a replica goes over them.
use Rattle.std.specs.Prelude.{ℕ, List, [], ◌∷◌, map, slice_get, Option, Some, None}
use Rattle.std.specs.List.{flat_map}
use Rattle.rl_base.specs.declared.stamp.Stamp.{Stamp}
use Rattle.rl_txn.specs.declared.item.Item.{Item}
use Rattle.rl_txn.specs.declared.batch.Batch.{Batch}
use Rattle.rl_txn.specs.declared.batch.Batch.TheVariants.{Items, Idle, Opened}

-- an entry: an item, or a mark, which has a stamp alone
pub record Entry : Type 0 where
  pub stamp : Stamp
  pub item : Option Item

-- the entry of an item
abbrev pub item_entry : Item → Entry
item_entry x = record { stamp = x.stamp; item = Some x }

-- the entry of a mark
abbrev pub mark_entry : Stamp → Entry
mark_entry s = record { stamp = s; item = None }

-- the entries of a batch
abbrev pub entries_of : Batch → List Entry
entries_of (Items items) = map item_entry items
entries_of (Idle stamp) = mark_entry stamp ∷ []
entries_of (Opened stamp) = mark_entry stamp ∷ []

-- the entries of a log
abbrev pub entries : List Batch → List Entry
entries log = flat_map entries_of log

-- the entry of a number, counted from 0
abbrev pub entry_at : List Batch → ℕ → Option Entry
entry_at log n = slice_get (entries log) n
