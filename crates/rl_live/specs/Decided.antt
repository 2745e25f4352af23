-- What the workers of one epoch have decided: items of transactions, beside the items of the epoch's store.
use Rattle.std.specs.Prelude.{◌≡◌, ℕ, ◌^◌, ◌<◌, List, map, sum, slice_index, slice_index_or, None, Contains, IsSomeAnd}
use Rattle.std.specs.FinMap as finite
use Rattle.rl_base.specs.Stamps.{packed}
use Rattle.rl_base.specs.Words.{stamp_in}
use Rattle.rl_value.specs.Rows.{Rows}
use Rattle.rl_value.specs.Tables.{Table}
use Rattle.rl_tables.specs.Numbers.{sizes_of, place_of}
use Rattle.rl_txn.specs.Fits.{ItemFits}
use Rattle.rl_txn.specs.Run.{run}
use Rattle.rl_txn.specs.Serial.{request_of, rows_after}
use Rattle.rl_txn.specs.declared.item.Item.{Item}
use Rattle.rl_txn.specs.declared.op.Op.{Op}
use Rattle.rl_worker.specs.Stamping.{last_stamp}
use Rattle.rl_store.specs.declared.view.Item as store
use Rattle.rl_store.specs.declared.view.Read.{Read}
use Rattle.rl_store.specs.Entries.{In, RowOf}
use Rattle.rl_store.specs.Layout.{Shows, stamp_at}
use Rattle.rl_store.specs.Opening.{Made, opening_of}
use Rattle.rl_occ.specs.Fits.{IsStoreOf}
use Rattle.rl_occ.specs.Outcomes.{write_at}
use Rattle.rl_occ.specs.Reading.{HasRowsRead}

-- a store of the records of some tables, each of which opens with the row of its key
pub record OpensWithRows (tables : List Table) (rows : Rows) (made : Made) : Type 0 where
  pub records : IsStoreOf made tables
  pub shown : (r : ℕ) → r < sum (sizes_of tables)
      → Shows (opening_of made) made.words r (finite.get rows (place_of (sizes_of tables) r))

module _ (tables : List Table) (lists : List (List (List Op))) where
  -- an item of the store is that of a transaction's: it has its stamp and its writes, and on any rows that have what was
  -- read, the item's request does what the item says
  pub record IsItemOf (x : Item) (i : store.Item) : Type 0 where
    pub seq : x.stamp.seq < 2 ^ 40
    pub stamp : i.stamp ≡ packed x.stamp
    pub fits : ItemFits tables lists x
    pub writes : i.writes ≡ map (write_at tables) x.writes
    pub inside : (read : Read) → In read i.reads → read.rec < sum (sizes_of tables)
    pub runs : IsSomeAnd (request_of lists x)
        (λ txn. (rows : Rows) → HasRowsRead tables i.reads rows → run tables txn rows ≡ (x.reply, x.writes))

  -- the items are those that a pass has, in whatever order
  pub record AreItemsOf (items : List Item) (kept : List store.Item) : Type 0 where
    pub kept_of : (x : Item) → Contains items x → (i : store.Item) × In i kept × IsItemOf x i
    pub item_of : (i : store.Item) → In i kept → (x : Item) × Contains items x × IsItemOf x i

-- what a store has at its end after some items: the row of each record is that after them, and its stamp that of the
-- last one that writes it, or else the opening stamp
pub record IsStoreAfter (tables : List Table) (rows : Rows) (made : Made) (items : List Item) (words : List ℕ) (closed : List RowOf) : Type 0 where
  pub row : (r : ℕ) → r < sum (sizes_of tables)
      → slice_index_or closed r None ≡ finite.get (rows_after rows items) (place_of (sizes_of tables) r)
  pub stamp : (r : ℕ) → r < sum (sizes_of tables)
      → stamp_in (slice_index words r) ≡ last_stamp (sizes_of tables) r (stamp_at made.words r) items
