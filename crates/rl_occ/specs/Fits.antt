-- A store for the records of some tables, and writes that can be made there.
use Rattle.std.specs.Prelude.{◌≡◌, ℕ, ◌<◌, List, length, slice_index, sum}
use mathlib.Core.Option.{some}
use lib.ListN.{get_elem?}
use Rattle.rl_value.specs.Tables.{Table, size_of, columns_of}
use Rattle.rl_tables.specs.Numbers.{sizes_of, record_of}
use Rattle.rl_txn.specs.Fits.{WriteFits}
use Rattle.rl_txn.specs.declared.write.Write.{Write}
use Rattle.rl_store.specs.Entries.{In}
use Rattle.rl_store.specs.Opening.{Made}

-- the store has a record for each key, with its table's columns
pub record IsStoreOf (made : Made) (tables : List Table) : Type 0 where
  pub records : length made.columns ≡ sum (sizes_of tables)
  pub columns : (t k : ℕ) → t < length tables → k < size_of tables t
      → slice_index made.columns (record_of (sizes_of tables) t k) ≡ columns_of tables t

-- the record of a write
abbrev pub rec_of : (tables : List Table) (w : Write) → ℕ
rec_of tables w = record_of (sizes_of tables) w.table w.key

-- each write fits its table, and no two are of one record
pub record AreWrites (tables : List Table) (writes : List Write) : Type 0 where
  pub fit : (w : Write) → In w writes → WriteFits tables w
  pub apart : (i j : ℕ) (a b : Write) → get_elem? writes i ≡ some a → get_elem? writes j ≡ some b → rec_of tables a ≡ rec_of tables b → i ≡ j
