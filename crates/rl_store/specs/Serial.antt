-- What it means that items are serial.
use Rattle.std.specs.Prelude.{◌<◌, ◌≤◌}
use Rattle.rl_store.specs.declared.view.Read.{Read}
use Rattle.rl_store.specs.Entries.{In, Entry, RowOf}
use Rattle.rl_store.specs.Layout.{Opening, Closes, Version}

-- the read of an entry is of the newest version below the entry's stamp, and has its row
pub record ReadsNewest (b : Opening) (entry : Entry → Type 0) (e : Entry) (x : Read) : Type 0 where
  pub version : Version b entry x.rec x.stamp x.row
  pub before : x.stamp < e.stamp
  pub newest : (f : Entry) (row : RowOf) → entry f → Closes f x.rec row → f.stamp < e.stamp → f.stamp ≤ x.stamp

-- each read of each entry is
abbrev pub SerialStore : (b : Opening) (entry : Entry → Type 0) → Type 0
SerialStore b entry = (e : Entry) (x : Read) → entry e → In x e.reads → ReadsNewest b entry e x
