-- What a seat's view holds, and what each kind of step leaves of it.
use Rattle.std.specs.Prelude.{◌≡◌, ℕ, ◌≤◌, ◌<◌, [], ◌∷◌, ◌++◌, length, Contains, Some, None}
use Rattle.rl_value.specs.Cells.{row_of}
use Rattle.rl_shared_replay.specs.declared.view.Version.{Version}
use Rattle.rl_shared_replay.specs.declared.view.Seen.{Seen}
use Rattle.rl_shared_replay.specs.declared.view.Held.{Held}
use Rattle.rl_shared_replay.specs.declared.view.View.{View}

-- it holds the record
abbrev pub Holds : (v : View) (r : ℕ) → Type 0
Holds v r = (h : Held) × (v.held ≡ Some h) × (h.rec ≡ r)

-- it holds the record, and has begun to store its cells
abbrev pub Stores : (v : View) (r : ℕ) → Type 0
Stores v r = (h : Held) × (v.held ≡ Some h) × (h.rec ≡ r) × (0 < length h.stored)

-- the write of a version is settled: a stamp at least its own was seen on its record
abbrev pub Settled : (v : View) (x : Version) → Type 0
Settled v x = (y : Seen) × Contains v.seen y × (y.rec ≡ x.rec) × (x.stamp ≤ y.stamp)

-- it has made and seen nothing, and holds nothing
abbrev pub blank : View
blank = record { made = []; seen = []; held = None }

-- Load: the stamp of r that was found was seen.
abbrev pub with_seen : (v : View) (r stamp : ℕ) → View
with_seen v r stamp = record v { seen = v.seen ++ record { rec = r; stamp = stamp } ∷ [] }

-- Lock: r is held, whose stamp was this.
abbrev pub with_hold : (v : View) (r stamp : ℕ) → View
with_hold v r stamp = record v { held = Some (record { rec = r; old = stamp; stored = [] }) }

-- Column store: one more cell is stored.
abbrev pub with_cell : (v : View) (h : Held) (cell : ℕ) → View
with_cell v h cell = record v { held = Some (record { rec = h.rec; old = h.old; stored = h.stored ++ cell ∷ [] }) }

-- Closing store of the old word: the record is let go.
abbrev pub let_go : (v : View) (h : Held) → View
let_go v h = record { made = v.made; seen = v.seen ++ record { rec = h.rec; stamp = h.old } ∷ []; held = None }

-- Closing store of a new word: the record has a version of that stamp, with the row that was
-- stored.
abbrev pub renewed : (v : View) (h : Held) (stamp : ℕ) → View
renewed v h stamp = record {
  made = v.made ++ record { rec = h.rec; stamp = stamp; row = row_of h.stored } ∷ [];
  seen = v.seen ++ record { rec = h.rec; stamp = stamp } ∷ [];
  held = None;
}

-- Join: what either has made and seen.
abbrev pub joined : (v w : View) → View
joined v w = record { made = v.made ++ w.made; seen = v.seen ++ w.seen; held = v.held }
