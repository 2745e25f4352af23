-- What a replica keeps beside its rows. No public contract cites it.
use Rattle.std.specs.Prelude.{◌≡◌, ℕ, false, List, length, slice_index, slice_index_or, IsTrue, ◌↔◌}
use Rattle.std.specs.BTreeSet.{BTreeSet, contains}
use Rattle.rl_value.specs.Rows.{place_cmp}
use Rattle.rl_txn.specs.declared.item.Item.{Item}
use Rattle.rl_replay.specs.Cursors.{start, FitsCursor}
use Rattle.rl_replay.specs.Newest.{AreNewest}
use Rattle.rl_replay.specs.Replay.{HasStamp}
use Rattle.rl_replay.specs.declared.replica.Replica.TheInside.{Inside}

-- these are the stamps of the items, as epoch and seq
abbrev pub AreStampsOf : List Item → BTreeSet (ℕ × ℕ) → Type 0
AreStampsOf items stamps = (q : ℕ × ℕ)
    → IsTrue (contains place_cmp stamps q) ↔ HasStamp items (record { epoch = q.0; seq = q.1 })

-- what is true of the fields of every replica
pub record IsKept (r : Inside) : Type 0 where
  pub newest : r.failed ≡ false → AreNewest r.applied.items r.newest
  pub stamps : AreStampsOf r.applied.items r.stamps
  pub cursors : length r.cursors.items ≡ length r.played.items
  pub fits : (i : ℕ) → FitsCursor (slice_index r.played.items i) (slice_index_or r.cursors.items i start)
