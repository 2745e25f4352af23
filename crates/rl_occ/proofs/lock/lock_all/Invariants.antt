use Rattle.std.proofs.Common.{◌≡◌, ◌-◌, length, map, take}
use Rattle.smallvec.specs.SmallVec.{HasRoomFor}
use Rattle.rl_occ.specs.Fits.{rec_of}
use Rattle.rl_occ.specs.Locking.{lock_rec, with_locks}
use Rattle.rl_occ.proofs.lock.lock_all.Given as goal

-- the records of the writes so far are locked
abbrev pub invariant-loop-i : goal.invariant-loop-i
invariant-loop-i l = record {
  table : l.pass.table ≡ l.fn.pass.table;
  view : l.pass.view ≡ with_locks l.fn.pass.view l.locks.items;
  recs : map lock_rec l.locks.items ≡ map (rec_of l.schema) (take l.i l.writes);
  count : length l.locks.items ≡ l.i;
  room : HasRoomFor l.locks (length l.writes - l.i);
}
