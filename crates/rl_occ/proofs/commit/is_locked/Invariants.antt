use Rattle.std.proofs.Common.{map, take}
use Rattle.rl_store.specs.Entries.{In}
use Rattle.rl_occ.specs.Locking.{lock_rec}
use Rattle.rl_occ.proofs.commit.is_locked.Given as goal

-- none of the locks so far is of the record
abbrev pub invariant-loop-i : goal.invariant-loop-i
invariant-loop-i l = In l.rec (map lock_rec (take l.i l.locks)) → ⊥
