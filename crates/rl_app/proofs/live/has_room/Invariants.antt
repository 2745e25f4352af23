use Rattle.std.proofs.Common.{ℕ, ◌+◌, ◌*◌, ◌<◌, ◌≤◌, List, length, get_or}
use Rattle.rl_base.specs.declared.limit.TheConstants.{SLOTS}
use Rattle.rl_txn.specs.declared.op.Op.{Op}
use Rattle.rl_app.proofs.live.has_room.Given as goal

abbrev pub invariant-loop-list : goal.invariant-loop-list
invariant-loop-list l =
    (k : ℕ) (d : List (List Op)) → k < l.list-index → (length (get_or l.list-items k d) + 2) * (length l.script.stops + 1) ≤ SLOTS
