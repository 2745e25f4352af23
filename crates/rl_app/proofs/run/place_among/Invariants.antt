use Rattle.std.proofs.Common.{◌<◌, ◌≤◌, ℕ, length, get_or}
use Rattle.rl_txn.specs.declared.item.Item.{Item}
use Rattle.rl_app.proofs.run.place_among.Given as goal

abbrev pub invariant-loop-at : goal.invariant-loop-at
invariant-loop-at l = record {
  inside : l.at ≤ length l.decided;
  above : (j : ℕ) (d : Item) → l.at ≤ j → j < length l.decided → l.seq < (get_or l.decided j d).stamp.seq;
}

abbrev pub decreases-loop-at : goal.decreases-loop-at
decreases-loop-at l = l.at
