use Rattle.std.proofs.Common.{◌≡◌, ℕ, ◌<◌, ◌≤◌, get_or, false}
use Rattle.rl_base.specs.Order.{is_below}
use Rattle.rl_txn.specs.declared.item.Item.{Item}
use Rattle.rl_replay.proofs.replica.are_in_order.Given as goal

abbrev pub invariant-loop-i : goal.invariant-loop-i
invariant-loop-i l = (1 ≤ l.i) × ((a b : ℕ) (d : Item) → a < b → b < l.i → is_below (get_or l.items b d).stamp (get_or l.items a d).stamp ≡ false)
