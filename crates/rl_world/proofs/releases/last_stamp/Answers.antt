use Rattle.std.proofs.Common.{◌≡◌, ◌-◌, List, length, slice_get, Some, subst}
use Rattle.rl_txn.specs.declared.item.Item.{Item}
use Rattle.rl_world.proofs.LastReleased.{last_is}
use Rattle.rl_world.proofs.releases.last_stamp.Goals as goal

pub returns : goal.returns
returns c =
    last_is c.args.released.now (Some c.in_ok-last.field-0.now)
    (subst (λ (xs : List Item). Some c.in_ok-last.field-0.now ≡ slice_get xs (length xs - 1)) c.as_slice.ensures c.in_ok-last.ensures.value)
