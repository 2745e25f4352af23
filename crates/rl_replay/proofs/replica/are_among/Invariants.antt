use Rattle.std.proofs.Common.{All, take}
use Rattle.rl_txn.specs.declared.item.Item.{Item}
use Rattle.rl_replay.specs.Replay.{HasStamp}
use Rattle.rl_replay.proofs.replica.are_among.Given as goal

abbrev pub invariant-loop-item : goal.invariant-loop-item
invariant-loop-item l = All (λ (x : Item). HasStamp l.others x.stamp) (take l.item-index l.items)
