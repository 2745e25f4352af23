use Rattle.std.proofs.Common.{List, subst, IsTrue, ◌↔◌}
use Rattle.rl_txn.specs.declared.item.Item.{Item}
use Rattle.rl_replay.specs.Replay.{HaveSameStamps}
use Rattle.rl_replay.proofs.Answering.{same_sets}
use Rattle.rl_replay.proofs.replica.Replica.at_watermark.Goals as goal

pub returns : goal.returns
returns c =
    let told : IsTrue c.has_same_stamps.result ↔ HaveSameStamps c.args.self.now.replaying.applied c.args.history.now
    = subst (λ (history : List Item). IsTrue c.has_same_stamps.result ↔ HaveSameStamps c.args.self.now.replaying.applied history) c.as_slice.ensures c.has_same_stamps.ensures in
    record { stamps = told; items = same_sets c.args.self.now.replaying.applied c.args.history.now c.has_same_stamps.result told }
