use Rattle.std.proofs.Common.{length, get_or, ap, ◌∙◌, arith}
use Rattle.rl_live.proofs.ReadLogs.{slot_at}
use Rattle.rl_live.proofs.history.read_log.Goals as goal

pub read_slot-requires : goal.read_slot-requires
read_slot-requires c =
    let same = c.as_slice-bytes-items.ensures in
    let x = c.bytes-item.result in
    slot_at c.args.log.now c.requires.0 c.loop-bytes.bytes-index x c.requires.1
    (let t = c.loop-bytes-test.true in let n = ap length same in omega arith)
    (c.bytes-item.is ∙ ap (λ l. get_or l c.loop-bytes.bytes-index x) same)
