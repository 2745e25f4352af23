use Rattle.std.proofs.Common.{◌≡◌, ◌+◌, ◌-◌, ◌<◌, length, get_or, take, drop, sym, ap, subst, ◌∙◌, arith}
use Rattle.std.proofs.lemmas.List.{get_or-drop, length-drop}
use Rattle.rl_cut.specs.Kept.{AreUpTo}
use Rattle.rl_cut.proofs.Growing.{up_to_more, tail_is}
use Rattle.rl_cut.proofs.due.advanced.Goals as goal

pub loop-batch-preserved : goal.loop-batch-preserved
loop-batch-preserved c =
    let log = c.args.log.now in
    let n = c.args.counted in
    let i = c.loop-batch.batch-index in
    let b = c.batch-item.result in
    let tail = ap (λ z. take (length z - n) (drop n z)) c.as_slice.ensures ∙ tail_is log n c.requires.counted.within in
    let within : i < length (drop n log) = subst (λ z. i < length z) tail c.loop-batch-test.true in
    let inside : n + i < length log = omega (arith, length-drop n log) in
    let item : b ≡ get_or log (n + i) b = c.batch-item.is ∙ ap (λ z. get_or z i b) tail ∙ get_or-drop n log i b in
    let more = up_to_more c.args.mark log (n + i) b inside item c.requires.rising c.if-not-ends_up_to.ensures (subst (AreUpTo c.args.mark log) c.loop-batch.invariant.count c.loop-batch.invariant.up_to) in
    record { count = omega (arith, c.loop-batch.invariant.count); up_to = subst (λ z. AreUpTo c.args.mark log (z + 1)) (sym c.loop-batch.invariant.count) more }
