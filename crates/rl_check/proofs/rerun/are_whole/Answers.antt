use Rattle.std.proofs.Common.{◌<◌, ◌∙◌, length, arith}
use Rattle.rl_check.proofs.ItemLemmas.{whole_by_counts, not_whole}
use Rattle.rl_check.proofs.rerun.are_whole.Goals as goal

pub returns-then-len-counts-clause-no : goal.returns-then-len-counts-clause-no
returns-then-len-counts-clause-no c = λ items counted whole.
    let lists = c.args.lists.now in
    let within : c.loop-worker.worker < length lists = omega (arith, c.len-worker-end.ensures, c.loop-worker-test.true) in
    not_whole lists items c.args.counts.now counted c.loop-worker.worker within c.get.result.now c.get.ensures (λ e. c.if-len-counts.true (c.len.ensures ∙ e)) whole

pub returns-clause-yes : goal.returns-clause-yes
returns-clause-yes c = λ items is counted.
    let lists = c.args.lists.now in
    whole_by_counts lists items c.args.counts.now is counted (λ w l list at. c.loop-worker.invariant w (omega (arith, l, c.len-worker-end.ensures, c.loop-worker-test.false)) list at)
