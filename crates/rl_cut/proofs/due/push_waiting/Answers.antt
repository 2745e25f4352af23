use Rattle.std.proofs.Common.{◌≡◌, ◌++◌, ◌-◌, Bool, length, take, drop, ap, subst, sym, ◌∙◌}
use Rattle.std.specs.Prelude.{OnOk}
use Rattle.std.specs.List.{filter}
use Rattle.rl_txn.specs.declared.item.Item.{Item}
use Rattle.rl_families.specs.Logs.{IsRising, stamps_along, items_along}
use Rattle.rl_families.proofs.Rising.{from_rises}
use Rattle.rl_cut.specs.Kept.{counts_now}
use Rattle.rl_cut.proofs.Growing.{rises_drop, skips_counted, tail_is}
use Rattle.rl_cut.proofs.due.push_waiting.Goals as goal

pub push_log-requires-clause-rising : goal.push_log-requires-clause-rising
push_log-requires-clause-rising c =
    let log = c.args.log.now in
    let n = c.args.counted in
    let tail = ap (λ z. take (length z - n) (drop n z)) c.as_slice.ensures ∙ tail_is log n c.requires.counted.within in
    subst (λ z. IsRising (stamps_along z)) (sym tail) (from_rises (stamps_along (drop n log)) (rises_drop log n c.requires.rising))

pub returns : goal.returns
returns c =
    let log = c.args.log.now in
    let n = c.args.counted in
    let test : Item → Bool = λ x. counts_now c.args.marks.before c.args.marks.now c.args.settled.now x.stamp in
    let tail = ap (λ z. take (length z - n) (drop n z)) c.as_slice.ensures ∙ tail_is log n c.requires.counted.within in
    let same = ap (λ z. filter test (items_along z)) tail ∙ skips_counted c.args.marks.before c.args.marks.now c.args.settled.now log n c.requires.counted in
    subst (λ z. OnOk c.push_log.result (c.push_log.new.due.items ≡ c.args.due.now.items ++ z)) same c.push_log.ensures
