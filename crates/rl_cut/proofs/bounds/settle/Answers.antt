use Rattle.std.proofs.Common.{◌++◌, ◌&&◌, nat_lt, nat_le, map, filter, sym, ap, ◌∙◌, subst}
use Rattle.std.proofs.lemmas.List.{take_all}
use Rattle.rl_base.specs.declared.stamp.Stamp.{Stamp}
use Rattle.rl_cut.specs.Kept.{AreSettled}
use Rattle.rl_cut.proofs.Settling.{bound_stamp, more_settled}
use Rattle.rl_cut.proofs.bounds.settle.Goals as goal

pub returns-clause-settled : goal.returns-clause-settled
returns-clause-settled c =
    let reached = c.args.reached.now in
    let before = c.args.before in
    let now = c.args.now in
    let old = c.args.settled.now.items in
    let items = c.of_epochs-stamp-items.result.now in
    let all = take_all c.loop-stamp.stamp-index items c.loop-stamp-test.false in
    let chosen = c.of_epochs-stamp-items.ensures ∙ ap (filter (λ (s : Stamp). nat_le before s.epoch && nat_lt s.epoch now)) c.as_slice.ensures in
    subst (AreSettled reached now) (sym (c.loop-stamp.invariant ∙ ap (λ z. old ++ map (bound_stamp reached) z) (all ∙ chosen)))
    (more_settled reached c.in-Some.first.now before now old (sym c.in-Some.ensures.value) c.requires.epochs c.requires.rises c.requires.settled)
