use Rattle.std.proofs.Common.{List, subst, sym, ap, ◌∙◌}
use Rattle.std.specs.List.{insert}
use Rattle.rl_txn.specs.declared.item.Item.{Item}
use Rattle.rl_worker.specs.Opening.{item_seen, items_seen}
use Rattle.rl_app.specs.Running.{IsBySeq}
use Rattle.rl_app.proofs.Runs.{IsAt, joins_by_seq, joins_core}
use Rattle.rl_app.proofs.run.insert.Goals as goal

pub returns-clause-sorted : goal.returns-clause-sorted
returns-clause-sorted c =
    let old = c.args.decided.now.items in
    let same = c.as_slice.ensures.value in
    let at : IsAt c.args.item old c.place_among-at.result = record {
      inside = rw (← same) c.place_among-at.ensures.inside;
      above = rw (← same) c.place_among-at.ensures.above;
      below = rw (← same) c.place_among-at.ensures.below;
    } in
    subst IsBySeq (sym c.in_ok-insert.ensures.items) (joins_by_seq c.args.item old c.place_among-at.result c.requires.sorted at)

pub returns-clause-joined : goal.returns-clause-joined
returns-clause-joined c = λ core new old_is new_is one.
    let old = c.args.decided.now.items in
    let same = c.as_slice.ensures.value in
    let k = c.place_among-at.result in
    let at : IsAt c.args.item old k = record {
      inside = rw (← same) c.place_among-at.ensures.inside;
      above = rw (← same) c.place_among-at.ensures.above;
      below = rw (← same) c.place_among-at.ensures.below;
    } in
    let mine : IsAt (item_seen 1 new) (items_seen 1 core) k = subst (λ (z : Item). IsAt z (items_seen 1 core) k) new_is (subst (λ (zs : List Item). IsAt c.args.item zs k) old_is at) in
    c.in_ok-insert.ensures.items ∙ ap (λ (zs : List Item). insert zs k c.args.item) old_is ∙ ap (insert (items_seen 1 core) k) new_is
    ∙ joins_core new core k one (subst IsBySeq old_is c.requires.sorted) mine
