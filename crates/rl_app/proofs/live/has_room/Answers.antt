use Rattle.std.proofs.Common.{rules, ◌+◌, ◌*◌, ◌<◌, ◌≤◌, ℕ, List, length, get_or, subst, sym, ap, ◌≡◌, arith}
use Rattle.rl_base.specs.declared.limit.TheConstants.{SLOTS}
use Rattle.rl_txn.specs.declared.op.Op.{Op}
use Rattle.rl_app.proofs.Threads.{and_next}
use Rattle.rl_app.proofs.live.has_room.Goals as goal

pub loop-list-preserved : goal.loop-list-preserved
loop-list-preserved c =
    and_next (λ (list : List (List Op)). (length list + 2) * (length c.args.script.now.stops + 1) ≤ SLOTS) c.as_slice-list-items.result.now c.loop-list.list-index c.list-item.result
    c.loop-list-test.true c.list-item.is c.loop-list.invariant (rw (← c.len.ensures, ← c.len-epochs.ensures) c.if-len-epochs.false)

pub returns-clause-yes : goal.returns-clause-yes
returns-clause-yes c = λ _ k d within.
    subst (λ (lists : List (List (List Op))). (length (get_or lists k d) + 2) * (length c.args.script.now.stops + 1) ≤ SLOTS) c.as_slice-list-items.ensures
    (c.loop-list.invariant k d (let past = c.loop-list-test.false in let same : length c.as_slice-list-items.result.now ≡ length c.args.script.now.lists = ap (λ (ls : List (List (List Op))). length ls) c.as_slice-list-items.ensures in omega (arith, past, same, within)))
