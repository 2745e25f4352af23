use Rattle.std.proofs.Common.{◌<◌, ◌≤◌, ◌^◌, All, refl, sym, subst, ◌∙◌, arith}
use Rattle.rl_families.specs.Families.{history}
use Rattle.rl_txn.specs.declared.item.Item.{Item}
use Rattle.rl_live.specs.declared.open.TheConstants.{TRIES}
use Rattle.rl_live.specs.Run.{IsCommitStamp}
use Rattle.rl_live.proofs.Finishing.{can_finish, has_served, is_served, run_ok}
use Rattle.rl_live.proofs.Opens.{ok_two}
use Rattle.rl_live.proofs.session.session.Goals as goal

pub finish-requires-clause-read : goal.finish-requires-clause-read
finish-requires-clause-read g c κs within =
    let store = c.in_ok-store.store in
    let h = c.in_ok-pass.ensures in
    let closed = c.in-Ok.closed in
    let dated = c.in_ok-store.ensures.epoch in
    let ends = c.in-Ok.ensures.whole (h.right_is ∙ sym c.in_ok-store.ensures.tries) h.rest in
    (store.made.epoch, h.logs, h.family, can_finish c.args.script.now store TRIES c.in_ok-pass.pass c.in_ok-pass.nodes c.requires (omega arith) (omega arith) c.in_ok-store.ensures.opens h closed.words closed.rows ends)

pub returns-clause-run : goal.returns-clause-run
returns-clause-run g c =
    let store = c.in_ok-store.store in
    let h = c.in_ok-pass.ensures in
    let closed = c.in-Ok.closed in
    let dated = c.in_ok-store.ensures.epoch in
    let ends = c.in-Ok.ensures.whole (h.right_is ∙ sym c.in_ok-store.ensures.tries) h.rest in
    let begun : 1 ≤ store.made.epoch = omega arith in
    let few : store.made.epoch < 2 ^ 20 = omega arith in
    let can = can_finish c.args.script.now store TRIES c.in_ok-pass.pass c.in_ok-pass.nodes c.requires begun few c.in_ok-store.ensures.opens h closed.words closed.rows ends in
    ok_two c.finish.result _ _ _ c.finish.ensures c.finish.ensures (λ run f i.
    run_ok c.args.script.now store TRIES c.in_ok-pass.pass c.in_ok-pass.nodes c.requires begun few c.in_ok-store.ensures.opens h closed.words closed.rows ends
    closed run dated c.in-Ok.ensures.epoch refl refl c.in-Ok.ensures.words c.in-Ok.ensures.rows c.in_ok-store.ensures.zero (f store.made.epoch h.logs h.family can))

pub returns-clause-served : goal.returns-clause-served
returns-clause-served g c =
    let store = c.in_ok-store.store in
    let h = c.in_ok-pass.ensures in
    let closed = c.in-Ok.closed in
    let dated = c.in_ok-store.ensures.epoch in
    let ends = c.in-Ok.ensures.whole (h.right_is ∙ sym c.in_ok-store.ensures.tries) h.rest in
    let begun : 1 ≤ store.made.epoch = omega arith in
    let few : store.made.epoch < 2 ^ 20 = omega arith in
    let can = can_finish c.args.script.now store TRIES c.in_ok-pass.pass c.in_ok-pass.nodes c.requires begun few c.in_ok-store.ensures.opens h closed.words closed.rows ends in
    ok_two c.finish.result _ _ _ c.finish.ensures c.finish.ensures (λ run f i.
    is_served c.args.script.now store TRIES c.in_ok-pass.pass c.in_ok-pass.nodes c.requires begun few c.in_ok-store.ensures.opens h closed.words closed.rows ends
    run (f store.made.epoch h.logs h.family can).items_are)

pub returns-clause-stamps : goal.returns-clause-stamps
returns-clause-stamps g c =
    let store = c.in_ok-store.store in
    let h = c.in_ok-pass.ensures in
    let closed = c.in-Ok.closed in
    let dated = c.in_ok-store.ensures.epoch in
    let ends = c.in-Ok.ensures.whole (h.right_is ∙ sym c.in_ok-store.ensures.tries) h.rest in
    let begun : 1 ≤ store.made.epoch = omega arith in
    let few : store.made.epoch < 2 ^ 20 = omega arith in
    let can = can_finish c.args.script.now store TRIES c.in_ok-pass.pass c.in_ok-pass.nodes c.requires begun few c.in_ok-store.ensures.opens h closed.words closed.rows ends in
    let all = has_served c.args.script.now store TRIES c.in_ok-pass.pass c.in_ok-pass.nodes c.requires begun few c.in_ok-store.ensures.opens h closed.words closed.rows ends in
    let stamps = subst (λ n. All (λ (x : Item). IsCommitStamp n x.stamp) (history h.family)) dated all.stamps in
    ok_two c.finish.result _ _ _ c.finish.ensures c.finish.ensures (λ run f i.
    subst (All (λ (x : Item). IsCommitStamp 1 x.stamp)) (sym (f store.made.epoch h.logs h.family can).items_are) stamps)
