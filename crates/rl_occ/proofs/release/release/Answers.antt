use Rattle.std.proofs.Common.{◌≡◌, ◌+◌, List, drop, suc, slice_index_or, length, refl, sym, ap, ◌∙◌, subst, true≢false, ◌==◌, arith}
use Rattle.rl_store.specs.declared.view.View.{View}
use Rattle.rl_store.specs.Views.{unlocked_with, without}
use Rattle.rl_store.proofs.Marks.{drop_at}
use Rattle.rl_occ.proofs.Places.{at_or}
use Rattle.rl_occ.specs.declared.sets.Lock.{Lock}
use Rattle.rl_occ.proofs.Installations.{drop_all}
use Rattle.rl_occ.proofs.Releasing.{IsLettingGo, all_went, holds_first, lets_one_go}
use Rattle.rl_occ.proofs.release.release.Goals as goal

pub loop-i-init : goal.loop-i-init
loop-i-init c = (refl, record { apart = c.requires.apart; rest = refl; held = c.requires.held; undecided = c.requires.undecided; over = λ e. absurd (true≢false (sym (c.if-is_empty.ensures ∙ ap (λ (l : List Lock). length l == 0) e))) })

pub unlock-requires-clause-record : goal.unlock-requires-clause-record
unlock-requires-clause-record c =
    let at = at_or c.args.locks.now c.loop-i.i (record { rec = 0; old = 0 }) c.loop-i-test.true in
    c.requires.records _ (c.loop-i.i, at)

pub unlock-requires-clause-held : goal.unlock-requires-clause-held
unlock-requires-clause-held c =
    let l = slice_index_or c.args.locks.now c.loop-i.i (record { rec = 0; old = 0 }) in
    let rest = drop_at c.args.locks.now c.loop-i.i l (at_or c.args.locks.now c.loop-i.i (record { rec = 0; old = 0 }) c.loop-i-test.true) in
    let going = subst (IsLettingGo c.args.pass.now.view c.loop-i.pass.view) rest c.loop-i.invariant.1 in
    holds_first c.loop-i.pass.view l (drop (suc c.loop-i.i) c.args.locks.now) going.held

pub loop-i-preserved : goal.loop-i-preserved
loop-i-preserved c =
    let l = slice_index_or c.args.locks.now c.loop-i.i (record { rec = 0; old = 0 }) in
    let rest = drop_at c.args.locks.now c.loop-i.i l (at_or c.args.locks.now c.loop-i.i (record { rec = 0; old = 0 }) c.loop-i-test.true) in
    let going = subst (IsLettingGo c.args.pass.now.view c.loop-i.pass.view) rest c.loop-i.invariant.1 in
    let one = lets_one_go c.args.pass.now.view c.loop-i.pass.view l (drop (suc c.loop-i.i) c.args.locks.now) going in (
      c.unlock.ensures.table ∙ c.loop-i.invariant.0,
      subst (λ (w : View). IsLettingGo c.args.pass.now.view w (drop (c.loop-i.i + 1) c.args.locks.now)) (sym c.unlock.ensures.unlocked)
          (subst (λ n. IsLettingGo c.args.pass.now.view (unlocked_with (without l.rec c.loop-i.pass.view.attempt.held) c.loop-i.pass.view l.rec) (drop n c.args.locks.now)) (let z : suc c.loop-i.i ≡ c.loop-i.i + 1 = omega arith in z) one),
    )

pub returns-clause-rested : goal.returns-clause-rested
returns-clause-rested c = all_went c.args.pass.now.view c.loop-i.pass.view (subst (IsLettingGo c.args.pass.now.view c.loop-i.pass.view) (drop_all c.loop-i.i c.args.locks.now (let t = c.loop-i-test.false in omega arith)) c.loop-i.invariant.1)
