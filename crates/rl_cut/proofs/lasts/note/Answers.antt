use Rattle.std.proofs.Common.{◌≡◌, ◌≢◌, ◌-◌, suc, length, Some, sym, ap, ◌∙◌, subst, arith}
use Rattle.std.specs.Prelude.{OnOk}
use Rattle.rl_base.specs.declared.stamp.Stamp.{Stamp}
use Rattle.rl_families.specs.Logs.{last_stamp}
use Rattle.rl_cut.proofs.Noting.{noted_in_place, noted_behind, tail_tells, no_tail}
use Rattle.rl_cut.proofs.lasts.note.Goals as goal
use Rattle.rl_cut.proofs.lasts.note.Goals.{in_default-via-in-Some+else-tail-stamp, in_default-via-in_default}

pub returns-in-Some-clause-ok : goal.returns-in-Some-clause-ok
returns-in-Some-clause-ok c =
    let ss = c.args.lasts.now in
    let tail = c.in-Some.tail in
    let k = tail_tells ss tail c.in-Some.ensures in
    let n : length ss ≡ suc (tail.count - 1) = omega (arith, k.1, k.2) in
    c.replace.ensures.set ∙ noted_in_place ss (tail.count - 1) tail.last c.args.stamp n k.0 c.if-tail-stamp.true

pub returns-in_default-clause-ok : goal.returns-in_default-clause-ok
returns-in_default-clause-ok c =
    let ss = c.args.lasts.now in
    let s = c.args.stamp in
    let other : (t : Stamp) → last_stamp ss ≡ Some t → t.epoch ≢ s.epoch = λ t e. elim c.in_default.branch [
      | in_default-via-in-Some+else-tail-stamp w ↦ (let k = (tail_tells ss w.in-Some.tail w.in-Some.ensures).0 in let both : Some w.in-Some.tail.last ≡ Some t = sym k ∙ e in let same : w.in-Some.tail.last ≡ t = cc in λ q. w.if-tail-stamp.false (ap (λ (x : Stamp). x.epoch) same ∙ q))
      | in_default-via-in_default w ↦ absurd (no_tail ss (sym c.tail_of.ensures ∙ w.in_default.is) t e)
    ] in
    subst (λ z. OnOk c.push.result (c.push.new.self ≡ z)) (noted_behind ss s other) c.push.ensures.ok
