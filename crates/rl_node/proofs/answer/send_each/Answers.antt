use Rattle.std.proofs.Common.{◌∙◌, ◌+◌, ◌∷◌, [], refl, ap, subst, arith}
use Rattle.rl_node.specs.Addressed.{addressed}
use Rattle.rl_node.specs.Outs.{Adds}
use Rattle.rl_node.proofs.Sends.{addressed_twice, adds_none, range_adds}
use Rattle.rl_node.proofs.answer.send_each.Goals as goal

pub loop-before-init : goal.loop-before-init
loop-before-init c = record { same = λ to. refl; sent = adds_none c.args.sends.now }

pub loop-before-preserved : goal.loop-before-preserved
loop-before-preserved c =
    let k = c.loop-before.before + 1 in
    record {
      same = λ to. ap (λ m. addressed m to) c.addressed-m.ensures ∙ addressed_twice c.loop-before.m k to ∙ c.loop-before.invariant.same to;
      sent = range_adds (addressed c.args.m) 1 c.loop-before.before k c.args.sends.now c.loop-before.sends c.send.new.sends (omega arith)
          c.loop-before.invariant.sent
          (subst (λ m. Adds c.loop-before.sends c.send.new.sends (m ∷ [])) (c.addressed-m.ensures ∙ c.loop-before.invariant.same k) c.in_ok-send.ensures);
    }
