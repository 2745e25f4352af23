use Rattle.std.proofs.Common.{◌+◌, ◌∙◌, List, [], ◌∷◌, map, not, sym, ap, subst, arith}
use Rattle.std.specs.List.{filter, range_with_len}
use Rattle.rl_msg.specs.declared.msg.Msg.TheVariants.{Prepare}
use Rattle.rl_paxos.specs.Recovery.{has_promised}
use Rattle.rl_node.specs.Outs.{Adds}
use Rattle.rl_node.specs.declared.answer.Sent.{Sent}
use Rattle.rl_node.proofs.Sends.{adds_none, filter_adds, filter_skips}
use Rattle.rl_node.proofs.electing.ask_again.Goals as goal
use Rattle.rl_node.proofs.electing.ask_again.Goals.{then-not-has_promised+in_ok-send_prepare, else-not-has_promised}

pub loop-before-init : goal.loop-before-init
loop-before-init c = adds_none c.args.sends.now

pub loop-before-preserved : goal.loop-before-preserved
loop-before-preserved c =
    let promises = c.args.candidate.now.promises in
    let before = c.loop-before.before in
    let sent = λ (sends : List Sent). Adds c.args.sends.now sends (map (λ to. Prepare c.args.id to c.args.candidate.now.epoch)
    (filter (λ to. not (has_promised promises to)) (range_with_len 1 (before + 1)))) in
    elim c.if-not-has_promised.branch [
      | then-not-has_promised+in_ok-send_prepare w ↦ subst sent (sym w.sends-is)
          (filter_adds (λ to. not (has_promised promises to)) (λ to. Prepare c.args.id to c.args.candidate.now.epoch) before (before + 1)
          c.args.sends.now c.loop-before.sends w.send_prepare.new.sends (omega arith)
          (ap not (sym c.has_promised.ensures ∙ w.if-not-has_promised.true)) c.loop-before.invariant
          (subst (λ e. Adds c.loop-before.sends w.send_prepare.new.sends (Prepare c.args.id (before + 1) e ∷ [])) w.epoch.ensures w.in_ok-send_prepare.ensures))
      | else-not-has_promised w ↦ subst sent (sym w.sends-is)
          (filter_skips (λ to. not (has_promised promises to)) (λ to. Prepare c.args.id to c.args.candidate.now.epoch) before (before + 1)
          c.args.sends.now c.loop-before.sends (omega arith)
          (ap not (sym c.has_promised.ensures ∙ w.if-not-has_promised.false)) c.loop-before.invariant)
    ]
