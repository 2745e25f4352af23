use Rattle.std.proofs.Common.{◌≡◌, ◌+◌, ◌-◌, [], ◌∷◌, ◌∙◌, map, ap, subst, arith, get_or}
use Rattle.std.specs.List.{range_with_len}
use Rattle.rl_msg.specs.declared.msg.Msg.TheVariants.{Accept}
use Rattle.rl_node.specs.Outs.{Adds}
use Rattle.rl_node.proofs.Items.{got_is}
use Rattle.rl_node.proofs.Sends.{adds_none, range_adds}
use Rattle.rl_node.proofs.sending.send_accepts.Goals as goal

pub loop-i-init : goal.loop-i-init
loop-i-init c =
    let from = c.args.from in
    let none : 0 ≡ c.args.slot - c.args.slot = omega arith in
    subst (λ n. Adds c.args.sends.now c.args.sends.now (map (λ i. Accept from.node c.args.to from.epoch from.stream i (get_or c.args.stream.now.log i [])) (range_with_len c.args.slot n)))
    none (adds_none c.args.sends.now)

pub loop-i-preserved : goal.loop-i-preserved
loop-i-preserved c =
    let from = c.args.from in
    let log = c.args.stream.now.log in
    let batch : c.in_ok-from_slice.field-0 ≡ get_or log c.loop-i.i [] =
    c.in_ok-from_slice.ensures ∙ c.as_slice.ensures ∙ got_is c.log-log.result.now c.loop-i.i c.get.result.now [] c.get.ensures
    ∙ ap (λ l. get_or l c.loop-i.i []) c.log-log.ensures.kept in
    let more : c.loop-i.i - c.args.slot + 1 ≡ c.loop-i.i + 1 - c.args.slot = omega arith in
    subst (λ n. Adds c.args.sends.now c.send.new.sends (map (λ i. Accept from.node c.args.to from.epoch from.stream i (get_or log i [])) (range_with_len c.args.slot n)))
    more
    (range_adds (λ i. Accept from.node c.args.to from.epoch from.stream i (get_or log i [])) c.args.slot (c.loop-i.i - c.args.slot) c.loop-i.i
    c.args.sends.now c.loop-i.sends c.send.new.sends (omega arith) c.loop-i.invariant
    (subst (λ b. Adds c.loop-i.sends c.send.new.sends (Accept from.node c.args.to from.epoch from.stream c.loop-i.i b ∷ [])) batch c.in_ok-send.ensures))
