use Rattle.std.proofs.Common.{◌≡◌, ◌∙◌, ap, sym, subst, [], map, Ok}
use Rattle.std.specs.List.{range_with_len}
use Rattle.rl_base.specs.Epochs.{next_epoch_of}
use Rattle.rl_msg.specs.declared.msg.Msg.TheVariants.{Prepare}
use Rattle.rl_nodes.specs.Elections.{elects}
use Rattle.rl_node.specs.Addressed.{addressed}
use Rattle.rl_node.specs.Changing.{with_part}
use Rattle.rl_node.specs.Inner.{Tries}
use Rattle.rl_node.specs.Outs.{Adds}
use Rattle.rl_node.specs.SetupOf.{setup_of}
use Rattle.rl_node.specs.declared.part.Part.TheVariants.{Stands}
use Rattle.rl_node.proofs.Elections.{no_epoch, stood}
use Rattle.rl_node.proofs.Outer.{fails_by}
use Rattle.rl_node.proofs.node.Node.stand.Goals as goal

pub returns-in_default-clause-tries : goal.returns-in_default-clause-tries
returns-in_default-clause-tries c = λ a x s.
    no_epoch (setup_of c.args.setup.now) a c.args.self.now x s c.requires.up c.promised-promised.result c.promised-promised.ensures c.in_default.ensures.past

pub returns-in_err-candidate-clause-tries : goal.returns-in_err-candidate-clause-tries
returns-in_err-candidate-clause-tries c = λ a x s.
    let setup = setup_of c.args.setup.now in
    fails_by setup a c.args.self.now x c.requires.up s (elects setup a x) c.from_residual.result c.from_residual.ensures.1

pub returns-in_err-send_each-clause-tries : goal.returns-in_err-send_each-clause-tries
returns-in_err-send_each-clause-tries c = λ a x s.
    let setup = setup_of c.args.setup.now in
    fails_by setup a c.args.self.now x c.requires.up s (elects setup a x) c.from_residual-in_err-send_each.result c.from_residual-in_err-send_each.ensures.1

pub returns-clause-tries : goal.returns-clause-tries
returns-clause-tries c = λ a x s.
    let setup = setup_of c.args.setup.now in
    let n = c.args.self.now in
    let e = c.in-Some.epoch in
    let is : e ≡ next_epoch_of n.acceptor.promised n.id setup.nodes =
    c.in-Some.ensures.next ∙ ap (λ p. next_epoch_of p n.id setup.nodes) c.promised-promised.ensures in
    let sent : Adds [] c.send_each.new.sends (map (λ to. Prepare n.id to e) (range_with_len 1 setup.nodes)) =
    subst (λ xs. Adds xs c.send_each.new.sends (map (λ to. Prepare n.id to e) (range_with_len 1 setup.nodes))) c.new-sends.ensures
    (subst (λ m. Adds c.new-sends.result c.send_each.new.sends (map (addressed m) (range_with_len 1 setup.nodes))) c.prepare.ensures c.in_ok-send_each.ensures) in
    subst (λ m. Tries setup a n m x (elects setup a x) (Ok c.sending.result)) (sym (c.set_part.ensures ∙ ap (λ m. with_part m (Stands c.in_ok-candidate.candidate)) c.promise_itself.ensures))
    (stood setup a n x s c.requires.up e c.in_ok-candidate.candidate c.sending.result is c.in-Some.ensures.fits c.in_ok-candidate.ensures
    (c.sending.ensures (map (λ to. Prepare n.id to e) (range_with_len 1 setup.nodes)) sent))
