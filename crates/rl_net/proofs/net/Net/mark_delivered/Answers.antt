use Rattle.std.proofs.Common.{◌+◌, ◌<◌, List, length, refl, ap, ◌∙◌, arith, true}
use Rattle.rl_net.specs.declared.message.Message.{Message}
use Rattle.rl_net.specs.Messages.{delivered_at}
use Rattle.rl_net.proofs.Changes.{kept_marked, changed_is}
use Rattle.rl_net.proofs.net.Net.mark_delivered.Goals as goal

pub invariant_of-self : goal.invariant_of-self
invariant_of-self c =
    let net : List Message = c.self.inside.messages.items in
    let within : c.args.i < length net = omega (arith, ap (λ (x : List Message). length x) c.self.view_is, c.requires) in
    kept_marked net _ _ _ _ c.args.i c.index_mut.result.now _ refl within c.index_mut.ensures.value refl refl c.remove.ensures.updates c.self.invariant

pub returns : goal.returns
returns c =
    let net : List Message = c.self.inside.messages.items in
    let within : c.args.i < length net = omega (arith, ap (λ (x : List Message). length x) c.self.view_is, c.requires) in
    changed_is (λ m. record m { delivered = true }) net (c.args.i + 1) c.args.i c.index_mut.result.now refl within c.index_mut.ensures.value
    ∙ ap (λ (x : List Message). delivered_at x (c.args.i + 1)) c.self.view_is
