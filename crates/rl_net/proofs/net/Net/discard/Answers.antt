use Rattle.std.proofs.Common.{◌<◌, List, length, refl, ap, ◌∙◌, arith, true}
use Rattle.rl_base.proofs.Tests.{and_false}
use Rattle.rl_net.specs.declared.message.Message.{Message}
use Rattle.rl_net.specs.Messages.{dropped_at}
use Rattle.rl_net.proofs.Changes.{kept_marked, changed_is, was_sent}
use Rattle.rl_net.proofs.net.Net.discard.Goals as goal

pub invariant_of-self : goal.invariant_of-self
invariant_of-self c =
    let net : List Message = c.self.inside.messages.items in
    let within : c.in_ok-i.i < length net = omega (arith, ap (λ (x : List Message). length x) c.self.view_is, c.in_ok-i.ensures.index.1) in
    kept_marked net _ _ _ _ c.in_ok-i.i c.index_mut.result.now _ c.in_ok-i.ensures.index.0 within c.index_mut.ensures.value refl (and_false _)
    c.remove.ensures.updates c.self.invariant

pub returns-clause-dropped : goal.returns-clause-dropped
returns-clause-dropped c =
    let net : List Message = c.self.inside.messages.items in
    let within : c.in_ok-i.i < length net = omega (arith, ap (λ (x : List Message). length x) c.self.view_is, c.in_ok-i.ensures.index.1) in
    changed_is (λ m. record m { dropped = true }) net c.args.number c.in_ok-i.i c.index_mut.result.now c.in_ok-i.ensures.index.0 within c.index_mut.ensures.value
    ∙ ap (λ (x : List Message). dropped_at x c.args.number) c.self.view_is

pub returns-clause-was_sent : goal.returns-clause-was_sent
returns-clause-was_sent c = was_sent c.args.self.now c.args.number c.in_ok-i.i c.in_ok-i.ensures.index.0 c.in_ok-i.ensures.index.1
