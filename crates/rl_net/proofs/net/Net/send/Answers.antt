use Rattle.std.proofs.Common.{◌≡◌, ◌+◌, ◌≤◌, List, [], ◌∷◌, ◌++◌, length, refl, sym, ap, subst, ◌∙◌, arith}
use Rattle.rl_base.specs.declared.limit.TheConstants.{BYTES}
use Rattle.rl_net.specs.declared.message.Message.{Message}
use Rattle.rl_net.specs.Messages.{new_message}
use Rattle.rl_net.specs.Kept.{IsKept}
use Rattle.rl_net.proofs.Changes.{kept_sent}
use Rattle.rl_net.proofs.net.Net.send.Goals as goal

pub invariant_of-self-2 : goal.invariant_of-self-2
invariant_of-self-2 c =
    let net : List Message = c.self.inside.messages.items in
    let m : Message = new_message c.args.to c.args.bytes in
    let is : c.push_reserved.new.self.items ≡ net ++ m ∷ [] = c.push_reserved.ensures.items ∙ ap (λ (x : List Message). x ++ m ∷ []) c.reserve.ensures.items in
    let count : c.len.result ≡ length net = c.len.ensures ∙ c.self.inside.messages.ok.0 in
    let size : c.len-size.result ≡ length m.bytes = c.len-size.ensures in
    let room : c.self.inside.bytes + length m.bytes ≤ BYTES = omega (arith, c.if-size-self.false, size, c.self.invariant.few) in
    subst (λ x. IsKept x (c.self.inside.bytes + c.len-size.result) c.insert.new.self) (sym is)
    (subst (λ n. IsKept (net ++ m ∷ []) (c.self.inside.bytes + n) c.insert.new.self) (sym size)
    (kept_sent net c.self.inside.bytes c.self.inside.pending c.insert.new.self _ m (ap (λ n. n + 1) count) refl room
    c.in_ok-insert.ensures.updates c.self.invariant))
