use Rattle.std.proofs.Common.{◌≡◌, ◌<◌, List, ◌∷◌, ◌++◌, map, Err, sym, ap, subst, ◌∙◌, append_assoc}
use Rattle.std.proofs.lemmas.List.{map-append}
use Rattle.std.specs.Vec.Iter.{into_iter_items}
use Rattle.rl_base.specs.declared.limit.TheConstants.{BYTES}
use Rattle.rl_net.specs.declared.message.Message.{Message}
use Rattle.rl_net.specs.declared.net_error.NetError.TheVariants.{NetFull}
use Rattle.rl_net.specs.Messages.{bytes_sent}
use Rattle.rl_node.specs.declared.answer.Sent.{Sent}
use Rattle.rl_world.specs.Refusing.{error_of_net, IsByBytes}
use Rattle.rl_world.specs.Telling.{message_of}
use Rattle.rl_world.proofs.Results.{known_error}
use Rattle.rl_world.proofs.Sending.{not_taken}
use Rattle.rl_world.proofs.told.Told.send.Goals as goal

pub returns-in_err-self-clause-refused : goal.returns-in_err-self-clause-refused
returns-in_err-self-clause-refused c =
    let i = c.loop-message.invariant in
    let x : Sent = c.in-Some.message in
    let rest : List Sent = into_iter_items c.next.new.self in
    let before : List Message = c.args.self.now.net in
    let whole : c.loop-message.yielded ++ (x ∷ rest) ≡ c.args.sends = ap (λ z. c.loop-message.yielded ++ z) (sym c.in-Some.ensures.steps.0) ∙ i.all in
    let sent : c.loop-message.self.net ++ (message_of x ∷ map message_of rest) ≡ before ++ map message_of c.args.sends =
    ap (λ z. z ++ (message_of x ∷ map message_of rest)) i.net ∙ append_assoc before (map message_of c.loop-message.yielded) (map message_of (x ∷ rest))
    ∙ ap (λ z. before ++ z) (sym (map-append message_of c.loop-message.yielded (x ∷ rest)) ∙ ap (map message_of) whole) in
    let why = not_taken c.in_err-self.field-0.0 c.loop-message.self.net (map message_of rest) (message_of x) (λ n q.
    let limit = c.in_err-self.ensures.the_limit n (ap Err q) in
    (limit, c.in_err-self.ensures.full.0 (ap Err (q ∙ ap NetFull limit)))) in
    known_error (IsByBytes (BYTES < bytes_sent (before ++ map message_of c.args.sends))) (error_of_net c.in_err-self.field-0.0) c.from_residual.result c.from_residual.ensures.1
    (subst (λ z. IsByBytes (BYTES < bytes_sent z) (error_of_net c.in_err-self.field-0.0)) sent why)
