use Rattle.std.proofs.Common.{[], ◌∷◌, subst}
use Rattle.rl_node.specs.Outs.{Adds}
use Rattle.rl_node.proofs.answer.answering.Goals as goal

pub returns : goal.returns
returns c = c.sending.ensures (c.args.m.now ∷ []) (subst (λ xs. Adds xs c.send.new.sends (c.args.m.now ∷ [])) c.new-sends.ensures c.in_ok-send.ensures)
