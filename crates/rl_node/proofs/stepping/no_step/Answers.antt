use Rattle.std.proofs.Common.{[], refl, sym, subst, arith}
use Rattle.rl_node.specs.Outs.{Adds}
use Rattle.rl_node.proofs.stepping.no_step.Goals as goal

pub returns-clause-out : goal.returns-clause-out
returns-clause-out c =
    c.sending.ensures [] (subst (λ sends. Adds [] sends []) (sym c.new.ensures) (record { sends = refl; in_range = λ k d less. absurd (omega (arith, less)) }))
