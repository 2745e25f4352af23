use Rattle.std.proofs.Common.{Err, subst}
use Rattle.rl_occ.specs.Attempts.{AttemptOf, HaltsAs}
use Rattle.rl_occ.specs.Outcomes.{HoldsOf}
use Rattle.rl_occ.specs.declared.outcome.CommitError.TheVariants.{Above}
use Rattle.rl_occ.specs.declared.outcome.Halt.TheVariants.{Held}
use Rattle.rl_store.specs.Passes.{StoreOf}
use Rattle.rl_store_tests.proofs.limits.a_commit_above_its_limit_keeps_its_locks_until_rest.Goals as goal

pub rest-pass-requires-clause-store : goal.rest-pass-requires-clause-store
rest-pass-requires-clause-store g c =
    let attempt = c.in_ok-attempt.attempt in
    let halt = c.commit_below-halt.result.0 in
    let refused = subst (λ r. HaltsAs 1 attempt halt r) c.in-Err.is c.commit_below-halt.ensures in
    let above = subst (λ e. HaltsAs 1 attempt halt (Err e)) c.in-Above.is refused in
    let said : HaltsAs 1 attempt (Held c.in-Held.halted) (Err (Above c.in-Above.seq)) =
    subst (λ h. HaltsAs 1 attempt h (Err (Above c.in-Above.seq))) c.in-Held.is above in
    subst (λ (s : StoreOf). HoldsOf s.made c.in-Held.halted.view) c.in_ok-attempt.ensures.store said.2
