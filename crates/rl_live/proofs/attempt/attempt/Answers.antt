use Rattle.std.proofs.Common.{Result, IfOk, ap, subst}
use Rattle.rl_occ.specs.Attempts.{AttemptOf, IsCommitted}
use Rattle.rl_occ.specs.declared.attempt.Phase.{Phase}
use Rattle.rl_occ.specs.declared.outcome.CommitError.{CommitError}
use Rattle.rl_occ.specs.declared.outcome.Decided.{Decided}
use Rattle.rl_live.proofs.Attempts.{decided_from}
use Rattle.rl_live.proofs.attempt.attempt.Goals as goal

pub returns-clause-after : goal.returns-clause-after
returns-clause-after g c =
    let begun = c.in-Ok.ensures.begun in
    let ran = c.in-Ok-execute.ensures in
    let locked = c.in-Ok-lock.ensures in
    let w = c.commit-pass.result.0.view in
    decided_from c.args.store.now c.args.schema.now c.args.txn.now c.args.pass.view c.in-Ok.attempt c.execute.new.self c.lock.new.self
    Phase.Executed Phase.Locked w c.in-Ok-committed.decided
    (ap (λ (x : AttemptOf). x.store) begun) (ap (λ (x : AttemptOf). x.tables) begun) (ap (λ (x : AttemptOf). x.txn) begun) (ap (λ (x : AttemptOf). x.view) begun)
    ran.executed ran.same locked.locked locked.same
    (subst (λ (r : Result Decided CommitError). IfOk r (λ d. IsCommitted c.lock.new.self w d)) c.in-Ok-committed.is c.commit-pass.ensures.decided)
