use Rattle.std.proofs.Common.{Option, MatchOption, subst}
use Rattle.rl_live.specs.Attempts.{IsUndecided, HasDecided}
use Rattle.rl_occ.specs.declared.outcome.Decided.{Decided}
use Rattle.rl_live.proofs.Attempts.{decided_after}
use Rattle.rl_live.proofs.attempt.decide.Goals as goal

pub returns-in-Some-decided-clause-decided : goal.returns-in-Some-decided-clause-decided
returns-in-Some-decided-clause-decided g c =
    let tables = c.args.schema.now in
    let epoch = c.args.store.now.made.epoch in
    let txn = c.args.txn.now in
    let v = c.loop.pass.view in
    let w = c.in_ok-after.after.view in
    decided_after tables epoch txn c.args.pass.view v w c.in-Some-decided.decided c.loop.invariant.3
    (subst (λ (o : Option Decided). MatchOption o (IsUndecided v w) (HasDecided tables epoch txn v w)) c.in-Some-decided.is c.in_ok-after.ensures.after)
