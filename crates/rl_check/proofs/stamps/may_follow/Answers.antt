use Rattle.std.proofs.Common.{◌<◌, arith}
use Rattle.std.specs.Prelude.{nat_lt}
use Rattle.std.proofs.lemmas.Bool.{OnFalse_from}
use Rattle.std.proofs.lemmas.Bool.Decides.{nat_tests}
use Rattle.rl_base.specs.Stamps.{packed}
use Rattle.rl_check.specs.Verdicts.{MayFollow}
use Rattle.rl_check.proofs.stamps.may_follow.Goals as goal

pub returns-clause-no : goal.returns-clause-no
returns-clause-no c = λ items is. OnFalse_from (nat_lt c.args.last c.pack.result) (MayFollow c.args.stops.now items c.args.stamp → ⊥) (λ test follows.
    let low = follows.given.range.low in
    let some : 0 < packed c.args.stamp = omega (arith, low) in
    let less : c.args.last < packed c.args.stamp = is.least (packed c.args.stamp) some follows.above in
    let same = c.pack.ensures.packed in
    absurd (grind (arith, nat_tests)))
