use Rattle.std.proofs.Common.{ap, sym, ◌∙◌, ◌≤◌, sum, subst, arith}
use Rattle.rl_shared_replay.proofs.Filling.{can_open}
use Rattle.rl_shared_replay.proofs.make.make.Goals as goal

pub open-requires : goal.open-requires
open-requires c =
    can_open c.args.schema.now c.args.opening.now _ c.requires c.in_ok-columns.ensures c.in_ok-words.ensures
    (subst (λ l. sum l ≤ 65536) c.layout.view_is c.layout.invariant.1)
