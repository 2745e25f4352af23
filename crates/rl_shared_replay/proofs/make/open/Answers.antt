use Rattle.std.proofs.Common.{List, ℕ, [], sym, subst}
use Rattle.atomic_table.specs.Table.{opening}
use Rattle.rl_shared_replay.specs.declared.rule.Start.{Start}
use Rattle.rl_shared_replay.specs.Rule.{ReplayRule}
use Rattle.rl_shared_replay.specs.Start.{plan_of}
use Rattle.rl_shared_replay.specs.Views.{blank}
use Rattle.rl_shared_replay.proofs.Allowed.{opens}
use Rattle.rl_shared_replay.proofs.make.open.Goals as goal

pub of_words-requires : goal.of_words-requires
of_words-requires c =
    let can = c.requires in
    subst (λ (p : Start × List ℕ). ReplayRule (plan_of p.0) (opening p.1 [] blank)) (λ i. (sym c.of-key.ensures i, sym c.as_slice.ensures.value i))
    (opens (plan_of c.args.start) can.wide can.few can.free can.row)
