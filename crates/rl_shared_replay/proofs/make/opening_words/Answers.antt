use Rattle.std.proofs.Common.{ap, sym, ◌+◌, ◌∙◌, subst}
use Rattle.std.specs.FinMap as finite
use Rattle.rl_shared_replay.specs.Opening.{Filled}
use Rattle.rl_shared_replay.proofs.Filling.{filled_more}
use Rattle.rl_shared_replay.proofs.make.opening_words.Goals as goal

pub loop-r-preserved : goal.loop-r-preserved
loop-r-preserved c =
    subst (Filled c.args.layout.now c.args.opening.now (c.loop-r.r + 1)) (sym c.in_ok-push_record.ensures)
    (filled_more _ _ _ _ _ c.loop-r.invariant (c.get.ensures ∙ ap (finite.get c.args.opening.now) c.place-t.ensures.place))
