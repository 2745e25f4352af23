use Rattle.std.proofs.Common.{ap, sym, ◌∙◌, arith}
use Rattle.rl_store.proofs.Calls.{some_words}
use Rattle.rl_store.proofs.Grouped.{splits_as}
use Rattle.rl_store.proofs.Seating.{splits}
use Rattle.rl_store.proofs.pass.Pass.split_as.Goals as goal

pub split_seat-inner-requires : goal.split_seat-inner-requires
split_seat-inner-requires g c = (
  ap (λ z. z.table) c.self.view_is ∙ c.requires.table ∙ sym (ap (λ z. z.table) c.store.view_is),
  some_words _ _ _ _ c.store.invariant,
  splits_as _ _ _ _ _ (splits _ _ _ _ (grind (arith, c.requires.enough, c.requires.number, ap (λ z. z.view.tries) c.self.view_is))),
)
