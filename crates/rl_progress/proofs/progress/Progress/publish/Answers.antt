use Rattle.std.proofs.Common.{◌<◌, ap, sym, ◌∙◌, subst, arith}
use Rattle.rl_progress.specs.Rule.{IsPublisher}
use Rattle.rl_progress.proofs.Keeping.{publishes}
use Rattle.rl_progress.proofs.progress.Progress.publish.Goals as goal

pub store-requires : goal.store-requires
store-requires c =
    let table = ap (λ z. z.table) c.seat.view_is ∙ c.requires.table ∙ sym c.self.view_is in
    let same = ap (λ z. z.words) table in
    let i = c.seat.invariant in
    let is = ap (λ z. z.view) c.seat.view_is in (
      table,
      omega (arith, same, i.inside),
      publishes _ _ _ _ _ _ i.own (subst IsPublisher (sym is) c.requires.publishes) (omega (arith, i.inside, i.seen)) (omega (arith, same, i.inside, c.self.invariant)) (subst (λ v. v.last < c.args.seq) (sym is) c.requires.rises) c.requires.small,
    )
