use Rattle.std.proofs.Common.{◌<◌, ap, sym, ◌∙◌, subst, arith}
use Rattle.rl_progress.proofs.Keeping.{loads}
use Rattle.rl_progress.proofs.progress.Progress.load.Goals as goal

pub load-requires : goal.load-requires
load-requires c =
    let table = ap (λ z. z.table) c.seat.view_is ∙ c.requires.table ∙ sym c.self.view_is in
    let stream = subst (λ z. c.args.stream < z.words) (sym c.self.view_is) c.requires.stream in
    let same = ap (λ z. z.words) table in (
      table,
      stream,
      loads _ _ _ _ _ (omega (arith, stream, same, c.seat.invariant.seen)),
    )
