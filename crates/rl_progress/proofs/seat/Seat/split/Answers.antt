use Rattle.std.proofs.Common.{ap, sym, ◌∙◌, arith}
use Rattle.rl_progress.proofs.Keeping.{splits}
use Rattle.rl_progress.proofs.seat.Seat.split.Goals as goal

pub split_seat-inner-requires : goal.split_seat-inner-requires
split_seat-inner-requires c =
    let table = ap (λ z. z.table) c.self.view_is ∙ c.requires ∙ sym c.progress.view_is in (
      table,
      omega (arith, ap (λ z. z.words) table, c.self.invariant.inside),
      splits _ _ _,
    )
