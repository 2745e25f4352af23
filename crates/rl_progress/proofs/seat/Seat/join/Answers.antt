use Rattle.std.proofs.Common.{length, ap, sym, ◌∙◌, subst, arith}
use Rattle.rl_progress.specs.Rule.{IsReader}
use Rattle.rl_progress.proofs.Keeping.{joins}
use Rattle.rl_progress.proofs.Lists.{greater_length}
use Rattle.rl_progress.proofs.seat.Seat.join.Goals as goal

pub join_seat-requires : goal.join_seat-requires
join_seat-requires c =
    let table = ap (λ z. z.table) c.self.view_is ∙ c.requires.tables.0 ∙ sym c.progress.view_is in (
      table,
      ap (λ z. z.table) c.other.view_is ∙ c.requires.tables.1 ∙ sym c.progress.view_is,
      c.other.invariant.no_slots,
      omega (arith, ap (λ z. z.words) table, c.self.invariant.inside),
      joins _ _ _ _ _ (subst (λ z. IsReader z.view) (sym c.other.view_is) c.requires.reader),
    )

pub invariant_of-self : goal.invariant_of-self
invariant_of-self c =
    let e = c.join_seat.ensures in
    let i = c.self.invariant in
    let words = ap (λ z. z.words) e.0 in
    record {
      no_slots = ap (λ m. m.1) e.2 ∙ i.no_slots;
      own = i.own ∙ sym (ap (λ m. m.0.first) e.2);
      inside = omega (arith, words, i.inside);
      seen = ap (λ m. length m.0.seen) e.2 ∙ greater_length c.self.inside.inner.me.0.seen c.other.inside.inner.me.0.seen ∙ i.seen ∙ sym words;
      loads = ap (λ m. length m.0.loads) e.2 ∙ i.loads ∙ sym words;
    }
