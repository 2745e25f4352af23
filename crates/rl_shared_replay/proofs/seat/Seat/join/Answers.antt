use Rattle.std.proofs.Common.{sym, ap, ◌∙◌}
use Rattle.rl_shared_replay.proofs.Allowed.{joins}
use Rattle.rl_shared_replay.proofs.Calls.{some_words}
use Rattle.rl_shared_replay.proofs.seat.Seat.join.Goals as goal

pub join_seat-requires : goal.join_seat-requires
join_seat-requires c = (
  ap (λ z. z.table) c.self.view_is ∙ c.requires.tables.0 ∙ sym (ap (λ z. z.table) c.records.view_is),
  ap (λ z. z.table) c.other.view_is ∙ c.requires.tables.1 ∙ sym (ap (λ z. z.table) c.records.view_is),
  c.other.invariant,
  some_words _ _ _ _ c.records.invariant,
  joins _ _ _ _ _ (ap (λ z. z.view.held) c.other.view_is ∙ c.requires.free),
)
