use Rattle.std.proofs.Common.{sym, ap, ◌∙◌}
use Rattle.rl_shared_replay.proofs.Allowed.{splits}
use Rattle.rl_shared_replay.proofs.Calls.{some_words}
use Rattle.rl_shared_replay.proofs.seat.Seat.split.Goals as goal

pub split_seat-inner-requires : goal.split_seat-inner-requires
split_seat-inner-requires c = (
  ap (λ z. z.table) c.self.view_is ∙ c.requires ∙ sym (ap (λ z. z.table) c.records.view_is),
  some_words _ _ _ _ c.records.invariant,
  splits _ _ _,
)
