use Rattle.std.proofs.Common.{◌≡◌, ℕ, ◌++◌, [], ◌∷◌, ap, sym, ◌∙◌}
use Rattle.rl_progress.specs.Rule.{rest_of, dealt, publisher}
use Rattle.rl_progress.specs.Seats.{SeatOf}
use Rattle.rl_progress.proofs.Lists.{map_range_more}
use Rattle.rl_progress.proofs.progress.Progress.deal.Goals as goal

pub loop-stream-preserved : goal.loop-stream-preserved
loop-stream-preserved c =
    let i = c.loop-stream.invariant in
    let d = c.deal_one-seat.ensures in
    let of_stream : ℕ → SeatOf = (λ s. record { table = c.args.self.now; view = publisher c.args.self.now.words s }) in
    let view = d.dealt ∙ ap (λ m. dealt m.0) i.1 in
    let seat : c.deal_one-seat.result ≡ of_stream c.loop-stream.stream = λ j. record { table = d.table.1 j; view = view j } in (
      d.table.0,
      d.rest ∙ ap (λ m. (rest_of m.0, [])) i.1,
      c.in_ok-push.ensures.items ∙ (λ j. i.2 j ++ seat j ∷ []) ∙ sym (map_range_more of_stream c.loop-stream.stream),
    )
