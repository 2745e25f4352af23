use Rattle.std.proofs.Common.{◌≡◌, [], map}
use Rattle.std.specs.List.{range_with_len}
use Rattle.rl_progress.specs.Rule.{dealer, publisher}
use Rattle.rl_progress.proofs.progress.Progress.deal.Given as goal

-- the seats of the streams so far
abbrev pub invariant-loop-stream : goal.invariant-loop-stream
invariant-loop-stream l =
    (l.undealt.table_id ≡ l.self) × (l.undealt.me ≡ (dealer l.self.words l.stream, []))
    × (l.seats.items ≡ map (λ s. record { table = l.self; view = publisher l.self.words s }) (range_with_len 0 l.stream))
