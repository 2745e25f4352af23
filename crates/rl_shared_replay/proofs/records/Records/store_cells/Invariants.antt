use Rattle.std.proofs.Common.{◌≡◌}
use Rattle.rl_shared_replay.specs.Calls.{IsStoring, version_in}
use Rattle.rl_shared_replay.proofs.records.Records.store_cells.Given as goal

-- the first k cells are stored
abbrev pub invariant-loop-k : goal.invariant-loop-k
invariant-loop-k l =
    (l.seat.table ≡ l.initial.seat.table) × (l.seat.view.seen ≡ l.initial.seat.view.seen)
    × IsStoring l.self.made (version_in l.update) l.k l.seat.view
