use Rattle.std.proofs.Common.{◌≡◌, ◌+◌, ◌≤◌, ◌∙◌, ap, length, nat_lt, arith, position}
use Rattle.std.specs.Option.{unwrap_or}
use Rattle.rl_txn.proofs.RowSets.{ok_gives}
use Rattle.rl_worker.specs.Phases.{with_read}
use Rattle.rl_worker.proofs.Inserts.{read_inserted}
use Rattle.rl_worker.proofs.reads.Reads.insert.Goals as goal

pub returns-clause-reads : goal.returns-clause-reads
returns-clause-reads c =
    let room : length c.self.inside.reads.items + 1 ≤ c.self.inside.reads.capacity = omega (arith, c.requires, ap (λ s. s.1) c.self.view_is) in
    let at : c.unwrap_or-at.result ≡ unwrap_or (position (λ y. nat_lt c.args.read.rec y.rec) c.self.inside.reads.items) (length c.self.inside.reads.items) =
    c.unwrap_or-at.ensures ∙ ap (unwrap_or c.first_after.result) c.len.ensures.value ∙ ap (λ o. unwrap_or o (length c.self.inside.reads.items)) (c.first_after.ensures.place ∙ ap (position (λ y. nat_lt c.args.read.rec y.rec)) c.deref.ensures) in
    ok_gives c.insert-room_was_made.result (c.insert-room_was_made.ensures.succeeds room) c.insert-room_was_made.ensures.ok
    ∙ read_inserted c.args.read c.self.inside.reads.items c.unwrap_or-at.result at ∙ ap (λ s. with_read c.args.read s.0) c.self.view_is
