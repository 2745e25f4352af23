use Rattle.std.proofs.Common.{◌≡◌, ◌+◌, ◌≤◌, length, ap, ◌∙◌, refl, sym, arith, subst, IsNone}
use Rattle.std.specs.FinMap as finite
use Rattle.std.specs.List.{insert}
use Rattle.rl_txn.specs.declared.row_set.RowAt.{RowAt}
use Rattle.rl_txn.proofs.RowSets.{was_set, was_inserted, not_new, ok_gives}
use Rattle.rl_txn.proofs.row_set.RowSet.put.Goals as goal

pub invariant_of-self : goal.invariant_of-self
invariant_of-self c =
    (was_set c.self.inside.rows.items c.deref.result.now c.deref_mut.result.now (c.args.table, c.args.key) c.in-Ok.at (record { table = c.args.table; key = c.args.key; row = c.args.row }) refl
    c.self.invariant c.deref.ensures c.deref_mut.ensures.value c.in-Ok.ensures.within c.in-Ok.ensures.found).order

pub returns-in-Ok-clause-rows : goal.returns-in-Ok-clause-rows
returns-in-Ok-clause-rows c =
    (was_set c.self.inside.rows.items c.deref.result.now c.deref_mut.result.now (c.args.table, c.args.key) c.in-Ok.at (record { table = c.args.table; key = c.args.key; row = c.args.row }) refl
    c.self.invariant c.deref.ensures c.deref_mut.ensures.value c.in-Ok.ensures.within c.in-Ok.ensures.found).map_is
    ∙ ap (λ s. finite.insert s.0 (c.args.table, c.args.key) c.args.row) c.self.view_is

pub invariant_of-self-in-Err : goal.invariant_of-self-in-Err
invariant_of-self-in-Err c =
    let room : length c.self.inside.rows.items + 1 ≤ c.self.inside.rows.capacity = omega (arith, c.requires, ap (λ s. s.1) c.self.view_is) in
    let x : RowAt = record { table = c.args.table; key = c.args.key; row = c.args.row } in
    let new : c.insert-room_was_made.new.self.items ≡ insert c.self.inside.rows.items c.in-Err.at x = ok_gives c.insert-room_was_made.result (c.insert-room_was_made.ensures.succeeds room) c.insert-room_was_made.ensures.ok in
    (was_inserted c.self.inside.rows.items c.deref.result.now c.insert-room_was_made.new.self.items (c.args.table, c.args.key) c.in-Err.at x refl
    c.self.invariant c.deref.ensures c.in-Err.ensures.within c.in-Err.ensures.between new).order

pub returns-in-Err-clause-rows : goal.returns-in-Err-clause-rows
returns-in-Err-clause-rows c =
    let room : length c.self.inside.rows.items + 1 ≤ c.self.inside.rows.capacity = omega (arith, c.requires, ap (λ s. s.1) c.self.view_is) in
    let x : RowAt = record { table = c.args.table; key = c.args.key; row = c.args.row } in
    let new : c.insert-room_was_made.new.self.items ≡ insert c.self.inside.rows.items c.in-Err.at x = ok_gives c.insert-room_was_made.result (c.insert-room_was_made.ensures.succeeds room) c.insert-room_was_made.ensures.ok in
    (was_inserted c.self.inside.rows.items c.deref.result.now c.insert-room_was_made.new.self.items (c.args.table, c.args.key) c.in-Err.at x refl
    c.self.invariant c.deref.ensures c.in-Err.ensures.within c.in-Err.ensures.between new).map_is
    ∙ ap (λ s. finite.insert s.0 (c.args.table, c.args.key) c.args.row) c.self.view_is

pub returns-in-Ok-clause-used : goal.returns-in-Ok-clause-used
returns-in-Ok-clause-used c = λ none. absurd (not_new c.self.inside.rows.items c.deref.result.now (c.args.table, c.args.key) c.in-Ok.at
    c.self.invariant c.deref.ensures c.in-Ok.ensures.within c.in-Ok.ensures.found (subst (λ s. IsNone (finite.get s.0 (c.args.table, c.args.key))) (sym c.self.view_is) none))
