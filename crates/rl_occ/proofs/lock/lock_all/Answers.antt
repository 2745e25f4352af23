use Rattle.std.proofs.Common.{◌≡◌, ℕ, List, [], ◌∷◌, map, length, ap, sym, ◌∙◌, subst, arith, length-append}
use Rattle.std.proofs.lemmas.Result.{err_from_is_err_and}
use Rattle.rl_tables.specs.Numbers.{record_of}
use Rattle.rl_store.specs.declared.view.View.{View}
use Rattle.rl_store.specs.Passes.{IsLockedRefusal}
use Rattle.rl_store.specs.Views.{with_lock}
use Rattle.rl_occ.specs.declared.sets.Lock.{Lock}
use Rattle.rl_occ.specs.Fits.{rec_of}
use Rattle.rl_occ.specs.Locking.{lock_rec, with_locks}
use Rattle.rl_occ.proofs.Locks.{next_is_free, one_more, one_more_rec, write_key, write_table}
use Rattle.rl_occ.proofs.Places.{of_get}
use Rattle.rl_occ.proofs.lock.lock_all.Goals as goal

pub record-rec-requires-clause-table : goal.record-rec-requires-clause-table
record-rec-requires-clause-table c =
    let w = c.get-write.result.now in
    write_table c.args.schema.now c.args.layout.now w c.requires.layout (c.requires.writes.fit w (c.loop-i.i, of_get c.args.writes.now c.loop-i.i w c.get-write.ensures))

pub record-rec-requires-clause-key : goal.record-rec-requires-clause-key
record-rec-requires-clause-key c =
    let w = c.get-write.result.now in
    write_key c.args.schema.now c.args.layout.now w c.requires.layout (c.requires.writes.fit w (c.loop-i.i, of_get c.args.writes.now c.loop-i.i w c.get-write.ensures))

pub returns-in_err-old-clause-cause : goal.returns-in_err-old-clause-cause
returns-in_err-old-clause-cause c =
    let tables = c.args.schema.now in
    let w = c.get-write.result.now in
    let at = of_get c.args.writes.now c.loop-i.i w c.get-write.ensures in
    let number : c.record-rec.result ≡ rec_of tables w = c.record-rec.ensures.number ∙ ap (λ (l : List ℕ). record_of l w.table w.key) c.requires.layout in
    let p = err_from_is_err_and c.from_residual.result c.from_residual.ensures.1 in
    rw (p.1, p.2) (rec_of tables w, subst (λ r. IsLockedRefusal r c.in_err-old.field-0.0) number c.in_err-old.ensures.cause, next_is_free tables c.args.writes.now c.requires.writes c.loop-i.i c.loop-i.locks.items c.loop-i.invariant.recs w at)

pub loop-i-preserved : goal.loop-i-preserved
loop-i-preserved c =
    let tables = c.args.schema.now in
    let w = c.get-write.result.now in
    let at = of_get c.args.writes.now c.loop-i.i w c.get-write.ensures in
    let rec = c.record-rec.result in
    let old = c.in_ok-old.old in
    let locks = c.loop-i.locks.items in
    let v = c.args.pass.now.view in
    let number : rec ≡ rec_of tables w = c.record-rec.ensures.number ∙ ap (λ (l : List ℕ). record_of l w.table w.key) c.requires.layout in
    let l : Lock = record { rec = rec; old = old } in
    let count = c.loop-i.invariant.count in
    let room = c.loop-i.invariant.room in
    let pushed = ap length c.push_reserved.ensures.items ∙ length-append locks (l ∷ []) in
    let capacity = c.push_reserved.ensures.capacity in
    let test = c.loop-i-test.true in
    record {
      table = c.lock.ensures.table ∙ c.loop-i.invariant.table;
      view = c.in_ok-old.ensures.locked ∙ ap (λ (u : View). with_lock u rec old) c.loop-i.invariant.view ∙ one_more v locks rec old ∙ ap (with_locks v) (sym c.push_reserved.ensures.items);
      recs = ap (map lock_rec) c.push_reserved.ensures.items ∙ one_more_rec tables c.args.writes.now locks c.loop-i.i rec old w at number c.loop-i.invariant.recs;
      count = omega arith;
      room = omega arith;
    }
