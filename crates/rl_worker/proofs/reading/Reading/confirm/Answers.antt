use Rattle.std.proofs.Common.{◌≡◌, ◌<◌, ◌≤◌, ◌==◌, ◌∙◌, ◌+◌, ◌*◌, Some, None, if◌then◌else◌, ap, sym, subst, length, All, true, arith}
use Rattle.std.specs.FinMap as finite
use Rattle.rl_tables.specs.Numbers.{sizes_of, place_of}
use Rattle.rl_txn.specs.Eval.{is_new, rows_given, awaited}
use Rattle.rl_base.specs.declared.refusal.Refusal.TheVariants as Refusal
use Rattle.rl_worker.specs.Opening.{overlay_of}
use Rattle.rl_value.specs.Cells.{row_of}
use Rattle.rl_worker.specs.Workers.{ReadFits}
use Rattle.rl_worker.proofs.Commits.{found_is}
use Rattle.rl_worker.proofs.Readings.{overlay_with, all_with, no_conflict, confirms, refuses}
use Rattle.rl_worker.proofs.reading.Reading.confirm.Goals as goal

pub returns-in-Some-clause-act : goal.returns-in-Some-clause-act
returns-in-Some-clause-act c =
    let recs = c.args.words.now.records.items in
    let x = c.index-record.result.now in
    let next = c.args.self.next in
    let there : next.rec < length recs = omega (arith, c.requires.reading.next.0, c.requires.records.count) in
    let fx = found_is recs next.rec x there c.index-record.ensures in
    let long : length x.cells ≤ length next.row = rw (sym fx) c.requires.loaded in
    let said = ap (λ h. if h then Some (Refusal.Locked next.rec (2 * x.stamp + 1)) else if x.stamp == next.seen then None else Some (Refusal.Changed next.rec (2 * next.seen) (2 * x.stamp))) (sym c.is_some.ensures) ∙ sym c.conflict-conflict.ensures ∙ c.in-Some.is in
    λ s w e q. refuses s w e q c.args.self c.args.words.now x c.in-Some.refusal c.requires.later fx long said

pub returns-in-None-clause-act : goal.returns-in-None-clause-act
returns-in-None-clause-act c =
    let recs = c.args.words.now.records.items in
    let x = c.index-record.result.now in
    let rec = c.args.self.next.rec in
    let there : rec < length recs = omega (arith, c.requires.reading.next.0, c.requires.records.count) in
    let fx = found_is recs rec x there c.index-record.ensures in
    let long : length x.cells ≤ length c.args.self.next.row = rw (sym fx) c.requires.loaded in
    let both = no_conflict c.is_some.result (x.stamp == c.args.self.next.seen) _ _ (sym c.conflict-conflict.ensures ∙ c.in-None.is) in
    λ s w e q. confirms s w e q c.args.self c.args.words.now x c.counted.result.reads.0 c.requires.later fx long (sym c.is_some.ensures ∙ both.0) both.1 c.counted.ensures.reads

pub returns-in-None-clause-asking : goal.returns-in-None-clause-asking
returns-in-None-clause-asking c =
    let tables = c.args.schema.now in
    let self = c.args.self in
    let place : awaited self.eval ≡ place_of (sizes_of tables) self.next.rec = c.requires.reading.place in
    let fresh : is_new (overlay_of tables self.reads.0) (place_of (sizes_of tables) self.next.rec) ≡ true =
    ap (λ m. is_new m (place_of (sizes_of tables) self.next.rec)) (sym c.requires.reading.known) ∙ ap (is_new (rows_given self.eval)) (sym place) ∙ c.requires.reading.awaits.fresh in
    record {
      eval = c.counted.ensures.eval tables c.args.txn.now c.requires.reading.eval;
      known = c.counted.ensures.given ∙ ap (λ p. finite.insert (rows_given self.eval) p (row_of self.next.row)) place ∙ ap (λ m. finite.insert m (place_of (sizes_of tables) self.next.rec) (row_of self.next.row)) c.requires.reading.known
          ∙ sym (overlay_with tables self.next self.reads.0 fresh) ∙ ap (overlay_of tables) (sym c.counted.ensures.reads);
      room = omega (arith, c.requires.reading.room, c.counted.ensures.less, c.counted.ensures.room);
      closed = c.counted.ensures.closed;
      reads = subst (λ xs. All (ReadFits tables) xs) (sym c.counted.ensures.reads) (all_with (ReadFits tables) self.next self.reads.0 c.requires.reading.next c.requires.reading.reads);
    }
