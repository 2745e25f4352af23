use Rattle.std.proofs.Common.{◌≡◌, ◌∙◌, ap, sym, subst, length, sum, All, arith}
use Rattle.rl_tables.specs.Numbers.{sizes_of, place_of, record_of}
use Rattle.rl_tables.proofs.Sizes.{size_at}
use Rattle.rl_txn.specs.Eval.{rows_of, wants, rows_given, HasRows}
use Rattle.rl_txn.proofs.Evals.{has_rows_of}
use Rattle.rl_worker.specs.Opening.{overlay_of}
use Rattle.rl_worker.specs.Workers.{ReadFits, PartFits, HasMore}
use Rattle.rl_tables.proofs.Places.{place_of_record}
use Rattle.rl_worker.proofs.Settings.{sizes_length}
use Rattle.rl_worker.proofs.Endings.{ended_phase, writes_fit}
use Rattle.rl_worker.proofs.worker.Worker.run_on.Goals as goal

pub returns-in-Read-clause-fits : goal.returns-in-Read-clause-fits
returns-in-Read-clause-fits c =
    let tables = c.args.schema.now in
    let t = c.in-Read.table in
    let k = c.in-Read.key in
    let placed : place_of (sizes_of tables) c.record.result ≡ (t, k) =
    ap (place_of (sizes_of tables)) (c.record.ensures.number ∙ ap (λ l. record_of l t k) c.requires.layout)
    ∙ place_of_record (sizes_of tables) t k (rw (sizes_length tables) c.in-Read.ensures.there.0) (rw (size_at tables t) c.in-Read.ensures.there.1) in
    record {
      eval = c.in-Read.ensures.of;
      known = c.in-Read.ensures.known ∙ c.requires.asking.known;
      room = omega (arith, c.in-Read.ensures.room, c.requires.asking.room);
      reads = c.requires.asking.reads;
      awaits = c.in-Read.ensures.stands.0;
      place = c.in-Read.ensures.stands.1 ∙ sym placed ∙ ap (place_of (sizes_of tables)) (sym c.of-reading.ensures.rec);
      next = (omega (arith, c.of-reading.ensures.rec, c.record.ensures.there, ap sum c.requires.layout), omega (arith, c.of-reading.ensures.seen));
      cells = omega (arith, ap length c.of-reading.ensures.row);
    }

pub returns-in-Ended-clause-phase : goal.returns-in-Ended-clause-phase
returns-in-Ended-clause-phase c =
    let tables = c.args.schema.now in
    let reads = c.args.reading.reads.0 in
    let know : rows_given c.advance.new.self ≡ overlay_of tables reads = c.in-Ended.ensures.known ∙ c.requires.asking.known in
    let is = c.commit.ensures.run tables c.args.txn.now (rows_of (overlay_of tables reads)) c.in-Ended.ensures.of (subst (λ m. HasRows m (rows_of (overlay_of tables reads))) (sym know) (has_rows_of (overlay_of tables reads))) in
    ended_phase tables c.args.txn.now c.args.self.now.index reads c.commit.result c.in-Ended.field-0
    (c.in-Ended.ensures.wants ∙ ap (wants tables c.args.txn.now) c.requires.asking.known) c.commit.ensures.part c.commit.ensures.index (ap (λ s. s.0) c.commit.ensures.reads) is

pub returns-in-Ended-clause-fits : goal.returns-in-Ended-clause-fits
returns-in-Ended-clause-fits c =
    let tables = c.args.schema.now in
    let reads = c.args.reading.reads.0 in
    let know : rows_given c.advance.new.self ≡ overlay_of tables reads = c.in-Ended.ensures.known ∙ c.requires.asking.known in
    let is = c.commit.ensures.run tables c.args.txn.now (rows_of (overlay_of tables reads)) c.in-Ended.ensures.of (subst (λ m. HasRows m (rows_of (overlay_of tables reads))) (sym know) (has_rows_of (overlay_of tables reads))) in
    let epoch = ap (λ s. s.epoch) c.commit.ensures.stamp in
    let seq = ap (λ s. s.seq) c.commit.ensures.stamp in (
      record {
        reads = subst (λ xs. All (ReadFits tables) xs) (sym (ap (λ s. s.0) c.commit.ensures.reads)) c.requires.asking.reads;
        writes = writes_fit tables c.args.txn.now reads c.commit.result c.requires.txn is;
        epoch = omega (arith, epoch, c.requires.epoch);
        seq = omega (arith, seq);
        part = subst (PartFits c.commit.result) (sym c.commit.ensures.part) (omega arith);
      },
      c.commit.ensures.worker,
      c.commit.ensures.index,
      epoch,
      subst (HasMore c.commit.result) (sym c.commit.ensures.part) tt,
    )
