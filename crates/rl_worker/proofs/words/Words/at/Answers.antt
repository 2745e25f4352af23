use Rattle.std.proofs.Common.{◌≡◌, ◌∷◌, ◌++◌, [], length, sum, refl, sym, ap, ◌∙◌, subst, None, arith}
use Rattle.std.proofs.lemmas.List.FromFn.{length-map-range_with_len}
use Rattle.rl_tables.specs.Numbers.{place_of, sizes_of}
use Rattle.rl_worker.specs.declared.words.Record.{Record}
use Rattle.rl_worker.specs.Opening.{opening_rec}
use Rattle.rl_worker.specs.Workers.{RecordFits}
use Rattle.rl_worker.specs.Told.{found}
use Rattle.rl_worker.proofs.Openings.{opened, opened_more, opened_fits, fits_more}
use Rattle.rl_worker.proofs.words.Words.at.Goals as goal

pub loop-rec-preserved : goal.loop-rec-preserved
loop-rec-preserved c =
    let tables = c.args.schema.now in
    let x : Record = record { stamp = c.get.result.now; holder = None; cells = c.of_row.result } in
    let place = c.place-table.ensures.place ∙ ap (λ s. place_of s c.loop-rec.rec) c.requires.layout in
    let is : x ≡ opening_rec tables c.args.map.now c.args.stamps.now c.loop-rec.rec =
    opened tables c.args.map.now c.args.stamps.now c.loop-rec.rec x c.place-table.result c.columns-columns.result _ c.get.ensures refl
    place c.columns-columns.ensures.columns c.get-in-loop-rec.ensures c.of_row.ensures.cells in
    let fits : RecordFits tables c.loop-rec.rec x = opened_fits tables c.args.map.now c.args.stamps.now c.loop-rec.rec x c.place-table.result c.columns-columns.result _ c.requires.rows c.requires.earlier c.get.ensures
    place c.columns-columns.ensures.columns c.columns-columns.ensures.some c.get-in-loop-rec.ensures c.of_row.ensures.cells in
    let more : c.push.new.self.items ≡ c.loop-rec.records.items ++ x ∷ [] = c.in_ok-push.ensures.items in
    let long : length c.loop-rec.records.items ≡ c.loop-rec.rec = ap length c.loop-rec.invariant.is ∙ length-map-range_with_len (opening_rec tables c.args.map.now c.args.stamps.now) 0 c.loop-rec.rec in
    record {
      is = more ∙ opened_more tables c.args.map.now c.args.stamps.now c.loop-rec.rec c.loop-rec.records.items x c.loop-rec.invariant.is is;
      fit = λ i l. subst (λ xs. RecordFits tables i (found xs i)) (sym more) (fits_more tables c.loop-rec.rec c.loop-rec.records.items x long c.loop-rec.invariant.fit fits i l);
    }

pub returns-clause-fits : goal.returns-clause-fits
returns-clause-fits c =
    let long : length c.loop-rec.records.items ≡ c.loop-rec.rec = ap length c.loop-rec.invariant.is ∙ length-map-range_with_len (opening_rec c.args.schema.now c.args.map.now c.args.stamps.now) 0 c.loop-rec.rec in
    let all : c.loop-rec.rec ≡ sum (sizes_of c.args.schema.now) = omega (arith, c.loop-rec-test.false, c.loop-rec.auto.rec-end, c.count-count.ensures.count, ap sum c.requires.layout) in
    record {
      count = long ∙ all;
      each = λ r l. c.loop-rec.invariant.fit r (omega (arith, long, l));
    }
