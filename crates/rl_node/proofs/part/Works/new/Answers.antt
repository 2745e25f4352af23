use Rattle.std.proofs.Common.{◌∙◌, ap, subst, sym, All}
use Rattle.rl_txn.specs.Serial.{rows_after}
use Rattle.rl_value.specs.Fits.{RowsFit}
use Rattle.rl_worker.specs.Opening.{opening_recs}
use Rattle.rl_worker.specs.Stamping.{WritesAreThere, opening_stamps}
use Rattle.rl_node.specs.SetupOf.{setup_of}
use Rattle.rl_node.proofs.Opens.{writes_there, rows_fit, core_fits}
use Rattle.rl_node.proofs.part.Works.new.Goals as goal

pub opening_stamps-requires-clause-there : goal.opening_stamps-requires-clause-there
opening_stamps-requires-clause-there c =
    let laws = c.openings.ensures in
    subst (λ sizes. All (WritesAreThere sizes) c.args.items.now) (sym c.in_ok-layout.ensures)
    (writes_there laws.there laws.early laws.rows (setup_of c.args.setup.now) c.requires.setup c.args.epoch c.requires.epoch c.args.items.now c.requires.items)

pub at-requires-clause-rows : goal.at-requires-clause-rows
at-requires-clause-rows c =
    let laws = c.openings.ensures in
    let setup = setup_of c.args.setup.now in
    subst (RowsFit setup.program.tables)
    (ap (rows_after setup.program.rows) (sym c.as_slice.ensures) ∙ sym c.in_ok-rows.ensures)
    (rows_fit laws.there laws.early laws.rows setup c.requires.setup c.args.epoch c.requires.epoch c.args.items.now c.requires.items)

pub returns : goal.returns
returns c =
    let laws = c.openings.ensures in
    let setup = setup_of c.args.setup.now in
    let words = c.in_ok-words.ensures in
    record {
      layout = c.in_ok-layout.ensures;
      records = words.records
          ∙ ap (λ rows. opening_recs setup.program.tables rows c.in_ok-stamps.stamps) (c.in_ok-rows.ensures ∙ ap (rows_after setup.program.rows) c.as_slice.ensures)
          ∙ ap (opening_recs setup.program.tables (rows_after setup.program.rows c.args.items.now))
          (c.in_ok-stamps.ensures ∙ ap (λ sizes. opening_stamps sizes c.args.items.now) c.in_ok-layout.ensures);
      fit = words.fits;
      next = words.next;
      workers = c.in_ok-workers.ensures;
      opens = core_fits laws.there laws.early laws.rows setup c.requires.setup c.args.epoch c.requires.epoch c.args.items.now c.requires.items;
    }
