use Rattle.std.proofs.Common.{◌≡◌, ◌<◌, ◌≤◌, ◌*◌, None, length, get_or, set, sum, arith, ap, ◌∙◌, refl, subst, sym}
use Rattle.rl_tables.specs.Numbers.{record_of}
use Rattle.rl_value.specs.Tables.{columns_of}
use Rattle.rl_worker.specs.declared.act.Act.TheVariants as act
use Rattle.rl_worker.specs.Opening.{install_of}
use Rattle.rl_txn.specs.Fits.{WriteFits}
use Rattle.rl_worker.proofs.Commits.{found_is, columns_fit, stores, closes}
use Rattle.rl_worker.proofs.commit.Commit.store.Goals as goal

pub set-requires : goal.set-requires
set-requires c =
    let w = c.index-as_slice-closed.result in
    let recs = c.args.words.now.records.items in
    let x = c.index_mut-record.result.now in
    let w_is : w ≡ get_or c.args.self.now.item.writes c.args.closed w = rw c.as_slice.ensures at c.index-as_slice-closed.is in
    let f : WriteFits c.args.schema.now w = subst (WriteFits c.args.schema.now) (sym w_is) (c.requires.fits.writes c.args.closed w c.requires.more) in
    let r_is : c.record-rec.result ≡ (install_of c.args.schema.now w).rec = c.record-rec.ensures.number ∙ ap (λ l. record_of l w.table w.key) c.requires.layout in
    let there : c.record-rec.result < length recs = omega (arith, c.record-rec.ensures.there, c.requires.records.count, ap sum c.requires.layout) in
    let fx = found_is recs c.record-rec.result x there c.index_mut-record.ensures.value in
    let wide = columns_fit c.args.schema.now recs w c.record-rec.result x c.requires.records f r_is there fx in
    omega (arith, wide.0, c.columns.ensures.columns, c.if-stored-columns.true)

pub returns-then-stored-columns-clause-act : goal.returns-then-stored-columns-clause-act
returns-then-stored-columns-clause-act c =
    let w = c.index-as_slice-closed.result in
    let recs = c.args.words.now.records.items in
    let x = c.index_mut-record.result.now in
    let w_is : w ≡ get_or c.args.self.now.item.writes c.args.closed w = rw c.as_slice.ensures at c.index-as_slice-closed.is in
    let f : WriteFits c.args.schema.now w = subst (WriteFits c.args.schema.now) (sym w_is) (c.requires.fits.writes c.args.closed w c.requires.more) in
    let r_is : c.record-rec.result ≡ (install_of c.args.schema.now w).rec = c.record-rec.ensures.number ∙ ap (λ l. record_of l w.table w.key) c.requires.layout in
    let there : c.record-rec.result < length recs = omega (arith, c.record-rec.ensures.there, c.requires.records.count, ap sum c.requires.layout) in
    let fx = found_is recs c.record-rec.result x there c.index_mut-record.ensures.value in
    let wide = columns_fit c.args.schema.now recs w c.record-rec.result x c.requires.records f r_is there fx in
    let few : c.args.stored ≤ columns_of c.args.schema.now w.table = omega (arith, c.columns.ensures.columns, c.if-stored-columns.true) in
    λ s. stores c.args.schema.now c.args.self.now c.args.closed w w_is c.requires.more c.args.stored c.requires.part s c.args.words.now _ x c.record-rec.result r_is fx c.by.result refl
    c.cell_of-value.result (omega (arith, wide.1, few)) (c.cell_of-value.ensures (columns_of c.args.schema.now w.table) f.2 few)
    (ap (λ cs. set recs c.record-rec.result (record x { cells = cs })) c.set.ensures) c.by.ensures

pub returns-clause-act : goal.returns-clause-act
returns-clause-act c =
    let w = c.index-as_slice-closed.result in
    let recs = c.args.words.now.records.items in
    let x = c.index_mut-record.result.now in
    let w_is : w ≡ get_or c.args.self.now.item.writes c.args.closed w = rw c.as_slice.ensures at c.index-as_slice-closed.is in
    let f : WriteFits c.args.schema.now w = subst (WriteFits c.args.schema.now) (sym w_is) (c.requires.fits.writes c.args.closed w c.requires.more) in
    let r_is : c.record-rec.result ≡ (install_of c.args.schema.now w).rec = c.record-rec.ensures.number ∙ ap (λ l. record_of l w.table w.key) c.requires.layout in
    let there : c.record-rec.result < length recs = omega (arith, c.record-rec.ensures.there, c.requires.records.count, ap sum c.requires.layout) in
    let fx = found_is recs c.record-rec.result x there c.index_mut-record.ensures.value in
    let wide = columns_fit c.args.schema.now recs w c.record-rec.result x c.requires.records f r_is there fx in
    λ s. closes c.args.schema.now c.args.self.now c.args.closed w w_is c.requires.more c.args.stored c.requires.part s c.args.words.now _ x c.record-rec.result r_is fx c.by-2.result refl
    (omega (arith, wide.1, c.columns.ensures.columns, c.if-stored-columns.false))
    (ap (λ n. set recs c.record-rec.result (record x { stamp = n; holder = None })) c.pack-stamp.ensures.packed)
    (c.by-2.ensures ∙ ap (λ n. record { act = act.Close c.record-rec.result n; refused = None; ended = None }) (c.word_of.ensures ∙ ap (λ n. 2 * n) c.pack-stamp.ensures.packed))
