use Rattle.std.proofs.Common.{◌≡◌, ◌<◌, None, length, get_or, sum, arith, ap, ◌∙◌, refl, subst}
use Rattle.rl_tables.specs.Numbers.{record_of}
use Rattle.rl_worker.specs.declared.act.Act.TheVariants as act
use Rattle.rl_worker.specs.Opening.{install_of}
use Rattle.rl_worker.specs.Workers.{PartFits}
use Rattle.rl_worker.proofs.Commits.{found_is, releases}
use Rattle.rl_worker.proofs.commit.Commit.release.Goals as goal

pub returns-clause-act : goal.returns-clause-act
returns-clause-act c =
    let w = c.index-as_slice-closed.result in
    let recs = c.args.words.now.records.items in
    let x = c.index_mut-record.result.now in
    let w_is : w ≡ get_or c.args.self.now.item.writes c.args.closed w = rw c.as_slice.ensures at c.index-as_slice-closed.is in
    let inside : c.args.closed < length c.args.self.now.item.writes = omega (arith, c.requires.more, (subst (λ p. PartFits c.args.self.now p) c.requires.part c.requires.fits.part).1) in
    let r_is : c.record-rec.result ≡ (install_of c.args.schema.now w).rec = c.record-rec.ensures.number ∙ ap (λ l. record_of l w.table w.key) c.requires.layout in
    let there : c.record-rec.result < length recs = omega (arith, c.record-rec.ensures.there, c.requires.records.count, ap sum c.requires.layout) in
    let fx = found_is recs c.record-rec.result x there c.index_mut-record.ensures.value in
    λ s. releases c.args.schema.now c.args.self.now c.args.closed w w_is inside s c.args.words.now _ x c.record-rec.result r_is fx c.by.result refl
    c.args.held c.requires.more c.requires.part (subst (λ p. PartFits c.args.self.now p) c.requires.part c.requires.fits.part).1 refl
    (c.by.ensures ∙ ap (λ n. record { act = act.Close c.record-rec.result n; refused = None; ended = None }) c.word_of-word.ensures)
