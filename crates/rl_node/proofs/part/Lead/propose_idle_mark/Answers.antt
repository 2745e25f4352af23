use Rattle.std.proofs.Common.{arith}
use Rattle.rl_node.specs.SetupOf.{setup_of}
use Rattle.rl_node.specs.declared.part.Lead.{Lead}
use Rattle.rl_node.proofs.Idles.{marked_from, idle_tries, seq_low, fits_with_works}
use Rattle.rl_node.proofs.part.Lead.propose_idle_mark.Goals as goal

pub propose_mark-requires-clause-fits : goal.propose_mark-requires-clause-fits
propose_mark-requires-clause-fits c =
    fits_with_works (setup_of c.args.setup.now) c.args.self.now c.draw-seq.new.self c.draw-seq.new.self.works c.requires.fits c.draw-seq.ensures.same

pub propose_mark-requires-clause-low : goal.propose_mark-requires-clause-low
propose_mark-requires-clause-low c =
    let setup = setup_of c.args.setup.now in
    let low = seq_low c.turns.ensures.below c.turns.ensures.in_range setup c.args.self.now c.requires.open.0 c.args.worker c.requires.worker c.requires.open.1 in
    let seq = c.draw-seq.ensures.seq in
    omega (arith, low, seq)

pub propose_mark-requires-clause-high : goal.propose_mark-requires-clause-high
propose_mark-requires-clause-high c = let left = c.requires.next in let seq = c.draw-seq.ensures.seq in omega (arith, left, seq)

pub returns : goal.returns
returns c = λ x core may.
    let setup = setup_of c.args.setup.now in
    let l : Lead = c.args.self.now in
    let w = c.args.worker in
    let new : Lead = c.propose_mark.new.self in
    let r = c.propose_mark.result in
    let seq = c.draw-seq.result in
    let m = c.propose_mark.ensures in
    let told = marked_from c.turns.ensures.below c.turns.ensures.in_range setup c.requires.setup l c.requires.fits w c.requires.worker core may c.args.id x new r
    c.draw-seq.new.self seq c.draw-seq.ensures.same (record { proposed = m.proposed; free = m.free; sends = m.sends; short = m.short; read = m.read; refused = m.refused }) in
    idle_tries c.turns.ensures.below c.turns.ensures.in_range setup c.requires.setup l c.requires.fits w c.requires.worker core may c.args.id x new r
    c.requires.next c.draw-seq.new.self.works c.draw-seq.ensures.drawn seq c.draw-seq.ensures.seq told
