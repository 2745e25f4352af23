use Rattle.rl_node.specs.SetupOf.{setup_of}
use Rattle.rl_node.proofs.Idles.{end_tries}
use Rattle.rl_node.proofs.part.Lead.propose_end_mark.Goals as goal

pub returns : goal.returns
returns c = λ x core may done.
    let m = c.propose_mark.ensures in
    end_tries c.turns.ensures.below c.turns.ensures.in_range (setup_of c.args.setup.now) c.requires.setup c.args.self.now c.requires.fits c.args.worker
    c.requires.worker core may c.args.id x c.propose_mark.new.self c.propose_mark.result done
    (record { proposed = m.proposed; free = m.free; sends = m.sends; short = m.short; read = m.read; refused = m.refused })
