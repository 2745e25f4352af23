use Rattle.std.proofs.Common.{sym, arith}
use Rattle.rl_gen.proofs.Fits.{script_fits}
use Rattle.rl_gen.proofs.generate.generate.Goals as goal

pub returns-in_ok-generated-in-None-clause-fits : goal.returns-in_ok-generated-in-None-clause-fits
returns-in_ok-generated-in-None-clause-fits c =
    script_fits c.in_ok-generated-in-None.field-0 c.args.seed c.args.nodes c.args.workers c.args.requests c.in_ok-generated-in-None.ensures
    (omega arith) c.requires.nodes c.requires.workers (sym c.in-None.ensures)
