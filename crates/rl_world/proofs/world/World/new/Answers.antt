use Rattle.std.proofs.Common.{sym, subst}
use Rattle.rl_nodes.specs.Setups.{SetupFits}
use Rattle.rl_world.proofs.Setups.{setup_fits}
use Rattle.rl_world.proofs.world.World.new.Goals as goal

pub new-requires-clause-fits : goal.new-requires-clause-fits
new-requires-clause-fits c = subst SetupFits (sym c.new-setup.ensures) (setup_fits c.args.script c.requires.fits)
