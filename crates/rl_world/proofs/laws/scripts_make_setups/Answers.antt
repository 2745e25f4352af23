use Rattle.rl_world.proofs.Setups.{setup_fits}
use Rattle.rl_world.proofs.laws.scripts_make_setups.Goals as goal

pub returns : goal.returns
returns c = setup_fits
