use Rattle.rl_worker.proofs.Stamping.{count_is, early, fits_there}
use Rattle.rl_worker.proofs.laws.opening_stamps.Goals as goal

pub returns-clause-each : goal.returns-clause-each
returns-clause-each c = count_is

pub returns-clause-early : goal.returns-clause-early
returns-clause-early c = early

pub returns-clause-there : goal.returns-clause-there
returns-clause-there c = fits_there
