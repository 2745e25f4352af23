use Rattle.rl_safe.proofs.Elections as elections
use Rattle.rl_safe.proofs.laws.epochs_decide.Goals as goal

pub returns : goal.returns
returns c = elections.epochs_decide
