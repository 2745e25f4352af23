use Rattle.rl_safe.proofs.Elections as elections
use Rattle.rl_safe.proofs.laws.epochs_settle.Goals as goal

pub returns-clause-settled : goal.returns-clause-settled
returns-clause-settled c = elections.epochs_settle c.runs_are_led.ensures

pub returns-clause-released : goal.returns-clause-released
returns-clause-released c = elections.released_is_never_cut c.runs_are_led.ensures
