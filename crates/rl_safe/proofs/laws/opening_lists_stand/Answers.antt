use Rattle.rl_safe.proofs.Elections as elections
use Rattle.rl_safe.proofs.laws.opening_lists_stand.Goals as goal

pub returns-clause-before : goal.returns-clause-before
returns-clause-before c = elections.items_are_of_opened_epochs c.runs_are_led.ensures

pub returns-clause-one : goal.returns-clause-one
returns-clause-one c = elections.opening_lists_stand c.runs_are_led.ensures

pub returns-clause-later : goal.returns-clause-later
returns-clause-later c = elections.later_logs_begin c.runs_are_led.ensures
