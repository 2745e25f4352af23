use Rattle.rl_safe.proofs.Elections as elections
use Rattle.rl_safe.proofs.laws.logs_have_what_leaders_propose.Goals as goal

pub returns-clause-proposed : goal.returns-clause-proposed
returns-clause-proposed c = elections.logs_have_what_is_proposed

pub returns-clause-all : goal.returns-clause-all
returns-clause-all c = elections.logs_have_all_up_to_the_last
