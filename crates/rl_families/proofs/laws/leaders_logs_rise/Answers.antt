use Rattle.rl_families.proofs.Leading.{leaders_logs_rise}
use Rattle.rl_families.proofs.laws.leaders_logs_rise.Goals as goal

pub returns : goal.returns
returns c = leaders_logs_rise
