use Rattle.rl_families.proofs.Joining as joining
use Rattle.rl_families.proofs.laws.prefixes_join.Goals as goal

pub returns : goal.returns
returns c = joining.prefixes_join
