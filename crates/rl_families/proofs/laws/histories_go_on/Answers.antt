use Rattle.rl_families.proofs.Extending.{histories_extend}
use Rattle.rl_families.proofs.laws.histories_go_on.Goals as goal

pub returns : goal.returns
returns c = λ l n g log told. histories_extend l n g log told
