use Rattle.rl_check.proofs.OneVerdict.{is_yes}
use Rattle.rl_check.proofs.laws.verdicts.Goals as goal

pub returns : goal.returns
returns c = λ script text items verdict fits right is. is_yes script text items fits right verdict is
