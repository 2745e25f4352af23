use Rattle.rl_families.proofs.Nesting.{history_nests, history_cut}
use Rattle.rl_families.proofs.laws.monotone.Goals as goal

pub returns : goal.returns
returns c = record { nest = history_nests; cut = history_cut }
