use Rattle.rl_base.proofs.NumberLemmas.{big_bytes-number}
use Rattle.rl_base.proofs.laws.bytes_of_number.Goals as goal

pub returns : goal.returns
returns c = λ n bytes long fits. big_bytes-number n bytes long fits
