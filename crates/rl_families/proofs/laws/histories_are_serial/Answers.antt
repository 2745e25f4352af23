use Rattle.rl_families.proofs.SerialHistories.{histories_are_serial}
use Rattle.rl_families.proofs.laws.histories_are_serial.Goals as goal

pub returns : goal.returns
returns c = histories_are_serial
