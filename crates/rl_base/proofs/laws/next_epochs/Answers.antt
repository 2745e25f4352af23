use Rattle.rl_base.proofs.Turns.{next_epoch_is}
use Rattle.rl_base.proofs.laws.next_epochs.Goals as goal

pub returns : goal.returns
returns c = λ promised node nodes first last. next_epoch_is promised node nodes first last
