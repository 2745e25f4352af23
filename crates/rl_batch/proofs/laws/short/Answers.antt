use Rattle.rl_batch.proofs.Sizes.{batch_size}
use Rattle.rl_batch.proofs.laws.short.Goals as goal

pub returns : goal.returns
returns c = λ b range. batch_size b range
