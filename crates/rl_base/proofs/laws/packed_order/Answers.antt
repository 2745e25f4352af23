use Rattle.rl_base.proofs.OrderLemmas.{packed_below, below_packed}
use Rattle.rl_base.proofs.laws.packed_order.Goals as goal

pub returns : goal.returns
returns c = λ s t small_s small_t. (packed_below s t small_s small_t, below_packed s t small_s small_t)
