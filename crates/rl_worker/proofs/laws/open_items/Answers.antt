use Rattle.rl_worker.proofs.OpenItems.{open_item}
use Rattle.rl_worker.proofs.laws.open_items.Goals as goal

pub returns : goal.returns
returns c = open_item
