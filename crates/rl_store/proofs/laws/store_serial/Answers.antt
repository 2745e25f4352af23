use Rattle.rl_store.proofs.Grouped.{of_rule}
use Rattle.rl_store.proofs.Serials.{store_serial}
use Rattle.rl_store.proofs.laws.store_serial.Goals as goal

pub returns : goal.returns
returns c b s h = store_serial b s (of_rule b s h)
