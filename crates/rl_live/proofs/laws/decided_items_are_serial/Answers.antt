use Rattle.std.proofs.Common.{map}
use Rattle.rl_families.proofs.Rising.{rises_from}
use Rattle.rl_txn.specs.declared.item.Item.{Item}
use Rattle.rl_families.proofs.Strict.{map_strict}
use Rattle.rl_live.proofs.Serial.{runs_all, store_after}
use Rattle.rl_live.proofs.laws.decided_items_are_serial.Goals as goal

pub returns : goal.returns
returns c tables lists rows items d = (
  runs_all tables lists rows d.made d.view d.words d.closed items d.opens d.rest d.ends (map_strict items (rises_from (map (λ (x : Item). x.stamp) items) d.rising)) d.are,
  store_after tables lists rows d.made d.view d.words d.closed items d.opens d.rest d.ends (map_strict items (rises_from (map (λ (x : Item). x.stamp) items) d.rising)) d.are,
)
