-- The law of the rule.
use Rattle.rl_store.specs.Entries.{Decided, Stands}
use Rattle.rl_store.specs.Layout.{Opening}
use Rattle.rl_store.specs.Rule.{Shared, StoreRule}
use Rattle.rl_store.specs.Serial.{SerialStore}

-- wherever the rule holds, the items and decided attempts of all passes are serial
abbrev pub RuleIsSerial : Type 0
RuleIsSerial = (b : Opening) (s : Shared) → StoreRule b s → SerialStore b (λ e. Stands s.views e × Decided e)
