-- What is released, from the items that a history gained. No public contract cites it.
use Rattle.std.specs.Prelude.{◌≡◌, List, Option, Some, None}
use Rattle.rl_txn.specs.declared.item.Item.{Item}
use Rattle.rl_nodes.specs.Answers.{Release}
use Rattle.rl_nodes.specs.World.{unreleased}

-- what of a history is above the last released item, its gain has
abbrev pub GainSuffices : (released : List Item) → Option Release → Type 0
GainSuffices released None = Unit {0}
GainSuffices released (Some r) = unreleased released r.history ≡ unreleased released r.gained
