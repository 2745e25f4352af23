-- Why a batch is not proposed. No public contract cites it.
use Rattle.std.specs.Prelude.{◌≡◌, ℕ, ◌-◌, List, [], length, slice_set}
use Rattle.rl_base.specs.declared.limit.TheConstants.{SLOTS}
use Rattle.rl_nodes.specs.declared.node_error.NodeError.{NodeError}
use Rattle.rl_nodes.specs.declared.node_error.NodeError.TheVariants.{StreamFull, Memory}
use Rattle.rl_paxos.specs.Leaders.{Leading, proposed}
use Rattle.rl_node.specs.Leading.{stream_of}
use Rattle.rl_node.specs.declared.part.Lead.{Lead}

-- a stream has no slot left, or there was no memory
abbrev pub RefusesBatch : Leading → NodeError → Type 0
RefusesBatch x (StreamFull slots) = (length x.log ≡ SLOTS) × (slots ≡ SLOTS)
RefusesBatch x Memory = Unit {0}
RefusesBatch x other = ⊥

-- the bytes of a batch are proposed on stream w of a leader, and nothing is pending of worker w
pub record HasProposed (old new : Lead) (w : ℕ) (bytes : List ℕ) : Type 0 where
  pub epoch : new.epoch ≡ old.epoch
  pub works : new.works ≡ old.works
  pub streams : new.streams.items ≡ slice_set old.streams.items (w - 1) (proposed (stream_of old w) bytes)
  pub acknowledged : new.acknowledged ≡ old.acknowledged
  pub pending : new.pending.items ≡ slice_set old.pending.items (w - 1) []
