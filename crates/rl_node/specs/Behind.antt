-- A leader that has counted an Ack, and what of it is not yet up to that. No public contract cites it.
use Rattle.std.specs.Prelude.{◌≡◌, ℕ, ◌≤◌, length, take}
use Rattle.rl_families.specs.Streams.{log_at}
use Rattle.rl_nodes.specs.Batches.{batches_of}
use Rattle.rl_nodes.specs.Nodes.{len_acknowledged, acknowledged_log}
use Rattle.rl_nodes.specs.Setups.{Setup}
use Rattle.rl_node.specs.Fits.{IsEpoch, IsStream, LeadingFits}
use Rattle.rl_node.specs.Leading.{stream_of}
use Rattle.rl_node.specs.declared.part.Lead.{Lead}

-- of stream s so many batches are appended to what is acknowledged, and so many are acknowledged
pub record IsBehind (setup : Setup) (l : Lead) (s before after : ℕ) : Type 0 where
  pub epoch : IsEpoch l.epoch
  pub stream : IsStream setup s
  pub streams : length l.streams.items ≡ setup.workers
  pub each : (u : ℕ) → IsStream setup u → LeadingFits setup l.epoch u (stream_of l u)
  pub acknowledged_streams : length l.acknowledged ≡ setup.workers
  pub others : (u : ℕ) → IsStream setup u → (u ≡ s → ⊥) → log_at l.acknowledged u ≡ batches_of (acknowledged_log (stream_of l u))
  pub here : log_at l.acknowledged s ≡ batches_of (take before (stream_of l s).log)
  pub order : before ≤ after
  pub now : after ≡ len_acknowledged (stream_of l s)
  pub pending : length l.pending.items ≡ setup.workers
