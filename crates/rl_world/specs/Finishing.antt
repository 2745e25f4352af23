-- What becomes of a node's answer. No public contract cites it.
use Rattle.std.specs.Prelude.{◌≡◌, ℕ, ◌<◌, ◌++◌, map, Result, Ok, Err}
use Rattle.rl_base.specs.declared.limit.LimitName.TheVariants.{Slots}
use Rattle.rl_base.specs.declared.limit.TheConstants.{BYTES, SLOTS}
use Rattle.rl_net.specs.Messages.{bytes_sent}
use Rattle.rl_nodes.specs.declared.node_error.NodeError.{NodeError}
use Rattle.rl_nodes.specs.declared.node_error.NodeError.TheVariants as node
use Rattle.rl_node.specs.declared.answer.Out.{Out}
use Rattle.rl_world.specs.Refusing.{IsByBytes}
use Rattle.rl_world.specs.Telling.{message_of, HasTaken}
use Rattle.rl_world.specs.declared.told.Told.{Told}
use Rattle.rl_world.specs.declared.world_error.WorldError.{WorldError}
use Rattle.rl_world.specs.declared.world_error.WorldError.TheVariants.{Limit, Memory}

-- what a node handed out is told; a bad message, and the want of an epoch, tell nothing
abbrev pub HasFinished : (old new : Told) (number a : ℕ) → Result Out NodeError → Type 0
HasFinished old new number a (Ok out) = HasTaken old new number a out
HasFinished old new number a (Err node.BadMessage) = new ≡ old
HasFinished old new number a (Err (node.NoEpoch promised)) = new ≡ old
HasFinished old new number a (Err other) = ⊥

-- a full stream passes the limit of slots
abbrev pub HasNotFinished : (old : Told) → Result Out NodeError → WorldError → Type 0
HasNotFinished old (Ok out) error = IsByBytes (BYTES < bytes_sent (old.net ++ map message_of out.sends)) error
HasNotFinished old (Err (node.StreamFull slots)) error = error ≡ Limit Slots SLOTS
HasNotFinished old (Err node.Memory) error = error ≡ Memory
HasNotFinished old (Err other) error = ⊥
