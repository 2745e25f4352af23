-- Why an event is refused. No public contract cites it.
use Rattle.std.specs.Prelude.{◌≡◌}
use Rattle.rl_base.specs.declared.limit.LimitName.TheVariants.{Bytes}
use Rattle.rl_base.specs.declared.limit.TheConstants.{BYTES}
use Rattle.rl_net.specs.declared.net_error.NetError.{NetError}
use Rattle.rl_net.specs.declared.net_error.NetError.TheVariants as net
use Rattle.rl_world.specs.declared.world_error.WorldError.{WorldError}
use Rattle.rl_world.specs.declared.world_error.WorldError.TheVariants.{Limit, Memory}

-- what the network refuses
abbrev pub error_of_net : NetError → WorldError
error_of_net (net.NetFull limit) = Limit Bytes limit
error_of_net net.Memory = Memory

-- a refusal comes by the limit of bytes where that is passed, or because memory ran out
abbrev pub IsByBytes : (passed : Type 0) → WorldError → Type 0
IsByBytes passed (Limit name limit) = (name ≡ Bytes) × (limit ≡ BYTES) × passed
IsByBytes passed Memory = Unit {0}
