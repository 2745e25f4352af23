-- Bytes that are no message. No public contract cites it.
use Rattle.std.specs.Prelude.{◌≡◌, ℕ, List, None}
use Rattle.std.specs.Result.{result_ok}
use Rattle.rl_msg.specs.Reading.{read_msg}
use Rattle.rl_nodes.specs.declared.node_error.NodeError.{NodeError}
use Rattle.rl_nodes.specs.declared.node_error.NodeError.TheVariants.{BadMessage, Memory}

-- why some bytes are not read: they are no message, or there was no memory
abbrev pub RefusesBytes : List ℕ → NodeError → Type 0
RefusesBytes bytes BadMessage = result_ok (read_msg bytes) ≡ None
RefusesBytes bytes Memory = Unit {0}
RefusesBytes bytes other = ⊥
