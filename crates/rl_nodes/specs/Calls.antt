-- What the calls of a node leave behind, in memory and out of it.
use Rattle.std.specs.Prelude.{◌≡◌, ◌⊎◌, ℕ, ◌-◌, List, map, slice_index, Option, Some, None, MatchOption, IsOkAnd, Ok, Err}
use Rattle.std.specs.Option.{option_map_or}
use Rattle.rl_msg.specs.declared.msg.Msg.{Msg}
use Rattle.rl_msg.specs.Encoding.{msg_bytes}
use Rattle.rl_msg.specs.Parts.{head_of}
use Rattle.rl_worker.specs.Acts.{phase_of}
use Rattle.rl_nodes.specs.declared.node_error.NodeError.{NodeError}
use Rattle.rl_nodes.specs.declared.node_error.NodeError.TheVariants.{BadMessage, StreamFull, NoEpoch, Memory}
use Rattle.rl_nodes.specs.Answers.{Did, Answer}
use Rattle.rl_nodes.specs.Nodes.{NodeState, Part, Leads}
use Rattle.rl_nodes.specs.Works.{request_in}

-- ---- what is handed out ----

-- a message as it is sent: to whom, and its one encoding
abbrev pub encoded : Msg → ℕ × List ℕ
encoded m = ((head_of m).to, msg_bytes m)

-- the messages of an event as they are sent
abbrev pub encoded_sends : Did → List (ℕ × List ℕ)
encoded_sends did = map encoded did.sends

-- how many entries of stream s a replica has played
abbrev pub played_len : NodeState → (s : ℕ) → ℕ
played_len x s = slice_index x.replica.played (s - 1)

-- the epoch of an open leader and the index of the request that its worker w is at; of any other node (0, 0)
abbrev pub turn_of : Part → (w : ℕ) → ℕ × ℕ
turn_of (Leads lead) w = option_map_or (λ core. (lead.epoch, request_in (phase_of core w))) lead.core (0, 0)
turn_of other w = (0, 0)

-- ---- what a call leaves ----

-- a node between calls: what it is, and the answer that it repeats until it crashes
pub record Standing : Type 0 where
  pub node : NodeState
  pub failed : Option NodeError

-- a call was due an answer and has given it
pub record IsDone (old new : Standing) (answer : Answer) (did : Did) : Type 0 where
  pub could : old.failed ≡ None
  pub due : answer ≡ Ok did
  pub node : new.node ≡ did.node
  pub can : new.failed ≡ None

-- the acceptor is that before a call, or that after what was due, if something was
abbrev pub KeepsAcceptor : (old new : NodeState) → Answer → Type 0
KeepsAcceptor old new answer = (new.acceptor ≡ old.acceptor) ⊎ IsOkAnd answer (λ did. new.acceptor ≡ did.node.acceptor)

-- a call has refused that could be made: a bad message and the want of an epoch leave the node unchanged; after a full stream, where that
-- was due, and where memory ran out, which may be at any call, it repeats that answer, and its acceptor is that before or after the call
abbrev pub HasRefused : (old new : Standing) → Answer → NodeError → Type 0
HasRefused old new answer BadMessage = (answer ≡ Err BadMessage) × (new ≡ old)
HasRefused old new answer (NoEpoch promised) = (answer ≡ Err (NoEpoch promised)) × (new ≡ old)
HasRefused old new answer (StreamFull slots) =
    (answer ≡ Err (StreamFull slots)) × (new.failed ≡ Some (StreamFull slots)) × KeepsAcceptor old.node new.node answer
HasRefused old new answer Memory = (new.failed ≡ Some Memory) × KeepsAcceptor old.node new.node answer

-- a call has refused: with the answer that the node repeats, and unchanged, or as one that could be made
abbrev pub IsRefused : (old new : Standing) → Answer → NodeError → Type 0
IsRefused old new answer error = MatchOption old.failed (HasRefused old new answer error) (λ f. (error ≡ f) × (new ≡ old))
