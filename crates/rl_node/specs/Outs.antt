-- What a node hands out, as it is defined.
use Rattle.std.specs.Prelude.{◌≡◌, ℕ, List, [], ◌++◌, map, length, All, None}
use Rattle.std.specs.Option.{option_map, option_map_or}
use Rattle.rl_msg.specs.declared.msg.Msg.{Msg}
use Rattle.rl_msg.specs.Ranges.{MsgInRange}
use Rattle.rl_nodes.specs.Answers.{Opening, Release, Did}
use Rattle.rl_nodes.specs.Calls.{encoded, encoded_sends}
use Rattle.rl_node.specs.declared.answer.Sent.{Sent}
use Rattle.rl_node.specs.declared.answer.Opened.{Opened}
use Rattle.rl_node.specs.declared.answer.Out.{Out}

-- messages as they are sent: to whom, and their bytes
abbrev pub seen_sends : List Sent → List (ℕ × List ℕ)
seen_sends sends = map (λ (x : Sent). (x.to, x.bytes)) sends

-- an opening as it is told: its epoch, and how many items its opening list has
abbrev pub seen_opening : Opening → Opened
seen_opening o = record { epoch = o.epoch; count = length o.items }

-- messages were sent behind others, and each has an encoding
pub record Adds (old new : List Sent) (messages : List Msg) : Type 0 where
  pub sends : seen_sends new ≡ seen_sends old ++ map encoded messages
  pub in_range : All MsgInRange messages

-- what is handed out is what a node did: the encodings of the messages in their order, the opening, why it refused a
-- message, and the items that its history gained. Each message has an encoding
pub record IsOut (did : Did) (out : Out) : Type 0 where
  pub sends : seen_sends out.sends ≡ encoded_sends did
  pub in_range : All MsgInRange did.sends
  pub opened : out.opened ≡ option_map seen_opening did.opened
  pub denied : out.denied ≡ did.denied
  pub released : out.released ≡ option_map_or (λ (r : Release). r.gained) did.release []

-- it sends some messages and tells nothing
pub record IsSending (messages : List Msg) (out : Out) : Type 0 where
  pub sends : seen_sends out.sends ≡ map encoded messages
  pub in_range : All MsgInRange messages
  pub opened : out.opened ≡ None
  pub denied : out.denied ≡ None
  pub released : out.released ≡ []
