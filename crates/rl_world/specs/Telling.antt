-- What was sent, released and told, as a world has it. No public contract cites it.
use Rattle.std.specs.Prelude.{◌≡◌, ℕ, ◌≤◌, List, [], ◌++◌, length, map, All, None, option_to_list}
use Rattle.std.specs.List.{flat_map}
use Rattle.std.specs.Option.{option_map, option_map_or}
use Rattle.rl_base.specs.declared.limit.TheConstants.{BYTES}
use Rattle.rl_value.specs.Tables.{Table}
use Rattle.rl_msg.specs.Encoding.{msg_bytes}
use Rattle.rl_msg.specs.Parts.{head_of}
use Rattle.rl_msg.specs.Ranges.{MsgInRange}
use Rattle.rl_net.specs.Messages.{new_message, bytes_sent}
use Rattle.rl_net.specs.declared.message.Message.{Message}
use Rattle.rl_nodes.specs.World.{World, Sent, unreleased}
use Rattle.rl_node.specs.declared.answer.Opened.{Opened}
use Rattle.rl_node.specs.declared.answer.Out.{Out}
use Rattle.rl_node.specs.declared.answer.Sent as out
use Rattle.rl_report.specs.Forms.{IsEffect}
use Rattle.rl_report.specs.declared.middle.Middle.{Middle}
use Rattle.rl_report.specs.declared.middle.Middle.TheVariants as middle
use Rattle.rl_world.specs.Reported.{denied_lines, line_reported}
use Rattle.rl_world.specs.declared.told.Told.{Told}

-- ---- what a node hands out ----

-- a message that a node sends, as the network keeps it
abbrev pub message_of : out.Sent → Message
message_of m = new_message m.to m.bytes

-- the line of a leader that opened
abbrev pub opened_middle : (node : ℕ) → Opened → Middle
opened_middle node o = middle.Opened o.epoch node o.count

-- what a node tells at the message of a number
abbrev pub lines_told : (number node : ℕ) → Out → List Middle
lines_told number node out =
    option_map_or (denied_lines number node) out.denied [] ++ option_to_list (option_map (opened_middle node) out.opened)

-- what a node handed out at the message of a number was sent, released and told
pub record HasTaken (old new : Told) (number node : ℕ) (out : Out) : Type 0 where
  pub net : new.net ≡ old.net ++ map message_of out.sends
  pub few : bytes_sent new.net ≤ BYTES
  pub count : new.sent ≡ length new.net
  pub released : new.released ≡ old.released ++ unreleased old.released out.released
  pub lines : new.lines ≡ old.lines ++ lines_told number node out

-- a node handed out nothing
pub record IsQuiet (out : Out) : Type 0 where
  pub sends : out.sends ≡ []
  pub released : out.released ≡ []
  pub denied : out.denied ≡ None
  pub opened : out.opened ≡ None

-- ---- what the world has ----

-- a message as it was sent, as the network keeps it
abbrev pub kept : Sent → Message
kept m = record { to = (head_of m.message).to; bytes = msg_bytes m.message; delivered = m.delivered; dropped = m.dropped }

-- what was sent, released and told is that of a world, where each message has an encoding
pub record StandsTold (tables : List Table) (t : Told) (w : World) : Type 0 where
  pub net : t.net ≡ map kept w.sent
  pub in_range : All (λ (m : Sent). MsgInRange m.message) w.sent
  pub few : bytes_sent t.net ≤ BYTES
  pub count : t.sent ≡ length t.net
  pub released : t.released ≡ w.released
  pub lines : t.lines ≡ flat_map (line_reported tables) w.lines
  pub effects : All IsEffect t.lines
