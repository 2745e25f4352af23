-- What is true of the encoding of messages.
use Rattle.std.specs.Prelude.{◌≡◌, ℕ, List, Ok}
use Rattle.rl_base.specs.Numbers.{IsBytes}
use Rattle.rl_msg.specs.declared.msg.Msg.{Msg}
use Rattle.rl_msg.specs.Encoding.{msg_bytes}
use Rattle.rl_msg.specs.Ranges.{MsgInRange}
use Rattle.rl_msg.specs.Reading.{read_msg}

-- what encodes a message is read as that message
abbrev pub MessagesReadBack : Type 0
MessagesReadBack = (m : Msg) → MsgInRange m → read_msg (msg_bytes m) ≡ Ok m

-- what is read as a message is its encoding, and the message is in range
abbrev pub OnlyEncodingsAreRead : Type 0
OnlyEncodingsAreRead = (bytes : List ℕ) (m : Msg) → IsBytes bytes → read_msg bytes ≡ Ok m
    → (bytes ≡ msg_bytes m) × MsgInRange m
