-- The messages of a network, numbered from 1 in the order in which they were sent.
use Rattle.std.specs.Prelude.{◌≡◌, ℕ, zero, suc, ◌<◌, ◌≤◌, Bool, true, false, not, ◌&&◌, List, length, sum_by, slice_get, slice_set, Option, None}
use Rattle.std.specs.Option.{option_map_or}
use Rattle.rl_net.specs.declared.message.Message.{Message}

-- a message as it is sent
abbrev pub new_message : (to : ℕ) (bytes : List ℕ) → Message
new_message to bytes = record { to = to; bytes = bytes; delivered = false; dropped = false }

-- the message of a number, where one was sent
abbrev pub message_at : (net : List Message) (number : ℕ) → Option Message
message_at net zero = None
message_at net (suc i) = slice_get net i

-- the messages after the one of a number was changed
abbrev pub changed_at : (change : Message → Message) (net : List Message) (number : ℕ) → List Message
changed_at change net zero = net
changed_at change net (suc i) = option_map_or (λ m. slice_set net i (change m)) (slice_get net i) net

-- the messages after the one of a number was delivered
abbrev pub delivered_at : (net : List Message) (number : ℕ) → List Message
delivered_at = changed_at (λ m. record m { delivered = true })

-- the messages after the one of a number was dropped
abbrev pub dropped_at : (net : List Message) (number : ℕ) → List Message
dropped_at = changed_at (λ m. record m { dropped = true })

-- whether the message of a number was sent, and never delivered nor dropped
abbrev pub is_pending : (net : List Message) (number : ℕ) → Bool
is_pending net number =
    option_map_or (λ m. not m.delivered && not m.dropped) (message_at net number) false

-- no message above `after` and at most `upto` is pending
abbrev pub NonePending : (net : List Message) (after upto : ℕ) → Type 0
NonePending net after upto =
    (number : ℕ) → after < number → number ≤ upto → is_pending net number ≡ false

-- how many bytes all messages have
abbrev pub bytes_sent : (net : List Message) → ℕ
bytes_sent net = sum_by (λ m. length m.bytes) net
