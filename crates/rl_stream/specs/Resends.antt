-- What a leader sends again to a node.
use Rattle.std.specs.Prelude.{ℕ, length, ◌==◌, nat_lt, if◌then◌else◌}
use Rattle.rl_paxos.specs.Leaders.{Leading, acked_len}
use Rattle.rl_stream.specs.declared.leader_stream.Resend.{Resend}
use Rattle.rl_stream.specs.declared.leader_stream.Resend.TheVariants.{Sync, From, Nothing}

-- the initial log until it was acked, then what lies past the acked length
abbrev pub resend_of : Leading → (node : ℕ) → Resend
resend_of x node =
    if nat_lt (acked_len x node) x.initial_len then Sync
    else if acked_len x node == length x.log then Nothing
    else From (acked_len x node)
