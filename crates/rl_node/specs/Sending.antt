-- What a leader sends of one stream. No public contract cites it.
use Rattle.std.specs.Prelude.{ℕ, ◌-◌, ◌==◌, nat_lt, List, [], ◌∷◌, map, length, slice_index_or, if◌then◌else◌}
use Rattle.std.specs.List.{range_with_len}
use Rattle.rl_msg.specs.declared.msg.Msg.{Msg}
use Rattle.rl_msg.specs.declared.msg.Msg.TheVariants.{Sync, Accept, Known}
use Rattle.rl_paxos.specs.Leaders.{Leading, acked_len}
use Rattle.rl_nodes.specs.Nodes.{initial_log_of, len_acknowledged}

-- each batch from a slot on, as an Accept
abbrev pub accepts_of : (a e s : ℕ) → Leading → (slot to : ℕ) → List Msg
accepts_of a e s x slot to =
    map (λ i. Accept a to e s i (slice_index_or x.log i [])) (range_with_len slot (length x.log - slot))

-- what node `to` has not acked: the initial log, or what lies past its acked length
abbrev pub resends_of : (a e s : ℕ) → Leading → (to : ℕ) → List Msg
resends_of a e s x to =
    if nat_lt (acked_len x to) x.initial_len then Sync a to e s (initial_log_of x) ∷ [] else accepts_of a e s x (acked_len x to) to

-- how much a second quorum has acked, for each of nodes 1 to n
abbrev pub known_of : (a e s : ℕ) → Leading → (n : ℕ) → List Msg
known_of a e s x n = map (λ to. Known a to e s (len_acknowledged x)) (range_with_len 1 n)

-- the same, where it has acked some
abbrev pub knowns_of : (a e s : ℕ) → Leading → (n : ℕ) → List Msg
knowns_of a e s x n = if len_acknowledged x == 0 then [] else known_of a e s x n
