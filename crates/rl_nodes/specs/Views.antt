-- How a node's replica plays its streams, and how the node is shown.
use Rattle.std.specs.Prelude.{ℕ, zero, suc, ◌==◌, ◌&&◌, List, [], map, length, Bool, false, if◌then◌else◌}
use Rattle.std.specs.List.{list_any, list_all}
use Rattle.std.specs.Option.{option_map_or}
use Rattle.std.specs.FinMap as finite
use Rattle.rl_base.specs.declared.bound.Bound.{Bound}
use Rattle.rl_base.specs.declared.bound.Bound.TheVariants.{Beyond}
use Rattle.rl_base.specs.declared.stamp.Stamp.{Stamp}
use Rattle.rl_txn.specs.declared.item.Item.{Item}
use Rattle.rl_txn.specs.declared.batch.Batch.{Batch}
use Rattle.rl_paxos.specs.Acceptors.{kept_ballot, kept_log}
use Rattle.rl_election.specs.World as streams
use Rattle.rl_families.specs.Families.{bound_of, watermark}
use Rattle.rl_families.specs.Streams.{log_at}
use Rattle.rl_replay.specs.Entries.{entries}
use Rattle.rl_replay.specs.Laws.{after_play}
use Rattle.rl_replay.specs.Replay.{Replaying, next_entry}
use Rattle.rl_nodes.specs.declared.view.State.TheVariants.{Up, Down, Lost}
use Rattle.rl_nodes.specs.declared.view.Role.{Role}
use Rattle.rl_nodes.specs.declared.view.Role.TheVariants.{Follower, Candidate, Opening, Leading}
use Rattle.rl_nodes.specs.declared.view.StreamView.{StreamView}
use Rattle.rl_nodes.specs.declared.view.NodeView.{NodeView}
use Rattle.rl_nodes.specs.Nodes.{NodeState, Part, Follows, Stands, Leads, known_len, known_family, known_history, has_opened}
use Rattle.rl_nodes.specs.Setups.{Setup, stream_numbers}

-- ---- the replica ----

-- the bound of the next entry of stream s, if there is one
abbrev pub next_bound : (family : List (List Batch)) → Replaying → (s : ℕ) → Bound
next_bound family r s =
    option_map_or (λ e. bound_of family e.stamp.epoch) (next_entry r s (log_at family s)) Beyond

-- the replica after so many entries of stream s; before one that it can't play it stays
abbrev pub played : (family : List (List Batch)) → Replaying → (s n : ℕ) → Replaying
played family r s zero = r
played family r s (suc n) = played family (after_play family r s (next_bound family r s)) s n

-- the replica plays the known prefix of stream s, as far as it can
abbrev pub plays : Setup → NodeState → (s : ℕ) → NodeState
plays setup x s =
    let family = known_family setup x in
    record x { replica = played family x.replica s (length (entries (log_at family s))) }

-- ---- the view ----

-- some item has a stamp
abbrev pub has_stamp : List Item → Stamp → Bool
has_stamp items s = list_any (λ x. (x.stamp.epoch == s.epoch) && (x.stamp.seq == s.seq)) items

-- two lists have items of the same stamps
abbrev pub have_same_stamps : (xs ys : List Item) → Bool
have_same_stamps xs ys = list_all (λ y. has_stamp xs y.stamp) ys && list_all (λ x. has_stamp ys x.stamp) xs

-- the replica has applied the items of the history of what its node knows, and no others, as their stamps tell
abbrev pub is_at_watermark : Setup → NodeState → Bool
is_at_watermark setup x = have_same_stamps x.replica.applied (known_history setup x)

-- the role of a part
abbrev pub role_of : Part → Role
role_of Follows = Follower
role_of (Stands c) = Candidate c.epoch (length c.promises) c.need
role_of (Leads lead) = if has_opened lead then Leading lead.epoch else Opening lead.epoch

-- a stream of a node
abbrev pub stream_view : NodeState → (s : ℕ) → StreamView
stream_view x s =
    record { ballot = kept_ballot x.acceptor s; len = length (kept_log x.acceptor s); known = known_len x s }

-- a node that is up, down or lost
abbrev pub view_in : Setup → NodeState → streams.State → NodeView
view_in setup x streams.Up = record {
  state = Up;
  promised = x.acceptor.promised;
  role = role_of x.part;
  watermark = watermark (known_family setup x);
  at = is_at_watermark setup x;
  streams = map (stream_view x) (stream_numbers setup);
}
view_in setup x streams.Down = record {
  state = Down;
  promised = x.acceptor.promised;
  role = Follower;
  watermark = (0, 0);
  at = false;
  streams = map (stream_view x) (stream_numbers setup);
}
view_in setup x streams.Lost =
    record { state = Lost; promised = 0; role = Follower; watermark = (0, 0); at = false; streams = [] }

-- a node as it is shown
abbrev pub view_of : Setup → NodeState → NodeView
view_of setup x = view_in setup x x.state

-- the rows of its replica, by table and key; none where it is not up
abbrev pub rows_in : NodeState → streams.State → List ((ℕ × ℕ) × List ℕ)
rows_in x streams.Up = finite.entries x.replica.rows
rows_in x other = []
