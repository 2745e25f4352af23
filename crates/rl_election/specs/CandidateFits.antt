-- What holds of a candidate's fields between calls.
use Rattle.std.specs.Prelude.{◌≡◌, ℕ, ◌<◌, ◌≤◌, ◌^◌, List, length, All}
use Rattle.rl_paxos.specs.Quorums.{count}
use Rattle.rl_paxos.specs.Recovery.{Promise, HasStreams, has_promised}

-- each node's promise is there once, there is room for all of them, and each is of all streams
pub record CandidateFits (nodes streams need room : ℕ) (promises : List Promise) : Type 0 where
  pub some : 1 ≤ need
  pub within : need ≤ nodes
  pub short : nodes < 2 ^ 32
  pub room_for_all : nodes ≤ room
  pub once : count (has_promised promises) nodes ≡ length promises
  pub whole : All (HasStreams streams) promises
