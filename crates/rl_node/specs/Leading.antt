-- A leader some of whose fields have changed. No public contract cites it.
use Rattle.std.specs.Prelude.{◌≡◌, ℕ, ◌-◌, List, map, length, slice_index_or}
use Rattle.std.specs.List.{range_with_len}
use Rattle.rl_election.specs.World.{no_stream}
use Rattle.rl_msg.specs.declared.msg.Msg.{Msg}
use Rattle.rl_msg.specs.declared.msg.Msg.TheVariants.{Accept}
use Rattle.rl_paxos.specs.Leaders.{Leading}
use Rattle.rl_node.specs.declared.part.Lead.{Lead}

-- a stream of a leader
abbrev pub stream_of : Lead → (s : ℕ) → Leading
stream_of l s = slice_index_or l.streams.items (s - 1) no_stream

-- a leader has these streams, and else what it had
pub record HasStreams (old new : Lead) (list : List Leading) : Type 0 where
  pub streams : new.streams.items ≡ list
  pub same : new ≡ record old { streams = new.streams }

-- the bytes of a batch for the next slot of a stream, for each of nodes 1 to n
abbrev pub accept_of : (a e s : ℕ) → Leading → (batch : List ℕ) → (n : ℕ) → List Msg
accept_of a e s x batch n = map (λ to. Accept a to e s (length x.log) batch) (range_with_len 1 n)
