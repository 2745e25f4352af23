-- What was chosen, and with what a leader began.
use Rattle.std.specs.Prelude.{◌≡◌, ◌⊎◌, ℕ, ◌-◌, ◌<◌, List, [], ◌∷◌, ◌++◌, length, Bool, false, ◌&&◌, ◌||◌, ◌==◌, nat_le, IsTrue, Some, slice_index_or}
use Rattle.std.specs.List.{list_any}
use Rattle.rl_base.specs.Lists.{IsPrefix}
use Rattle.rl_paxos.specs.Leaders.{Leading}
use Rattle.rl_paxos.specs.Logs.{Log}
use Rattle.rl_paxos.specs.Quorums.{is_quorum}
use Rattle.rl_election.specs.World.{Cluster, Message, Ack, Envelope, Term, stream_of, StreamWorld}

-- an Ack of at least a length
abbrev pub acks_at_least : (epoch s len : ℕ) → Message → Bool
acks_at_least epoch s len (Ack e r l) = (e == epoch) && ((r == s) && nat_le len l)
acks_at_least epoch s len other = false

-- node a has ever sent one
abbrev pub has_acked : List Envelope → (epoch s len a : ℕ) → Bool
has_acked sent epoch s len a = list_any (λ m. (m.from == a) && acks_at_least epoch s len m.message) sent

-- a second quorum has, or there is nothing to ack
abbrev pub is_chosen_len : Cluster → StreamWorld → (epoch s len : ℕ) → Bool
is_chosen_len g w epoch s len = (len == 0) || is_quorum g.second_quorum g.nodes (has_acked w.sent epoch s len)

-- the log with which the leader of an epoch began on a stream
abbrev pub initial_log : Term → (s : ℕ) → Log
initial_log t s = slice_index_or t.initial (s - 1) []

-- the epoch has an initial log on the stream, and this is it
pub record IsInitialLog (w : StreamWorld) (epoch s : ℕ) (initial : Log) : Type 0 where
  pub term : Term
  pub term_is : w.terms epoch ≡ Some term
  pub initial_is : initial_log term s ≡ initial

-- the log of an epoch's one leader, as it stands or last stood
pub record IsLeaderLog (w : StreamWorld) (epoch s : ℕ) (log : Log) : Type 0 where
  pub term : Term
  pub term_is : w.terms epoch ≡ Some term
  pub log_is : (stream_of term s).log ≡ log

-- what is chosen at an epoch: the longest prefix of its log that a second quorum has acked at it
pub record IsChosen (g : Cluster) (w : StreamWorld) (epoch s : ℕ) (chosen : Log) : Type 0 where
  pub log : Log
  pub is_log : IsLeaderLog w epoch s log
  pub within : IsPrefix chosen log
  pub acked : IsTrue (is_chosen_len g w epoch s (length chosen))
  pub longest : (longer : Log) → IsPrefix longer log → IsTrue (is_chosen_len g w epoch s (length longer)) → IsPrefix longer chosen

-- a log that was adopted at an epoch: it begins with that epoch's initial log, and is a prefix of its leader's
pub record IsAdopted (w : StreamWorld) (epoch s : ℕ) (adopted : Log) : Type 0 where
  pub initial : Log
  pub log : Log
  pub is_initial : IsInitialLog w epoch s initial
  pub is_log : IsLeaderLog w epoch s log
  pub begins : IsPrefix initial adopted
  pub within : IsPrefix adopted log

-- a log was adopted at an earlier epoch
pub record IsFromEarlier (w : StreamWorld) (epoch s : ℕ) (log : Log) : Type 0 where
  pub earlier : ℕ
  pub is_earlier : earlier < epoch
  pub is_adopted : IsAdopted w earlier s log

-- where an initial log came from: it is a log that was adopted at an earlier epoch, or nothing, and then the open mark
pub record HasOrigin (g : Cluster) (w : StreamWorld) (epoch s : ℕ) (initial : Log) : Type 0 where
  pub carried : Log
  pub initial_is : initial ≡ carried ++ g.open_mark epoch ∷ []
  pub from : (carried ≡ []) ⊎ IsFromEarlier w epoch s carried

-- the longest of what was chosen on a stream at any epoch: nothing, or what one epoch chose; all else that was chosen begins it
pub record IsLongestChosen (g : Cluster) (w : StreamWorld) (s : ℕ) (longest : Log) : Type 0 where
  pub from : (longest ≡ []) ⊎ ((epoch : ℕ) × IsChosen g w epoch s longest)
  pub above : (epoch : ℕ) (chosen : Log) → IsChosen g w epoch s chosen → IsPrefix chosen longest

-- a stream of an epoch's one leader, as it stands or last stood
pub record IsLeading (w : StreamWorld) (epoch s : ℕ) (stream : Leading) : Type 0 where
  pub term : Term
  pub term_is : w.terms epoch ≡ Some term
  pub stream_is : stream_of term s ≡ stream

-- a stream of the leader of an epoch: it is of that epoch and of the cluster, and its log begins with the initial log
pub record BeganWith (g : Cluster) (epoch : ℕ) (initial : Log) (stream : Leading) : Type 0 where
  pub epoch_is : stream.epoch ≡ epoch
  pub quorum_is : stream.quorum ≡ g.second_quorum
  pub nodes_are : length stream.acked ≡ g.nodes
  pub initial_len_is : stream.initial_len ≡ length initial
  pub begins : IsPrefix initial stream.log
