-- The acceptor of Paxos Made Simple, with one promise for all slots of all streams, as in Multi-Paxos. Streams are numbered from 1.
use Rattle.std.specs.Prelude.{ℕ, ◌-◌, ◌≤◌, List, [], ◌∷◌, ◌++◌, length, replicate, Option, Some, None, ◌==◌, nat_lt, if◌then◌else◌, slice_index_or, slice_set}
use Rattle.rl_paxos.specs.declared.refused.Refused.{Refused}
use Rattle.rl_paxos.specs.declared.refused.Refused.TheVariants.{Promised, OtherBallot, OutOfOrder}
use Rattle.rl_paxos.specs.Logs.{Batch, Log}

-- what an acceptor keeps of a stream: a log, and the ballot at which it was adopted
pub record Kept : Type 0 where
  pub ballot : ℕ
  pub log : Log

-- an acceptor: the greatest epoch that it promised, and what it keeps of each stream
pub record Acceptor : Type 0 where
  pub promised : ℕ
  pub streams : List Kept

-- of a stream that nothing was sent for: ballot 0 and no batch
abbrev pub nothing_kept : Kept
nothing_kept = record { ballot = 0; log = [] }

-- an acceptor to which nothing was sent
abbrev pub new_acceptor : (streams : ℕ) → Acceptor
new_acceptor streams = record { promised = 0; streams = replicate streams nothing_kept }

-- what is kept of stream s
abbrev pub kept_of : Acceptor → (s : ℕ) → Kept
kept_of x s = slice_index_or x.streams (s - 1) nothing_kept

-- the ballot of stream s
abbrev pub kept_ballot : Acceptor → (s : ℕ) → ℕ
kept_ballot x s = (kept_of x s).ballot

-- the log of stream s
abbrev pub kept_log : Acceptor → (s : ℕ) → Log
kept_log x s = (kept_of x s).log

-- s is the number of a stream
abbrev pub HasStream : Acceptor → (s : ℕ) → Type 0
HasStream x s = (1 ≤ s) × (s ≤ length x.streams)

-- a Prepare or a Sync of an epoch below the promised one is refused, and no other
abbrev pub refuses : Acceptor → (epoch : ℕ) → Option Refused
refuses x epoch = if nat_lt epoch x.promised then Some (Promised x.promised) else None

-- an Accept is refused below the promise, then at another ballot, then past the end of the log
abbrev pub refuses_accept : Acceptor → (epoch s slot : ℕ) → Option Refused
refuses_accept x epoch s slot =
    if nat_lt epoch x.promised then Some (Promised x.promised)
    else if kept_ballot x s == epoch
    then (if nat_lt (length (kept_log x s)) slot then Some (OutOfOrder (length (kept_log x s))) else None)
    else Some (OtherBallot (kept_ballot x s))

-- after a Prepare that was not refused
abbrev pub prepared : Acceptor → (epoch : ℕ) → Acceptor
prepared x epoch = record x { promised = epoch }

-- with another log, adopted at a ballot
abbrev pub with_kept : Acceptor → (s ballot : ℕ) → Log → Acceptor
with_kept x s ballot log = record x { streams = slice_set x.streams (s - 1) (record { ballot = ballot; log = log }) }

-- after a Sync that was not refused: a log of a lower ballot is replaced, and one of the same ballot stays
abbrev pub synced : Acceptor → (epoch s : ℕ) → Log → Acceptor
synced x epoch s log = if nat_lt (kept_ballot x s) epoch then with_kept (prepared x epoch) s epoch log else prepared x epoch

-- after an Accept that was not refused: a batch for the next slot is appended, and one for an earlier slot changes nothing
abbrev pub accepted : Acceptor → (s slot : ℕ) → Batch → Acceptor
accepted x s slot batch =
    if slot == length (kept_log x s) then with_kept x s (kept_ballot x s) (kept_log x s ++ batch ∷ []) else x
