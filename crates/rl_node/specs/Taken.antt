-- A candidate that is taken out of a node. No public contract cites it.
use Rattle.std.specs.Prelude.{◌≡◌, ℕ, ◌==◌, if◌then◌else◌, Bool, false, Option, Some, None}
use Rattle.rl_paxos.specs.Recovery.{Candidate}
use Rattle.rl_node.specs.Changing.{with_part}
use Rattle.rl_node.specs.declared.node.Node.{Node}
use Rattle.rl_node.specs.declared.node.Phase.{Phase}
use Rattle.rl_node.specs.declared.node.Phase.TheVariants.{Up}
use Rattle.rl_node.specs.declared.part.Part.{Part}
use Rattle.rl_node.specs.declared.part.Part.TheVariants.{Follows, Stands}
use Rattle.rl_node.specs.declared.running.Running.{Running}

-- the part of a node that was up is taken out, and it follows
pub record HasGiven (old new : Node) (part : Part) : Type 0 where
  pub running : Running
  pub up : old.phase ≡ Up running
  pub was : running.part ≡ part
  pub now : new ≡ with_part old Follows

-- or its part passes no test, and it is unchanged
pub record HasKept (old new : Node) (test : Part → Bool) : Type 0 where
  pub running : Running
  pub up : old.phase ≡ Up running
  pub other : test running.part ≡ false
  pub same : new ≡ old

-- whether a part is the candidate of an epoch
abbrev pub is_candidate : (e : ℕ) → Part → Bool
is_candidate e (Stands c) = c.epoch == e
is_candidate e other = false

-- the candidate of an epoch that a part is, if it is one, and the part without it
abbrev pub candidate_of : (e : ℕ) → Part → Option Candidate
candidate_of e (Stands c) = if c.epoch == e then Some c else None
candidate_of e other = None

abbrev pub without_candidate : (e : ℕ) → Part → Part
without_candidate e (Stands c) = if c.epoch == e then Follows else Stands c
without_candidate e other = other

-- the same in a phase
abbrev pub candidate_in : (e : ℕ) → Phase → Option Candidate
candidate_in e (Up r) = candidate_of e r.part
candidate_in e other = None

abbrev pub without_candidate_in : (e : ℕ) → Phase → Phase
without_candidate_in e (Up r) = Up (record r { part = without_candidate e r.part })
without_candidate_in e other = other

-- of a node, the candidate of an epoch is taken out, where there is one
abbrev pub GivesCandidate : (old new : Node) → (e : ℕ) → Option Candidate → Type 0
GivesCandidate old new e (Some c) = HasGiven old new (Stands c) × (c.epoch ≡ e)
GivesCandidate old new e None = HasKept old new (is_candidate e)
