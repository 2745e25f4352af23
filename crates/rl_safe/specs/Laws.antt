-- What is true of every run.
use Rattle.std.specs.Prelude.{◌≡◌, ℕ, ◌+◌, ◌≤◌, sum_by, Some, Ok}
use Rattle.rl_events.specs.Fits.{count_of}
use Rattle.rl_msg.specs.Parts.{head_of}
use Rattle.rl_nodes.specs.Answers.{Did, Release}
use Rattle.rl_nodes.specs.Handles.{receives}
use Rattle.rl_nodes.specs.Laws.{EveryRunIsSafe}
use Rattle.rl_nodes.specs.Works.{next_seq}
use Rattle.rl_nodes.specs.World.{node_of, unreleased}
use Rattle.rl_safe.specs.Led.{IsLed}
use Rattle.rl_safe.specs.Messages.{WasSent}
use Rattle.rl_safe.specs.Runs.{Run}

-- each run is one of leaders as the laws of families ask
abbrev pub RunsAreLed : Type 0
RunsAreLed = (run : Run) → IsLed run.setup run.world

-- where they are, every run is safe
abbrev pub LedRunsAreSafe : Type 0
LedRunsAreSafe = RunsAreLed → EveryRunIsSafe

-- ---- releases ----

-- a message that was sent in a run, and what its receiver does with it at the end of the run
pub record TakenMessage (run : Run) : Type 0 where
  pub sent : WasSent run
  pub did : Did
  pub takes : let to = (head_of sent.message).to in receives run.setup to (node_of run.setup run.world to) sent.message ≡ Ok did

-- where it releases, what its history gained by that message suffices: all that the history had before was released already
abbrev pub GainsSuffice : Type 0
GainsSuffice = (run : Run) (m : TakenMessage run) (r : Release) → m.did.release ≡ Some r
    → unreleased run.world.released r.history ≡ unreleased run.world.released r.gained

-- ---- seqs ----

-- an open leader draws seqs from 2 on, no more than its run has events, as they count
abbrev pub SeqsAreFew : Type 0
SeqsAreFew = (run : Run) (a : ℕ) → next_seq (node_of run.setup run.world a).part ≤ 2 + sum_by count_of run.events
