-- What an event may name, and how it counts.
use Rattle.std.specs.Prelude.{ℕ, ◌≤◌, List, All, sum_by}
use Rattle.rl_base.specs.declared.limit.TheConstants.{ELECTIONS, EVENTS}
use Rattle.rl_text.specs.Numbers.{IsNumber, IsWithin}
use Rattle.rl_events.specs.declared.event.Event.{Event}
use Rattle.rl_events.specs.declared.event.Event.TheVariants as event

-- one of some nodes, workers or streams, which are counted from 1
abbrev pub IsOneOf : (count n : ℕ) → Type 0
IsOneOf count n = IsWithin 1 count n

-- the nodes and workers are there, and the numbers in range
abbrev pub EventFits : (nodes workers : ℕ) → Event → Type 0
EventFits nodes workers (event.Step n w k) = IsOneOf nodes n × IsOneOf workers w × (1 ≤ k) × (k ≤ EVENTS)
EventFits nodes workers (event.Flush n w) = IsOneOf nodes n × IsOneOf workers w
EventFits nodes workers (event.Idle n w) = IsOneOf nodes n × IsOneOf workers w
EventFits nodes workers (event.Dlv k) = (1 ≤ k) × IsNumber k
EventFits nodes workers (event.Discard k) = IsNumber k
EventFits nodes workers event.All = Unit {0}
EventFits nodes workers (event.Elect n) = IsOneOf nodes n
EventFits nodes workers (event.Tick n) = IsOneOf nodes n
EventFits nodes workers (event.Crash n) = IsOneOf nodes n
EventFits nodes workers (event.Back n) = IsOneOf nodes n
EventFits nodes workers (event.Lose n) = IsOneOf nodes n
EventFits nodes workers (event.Play n s) = IsOneOf nodes n × IsOneOf workers s
EventFits nodes workers (event.PlayAll n) = IsOneOf nodes n
EventFits nodes workers (event.Show n) = IsOneOf nodes n
EventFits nodes workers (event.Random seed k) = IsNumber seed × (1 ≤ k) × (k ≤ EVENTS)

-- steps and random events count as many as they are, all others as one
abbrev pub count_of : Event → ℕ
count_of (event.Step n w k) = k
count_of (event.Random seed k) = k
count_of e = 1

-- how many elections an event is
abbrev pub elections_of : Event → ℕ
elections_of (event.Elect n) = 1
elections_of e = 0

-- the events of a script keep its limits
pub record EventsFit (nodes workers : ℕ) (events : List Event) : Type 0 where
  pub each : All (EventFits nodes workers) events
  pub counted : sum_by count_of events ≤ EVENTS
  pub elections : sum_by elections_of events ≤ ELECTIONS
