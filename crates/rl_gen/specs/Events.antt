-- The events of a generated script.
use Rattle.std.specs.Prelude.{ℕ, ◌+◌, ◌-◌, ◌/◌, List, [], ◌∷◌, ◌++◌, map, replicate}
use Rattle.std.specs.List.{flat_map, range_with_len}
use Rattle.rl_events.specs.declared.event.Event.{Event}
use Rattle.rl_events.specs.declared.event.Event.TheVariants.{Step, Flush, Idle, All, Elect, PlayAll, Random}

-- some events, so many times
abbrev pub times : (count : ℕ) → List Event → List Event
times count events = flat_map (λ xs. xs) (replicate count events)

-- what each worker does, in turn
abbrev pub each_worker : (workers : ℕ) → (ℕ → Event) → List Event
each_worker workers event = map event (range_with_len 1 workers)

-- each worker makes five steps
abbrev pub round : (workers : ℕ) → List Event
round workers = each_worker workers (λ worker. Step 1 worker 5)

-- eight rounds, and then all messages are delivered
unfoldable pub block : (workers : ℕ) → List Event
block workers = times 8 (round workers) ++ All ∷ []

-- as many blocks as the longest list has requests
abbrev pub block_count : (workers requests : ℕ) → ℕ
block_count workers requests = (requests + workers - 1) / workers

-- an election, the blocks, some random events, and then what is pending is proposed, delivered and played everywhere
unfoldable pub events_of : (seed nodes workers requests : ℕ) → List Event
events_of seed nodes workers requests =
    Elect 1 ∷ replicate 4 All ++ times (block_count workers requests) (block workers) ++ Random seed 2000 ∷ []
    ++ each_worker workers (Flush 1) ++ each_worker workers (Idle 1) ++ replicate 3 All ++ map PlayAll (range_with_len 1 nodes)
