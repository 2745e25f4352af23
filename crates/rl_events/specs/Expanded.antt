-- The events that a seed draws.
use Rattle.std.specs.Prelude.{ℕ, ◌+◌, ◌/◌, ◌%◌, List, [], ◌∷◌, map, ◌==◌, nat_le, if◌then◌else◌}
use Rattle.rand_core.specs.Steps.{first_words}
use Rattle.rand_core.specs.Pcg32Seed.{pcg32_seed}
use Rattle.rand_pcg.specs.Pcg.{pcg32, pcg32_of_seed}
use Rattle.rl_events.specs.declared.event.Event.{Event}
use Rattle.rl_events.specs.declared.event.Event.TheVariants as event

-- the event of a choice from 0 to 15, at a node and one of its workers or streams
abbrev pub event_of_choice : (choice node worker : ℕ) → Event
event_of_choice choice node worker =
    if nat_le choice 8 then event.Step node worker 1 else (if choice == 9 then event.Flush node worker
    else (if choice == 10 then event.Idle node worker else (if nat_le choice 13 then event.All
    else (if choice == 14 then event.Tick node else event.Play node worker))))

-- the event that a drawn word stands for
abbrev pub drawn_event : (nodes workers word : ℕ) → Event
drawn_event nodes workers word =
    event_of_choice (word % 16) (word / 16 % nodes + 1) (word / 256 % workers + 1)

-- the first words of the PCG32 that a number seeds
abbrev pub words_of_seed : (seed count : ℕ) → List ℕ
words_of_seed seed count = first_words pcg32 count (pcg32_of_seed (pcg32_seed 16 seed))

-- the events that an event stands for: those that its seed draws, or itself
abbrev pub expanded : (nodes workers : ℕ) → Event → List Event
expanded nodes workers (event.Random seed count) = map (drawn_event nodes workers) (words_of_seed seed count)
expanded nodes workers e = e ∷ []

-- any event but a random one
abbrev pub IsNotRandom : Event → Type 0
IsNotRandom (event.Random seed count) = ⊥
IsNotRandom e = Unit {0}
