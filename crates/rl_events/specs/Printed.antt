-- The one printed form of an event.
use Rattle.std.specs.Prelude.{ℕ, List, [], ◌∷◌, codes}
use Rattle.std.specs.Fmt.{decimal}
use Rattle.rl_text.specs.Printed.{Line, line_of}
use Rattle.rl_events.specs.declared.event.Event.{Event}
use Rattle.rl_events.specs.declared.event.Event.TheVariants as event

-- the words of an event
abbrev pub event_words : Event → Line
event_words (event.Step n w k) = codes "step" ∷ decimal n ∷ decimal w ∷ decimal k ∷ []
event_words (event.Flush n w) = codes "flush" ∷ decimal n ∷ decimal w ∷ []
event_words (event.Idle n w) = codes "idle" ∷ decimal n ∷ decimal w ∷ []
event_words (event.Dlv k) = codes "dlv" ∷ decimal k ∷ []
event_words (event.Discard k) = codes "drop" ∷ decimal k ∷ []
event_words event.All = codes "all" ∷ []
event_words (event.Elect n) = codes "elect" ∷ decimal n ∷ []
event_words (event.Tick n) = codes "tick" ∷ decimal n ∷ []
event_words (event.Crash n) = codes "crash" ∷ decimal n ∷ []
event_words (event.Back n) = codes "back" ∷ decimal n ∷ []
event_words (event.Lose n) = codes "lose" ∷ decimal n ∷ []
event_words (event.Play n s) = codes "play" ∷ decimal n ∷ decimal s ∷ []
event_words (event.PlayAll n) = codes "playall" ∷ decimal n ∷ []
event_words (event.Show n) = codes "show" ∷ decimal n ∷ []
event_words (event.Random seed k) = codes "random" ∷ decimal seed ∷ decimal k ∷ []

-- the line of an event, without a line end
abbrev pub event_line : Event → List ℕ
event_line e = line_of (event_words e)
