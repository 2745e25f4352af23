-- The event that a line says.
use Rattle.std.specs.Prelude.{ℕ, ◌-◌, ◌^◌, List, [], ◌∷◌, Option, Some, None, ok_or, Result, Err, if◌then◌else◌, codes}
use Rattle.rl_base.specs.Results.{◌>>=◌}
use Rattle.rl_base.specs.declared.limit.TheConstants.{EVENTS}
use Rattle.rl_text.specs.Meanings.{meaning}
use Rattle.rl_text.specs.Text.{words_of, is_printable}
use Rattle.rl_events.specs.declared.kind.Kind.{Kind}
use Rattle.rl_events.specs.declared.kind.Kind.TheVariants.{Byte, Word}
use Rattle.rl_events.specs.declared.event.Event.{Event}
use Rattle.rl_events.specs.declared.event.Event.TheVariants as event
use Rattle.rl_events.specs.declared.line.EventWord.{EventWord}
use Rattle.rl_events.specs.declared.line.EventWord.TheVariants as word
use Rattle.rl_events.specs.Forms.{no_words, one_word, two_words, three_words}
use Rattle.rl_events.specs.Words.{number, within}

-- which event a first word begins
abbrev pub event_word : List ℕ → Option EventWord
event_word = meaning {A = EventWord}
    ((codes "step", word.Step) ∷ (codes "flush", word.Flush) ∷ (codes "idle", word.Idle) ∷ (codes "dlv", word.Dlv)
    ∷ (codes "drop", word.Discard) ∷ (codes "all", word.All) ∷ (codes "elect", word.Elect) ∷ (codes "tick", word.Tick)
    ∷ (codes "crash", word.Crash) ∷ (codes "back", word.Back) ∷ (codes "lose", word.Lose) ∷ (codes "play", word.Play)
    ∷ (codes "playall", word.PlayAll) ∷ (codes "show", word.Show) ∷ (codes "random", word.Random) ∷ [])

-- the line of an event, without its first word: so many words, and each in its range
abbrev pub read_event : (nodes workers : ℕ) → EventWord → List (List ℕ) → Result Event Kind
read_event nodes workers word.Step words = three_words event.Step (within 1 nodes) (within 1 workers) (within 1 EVENTS) words
read_event nodes workers word.Flush words = two_words event.Flush (within 1 nodes) (within 1 workers) words
read_event nodes workers word.Idle words = two_words event.Idle (within 1 nodes) (within 1 workers) words
read_event nodes workers word.Dlv words = one_word event.Dlv (within 1 (2 ^ 64 - 1)) words
read_event nodes workers word.Discard words = one_word event.Discard number words
read_event nodes workers word.All words = no_words event.All words
read_event nodes workers word.Elect words = one_word event.Elect (within 1 nodes) words
read_event nodes workers word.Tick words = one_word event.Tick (within 1 nodes) words
read_event nodes workers word.Crash words = one_word event.Crash (within 1 nodes) words
read_event nodes workers word.Back words = one_word event.Back (within 1 nodes) words
read_event nodes workers word.Lose words = one_word event.Lose (within 1 nodes) words
read_event nodes workers word.Play words = two_words event.Play (within 1 nodes) (within 1 workers) words
read_event nodes workers word.PlayAll words = one_word event.PlayAll (within 1 nodes) words
read_event nodes workers word.Show words = one_word event.Show (within 1 nodes) words
read_event nodes workers word.Random words = two_words event.Random number (within 1 EVENTS) words

-- the event that the words of a line are
abbrev pub event_of : (nodes workers : ℕ) → List (List ℕ) → Result Event Kind
event_of nodes workers [] = Err Word
event_of nodes workers (first ∷ words) = ok_or (event_word first) Word >>= λ w. read_event nodes workers w words

-- the event that a line is
abbrev pub event_in : (nodes workers : ℕ) → List ℕ → Result Event Kind
event_in nodes workers line =
    if is_printable line then event_of nodes workers (words_of line) else Err Byte
