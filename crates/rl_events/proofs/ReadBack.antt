-- The line of an event is read as the event again.
use Rattle.std.proofs.Common.{◌≡◌, ℕ, ◌-◌, ◌^◌, ◌<◌, ◌≤◌, List, [], ◌∷◌, All, Ok, Err, codes, refl, ap, sym, ◌∙◌, arith, if◌then◌else◌}
use Rattle.std.specs.Prelude.{ok_or}
use Rattle.std.specs.Fmt.{decimal}
use Rattle.std.proofs.lemmas.List.Elements.{All-nil, All-cons}
use Rattle.rl_base.specs.declared.limit.TheConstants.{EVENTS}
use Rattle.rl_text.specs.Printed.{line_of}
use Rattle.rl_text.specs.Text.{words_of}
use Rattle.rl_text.proofs.WordsBack.{IsWord, number_of_decimal, number_within_decimal, one_number, printable_line, three_numbers, two_numbers, words_of_line}
use Rattle.rl_events.specs.declared.event.Event.{Event}
use Rattle.rl_events.specs.declared.event.Event.TheVariants as event
use Rattle.rl_events.specs.declared.kind.Kind.TheVariants.{Byte, Number, Range}
use Rattle.rl_events.specs.Events.{event_in, event_of}
use Rattle.rl_events.specs.Fits.{EventFits, IsOneOf}
use Rattle.rl_events.specs.Forms.{Reading, one_word, two_words}
use Rattle.rl_events.specs.Printed.{event_line, event_words}
use Rattle.rl_events.specs.Words.{number, within}
use Rattle.rl_events.proofs.FormsBack.{one_word_back, two_words_back, three_words_back}

-- a printed line is judged by its words
pub judged_by_words : (nodes workers : ℕ) (words : List (List ℕ)) → All IsWord words → event_in nodes workers (line_of words) ≡ event_of nodes workers words
judged_by_words nodes workers words all =
    ap (λ b. if b then event_of nodes workers (words_of (line_of words)) else Err Byte) (printable_line words all) ∙ ap (event_of nodes workers) (words_of_line words all)

pub number_back : (n : ℕ) → n < 2 ^ 64 → number (decimal n) ≡ Ok n
number_back n small = ap (λ o. ok_or o Number) (number_of_decimal n small)

pub within_back : (low high n : ℕ) → low ≤ n → n ≤ high → n < 2 ^ 64 → within low high (decimal n) ≡ Ok n
within_back low high n above below small = number_within_decimal low high Number Range n above below small

node_back : (nodes n : ℕ) → IsOneOf nodes n → n < 2 ^ 64 → within 1 nodes (decimal n) ≡ Ok n
node_back nodes n there small = within_back 1 nodes n there.0 there.1 small

-- the numbers of an event are below 2 ^ 64
abbrev pub IsSmall : Event → Type 0
IsSmall (event.Step n w k) = (n < 2 ^ 64) × (w < 2 ^ 64) × (k < 2 ^ 64)
IsSmall (event.Flush n w) = (n < 2 ^ 64) × (w < 2 ^ 64)
IsSmall (event.Idle n w) = (n < 2 ^ 64) × (w < 2 ^ 64)
IsSmall (event.Dlv k) = k < 2 ^ 64
IsSmall (event.Discard k) = k < 2 ^ 64
IsSmall event.All = Unit {0}
IsSmall (event.Elect n) = n < 2 ^ 64
IsSmall (event.Tick n) = n < 2 ^ 64
IsSmall (event.Crash n) = n < 2 ^ 64
IsSmall (event.Back n) = n < 2 ^ 64
IsSmall (event.Lose n) = n < 2 ^ 64
IsSmall (event.Play n s) = (n < 2 ^ 64) × (s < 2 ^ 64)
IsSmall (event.PlayAll n) = n < 2 ^ 64
IsSmall (event.Show n) = n < 2 ^ 64
IsSmall (event.Random seed k) = (seed < 2 ^ 64) × (k < 2 ^ 64)

pub small_by_fit : (nodes workers : ℕ) (e : Event) → nodes < 2 ^ 64 → workers < 2 ^ 64 → EventFits nodes workers e → IsSmall e
small_by_fit nodes workers (event.Step n w k) few less fits = (omega (arith, fits.0.1), omega (arith, fits.1.1), omega (arith, fits.3))
small_by_fit nodes workers (event.Flush n w) few less fits = (omega (arith, fits.0.1), omega (arith, fits.1.1))
small_by_fit nodes workers (event.Idle n w) few less fits = (omega (arith, fits.0.1), omega (arith, fits.1.1))
small_by_fit nodes workers (event.Dlv k) few less fits = fits.1
small_by_fit nodes workers (event.Discard k) few less fits = fits
small_by_fit nodes workers event.All few less fits = tt
small_by_fit nodes workers (event.Elect n) few less fits = omega (arith, fits.1)
small_by_fit nodes workers (event.Tick n) few less fits = omega (arith, fits.1)
small_by_fit nodes workers (event.Crash n) few less fits = omega (arith, fits.1)
small_by_fit nodes workers (event.Back n) few less fits = omega (arith, fits.1)
small_by_fit nodes workers (event.Lose n) few less fits = omega (arith, fits.1)
small_by_fit nodes workers (event.Play n s) few less fits = (omega (arith, fits.0.1), omega (arith, fits.1.1))
small_by_fit nodes workers (event.PlayAll n) few less fits = omega (arith, fits.1)
small_by_fit nodes workers (event.Show n) few less fits = omega (arith, fits.1)
small_by_fit nodes workers (event.Random seed k) few less fits = (fits.0, omega (arith, fits.2))

-- the line of a word and a number
of_one : (nodes workers n : ℕ) (word : List ℕ) (f : ℕ → Event) (read : Reading ℕ) → IsWord word → n < 2 ^ 64 → read (decimal n) ≡ Ok n → event_of nodes workers (word ∷ decimal n ∷ []) ≡ one_word f read (decimal n ∷ []) → event_in nodes workers (line_of (word ∷ decimal n ∷ [])) ≡ Ok (f n)
of_one nodes workers n word f read is small back same =
    judged_by_words nodes workers (word ∷ decimal n ∷ []) (one_number word n is small) ∙ same ∙ one_word_back f read (decimal n) n back

-- the line of a word and a node
of_node : (nodes workers n : ℕ) (word : List ℕ) (f : ℕ → Event) → IsWord word → IsOneOf nodes n → n < 2 ^ 64 → event_of nodes workers (word ∷ decimal n ∷ []) ≡ one_word f (within 1 nodes) (decimal n ∷ []) → event_in nodes workers (line_of (word ∷ decimal n ∷ [])) ≡ Ok (f n)
of_node nodes workers n word f is there small same = of_one nodes workers n word f (within 1 nodes) is small (node_back nodes n there small) same

-- the line of a word and two numbers
of_two : (nodes workers n w : ℕ) (word : List ℕ) (f : ℕ → ℕ → Event) (read next : Reading ℕ) → IsWord word → n < 2 ^ 64 → w < 2 ^ 64 → read (decimal n) ≡ Ok n → next (decimal w) ≡ Ok w → event_of nodes workers (word ∷ decimal n ∷ decimal w ∷ []) ≡ two_words f read next (decimal n ∷ decimal w ∷ []) → event_in nodes workers (line_of (word ∷ decimal n ∷ decimal w ∷ [])) ≡ Ok (f n w)
of_two nodes workers n w word f read next is small low back after same =
    judged_by_words nodes workers (word ∷ decimal n ∷ decimal w ∷ []) (two_numbers word n w is small low) ∙ same ∙ two_words_back f read next (decimal n) (decimal w) n w back after

-- the line of a word, a node, and one of its workers or streams
of_place : (nodes workers n w : ℕ) (word : List ℕ) (f : ℕ → ℕ → Event) → IsWord word → IsOneOf nodes n → IsOneOf workers w → n < 2 ^ 64 → w < 2 ^ 64 → event_of nodes workers (word ∷ decimal n ∷ decimal w ∷ []) ≡ two_words f (within 1 nodes) (within 1 workers) (decimal n ∷ decimal w ∷ []) → event_in nodes workers (line_of (word ∷ decimal n ∷ decimal w ∷ [])) ≡ Ok (f n w)
of_place nodes workers n w word f is there next small low same =
    of_two nodes workers n w word f (within 1 nodes) (within 1 workers) is small low (node_back nodes n there small) (node_back workers w next low) same

pub reads_back : (nodes workers : ℕ) (e : Event) → IsSmall e → EventFits nodes workers e → event_in nodes workers (event_line e) ≡ Ok e
reads_back nodes workers (event.Step n w k) small fits =
    judged_by_words nodes workers (codes "step" ∷ decimal n ∷ decimal w ∷ decimal k ∷ []) (three_numbers (codes "step") n w k (omega arith, refl) small.0 small.1 small.2)
    ∙ three_words_back event.Step (within 1 nodes) (within 1 workers) (within 1 EVENTS) (decimal n) (decimal w) (decimal k) n w k
    (node_back nodes n fits.0 small.0) (node_back workers w fits.1 small.1) (within_back 1 EVENTS k fits.2 fits.3 small.2)
reads_back nodes workers (event.Flush n w) small fits = of_place nodes workers n w (codes "flush") event.Flush (omega arith, refl) fits.0 fits.1 small.0 small.1 refl
reads_back nodes workers (event.Idle n w) small fits = of_place nodes workers n w (codes "idle") event.Idle (omega arith, refl) fits.0 fits.1 small.0 small.1 refl
reads_back nodes workers (event.Dlv k) small fits = of_one nodes workers k (codes "dlv") event.Dlv (within 1 (2 ^ 64 - 1)) (omega arith, refl) small (within_back 1 (2 ^ 64 - 1) k fits.0 (omega arith) small) refl
reads_back nodes workers (event.Discard k) small fits = of_one nodes workers k (codes "drop") event.Discard number (omega arith, refl) small (number_back k small) refl
reads_back nodes workers event.All small fits = refl
reads_back nodes workers (event.Elect n) small fits = of_node nodes workers n (codes "elect") event.Elect (omega arith, refl) fits small refl
reads_back nodes workers (event.Tick n) small fits = of_node nodes workers n (codes "tick") event.Tick (omega arith, refl) fits small refl
reads_back nodes workers (event.Crash n) small fits = of_node nodes workers n (codes "crash") event.Crash (omega arith, refl) fits small refl
reads_back nodes workers (event.Back n) small fits = of_node nodes workers n (codes "back") event.Back (omega arith, refl) fits small refl
reads_back nodes workers (event.Lose n) small fits = of_node nodes workers n (codes "lose") event.Lose (omega arith, refl) fits small refl
reads_back nodes workers (event.Play n s) small fits = of_place nodes workers n s (codes "play") event.Play (omega arith, refl) fits.0 fits.1 small.0 small.1 refl
reads_back nodes workers (event.PlayAll n) small fits = of_node nodes workers n (codes "playall") event.PlayAll (omega arith, refl) fits small refl
reads_back nodes workers (event.Show n) small fits = of_node nodes workers n (codes "show") event.Show (omega arith, refl) fits small refl
reads_back nodes workers (event.Random seed k) small fits =
    of_two nodes workers seed k (codes "random") event.Random number (within 1 EVENTS) (omega arith, refl) small.0 small.1 (number_back seed small.0) (within_back 1 EVENTS k fits.1 fits.2 small.1) refl

-- the words of an event
pub event_words_are_words : (e : Event) → IsSmall e → All IsWord (event_words e)
event_words_are_words (event.Step n w k) small = three_numbers (codes "step") n w k (omega arith, refl) small.0 small.1 small.2
event_words_are_words (event.Flush n w) small = two_numbers (codes "flush") n w (omega arith, refl) small.0 small.1
event_words_are_words (event.Idle n w) small = two_numbers (codes "idle") n w (omega arith, refl) small.0 small.1
event_words_are_words (event.Dlv k) small = one_number (codes "dlv") k (omega arith, refl) small
event_words_are_words (event.Discard k) small = one_number (codes "drop") k (omega arith, refl) small
event_words_are_words event.All small = All-cons IsWord (codes "all") [] (omega arith, refl) (All-nil IsWord)
event_words_are_words (event.Elect n) small = one_number (codes "elect") n (omega arith, refl) small
event_words_are_words (event.Tick n) small = one_number (codes "tick") n (omega arith, refl) small
event_words_are_words (event.Crash n) small = one_number (codes "crash") n (omega arith, refl) small
event_words_are_words (event.Back n) small = one_number (codes "back") n (omega arith, refl) small
event_words_are_words (event.Lose n) small = one_number (codes "lose") n (omega arith, refl) small
event_words_are_words (event.Play n s) small = two_numbers (codes "play") n s (omega arith, refl) small.0 small.1
event_words_are_words (event.PlayAll n) small = one_number (codes "playall") n (omega arith, refl) small
event_words_are_words (event.Show n) small = one_number (codes "show") n (omega arith, refl) small
event_words_are_words (event.Random seed k) small = two_numbers (codes "random") seed k (omega arith, refl) small.0 small.1

pub words_back : (nodes workers : ℕ) (e : Event) → IsSmall e → EventFits nodes workers e → event_of nodes workers (event_words e) ≡ Ok e
words_back nodes workers e small fits = sym (judged_by_words nodes workers (event_words e) (event_words_are_words e small)) ∙ reads_back nodes workers e small fits
