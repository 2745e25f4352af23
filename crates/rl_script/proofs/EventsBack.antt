-- The lines of the events are read as the events again.
use Rattle.std.proofs.Common.{◌≡◌, ℕ, ◌+◌, ◌^◌, ◌<◌, ◌≤◌, ◌==◌, true, false, List, [], ◌∷◌, ◌++◌, All, map, sum_by, Some, None, Ok, Err, codes, refl, ap, sym, ◌∙◌, arith, append-nil, if◌then◌else◌}
use Rattle.std.specs.Prelude.{nat_lt, slice_index}
use Rattle.std.proofs.lemmas.Bool.Decides.{nat_tests}
use Rattle.std.proofs.lemmas.List.{append_assoc}
use Rattle.std.proofs.lemmas.List.Elements.{All-head, All-tail}
use Rattle.std.proofs.lemmas.List.Sums.{sum_by-cons}
use Rattle.rl_base.specs.declared.limit.LimitName.TheVariants as limits
use Rattle.rl_base.specs.Results.{◌>>=◌}
use Rattle.rl_text.specs.Printed.{Line}
use Rattle.rl_events.specs.Events.{event_of, read_event}
use Rattle.rl_events.specs.Fits.{EventFits, count_of, elections_of}
use Rattle.rl_events.specs.Printed.{event_words}
use Rattle.rl_events.specs.declared.event.Event.{Event}
use Rattle.rl_events.specs.declared.event.Event.TheVariants as event
use Rattle.rl_events.specs.declared.line.EventWord.{EventWord}
use Rattle.rl_events.specs.declared.line.EventWord.TheVariants as word
use Rattle.rl_events.proofs.ReadBack.{small_by_fit, words_back}
use Rattle.rl_script.specs.declared.draft.Draft.{Draft}
use Rattle.rl_script.specs.declared.fault.Problem.TheVariants.{Limit}
use Rattle.rl_script.specs.declared.line.LineKind.TheVariants as line
use Rattle.rl_script.specs.Problems.{as_problem}
use Rattle.rl_script.specs.Sections.{is_events}
use Rattle.rl_script.specs.Lines.{line_kind}
use Rattle.rl_script.specs.Read.{read_kind, read_words, scheduled}
use Rattle.rl_script.specs.Settings.{nodes_of, workers_of}
use Rattle.rl_script.proofs.FitsLemmas.{one_more_event}
use Rattle.rl_script.proofs.LinesBack.{reads, kind_line, no_lines, one_line}

-- the draft with one more event
abbrev pub scheduled_with : Draft → Event → Draft
scheduled_with draft e = record draft { events = draft.events ++ e ∷ [] }

scheduled_back : (events : List Event) (e : Event) → sum_by elections_of events + elections_of e ≤ 64 → sum_by count_of events + count_of e ≤ 100000 → scheduled events e ≡ Ok (events ++ e ∷ [])
scheduled_back events e elections counted =
    let few : nat_lt 64 (sum_by elections_of events + elections_of e) ≡ false = grind (arith, nat_tests) in
    let room : nat_lt 100000 (sum_by count_of events + count_of e) ≡ false = grind (arith, nat_tests) in
    ap (λ b. if b then Err (Limit limits.Elections 64) else (if nat_lt 100000 (sum_by count_of events + count_of e) then Err (Limit limits.Events 100000) else Ok (events ++ e ∷ []))) few
    ∙ ap (λ b. if b then Err (Limit limits.Events 100000) else Ok (events ++ e ∷ [])) room

joined_back : (draft : Draft) (which : EventWord) (words : Line) (e : Event) → read_event (nodes_of draft.settings) (workers_of draft.settings) which words ≡ Ok e → scheduled draft.events e ≡ Ok (draft.events ++ e ∷ []) → read_kind draft (line.Event which) words ≡ Ok (scheduled_with draft e)
joined_back draft which words e is joins =
    ap (λ r. as_problem r >>= λ e. scheduled draft.events e >>= λ events. Ok (record draft { events = events })) is ∙ ap (λ r. r >>= λ events. Ok (record draft { events = events })) joins

-- a line of the section of events
said : (draft : Draft) (first : List ℕ) (words : Line) (which : EventWord) (e : Event) → is_events draft.section ≡ true → (slice_index first 0 == 35) ≡ false → line_kind draft.section first ≡ (if is_events draft.section then Some (line.Event which) else None)
    → read_event (nodes_of draft.settings) (workers_of draft.settings) which words ≡ Ok e → scheduled draft.events e ≡ Ok (draft.events ++ e ∷ []) → read_words draft (first ∷ words) ≡ Ok (scheduled_with draft e)
said draft first words which e last no_comment kind is joins =
    kind_line draft first words (line.Event which) no_comment (kind ∙ ap (λ b. if b then Some (line.Event which) else None) last) last ∙ joined_back draft which words e is joins

event_back : (draft : Draft) (e : Event) → is_events draft.section ≡ true → nodes_of draft.settings < 2 ^ 64 → workers_of draft.settings < 2 ^ 64 → EventFits (nodes_of draft.settings) (workers_of draft.settings) e → scheduled draft.events e ≡ Ok (draft.events ++ e ∷ [])
    → read_words draft (event_words e) ≡ Ok (scheduled_with draft e)
event_back draft e last few less fits joins = go e (words_back (nodes_of draft.settings) (workers_of draft.settings) e (small_by_fit (nodes_of draft.settings) (workers_of draft.settings) e few less fits) fits) joins
  where
    go : (e : Event) → event_of (nodes_of draft.settings) (workers_of draft.settings) (event_words e) ≡ Ok e → scheduled draft.events e ≡ Ok (draft.events ++ e ∷ []) → read_words draft (event_words e) ≡ Ok (scheduled_with draft e)
    go (event.Step n w k) is joins = said draft (codes "step") _ word.Step (event.Step n w k) last refl refl is joins
    go (event.Flush n w) is joins = said draft (codes "flush") _ word.Flush (event.Flush n w) last refl refl is joins
    go (event.Idle n w) is joins = said draft (codes "idle") _ word.Idle (event.Idle n w) last refl refl is joins
    go (event.Dlv k) is joins = said draft (codes "dlv") _ word.Dlv (event.Dlv k) last refl refl is joins
    go (event.Discard k) is joins = said draft (codes "drop") _ word.Discard (event.Discard k) last refl refl is joins
    go event.All is joins = said draft (codes "all") _ word.All event.All last refl refl is joins
    go (event.Elect n) is joins = said draft (codes "elect") _ word.Elect (event.Elect n) last refl refl is joins
    go (event.Tick n) is joins = said draft (codes "tick") _ word.Tick (event.Tick n) last refl refl is joins
    go (event.Crash n) is joins = said draft (codes "crash") _ word.Crash (event.Crash n) last refl refl is joins
    go (event.Back n) is joins = said draft (codes "back") _ word.Back (event.Back n) last refl refl is joins
    go (event.Lose n) is joins = said draft (codes "lose") _ word.Lose (event.Lose n) last refl refl is joins
    go (event.Play n s) is joins = said draft (codes "play") _ word.Play (event.Play n s) last refl refl is joins
    go (event.PlayAll n) is joins = said draft (codes "playall") _ word.PlayAll (event.PlayAll n) last refl refl is joins
    go (event.Show n) is joins = said draft (codes "show") _ word.Show (event.Show n) last refl refl is joins
    go (event.Random seed k) is joins = said draft (codes "random") _ word.Random (event.Random seed k) last refl refl is joins

pub events_back : (draft : Draft) (events : List Event) → is_events draft.section ≡ true → nodes_of draft.settings < 2 ^ 64 → workers_of draft.settings < 2 ^ 64 → All (EventFits (nodes_of draft.settings) (workers_of draft.settings)) events
    → sum_by elections_of draft.events + sum_by elections_of events ≤ 64 → sum_by count_of draft.events + sum_by count_of events ≤ 100000 → reads draft (map event_words events) ≡ Ok (record draft { events = draft.events ++ events })
events_back draft [] last few less all elections counted = no_lines draft ∙ ap (λ events. Ok (record draft { events = events })) (sym (append-nil draft.events))
events_back draft (e ∷ events) last few less all elections counted =
    let next : Draft = scheduled_with draft e in
    let more_elections : sum_by elections_of (e ∷ events) ≡ elections_of e + sum_by elections_of events = sum_by-cons elections_of e events in
    let more_counted : sum_by count_of (e ∷ events) ≡ count_of e + sum_by count_of events = sum_by-cons count_of e events in
    one_line draft next (event_words e) (map event_words events)
    (event_back draft e last few less (All-head (EventFits (nodes_of draft.settings) (workers_of draft.settings)) e events all) (scheduled_back draft.events e (omega arith) (omega arith)))
    ∙ events_back next events last few less (All-tail (EventFits (nodes_of draft.settings) (workers_of draft.settings)) e events all)
    (omega (arith, one_more_event elections_of draft.events e)) (omega (arith, one_more_event count_of draft.events e))
    ∙ ap (λ events. Ok (record draft { events = events })) (append_assoc draft.events (e ∷ []) events)
