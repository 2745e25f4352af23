-- A line is judged by its first five words.
use Rattle.std.proofs.Common.{◌≡◌, ℕ, true, cond, List, [], ◌∷◌, take, None, Some, Result, Err, refl, ap, sym, ◌∙◌}
use Rattle.std.specs.Prelude.{ok_or}
use Rattle.rl_base.specs.Results.{◌>>=◌}
use Rattle.rl_text.specs.Text.{words_of, is_printable}
use Rattle.rl_events.specs.Events.{event_of, event_in, event_word, read_event}
use Rattle.rl_events.specs.declared.kind.Kind.{Kind}
use Rattle.rl_events.specs.declared.kind.Kind.TheVariants.{Byte, Word, Count}
use Rattle.rl_events.specs.declared.event.Event.{Event}
use Rattle.rl_events.specs.declared.line.EventWord.{EventWord}
use Rattle.rl_events.specs.declared.line.EventWord.TheVariants as word

-- no event has more than three words after the first
too_many : (nodes workers : ℕ) (which : EventWord) (a b c d : List ℕ) (more : List (List ℕ)) → read_event nodes workers which (a ∷ b ∷ c ∷ d ∷ more) ≡ Err Count
too_many nodes workers word.All a b c d more = refl
too_many nodes workers which a b c d more = refl

-- a line of five words or more is judged as the first five are
pub judged_by_five : (nodes workers : ℕ) (words : List (List ℕ)) → event_of nodes workers (take 5 words) ≡ event_of nodes workers words
judged_by_five nodes workers [] = refl
judged_by_five nodes workers (first ∷ []) = refl
judged_by_five nodes workers (first ∷ a ∷ []) = refl
judged_by_five nodes workers (first ∷ a ∷ b ∷ []) = refl
judged_by_five nodes workers (first ∷ a ∷ b ∷ c ∷ []) = refl
judged_by_five nodes workers (first ∷ a ∷ b ∷ c ∷ d ∷ more) = elim (event_word first) as (λ w. (ok_or w Word >>= λ w. read_event nodes workers w (a ∷ b ∷ c ∷ d ∷ [])) ≡ (ok_or w Word >>= λ w. read_event nodes workers w (a ∷ b ∷ c ∷ d ∷ more))) [
  | None ↦ refl
  | Some which ↦ too_many nodes workers which a b c d [] ∙ sym (too_many nodes workers which a b c d more)
]

-- what a printable line is, by its first five words
pub parsed : (nodes workers : ℕ) (line text : List ℕ) (words : List (List ℕ)) (r : Result Event Kind) → is_printable line ≡ true → text ≡ line → words ≡ take 5 (words_of text) → r ≡ event_of nodes workers words → event_in nodes workers line ≡ r
parsed nodes workers line text words r ok same fives is =
    ap (λ b. cond b (event_of nodes workers (words_of line)) (Err Byte)) ok ∙ sym (judged_by_five nodes workers (words_of line))
    ∙ ap (event_of nodes workers) (ap (λ t. take 5 (words_of t)) (sym same) ∙ sym fives) ∙ sym is
