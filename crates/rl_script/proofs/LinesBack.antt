-- Lines of words, read one after another.
use Rattle.std.proofs.Common.{◌≡◌, ℕ, ◌+◌, ◌==◌, List, [], ◌∷◌, ◌++◌, All, map, true, false, None, Some, Option, Result, Ok, Err, refl, ap, ◌∙◌, if◌then◌else◌}
use Rattle.std.proofs.lemmas.List.Elements.{All-head, All-tail}
use Rattle.std.specs.Prelude.{slice_index}
use Rattle.rl_base.specs.Results.{◌>>=◌}
use Rattle.rl_text.specs.Printed.{line_of, Line}
use Rattle.rl_text.specs.Text.{words_of}
use Rattle.rl_text.proofs.WordsBack.{IsWord, words_of_line, printable_line}
use Rattle.rl_events.specs.declared.kind.Kind.TheVariants.{Byte, Word, Order}
use Rattle.rl_script.specs.declared.draft.Draft.{Draft}
use Rattle.rl_script.specs.declared.fault.Problem.{Problem}
use Rattle.rl_script.specs.declared.fault.Problem.TheVariants.{Fault}
use Rattle.rl_script.specs.declared.line.LineKind.{LineKind}
use Rattle.rl_script.specs.Lines.{line_kind}
use Rattle.rl_script.specs.Read.{in_order, read_kind, read_words, read_line, read_lines}

-- what some lines say, after those before
unfoldable pub reads : Draft → List Line → Result Draft Problem
reads draft [] = Ok draft
reads draft (words ∷ lines) = read_words draft words >>= λ next. reads next lines

pub no_lines : (draft : Draft) → reads draft [] ≡ Ok draft
unfolding reads
no_lines draft = refl

-- a line of a kind that can stand here
pub kind_line : (draft : Draft) (word : List ℕ) (words : Line) (kind : LineKind) → (slice_index word 0 == 35) ≡ false → line_kind draft.section word ≡ Some kind → in_order draft kind ≡ true → read_words draft (word ∷ words) ≡ read_kind draft kind words
unfolding read_words
kind_line draft word words kind no_comment is order =
    ap (λ b. if b then Ok draft else elim (line_kind draft.section word) [
      | None ↦ Err (Fault Word)
      | Some kind ↦ if in_order draft kind then read_kind draft kind words else Err (Fault Order)
    ]) no_comment
    ∙ ap (λ (k : Option LineKind). elim k [
      | None ↦ Err (Fault Word)
      | Some kind ↦ if in_order draft kind then read_kind draft kind words else Err (Fault Order)
    ]) is
    ∙ ap (λ b. if b then read_kind draft kind words else Err (Fault Order)) order

-- one line, and those after it
pub one_line : (draft next : Draft) (words : Line) (lines : List Line) → read_words draft words ≡ Ok next → reads draft (words ∷ lines) ≡ reads next lines
unfolding reads
one_line draft next words lines is = ap (λ r. r >>= λ next. reads next lines) is

-- some lines, and those after them
pub more_lines : (draft next : Draft) (front lines : List Line) → reads draft front ≡ Ok next → reads draft (front ++ lines) ≡ reads next lines
unfolding reads
more_lines draft next [] lines is = ap (λ r. r >>= λ next. reads next lines) is
more_lines draft next (words ∷ front) lines is = go (read_words draft words) (λ first h. more_lines first next front lines h) is
  where
    go : (r : Result Draft Problem) → ((first : Draft) → reads first front ≡ Ok next → reads first (front ++ lines) ≡ reads next lines) → (r >>= λ next. reads next front) ≡ Ok next → (r >>= λ next. reads next (front ++ lines)) ≡ reads next lines
    go (Ok first) more h = more first h
    go (Err problem) more h = absurd (let e : Err problem ≡ Ok next = h in cc)

line_back : (draft : Draft) (words : Line) → All IsWord words → read_line draft (line_of words) ≡ read_words draft words
unfolding read_line
line_back draft words all = ap (λ b. if b then read_words draft (words_of (line_of words)) else Err (Fault Byte)) (printable_line words all) ∙ ap (read_words draft) (words_of_line words all)

read_on : (number : ℕ) (draft next : Draft) (line : List ℕ) (lines : List (List ℕ)) → read_line draft line ≡ Ok next → read_lines number draft (line ∷ lines) ≡ read_lines (number + 1) next lines
unfolding read_lines
read_on number draft next line lines is = ap (λ (r : Result Draft Problem). elim r [
  | Ok next ↦ read_lines (number + 1) next lines
  | Err problem ↦ Err (number, problem)
]) is

-- the text of the lines is read as the lines are
pub lines_back : (number : ℕ) (draft next : Draft) (lines : List Line) → All (All IsWord) lines → reads draft lines ≡ Ok next → next.current ≡ None → read_lines number draft (map line_of lines) ≡ Ok next
unfolding reads read_lines
lines_back number draft next [] all is closed_there = let same : draft ≡ next = cc in rw (same, closed_there) refl
lines_back number draft next (words ∷ lines) all is closed_there =
    go (read_words draft words) (line_back draft words (All-head (All IsWord) words lines all)) (λ first h. lines_back (number + 1) first next lines (All-tail (All IsWord) words lines all) h closed_there) is
  where
    go : (r : Result Draft Problem) → read_line draft (line_of words) ≡ r → ((first : Draft) → reads first lines ≡ Ok next → read_lines (number + 1) first (map line_of lines) ≡ Ok next) → (r >>= λ next. reads next lines) ≡ Ok next → read_lines number draft (map line_of (words ∷ lines)) ≡ Ok next
    go (Ok first) here more h = read_on number draft first (line_of words) (map line_of lines) here ∙ more first h
    go (Err problem) here more h = absurd (let e : Err problem ≡ Ok next = h in cc)
