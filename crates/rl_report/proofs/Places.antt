-- A word by its index.
use Rattle.std.proofs.Common.{◌≡◌, ℕ, zero, suc, ◌<◌, ◌≤◌, ◌==◌, not, Bool, true, false, cond, List, [], ◌∷◌, length, map, drop, get_or, Ok, Err, refl, ap, arith}
use denote.Bor.{Bor}
use Rattle.std.specs.List.{onto_first, slice_split}
use Rattle.std.specs.Str.{bytes_eq}
use Rattle.std.proofs.lemmas.Bool.Decides.{nat_tests}
use Rattle.std.proofs.lemmas.List.{length-map}
use Rattle.std.proofs.lemmas.List.Splits.{length-slice_split}
use Rattle.rl_text.specs.Printed.{Line}
use Rattle.rl_text.specs.Text.{lines_of, lines_of_pieces}
use Rattle.rl_report.specs.declared.fault.ReportFault.TheVariants.{Form, End}
use Rattle.rl_report.specs.declared.report.Report.{Report}
use Rattle.rl_report.specs.Read.{fault_at, next_line, next_begins, no_line_left}
use Rattle.rl_report.specs.Words.{begins, words_in, lines_in}

pub word_there : (due : List ℕ) (words : List (Bor (List ℕ))) (i : ℕ) (d : Bor (List ℕ)) → i < length words → begins due (drop i (map (λ w. w.now) words)) ≡ bytes_eq (get_or words i d).now due
word_there due [] i d within = absurd (omega arith)
word_there due (w ∷ words) zero d within = refl
word_there due (w ∷ words) (suc i) d within = word_there due words i d (omega arith)

pub no_word : (due : List ℕ) (words : List (Bor (List ℕ))) (i : ℕ) → length words ≤ i → begins due (drop i (map (λ w. w.now) words)) ≡ false
no_word due [] zero past = refl
no_word due [] (suc i) past = refl
no_word due (w ∷ words) zero past = absurd (omega arith)
no_word due (w ∷ words) (suc i) past = no_word due words i (omega arith)

-- ---- whether a text has a line ----

has_line : (t : Bool) (b : ℕ) (pieces : List (List ℕ)) → 0 < length pieces → 0 < length (lines_of_pieces (cond t ([] ∷ pieces) (onto_first b pieces)))
has_line t b [] some = absurd (omega arith)
has_line true b (p ∷ pieces) some = omega arith
has_line false b (p ∷ []) some = omega arith
has_line false b (p ∷ q ∷ pieces) some = omega arith

first_there : (text : List ℕ) → 0 < length text → 0 < length (lines_of text)
first_there [] some = absurd (omega arith)
first_there (b ∷ bytes) some = has_line (b == 10) b (slice_split (λ b. b == 10) bytes) (omega (arith, length-slice_split (λ b. b == 10) bytes))

pub no_line : (text : List ℕ) → length text ≡ 0 → not (length (lines_in text) == 0) ≡ false
no_line [] none = refl
no_line (b ∷ bytes) none = absurd (omega arith)

pub some_line : (text : List ℕ) → 0 < length text → not (length (lines_in text) == 0) ≡ true
some_line text some = is_true (length (lines_in text)) (omega (arith, length-map (lines_of text) words_in, first_there text some))
  where
    is_true : (n : ℕ) → 0 < n → not (n == 0) ≡ true
    is_true n some = grind (arith, nat_tests)

-- ---- the next line ----

pub line_due : (text : List ℕ) → length text ≡ 0 → next_line (lines_in text) ≡ Err (fault_at (lines_in text) End)
line_due [] none = refl
line_due (b ∷ bytes) none = absurd (omega arith)

pub line_there : (text line rest : List ℕ) → lines_of text ≡ line ∷ lines_of rest → next_line (lines_in text) ≡ Ok (words_in line, lines_in rest)
line_there text line rest is = ap (λ lines. next_line (map words_in lines)) is

pub none_begins : (due text : List ℕ) → length text ≡ 0 → next_begins due (lines_in text) ≡ false
none_begins due [] none = refl
none_begins due (b ∷ bytes) none = absurd (omega arith)

pub first_begins : (due text line rest : List ℕ) → lines_of text ≡ line ∷ lines_of rest → next_begins due (lines_in text) ≡ begins due (words_in line)
first_begins due text line rest is = ap (λ lines. next_begins due (map words_in lines)) is

pub all_read : (report : Report) (text : List ℕ) → length text ≡ 0 → no_line_left report (lines_in text) ≡ Ok report
all_read report [] none = refl
all_read report (b ∷ bytes) none = absurd (omega arith)

pub line_left : (report : Report) (text : List ℕ) → 0 < length text → no_line_left report (lines_in text) ≡ Err (fault_at (lines_in text) Form)
line_left report text some = go (lines_in text) (omega (arith, length-map (lines_of text) words_in, first_there text some))
  where
    go : (lines : List Line) → 0 < length lines → no_line_left report lines ≡ Err (fault_at lines Form)
    go [] some = absurd (omega arith)
    go (line ∷ lines) some = refl

pub ruleset next_lines = (line_due, line_there)

pub ruleset next_words = (none_begins, first_begins)

pub ruleset last_lines = (all_read, line_left)

pub ruleset node_lines = (no_line, some_line)

pub ruleset words_by_index = (word_there, no_word)
