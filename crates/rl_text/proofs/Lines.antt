-- The first line of a text.
use Rattle.std.proofs.Common.{◌≡◌, ℕ, ◌+◌, ◌<◌, ◌≤◌, ◌==◌, Bool, false, List, [], ◌∷◌, length, take, drop, position, Some, None, refl, ap, sym, ◌∙◌, arith, get_or}
use Rattle.std.proofs.lemmas.List.Sums.{fails_before_first}
use Rattle.std.specs.List.{slice_split, position_or_len, before_first, after_first}
use Rattle.std.proofs.lemmas.List.{take_all, drop_all}
use Rattle.std.proofs.lemmas.List.Splits.{slice_split_first, slice_split_none, length-slice_split}
use Rattle.std.proofs.lemmas.Bool.Decides.{nat_tests}
use Rattle.rl_text.specs.Text.{lines_of, lines_of_pieces}

pub more : (line : List ℕ) (pieces : List (List ℕ)) → 0 < length pieces → lines_of_pieces (line ∷ pieces) ≡ line ∷ lines_of_pieces pieces
more line [] h = absurd (omega arith)
more line (next ∷ pieces) h = refl

only : (line : List ℕ) → 0 < length line → lines_of_pieces (line ∷ []) ≡ line ∷ []
only [] h = absurd (omega arith)
only (b ∷ line) h = refl

-- what `position` says
place_of : (text : List ℕ) (p : ℕ → Bool) (at : ℕ) → position p text ≡ Some at → (position_or_len p text < length text) × (position_or_len p text ≡ at)
place_of text p at h = grind (arith, nat_tests)

-- a text with a line end
pub lines_at : (text : List ℕ) (at : ℕ) → position (λ b. b == 10) text ≡ Some at → lines_of text ≡ take at text ∷ lines_of (drop (at + 1) text)
lines_at text at h =
    let is : position_or_len (λ b. b == 10) text ≡ at = (place_of text (λ b. b == 10) at h).1 in
    let within = (place_of text (λ b. b == 10) at h).0 in
    let e = slice_split_first (λ b. b == 10) text 0 within in
    let some : 0 < length (slice_split (λ b. b == 10) (drop (at + 1) text)) = omega (arith, length-slice_split (λ b. b == 10) (drop (at + 1) text)) in
    ap lines_of_pieces (rw is at e) ∙ more (take at text) _ some

none_before : (text : List ℕ) (k d : ℕ) → k < length text → position (λ b. b == 10) text ≡ None → (get_or text k d == 10) ≡ false
none_before text k d within h =
    let past : length text ≤ position_or_len (λ b. b == 10) text = grind (arith, nat_tests) in
    fails_before_first (λ b. b == 10) text k d (omega arith)

-- a text without one
pub lines_one : (text : List ℕ) → 0 < length text → position (λ b. b == 10) text ≡ None → lines_of text ≡ text ∷ []
lines_one text some h =
    ap lines_of_pieces (slice_split_none (λ b. b == 10) text (λ k d within. none_before text k d within h)) ∙ only text some

-- what stands before the line end, and after it
pub before_at : (text : List ℕ) (at : ℕ) → position (λ b. b == 10) text ≡ Some at → take at text ≡ before_first (λ b. b == 10) text
before_at text at h = ap (λ n. take n text) (sym (place_of text (λ b. b == 10) at h).1)

pub after_at : (text : List ℕ) (at : ℕ) → position (λ b. b == 10) text ≡ Some at → drop (at + 1) text ≡ after_first (λ b. b == 10) text
after_at text at h = ap (λ n. drop (n + 1) text) (sym (place_of text (λ b. b == 10) at h).1)

none_within : (text : List ℕ) (p : ℕ → Bool) → position p text ≡ None → length text ≤ position_or_len p text
none_within text p h = grind (arith, nat_tests)

pub before_none : (text : List ℕ) → position (λ b. b == 10) text ≡ None → text ≡ before_first (λ b. b == 10) text
before_none text h = sym (take_all _ text (none_within text (λ b. b == 10) h))

pub after_none : (text : List ℕ) → position (λ b. b == 10) text ≡ None → [] ≡ after_first (λ b. b == 10) text
after_none text h =
    let past = none_within text (λ b. b == 10) h in sym (drop_all _ text (omega (arith, past)))

pub ruleset first_lines = (lines_at, lines_one, before_at, after_at, before_none, after_none)
