-- Texts and their lines of words: splitting and joining undo each other.
use Rattle.std.proofs.Common.{◌≡◌, ℕ, suc, ◌-◌, ◌<◌, ◌==◌, ◌||◌, Bool, true, false, cond, List, [], ◌∷◌, ◌++◌, All, length, get_or, map, refl, sym, ap, subst, ◌∙◌, append_assoc, append-nil, arith, length-append}
use Rattle.std.specs.List.{flat_map, join_with_byte, onto_first, slice_split}
use Rattle.std.proofs.lemmas.Bool.Decides.{nat_tests}
use Rattle.std.proofs.lemmas.List.Elements.{All-head, All-tail}
use Rattle.std.proofs.lemmas.List.Splits.{slice_split_at, slice_split_none, join_with_byte-slice_split}
use Rattle.rl_text.specs.Printed.{Line, line_of, text_of}
use Rattle.rl_text.specs.Text.{lines_of, lines_of_pieces, is_printable}
use Rattle.rl_text.proofs.WordsBack.{IsWord, none_of, printable_line, lines_of_text}
use Rattle.rl_report.specs.Words.{words_in, lines_in, is_ended}

-- ---- from lines to a text ----

-- the words of a printed line, with none left out
split_line : (word : List ℕ) (words : Line) → All IsWord (word ∷ words) → slice_split (λ b. b == 32) (line_of (word ∷ words)) ≡ word ∷ words
split_line word [] all = slice_split_none (λ b. b == 32) word (none_of 32 (omega arith) word (All-head IsWord word [] all).1)
split_line word (next ∷ words) all =
    slice_split_at (λ b. b == 32) word 32 (line_of (next ∷ words)) (none_of 32 (omega arith) word (All-head IsWord word (next ∷ words) all).1) refl
    ∙ ap (λ ws. word ∷ ws) (split_line next words (All-tail IsWord word (next ∷ words) all))

-- a line has words
abbrev pub HasWords : Line → Type 0
HasWords [] = ⊥
HasWords (word ∷ words) = All IsWord (word ∷ words)

words_back : (line : Line) → HasWords line → words_in (line_of line) ≡ line
words_back [] all = absurd all
words_back (word ∷ words) all =
    ap (λ b. cond b (slice_split (λ b. b == 32) (line_of (word ∷ words))) []) (printable_line (word ∷ words) all) ∙ split_line word words all

all_words : (lines : List Line) → All HasWords lines → All (All IsWord) lines
all_words lines all = λ k d within. each (get_or lines k d) (all k d within)
  where
    each : (line : Line) → HasWords line → All IsWord line
    each [] h = absurd h
    each (w ∷ words) h = h

pub lines_back : (lines : List Line) → All HasWords lines → lines_in (text_of lines) ≡ lines
lines_back lines all = ap (map words_in) (lines_of_text lines (all_words lines all)) ∙ go lines all
  where
    go : (lines : List Line) → All HasWords lines → map words_in (map line_of lines) ≡ lines
    go [] all = refl
    go (line ∷ lines) all =
        ap (λ l. l ∷ map words_in (map line_of lines)) (words_back line (All-head HasWords line lines all)) ∙ ap (λ ls. line ∷ ls) (go lines (All-tail HasWords line lines all))

-- ---- ended texts ----

-- whether the last byte, if there is one, is that of a line end
abbrev ends : List ℕ → Bool
ends [] = true
ends (b ∷ []) = b == 10
ends (b ∷ c ∷ bytes) = ends (c ∷ bytes)

not_none : (n : ℕ) → (suc n == 0) ≡ false
not_none n = grind (arith, nat_tests)

last_byte : (b : ℕ) (bytes : List ℕ) → is_ended (b ∷ bytes) ≡ (get_or (b ∷ bytes) (length (b ∷ bytes) - 1) 0 == 10)
last_byte b bytes = ap (λ t. t || (get_or (b ∷ bytes) (length (b ∷ bytes) - 1) 0 == 10)) (not_none (length bytes))

ended_is : (text : List ℕ) → is_ended text ≡ ends text
ended_is [] = refl
ended_is (b ∷ []) = last_byte b []
ended_is (b ∷ c ∷ bytes) =
    let one : length (b ∷ c ∷ bytes) - 1 ≡ suc (length (c ∷ bytes) - 1) = omega arith in
    last_byte b (c ∷ bytes) ∙ ap (λ n. get_or (b ∷ c ∷ bytes) n 0 == 10) one ∙ sym (last_byte c bytes) ∙ ended_is (c ∷ bytes)

ends_more : (xs ys : List ℕ) → 0 < length ys → ends (xs ++ ys) ≡ ends ys
ends_more [] ys some = refl
ends_more (x ∷ []) [] some = absurd (omega arith)
ends_more (x ∷ []) (y ∷ ys) some = refl
ends_more (x ∷ z ∷ xs) ys some = ends_more (z ∷ xs) ys some

text_ends : (lines : List Line) → ends (text_of lines) ≡ true
text_ends [] = refl
text_ends (line ∷ []) = ap ends (append-nil (line_of line ++ 10 ∷ [])) ∙ ends_more (line_of line) (10 ∷ []) (omega arith)
text_ends (line ∷ next ∷ lines) =
    ends_more (line_of line ++ 10 ∷ []) (text_of (next ∷ lines)) (omega (arith, length-append (line_of next ++ 10 ∷ []) (text_of lines), length-append (line_of next) (10 ∷ []))) ∙ text_ends (next ∷ lines)

pub text_ended : (lines : List Line) → is_ended (text_of lines) ≡ true
text_ended lines = ended_is (text_of lines) ∙ text_ends lines

-- ---- from a text to its lines ----

-- the last of some pieces is empty
abbrev LastIsEmpty : List (List ℕ) → Type 0
LastIsEmpty [] = ⊥
LastIsEmpty (piece ∷ []) = piece ≡ []
LastIsEmpty (piece ∷ next ∷ pieces) = LastIsEmpty (next ∷ pieces)

joined : (pieces : List (List ℕ)) → LastIsEmpty pieces → join_with_byte 10 pieces ≡ flat_map (λ line. line ++ 10 ∷ []) (lines_of_pieces pieces)
joined [] last = absurd last
joined ([] ∷ []) last = refl
joined ((b ∷ bytes) ∷ []) last = absurd (cc)
joined ([] ∷ next ∷ pieces) last = ap (λ t. 10 ∷ t) (joined (next ∷ pieces) last)
joined ((b ∷ bytes) ∷ next ∷ pieces) last = ap (λ t. (b ∷ bytes) ++ 10 ∷ t) (joined (next ∷ pieces) last) ∙ sym (append_assoc (b ∷ bytes) (10 ∷ []) (flat_map (λ line. line ++ 10 ∷ []) (lines_of_pieces (next ∷ pieces))))

onto_last : (b : ℕ) (pieces : List (List ℕ)) → 1 < length pieces → LastIsEmpty pieces → LastIsEmpty (onto_first b pieces)
onto_last b [] some last = absurd last
onto_last b (piece ∷ []) some last = absurd (omega arith)
onto_last b (piece ∷ next ∷ pieces) some last = last

-- a text that ends with a line end has an empty last piece, and so has the empty one
last_empty : (text : List ℕ) → ends text ≡ true → LastIsEmpty (slice_split (λ b. b == 10) text) × (0 < length text → 1 < length (slice_split (λ b. b == 10) text))
last_empty [] h = (refl, λ some. absurd (omega arith))
last_empty (b ∷ []) h = (subst (λ t. LastIsEmpty (cond t ([] ∷ [] ∷ []) ((b ∷ []) ∷ []))) (sym h) refl, λ some. subst (λ t. 1 < length (cond t ([] ∷ [] ∷ []) ((b ∷ []) ∷ []))) (sym h) (omega arith))
last_empty (b ∷ c ∷ bytes) h = go (b == 10) (slice_split (λ b. b == 10) (c ∷ bytes)) (last_empty (c ∷ bytes) h)
  where
    go : (t : Bool) (pieces : List (List ℕ)) → LastIsEmpty pieces × (0 < length (c ∷ bytes) → 1 < length pieces) → LastIsEmpty (cond t ([] ∷ pieces) (onto_first b pieces)) × (0 < length (b ∷ c ∷ bytes) → 1 < length (cond t ([] ∷ pieces) (onto_first b pieces)))
    go true [] last = absurd last.0
    go true (piece ∷ pieces) last = (last.0, λ some. omega arith)
    go false [] last = absurd last.0
    go false (piece ∷ []) last = absurd (let more = last.1 (omega arith) in omega arith)
    go false (piece ∷ next ∷ pieces) last = (last.0, λ some. omega arith)

text_of_lines : (text : List ℕ) → is_ended text ≡ true → text ≡ flat_map (λ line. line ++ 10 ∷ []) (lines_of text)
text_of_lines text ended = sym (join_with_byte-slice_split 10 text) ∙ joined (slice_split (λ b. b == 10) text) (last_empty text (sym (ended_is text) ∙ ended)).0

-- a line whose words are found is the line of these words
abbrev pub IsThere : Line → Type 0
IsThere [] = ⊥
IsThere (word ∷ words) = Unit {0}

line_is : (line : List ℕ) → IsThere (words_in line) → line_of (words_in line) ≡ line
line_is line there = go (is_printable line) there
  where
    go : (b : Bool) → IsThere (cond b (slice_split (λ b. b == 32) line) []) → line_of (cond b (slice_split (λ b. b == 32) line) []) ≡ line
    go true h = join_with_byte-slice_split 32 line
    go false h = absurd h

lines_are : (lines : List (List ℕ)) → All IsThere (map words_in lines) → flat_map (λ line. line ++ 10 ∷ []) lines ≡ text_of (map words_in lines)
lines_are [] all = refl
lines_are (line ∷ lines) all =
    ap (λ l. l ++ 10 ∷ [] ++ flat_map (λ line. line ++ 10 ∷ []) lines) (sym (line_is line (All-head IsThere (words_in line) (map words_in lines) all)))
    ∙ ap (λ t. line_of (words_in line) ++ 10 ∷ [] ++ t) (lines_are lines (All-tail IsThere (words_in line) (map words_in lines) all))

-- an ended text is that of its lines, where each has words
pub text_is : (text : List ℕ) → is_ended text ≡ true → All IsThere (lines_in text) → text ≡ text_of (lines_in text)
text_is text ended all = text_of_lines text ended ∙ lines_are (lines_of text) all
