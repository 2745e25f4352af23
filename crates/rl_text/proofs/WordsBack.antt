-- Splitting printed lines into words gives the words back.
use Rattle.std.proofs.Common.{◌≡◌, ℕ, ◌^◌, ◌<◌, ◌≤◌, ◌==◌, ◌&&◌, not, Bool, true, false, List, [], ◌∷◌, ◌++◌, All, filter, length, map, get_or, Some, Ok, refl, ap, ◌∙◌, arith, zero, suc}
use Rattle.std.specs.Prelude.{nat_le}
use Rattle.std.specs.List.{list_all, slice_split}
use Rattle.std.specs.Fmt.{decimal}
use Rattle.std.proofs.lemmas.Bool.Decides.{nat_tests}
use Rattle.std.proofs.lemmas.Fmt.{digits_decimal, digits_value-decimal, decimal_nonempty, first_decimal, decimal_digit, length-decimal-le}
use Rattle.std.proofs.lemmas.List.{append_assoc}
use Rattle.std.proofs.lemmas.List.Elements.{All-cons, All-head, All-nil, All-tail}
use Rattle.std.proofs.lemmas.List.Folds.{list_all-append}
use Rattle.std.proofs.lemmas.List.Splits.{slice_split_at, slice_split_none, length-slice_split}
use Rattle.std.proofs.lemmas.Str.Parse.{IsNumeralModel, IsDigitsTest, numerals_by_fold}
use Rattle.rl_text.specs.Numbers.{IsNumber, is_digit, is_plain, number_of, number_within, value_onto}
use Rattle.rl_text.specs.Printed.{Line, line_of, text_of}
use Rattle.rl_text.specs.Text.{is_printable, lines_of, lines_of_pieces, words_of}
use Rattle.rl_text.proofs.Lines.{more}

-- bytes that are seen: printable, and no space
abbrev pub is_seen : ℕ → Bool
is_seen b = nat_le 33 b && nat_le b 126

-- what stands between the spaces of a line
abbrev pub IsWord : List ℕ → Type 0
IsWord word = (0 < length word) × (list_all is_seen word ≡ true)

seen_head : (b : ℕ) (word : List ℕ) → list_all is_seen (b ∷ word) ≡ true → (33 ≤ b) × (b ≤ 126)
seen_head b word h = grind (arith, nat_tests)

seen_tail : (b : ℕ) (word : List ℕ) → list_all is_seen (b ∷ word) ≡ true → list_all is_seen word ≡ true
seen_tail b word h = grind (arith, nat_tests)

-- no byte of a word ends it
pub none_of : (byte : ℕ) → byte < 33 → (word : List ℕ) → list_all is_seen word ≡ true → All (λ b. (b == byte) ≡ false) word
none_of byte low [] h k d within = absurd (omega arith)
none_of byte low (b ∷ word) h zero d within = let seen = seen_head b word h in grind (arith, nat_tests)
none_of byte low (b ∷ word) h (suc k) d within = none_of byte low word (seen_tail b word h) k d (omega arith)

-- the words of a printed line

kept_word : (word : List ℕ) (pieces : List (List ℕ)) → 0 < length word → filter (λ w. not (length w == 0)) (word ∷ pieces) ≡ word ∷ filter (λ w. not (length w == 0)) pieces
kept_word [] pieces some = absurd (omega arith)
kept_word (b ∷ word) pieces some = grind (arith, nat_tests)

pub words_of_line : (words : List (List ℕ)) → All IsWord words → words_of (line_of words) ≡ words
words_of_line [] all = refl
words_of_line (word ∷ []) all =
    let is = All-head IsWord word [] all in
    ap (filter (λ w. not (length w == 0))) (slice_split_none (λ b. b == 32) word (none_of 32 (omega arith) word is.1)) ∙ kept_word word [] is.0
words_of_line (word ∷ next ∷ words) all =
    let is = All-head IsWord word (next ∷ words) all in
    ap (filter (λ w. not (length w == 0))) (slice_split_at (λ b. b == 32) word 32 (line_of (next ∷ words)) (none_of 32 (omega arith) word is.1) refl)
    ∙ kept_word word (slice_split (λ b. b == 32) (line_of (next ∷ words))) is.0
    ∙ ap (λ ws. word ∷ ws) (words_of_line (next ∷ words) (All-tail IsWord word (next ∷ words) all))

-- the bytes of a printed line

printable_word : (word : List ℕ) → list_all is_seen word ≡ true → is_printable word ≡ true
printable_word [] h = refl
printable_word (b ∷ word) h = let seen = seen_head b word h in let rest = printable_word word (seen_tail b word h) in grind (arith, nat_tests)

pub printable_line : (words : List (List ℕ)) → All IsWord words → is_printable (line_of words) ≡ true
printable_line [] all = refl
printable_line (word ∷ []) all = printable_word word (All-head IsWord word [] all).1
printable_line (word ∷ next ∷ words) all =
    let front = printable_word word (All-head IsWord word (next ∷ words) all).1 in
    let rest = printable_line (next ∷ words) (All-tail IsWord word (next ∷ words) all) in
    list_all-append (λ b. nat_le 32 b && nat_le b 126) word (32 ∷ line_of (next ∷ words)) ∙ grind (arith, nat_tests)

-- the lines of a printed text

inside_one_line : (byte : ℕ) → byte < 32 → (line : List ℕ) → is_printable line ≡ true → All (λ b. (b == byte) ≡ false) line
inside_one_line byte low [] h k d within = absurd (omega arith)
inside_one_line byte low (b ∷ line) h zero d within = grind (arith, nat_tests)
inside_one_line byte low (b ∷ line) h (suc k) d within = inside_one_line byte low line (grind (arith, nat_tests)) k d (omega arith)

line_in_front : (line text : List ℕ) → is_printable line ≡ true → lines_of ((line ++ 10 ∷ []) ++ text) ≡ line ∷ lines_of text
line_in_front line text h =
    let cut : slice_split (λ b. b == 10) ((line ++ 10 ∷ []) ++ text) ≡ line ∷ slice_split (λ b. b == 10) text =
    ap (slice_split (λ b. b == 10)) (append_assoc line (10 ∷ []) text) ∙ slice_split_at (λ b. b == 10) line 10 text (inside_one_line 10 (omega arith) line h) refl in
    ap lines_of_pieces cut ∙ more line (slice_split (λ b. b == 10) text) (omega (arith, length-slice_split (λ b. b == 10) text))

pub lines_of_text : (lines : List Line) → All (All IsWord) lines → lines_of (text_of lines) ≡ map line_of lines
lines_of_text [] all = refl
lines_of_text (words ∷ lines) all =
    line_in_front (line_of words) (text_of lines) (printable_line words (All-head (All IsWord) words lines all))
    ∙ ap (λ ls. line_of words ∷ ls) (lines_of_text lines (All-tail (All IsWord) words lines all))

-- the number that a printed number is

digits_test : IsDigitsTest (λ ds. list_all is_digit ds ≡ true)
digits_test = record { empty = refl; parts = λ c cs h. parts c cs h; more = λ c cs low h. both c cs low.0 low.1 h }
  where
    parts : (c : ℕ) (cs : List ℕ) → list_all is_digit (c ∷ cs) ≡ true → ((48 ≤ c) × (c ≤ 57)) × (list_all is_digit cs ≡ true)
    parts c cs h = (grind (arith, nat_tests), grind (arith, nat_tests))

    both : (c : ℕ) (cs : List ℕ) → 48 ≤ c → c ≤ 57 → list_all is_digit cs ≡ true → list_all is_digit (c ∷ cs) ≡ true
    both c cs low high h = grind (arith, nat_tests)

digits_read : IsNumeralModel (λ ds. list_all is_digit ds ≡ true) (value_onto 0)
digits_read = numerals_by_fold (λ ds. list_all is_digit ds ≡ true) digits_test value_onto (record {
  empty = λ n. refl;
  more = λ n c cs low. ap (λ m. value_onto m cs) (omega arith);
})

seen_digits : (ds : List ℕ) → list_all is_digit ds ≡ true → list_all is_seen ds ≡ true
seen_digits [] h = refl
seen_digits (c ∷ cs) h = let rest = seen_digits cs (grind (arith, nat_tests)) in grind (arith, nat_tests)

pub decimal_is_word : (n : ℕ) → n < 2 ^ 64 → IsWord (decimal n)
decimal_is_word n small = (decimal_nonempty n small, seen_digits (decimal n) (digits_decimal digits_read n small))

plain_by : (word : List ℕ) → list_all is_digit word ≡ true → 0 < length word → (1 < length word → 48 < get_or word 0 0) → is_plain word ≡ true
plain_by word digits some front = grind (arith, nat_tests)

one_digit : (n : ℕ) → n < 2 ^ 64 → 1 < length (decimal n) → 48 < get_or (decimal n) 0 0
one_digit zero small long = absurd (omega (arith, ap length (decimal_digit 0 (omega arith))))
one_digit (suc n) small long = first_decimal (suc n) (omega arith) small

number_by : (word : List ℕ) (n : ℕ) → is_plain word ≡ true → length word ≤ 20 → n < 2 ^ 64 → value_onto 0 word ≡ n → number_of word ≡ Some n
number_by word n plain short small is = grind (arith, nat_tests)

pub number_of_decimal : (n : ℕ) → n < 2 ^ 64 → number_of (decimal n) ≡ Some n
number_of_decimal n small =
    number_by (decimal n) n (plain_by (decimal n) (digits_decimal digits_read n small) (decimal_nonempty n small) (one_digit n small))
    (length-decimal-le 20 n (omega arith) (omega arith) small) small (digits_value-decimal digits_read n small)

pub number_within_decimal : {E : Type 0} (low high : ℕ) (none out : E) (n : ℕ) → low ≤ n → n ≤ high → n < 2 ^ 64 → number_within low high none out (decimal n) ≡ Ok n
unfolding number_within
number_within_decimal low high none out n above below small =
    let is = number_of_decimal n small in grind (arith, nat_tests)

-- the words of some numbers

pub one_word : (word : List ℕ) → IsWord word → All IsWord (word ∷ [])
one_word word is = All-cons IsWord word [] is (All-nil IsWord)

pub one_number : (word : List ℕ) (n : ℕ) → IsWord word → n < 2 ^ 64 → All IsWord (word ∷ decimal n ∷ [])
one_number word n is small = All-cons IsWord word (decimal n ∷ []) is (one_word (decimal n) (decimal_is_word n small))

pub two_numbers : (word : List ℕ) (n m : ℕ) → IsWord word → n < 2 ^ 64 → m < 2 ^ 64 → All IsWord (word ∷ decimal n ∷ decimal m ∷ [])
two_numbers word n m is small next = All-cons IsWord word (decimal n ∷ decimal m ∷ []) is (one_number (decimal n) m (decimal_is_word n small) next)

pub three_numbers : (word : List ℕ) (n m k : ℕ) → IsWord word → n < 2 ^ 64 → m < 2 ^ 64 → k < 2 ^ 64 → All IsWord (word ∷ decimal n ∷ decimal m ∷ decimal k ∷ [])
three_numbers word n m k is small next last = All-cons IsWord word (decimal n ∷ decimal m ∷ decimal k ∷ []) is (two_numbers (decimal n) m k (decimal_is_word n small) next last)

-- words that things are printed as
pub each_is_word : {A : Type 0} → (word_of : A → List ℕ) (Fits : A → Type 0) → ((x : A) → Fits x → IsWord (word_of x)) → (xs : List A) → All Fits xs → All IsWord (map word_of xs)
each_is_word word_of Fits is [] all = All-nil IsWord
each_is_word word_of Fits is (x ∷ xs) all =
    All-cons IsWord (word_of x) (map word_of xs) (is x (All-head Fits x xs all)) (each_is_word word_of Fits is xs (All-tail Fits x xs all))

pub numbers_are_words : (numbers : List ℕ) → All IsNumber numbers → All IsWord (map decimal numbers)
numbers_are_words numbers all = each_is_word decimal IsNumber decimal_is_word numbers all
