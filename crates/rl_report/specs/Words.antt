-- The lines of a text as their words, and what words must be.
use Rattle.std.specs.Prelude.{ℕ, ◌-◌, ◌^◌, Bool, false, not, ◌&&◌, ◌||◌, List, [], ◌∷◌, length, map, slice_index, ◌==◌, nat_le, Result, Ok, Err, if◌then◌else◌}
use Rattle.std.specs.List.{list_all, slice_split}
use Rattle.std.specs.Str.{bytes_eq}
use Rattle.rl_base.specs.Results.{◌>>=◌}
use Rattle.rl_text.specs.Numbers.{number_within}
use Rattle.rl_text.specs.Printed.{Line}
use Rattle.rl_text.specs.Text.{lines_of, is_printable}
use Rattle.rl_report.specs.declared.fault.ReportFault.{ReportFault}
use Rattle.rl_report.specs.declared.fault.ReportFault.TheVariants.{Form}
use Rattle.rl_report.specs.Readers.{Reader}

-- the words of a line, between single spaces; none where a byte can't be printed
abbrev pub words_in : List ℕ → Line
words_in line = if is_printable line then slice_split (λ b. b == 32) line else []

-- the lines of a text
abbrev pub lines_in : List ℕ → List Line
lines_in text = map words_in (lines_of text)

-- whether the last line of a text, if there is one, is ended
abbrev pub is_ended : List ℕ → Bool
is_ended text = (length text == 0) || (slice_index text (length text - 1) == 10)

-- a reader of words
abbrev pub OfWords : Type 0 → Type 0
OfWords A = Reader (List ℕ) ReportFault A

-- whether the first word is this one
abbrev pub begins : (due : List ℕ) → Line → Bool
begins due [] = false
begins due (w ∷ words) = bytes_eq w due

-- the words behind this one
abbrev pub words_behind : (due : List ℕ) → Line → Result Line ReportFault
words_behind due [] = Err Form
words_behind due (w ∷ words) = if bytes_eq w due then Ok words else Err Form

-- what stands behind this word
abbrev pub behind : {A : Type 0} → (due : List ℕ) → OfWords A → OfWords A
behind due r words = words_behind due words >>= r

-- a number up to another
unfoldable pub number : (most : ℕ) → OfWords ℕ
number most [] = Err Form
number most (w ∷ words) = number_within 0 most Form Form w >>= λ n. Ok (n, words)

-- a number of 32 bits
abbrev pub short : OfWords ℕ
short = number (2 ^ 32 - 1)

-- a number of 64 bits
abbrev pub long : OfWords ℕ
long = number (2 ^ 64 - 1)

-- this number
unfoldable pub exactly : (due : ℕ) → OfWords ℕ
exactly due words = short words >>= λ n. if n.0 == due then Ok n else Err Form

-- one or more bytes that are seen
abbrev pub is_word : List ℕ → Bool
is_word word = not (length word == 0) && list_all (λ b. nat_le 33 b && nat_le b 126) word

-- a name
unfoldable pub name : OfWords (List ℕ)
name [] = Err Form
name (w ∷ words) = if is_word w then Ok (w, words) else Err Form

-- numbers of 64 bits, up to the end of the line
unfoldable pub longs : OfWords (List ℕ)
longs [] = Ok ([], [])
longs (w ∷ words) = number_within 0 (2 ^ 64 - 1) Form Form w >>= λ n. longs words >>= λ ns. Ok (n ∷ ns.0, ns.1)

-- one to four of them
unfoldable pub columns : OfWords (List ℕ)
columns words = if nat_le 1 (length words) && nat_le (length words) 4 then longs words else Err Form

-- a value that is a whole line
abbrev pub alone : {A : Type 0} → A → Line → Result A ReportFault
alone a [] = Ok a
alone a (w ∷ words) = Err Form

-- what a whole line stands for
abbrev pub whole : {A : Type 0} → OfWords A → Line → Result A ReportFault
whole r line = r line >>= λ a. alone a.0 a.1
