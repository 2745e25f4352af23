-- The lines of a text, and the words of a line.
use Rattle.std.specs.Prelude.{ℕ, Bool, not, ◌&&◌, List, [], ◌∷◌, length, filter, ◌==◌, nat_le}
use Rattle.std.specs.List.{slice_split, list_all}

-- the pieces between line ends: an empty last one is no line
abbrev pub lines_of_pieces : List (List ℕ) → List (List ℕ)
lines_of_pieces [] = []
lines_of_pieces ([] ∷ []) = []
lines_of_pieces (line ∷ []) = line ∷ []
lines_of_pieces (line ∷ next ∷ more) = line ∷ lines_of_pieces (next ∷ more)

-- the lines of a text, which end with byte 10
abbrev pub lines_of : List ℕ → List (List ℕ)
lines_of text = lines_of_pieces (slice_split (λ b. b == 10) text)

-- whether all bytes are spaces or printable characters of ASCII
abbrev pub is_printable : List ℕ → Bool
is_printable line = list_all (λ b. nat_le 32 b && nat_le b 126) line

-- the words of a line, between spaces
abbrev pub words_of : List ℕ → List (List ℕ)
words_of line = filter (λ word. not (length word == 0)) (slice_split (λ b. b == 32) line)
