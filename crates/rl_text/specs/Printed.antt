-- The one printed form of lines of words.
use Rattle.std.specs.Prelude.{ℕ, List, [], ◌∷◌, ◌++◌}
use Rattle.std.specs.List.{join_with_byte, flat_map}

-- a line is its words
abbrev pub Line : Type 0
Line = List (List ℕ)

-- a line of some words, with one space between two of them
abbrev pub line_of : Line → List ℕ
line_of words = join_with_byte 32 words

-- some lines, each ended with byte 10
abbrev pub text_of : List Line → List ℕ
text_of lines = flat_map (λ words. line_of words ++ 10 ∷ []) lines
