-- The input of a check: a script, the first line that is exactly `report`, and a report.
use Rattle.std.specs.Prelude.{ℕ, ◌+◌, List, [], ◌∷◌, ◌++◌, length, take, drop, position, Option, codes}
use Rattle.std.specs.List.{flat_map}
use Rattle.std.specs.Option.{option_map, option_map_or}
use Rattle.std.specs.Str.{bytes_eq}
use Rattle.rl_text.specs.Text.{lines_of}

-- the index of the first line `report`, counted from 0
abbrev pub report_line : List ℕ → Option ℕ
report_line input = position (λ line. bytes_eq line (codes "report")) (lines_of input)

-- the bytes of the first lines, each with its end
abbrev pub first_bytes : ℕ → List ℕ → List ℕ
first_bytes n input = flat_map (λ line. line ++ 10 ∷ []) (take n (lines_of input))

-- the text before that line, or the whole input without one
abbrev pub script_part : List ℕ → List ℕ
script_part input = option_map_or (λ n. first_bytes n input) (report_line input) input

-- the text behind that line
abbrev pub report_part : List ℕ → Option (List ℕ)
report_part input = option_map (λ n. drop (length (first_bytes (n + 1) input)) input) (report_line input)
