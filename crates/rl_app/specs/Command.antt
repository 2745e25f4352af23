-- The words of the program.
use Rattle.std.specs.Prelude.{ℕ, List, [], ◌∷◌, Option, Some, None, option_map, codes, String, if◌then◌else◌}
use Rattle.std.specs.Global.{Global}
use Rattle.std.specs.Option.{option_or}
use Rattle.std.specs.Str.{bytes_eq}
use Rattle.std.specs.String.{string_bytes}
use Rattle.rl_app.specs.declared.command.Form.{Form}
use Rattle.rl_app.specs.declared.command.Form.TheVariants.{Serial, Steps, Sim, Live, Check, GenScript, GenRun}
use Rattle.rl_app.specs.Gen.{gen_sizes}

-- the form of one word: `serial`, `steps`, `sim`, `live` or `check`
abbrev pub plain_form : List ℕ → Option Form
plain_form word =
    if bytes_eq word (codes "serial") then Some Serial
    else (if bytes_eq word (codes "steps") then Some Steps
    else (if bytes_eq word (codes "sim") then Some Sim
    else (if bytes_eq word (codes "live") then Some Live
    else (if bytes_eq word (codes "check") then Some Check else None))))

-- the form of the words of `gen`
abbrev pub gen_form : List (String Global) → Option Form
gen_form words = option_or (option_map GenScript (gen_sizes (codes "script") words)) (option_map GenRun (gen_sizes (codes "run") words))

-- the form that some words have
abbrev pub form_of : List (String Global) → Option Form
form_of (word ∷ []) = plain_form (string_bytes word)
form_of words = gen_form words

-- the line of words that have no form
abbrev pub usage_line : List ℕ
usage_line = codes "usage: rolis serial, steps, sim, live, check, gen script S N W R, gen run S N W R\n"
