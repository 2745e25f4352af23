use Rattle.std.proofs.Common.{◌≡◌, ◌++◌, take}
use Rattle.std.specs.String.{string_bytes}
use Rattle.rl_text.specs.Printed.{text_of}
use Rattle.rl_script.specs.Printed.{list_lines}
use Rattle.rl_script.proofs.printed.push_lists.Given as goal

abbrev pub invariant-loop-i : goal.invariant-loop-i
invariant-loop-i l = string_bytes l.out ≡ string_bytes l.fn.out ++ text_of (list_lines l.schema 1 (take l.i l.lists))
