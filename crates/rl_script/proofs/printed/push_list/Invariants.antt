use Rattle.std.proofs.Common.{◌≡◌, ◌++◌, take}
use Rattle.std.specs.String.{string_bytes}
use Rattle.std.specs.List.{flat_map}
use Rattle.rl_text.specs.Printed.{text_of}
use Rattle.rl_script.specs.Printed.{txn_lines}
use Rattle.rl_script.proofs.printed.push_list.Given as goal

abbrev pub invariant-loop-txn : goal.invariant-loop-txn
invariant-loop-txn l = string_bytes l.out ≡ string_bytes l.fn.out ++ flat_map (λ txn. text_of (txn_lines l.schema l.worker txn)) (take l.txn-index l.txn-items)
