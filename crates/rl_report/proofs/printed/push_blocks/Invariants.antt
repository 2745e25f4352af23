use Rattle.std.proofs.Common.{◌≡◌, ◌++◌, take}
use Rattle.std.specs.String.{string_bytes}
use Rattle.std.specs.List.{flat_map}
use Rattle.rl_text.specs.Printed.{text_of}
use Rattle.rl_report.specs.Printed.{block_lines}
use Rattle.rl_report.proofs.printed.push_blocks.Given as goal

abbrev pub invariant-loop-block : goal.invariant-loop-block
invariant-loop-block l = string_bytes l.out ≡ string_bytes l.fn.out ++ flat_map (λ x. text_of (block_lines x)) (take l.block-index l.blocks)
