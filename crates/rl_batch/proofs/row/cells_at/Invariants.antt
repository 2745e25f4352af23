use Rattle.std.proofs.Common.{◌≡◌, ◌-◌, length, take}
use Rattle.rl_fields.specs.Fields.{number, several}
use Rattle.rl_fields.proofs.Loops.{with_prefix}
use Rattle.rl_batch.proofs.row.cells_at.Given as goal

abbrev pub invariant-loop-i : goal.invariant-loop-i
invariant-loop-i l = (length l.cells ≡ 4) × (with_prefix (take l.i l.cells) (several (number 8) (l.count - l.i) l.rest) ≡ several (number 8) l.count l.bytes)
