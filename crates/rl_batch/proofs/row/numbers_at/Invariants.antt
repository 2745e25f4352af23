use Rattle.std.proofs.Common.{◌≡◌, ◌-◌}
use Rattle.rl_fields.specs.Fields.{number, several}
use Rattle.rl_fields.proofs.Loops.{with_prefix}
use Rattle.rl_batch.proofs.row.numbers_at.Given as goal

abbrev pub invariant-loop-number : goal.invariant-loop-number
invariant-loop-number l = with_prefix l.numbers.items (several (number 8) (l.count - l._number) l.rest) ≡ several (number 8) l.count l.bytes
