use Rattle.std.proofs.Common.{◌<◌}
use Rattle.std.specs.Prelude.{IfSome}
use Rattle.rl_node_tests.proofs.digits.bytes_of.Given as goal

-- a digit that waits is below 16
abbrev pub invariant-loop-c : goal.invariant-loop-c
invariant-loop-c l = IfSome l.high (λ h. h < 16)
