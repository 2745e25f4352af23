use Rattle.std.proofs.Common.{◌≡◌}
use Rattle.rl_gen.specs.Generated.{balances}
use Rattle.rl_gen.proofs.generate.balances.Given as goal

abbrev pub invariant-loop-account : goal.invariant-loop-account
invariant-loop-account l = l.rows ≡ balances l.account
