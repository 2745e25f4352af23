use Rattle.std.proofs.Common.{◌≡◌, ℕ, None, length, get_or}
use Rattle.rl_store.specs.Layout.{FitsColumns}
use Rattle.rl_store_tests.proofs.bank.balances.Given as goal

-- the rows so far
abbrev pub invariant-loop-account : goal.invariant-loop-account
invariant-loop-account l = (length l.rows.items ≡ l._account) × ((r : ℕ) → FitsColumns 1 (get_or l.rows.items r None))
