use Rattle.std.proofs.Common.{◌≡◌, ◌+◌, ◌≤◌, ◌<◌, ℕ, false}
use Rattle.rl_txn.specs.Eval.{unknown}
use Rattle.rl_txn.proofs.workspace.Workspace.known_keys.Given as goal

abbrev pub invariant-loop-n : goal.invariant-loop-n
invariant-loop-n l = (j : ℕ) → l.from ≤ j → j < l.n → unknown l.self.read.0 l.self.written.0 (l.keys.table, l.keys.first + j) ≡ false
