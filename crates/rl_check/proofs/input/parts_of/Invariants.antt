use Rattle.std.proofs.Common.{◌≡◌, ℕ, List, length}
use Rattle.rl_check.proofs.InputLemmas.{Passed}
use Rattle.rl_check.proofs.input.parts_of.Given as goal

abbrev pub invariant-lines : goal.invariant-lines
invariant-lines l = (passed : List (List ℕ)) × Passed l.input passed l.rest × (l.lines ≡ length passed)

abbrev pub decreases-lines : goal.decreases-lines
decreases-lines l = length l.rest
