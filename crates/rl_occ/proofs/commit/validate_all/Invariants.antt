use Rattle.std.proofs.Common.{◌≡◌}
use Rattle.rl_store.specs.Views.{settled}
use Rattle.rl_occ.proofs.Validations.{first_valid}
use Rattle.rl_occ.proofs.commit.validate_all.Given as goal

-- the reads so far are validated
abbrev pub invariant-loop-i : goal.invariant-loop-i
invariant-loop-i l = (l.pass.table ≡ l.fn.pass.table) × (l.pass.view ≡ settled (first_valid l.fn.pass.view l.i))
