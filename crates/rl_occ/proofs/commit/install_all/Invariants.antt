use Rattle.std.proofs.Common.{◌≡◌}
use Rattle.rl_store.specs.Views.{settled}
use Rattle.rl_occ.proofs.Installations.{first_closed}
use Rattle.rl_occ.proofs.commit.install_all.Given as goal

-- the writes so far are installed
abbrev pub invariant-loop-i : goal.invariant-loop-i
invariant-loop-i l = (l.pass.table ≡ l.fn.pass.table) × (l.pass.view ≡ settled (first_closed l.schema l.fn.pass.view l.writes l.i))
