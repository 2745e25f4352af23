use Rattle.std.proofs.Common.{◌≡◌, drop}
use Rattle.rl_occ.proofs.Releasing.{IsLettingGo}
use Rattle.rl_occ.proofs.release.release.Given as goal

-- the locks from here on are still held
abbrev pub invariant-loop-i : goal.invariant-loop-i
invariant-loop-i l = (l.pass.table ≡ l.fn.pass.table) × IsLettingGo l.fn.pass.view l.pass.view (drop l.i l.locks)
