use Rattle.rl_txn.specs.Run.{op_done}
use Rattle.rl_txn.proofs.workspace.Workspace.step.Goals as goal

pub returns-in-Scan-clause-leaves : goal.returns-in-Scan-clause-leaves
unfolding op_done
returns-in-Scan-clause-leaves c = rw c.in-Scan.is c.scan.ensures.leaves
