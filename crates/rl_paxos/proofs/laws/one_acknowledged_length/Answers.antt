use Rattle.std.proofs.Common.{◌≤◌, arith}
use Rattle.rl_paxos.proofs.laws.one_acknowledged_length.Goals as goal

pub returns : goal.returns
returns c = λ quorum acked len more a b.
    let up : more ≤ len = a.greatest more b.quorum_has in
    let down : len ≤ more = b.greatest len a.quorum_has in
    omega arith
