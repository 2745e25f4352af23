use Rattle.std.proofs.Common.{◌≤◌, length, vec_capacity, sum_by, refl, arith, None}
use Rattle.rl_txn.specs.Eval.{reads_at_most}
use Rattle.rl_txn.specs.declared.eval.Eval.{Eval}
use Rattle.rl_txn.proofs.Evals.{started}
use Rattle.rl_txn.proofs.eval.Eval.start.Goals as goal

pub returns-clause-begun : goal.returns-clause-begun
returns-clause-begun c =
    let outs : length c.args.txn.now ≤ vec_capacity c.in_ok-begin.field-0.outs = omega (arith, c.in_ok-begin.ensures.outs, c.len-ops.ensures) in
    let writes : length c.args.txn.now ≤ c.in_ok-begin.field-0.written.1 = omega (arith, c.in_ok-begin.ensures.writes, c.len-ops.ensures) in
    let finish : length c.args.txn.now ≤ vec_capacity c.in_ok-with_capacity.field-0 = omega (arith, c.in_ok-with_capacity.ensures.capacity, c.len-ops.ensures) in
    let reads : sum_by reads_at_most c.args.txn.now ≤ c.in_ok-begin.field-0.read.1 = omega (arith, c.in_ok-begin.ensures.reads, c.most_reads.ensures) in
    let e : Eval = record { work = c.in_ok-begin.field-0; writes = c.in_ok-with_capacity.field-0; done = 0; scanned = 0; wants = None } in
    started c.args.schema.now c.args.txn.now e c.in_ok-begin.ensures.begun refl refl refl outs writes c.in_ok-with_capacity.ensures.items finish reads
