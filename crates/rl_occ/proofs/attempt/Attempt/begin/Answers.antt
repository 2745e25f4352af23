use Rattle.std.proofs.Common.{length, ap, sym, subst, arith}
use Rattle.rl_txn.specs.Eval.{rows_given}
use Rattle.rl_occ.specs.Reading.{HasRead}
use Rattle.rl_occ.proofs.Runs.{none_read}
use Rattle.rl_occ.proofs.attempt.Attempt.begin.Goals as goal

pub invariant_of-result : goal.invariant_of-result
invariant_of-result c =
    let tables = c.args.schema.now in
    let none = c.in-Ok-with_capacity.ensures.items in
    let seen = ap length none in
    let most = c.in-Ok-with_capacity.ensures.capacity in
    let room = c.room.ensures in
    let free = ap length c.in-Ok-with_capacity-2.ensures.items in
    let many = c.in-Ok-with_capacity-2.ensures.capacity in
    let ops = c.len.ensures in (
      record { table = c.requires.table; sizes = c.requires.layout; store_fits = c.requires.store; txn_fits = c.requires.fits },
      (
        c.in-Ok.ensures.begun,
        subst (HasRead tables c.args.pass.view (rows_given c.in-Ok.eval)) (sym none) (none_read tables c.args.pass.view (rows_given c.in-Ok.eval) c.requires.rest c.in-Ok.ensures.none),
        omega arith,
        c.in-Ok-with_capacity-2.ensures.items,
        omega arith,
      ),
    )
