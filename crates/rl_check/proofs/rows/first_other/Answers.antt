use Rattle.std.proofs.Common.{◌≡◌, ◌<◌, ◌++◌, length, arith}
use Rattle.rl_report.specs.Lines.{row_lines}
use Rattle.rl_check.specs.Differences.{Differ}
use Rattle.rl_check.proofs.DueLemmas.{alike_upto, differ_there, more_alike, more_there}
use Rattle.rl_check.proofs.rows.first_other.Goals as goal

pub returns-in-Err-clause-other : goal.returns-in-Err-clause-other
returns-in-Err-clause-other c =
    let due = row_lines c.args.schema.now c.args.rows.now in
    let is : Differ due c.args.lines.now c.in-Err.other = rw c.again.ensures at (rw c.in-Err.is at c.in_ok-left.ensures) in
    rw (c.len.ensures, c.len-in-Err.ensures) record {
      alike = alike_upto due c.args.lines.now c.in-Err.other is;
      differ = differ_there due c.args.lines.now c.in-Err.other is;
    }

pub returns-clause-other : goal.returns-clause-other
returns-clause-other c =
    let due = row_lines c.args.schema.now c.args.rows.now in
    let is : c.args.lines.now ≡ due ++ c.in-Ok.left = rw c.again.ensures at (rw c.in-Ok.is at c.in_ok-left.ensures) in
    let some : 0 < length c.in-Ok.left = omega (arith, c.if-len-eq0.false, c.len-2.ensures) in
    rw (c.len-3.ensures, c.len-4.ensures) record {
      alike = more_alike due c.args.lines.now c.in-Ok.left is;
      differ = more_there due c.args.lines.now c.in-Ok.left is some;
    }
