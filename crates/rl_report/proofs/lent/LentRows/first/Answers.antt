use Rattle.std.proofs.Common.{◌<◌, sym, ◌∙◌, arith}
use Rattle.rl_report.specs.Words.{lines_in}
use Rattle.rl_report.proofs.LentLemmas.{no_fault, first_is, are_behind}
use Rattle.rl_report.proofs.lent.LentRows.first.Goals as goal

pub invariant_of-behind : goal.invariant_of-behind
invariant_of-behind c =
    let some : 0 < c.self.inside.count = omega (arith, c.if-self-eq0.false) in
    are_behind (lines_in c.self.inside.text.now) c.self.inside.count c.self.invariant some c.in-Ok.row (lines_in c.in-Ok.after.now) c.in-Ok.ensures.row

pub returns-in-Ok : goal.returns-in-Ok
returns-in-Ok c =
    let some : 0 < c.self.inside.count = omega (arith, c.if-self-eq0.false) in
    sym c.self.view_is ∙ first_is (lines_in c.self.inside.text.now) c.self.inside.count c.self.invariant some c.in-Ok.row (lines_in c.in-Ok.after.now) c.in-Ok.ensures.row

pub returns-in-Err-Fault : goal.returns-in-Err-Fault
returns-in-Err-Fault c =
    let some : 0 < c.self.inside.count = omega (arith, c.if-self-eq0.false) in
    absurd (no_fault (lines_in c.self.inside.text.now) c.self.inside.count c.self.invariant some c.in-Err-Fault.field-0-0 (rw c.in-Err-Fault.field-0-is at c.in-Err-Fault.ensures.row))
