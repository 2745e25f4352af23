use Rattle.std.proofs.Common.{◌-◌, ◌∙◌, [], length, Some, sym, ap, subst, arith}
use Rattle.rl_node.specs.SetupOf.{setup_of}
use Rattle.rl_node.specs.Stepping.{HasOpenWorks}
use Rattle.rl_node.proofs.Idles.{may_not_run, may_not_wait, may_by_mark}
use Rattle.rl_node.proofs.Items.{item_is}
use Rattle.rl_node.proofs.part.Lead.may_mark.Goals as goal

pub returns-then-not-rests-clause-may : goal.returns-then-not-rests-clause-may
returns-then-not-rests-clause-may c = λ core runs.
    let setup = setup_of c.args.setup.now in
    let l = c.args.self.now in
    let are = subst (λ o. HasOpenWorks setup l o core) c.in-Some.is runs in
    may_not_run l c.args.worker core (sym (c.rests.ensures.core setup l core are) ∙ c.if-not-rests.true)

pub returns-then-len-gt0-clause-may : goal.returns-then-len-gt0-clause-may
returns-then-len-gt0-clause-may c = λ core runs.
    let setup = setup_of c.args.setup.now in
    let l = c.args.self.now in
    let w = c.args.worker in
    let is = c.requires.worker in
    let size = c.requires.fits.pending in
    let count = ap length (item_is l.pending.items (w - 1) c.index.result.now [] (omega (arith, is.0, is.1, size)) c.index.ensures) in
    may_not_wait l w core (let len = c.len.ensures in let test = c.if-len-gt0.true in omega (arith, count, len, test))

pub returns-clause-may : goal.returns-clause-may
returns-clause-may c = λ core runs.
    let setup = setup_of c.args.setup.now in
    let l = c.args.self.now in
    let w = c.args.worker in
    let is = c.requires.worker in
    let size = c.requires.fits.pending in
    let are = subst (λ o. HasOpenWorks setup l o core) c.in-Some.is runs in
    let count = ap length (item_is l.pending.items (w - 1) c.index.result.now [] (omega (arith, is.0, is.1, size)) c.index.ensures) in
    may_by_mark l w core (sym (c.rests.ensures.core setup l core are) ∙ c.if-not-rests.false)
    (let len = c.len.ensures in let test = c.if-len-gt0.false in omega (arith, count, len, test)) c.in_ok-has.has (c.in_ok-has.ensures (Some core))
