use Rattle.std.proofs.Common.{◌∙◌, subst, sym, Err}
use Rattle.std.proofs.lemmas.Result.{err_from_is_err_and}
use Rattle.rl_nodes.specs.Handles.{handles}
use Rattle.rl_node.specs.Inner.{well, Tries}
use Rattle.rl_node.specs.SetupOf.{setup_of}
use Rattle.rl_node.proofs.Outer.{fails_by}
use Rattle.rl_node.proofs.Receiving.{refuses_bytes, refuses_bad, bad_message, good_message, can_take}
use Rattle.rl_node.proofs.node.Node.receive.Goals as goal

pub returns-in_err-m-clause-tries : goal.returns-in_err-m-clause-tries
returns-in_err-m-clause-tries c = λ a x s.
    let setup = setup_of c.args.setup.now in
    let n = c.args.self.now in
    let due = handles setup a x c.args.bytes.now in
    let p = err_from_is_err_and c.from_residual.result c.from_residual.ensures.1 in
    subst (Tries setup a n n x due) (sym p.1)
    (subst (λ e. Tries setup a n n x due (Err e)) (sym p.2)
    (refuses_bytes setup a n x c.requires.up s c.args.bytes.now c.in_err-m.field-0.0 c.in_err-m.ensures.refused))

pub returns-in_err-is_bad-clause-tries : goal.returns-in_err-is_bad-clause-tries
returns-in_err-is_bad-clause-tries c = λ a x s.
    let setup = setup_of c.args.setup.now in
    fails_by setup a c.args.self.now x c.requires.up s (handles setup a x c.args.bytes.now)
    c.from_residual-in_err-is_bad.result c.from_residual-in_err-is_bad.ensures.1

pub returns-then-branch-clause-tries : goal.returns-then-branch-clause-tries
returns-then-branch-clause-tries c = λ a x s.
    let setup = setup_of c.args.setup.now in
    let m = c.in_ok-m.m in
    refuses_bad setup a c.args.self.now x c.requires.up s (handles setup a x c.args.bytes.now)
    (bad_message setup a x c.args.bytes.now m c.in_ok-m.ensures.read (sym (c.in_ok-is_bad.ensures a (well x) s) ∙ c.if-branch.true))

pub take-requires-clause-can : goal.take-requires-clause-can
take-requires-clause-can c =
    let setup = setup_of c.args.setup.now in
    let node = c.requires.node in
    can_take setup c.args.self.now c.in_ok-m.m node (sym (c.in_ok-is_bad.ensures node.0 (well node.1) node.2) ∙ c.if-branch.false) c.in_ok-m.ensures.in_range

pub returns-clause-tries : goal.returns-clause-tries
returns-clause-tries c = λ a x s.
    let setup = setup_of c.args.setup.now in
    let m = c.in_ok-m.m in
    let good = sym (c.in_ok-is_bad.ensures a (well x) s) ∙ c.if-branch.false in
    subst (λ answer. Tries setup a c.args.self.now c.take.new.self x answer c.take.result)
    (sym (good_message setup a x c.args.bytes.now m c.in_ok-m.ensures.read good)) (c.take.ensures.tries a x s good c.in_ok-m.ensures.in_range)
