use Rattle.std.proofs.Common.{Ok, Err, refl, ap, subst, arith, is_some}
use Rattle.rl_nodes.specs.Works.{steps}
use Rattle.rl_node.specs.SetupOf.{setup_of}
use Rattle.rl_node.specs.Stepping.{core_stepped, HasOpenWorks}
use Rattle.rl_node.proofs.NoLeaders.{not_open, tells_nothing}
use Rattle.rl_node.proofs.Steps.{core_now, open_now, few_now, part_now, filling_then, fits_then, step_tries, step_tells, step_quiet, err_tries}
use Rattle.rl_node.proofs.part.Lead.step.Goals as goal

pub request-index-requires-clause-last : goal.request-index-requires-clause-last
request-index-requires-clause-last c =
    let setup = setup_of c.args.setup.now in
    let l = c.args.self.now in
    let s = c.requires.stands in
    let some = ap is_some c.in-Some.is in
    let are = subst (λ o. HasOpenWorks setup l o (core_now setup l s.0 s.1 some)) c.in-Some.is (open_now setup l s.0 s.1 some) in
    let count = are.count in
    let is = c.requires.worker in
    omega (arith, count, is.1)

pub make_step-requires-clause-fits : goal.make_step-requires-clause-fits
make_step-requires-clause-fits c = c.requires.stands.1.fits

pub make_step-requires-clause-open : goal.make_step-requires-clause-open
make_step-requires-clause-open c =
    let setup = setup_of c.args.setup.now in
    let s = c.requires.stands in
    (core_now setup c.args.self.now s.0 s.1 (ap is_some c.in-Some.is), open_now setup c.args.self.now s.0 s.1 (ap is_some c.in-Some.is))

pub propose_full-requires-clause-fits : goal.propose_full-requires-clause-fits
propose_full-requires-clause-fits c =
    let setup = setup_of c.args.setup.now in
    let l = c.args.self.now in
    let s = c.requires.stands in
    let some = ap is_some c.in-Some.is in
    let moved = c.in_ok-moved.ensures.moved (core_now setup l s.0 s.1 some) (open_now setup l s.0 s.1 some) in
    fits_then setup l c.make_step.new.self c.args.worker c.in_ok-moved.moved s.1.fits moved.ended moved.acknowledged

pub propose_full-requires-clause-open : goal.propose_full-requires-clause-open
propose_full-requires-clause-open c =
    let setup = setup_of c.args.setup.now in
    let l = c.args.self.now in
    let s = c.requires.stands in
    let some = ap is_some c.in-Some.is in
    let core = core_now setup l s.0 s.1 some in
    let moved = c.in_ok-moved.ensures.moved core (open_now setup l s.0 s.1 some) in
    (core_stepped setup l.epoch core c.args.worker, moved.works)

pub propose_full-requires-clause-filling : goal.propose_full-requires-clause-filling
propose_full-requires-clause-filling c =
    let setup = setup_of c.args.setup.now in
    let l = c.args.self.now in
    let s = c.requires.stands in
    let some = ap is_some c.in-Some.is in
    let moved = c.in_ok-moved.ensures.moved (core_now setup l s.0 s.1 some) (open_now setup l s.0 s.1 some) in
    filling_then setup l c.make_step.new.self c.args.worker c.in_ok-moved.moved c.requires.worker s.1.fits.pending (few_now setup l s.0 s.1 some) moved.ended

pub returns-in_default-clause-tries : goal.returns-in_default-clause-tries
returns-in_default-clause-tries c = λ x s.
    step_quiet (setup_of c.args.setup.now) c.args.id c.args.worker c.args.self.now x s c.in_default.is c.no_step.result.out c.no_step.ensures.out

pub returns-in_default-clause-told : goal.returns-in_default-clause-told
returns-in_default-clause-told c = λ x s.
    let setup = setup_of c.args.setup.now in
    let told = c.no_step.ensures in
    tells_nothing setup c.args.id x c.args.worker c.no_step.result (not_open setup c.args.self.now x.part s c.in_default.is) told.moved told.epoch told.index

pub returns-in_err-out-clause-tries : goal.returns-in_err-out-clause-tries
returns-in_err-out-clause-tries c = λ x s.
    let setup = setup_of c.args.setup.now in
    let l = c.args.self.now in
    let w = c.args.worker in
    let some = ap is_some c.in-Some.is in
    let core = core_now setup l x.part s some in
    let moved = c.in_ok-moved.ensures.moved core (open_now setup l x.part s some) in
    err_tries setup c.propose_full.new.self x (steps setup c.args.id x w) c.in_err-out.field-0.0
    (step_tries setup c.requires.setup c.args.id w l x core (part_now setup l x.part s some) c.make_step.new.self c.in_ok-moved.moved moved
    c.propose_full.new.self (Err c.in_err-out.field-0.0) (c.in_err-out.ensures x (core_stepped setup l.epoch core w) moved.works))
    c.from_residual-in_err-out.result c.from_residual-in_err-out.ensures.1

pub returns-clause-tries : goal.returns-clause-tries
returns-clause-tries c = λ x s.
    let setup = setup_of c.args.setup.now in
    let l = c.args.self.now in
    let w = c.args.worker in
    let some = ap is_some c.in-Some.is in
    let core = core_now setup l x.part s some in
    let moved = c.in_ok-moved.ensures.moved core (open_now setup l x.part s some) in
    step_tries setup c.requires.setup c.args.id w l x core (part_now setup l x.part s some) c.make_step.new.self c.in_ok-moved.moved moved
    c.propose_full.new.self (Ok c.in_ok-out.out) (c.in_ok-out.ensures x (core_stepped setup l.epoch core w) moved.works)

pub returns-clause-told : goal.returns-clause-told
returns-clause-told c = λ x s.
    let setup = setup_of c.args.setup.now in
    let l = c.args.self.now in
    let w = c.args.worker in
    let some = ap is_some c.in-Some.is in
    let core = core_now setup l x.part s some in
    let runs = open_now setup l x.part s some in
    let moved = c.in_ok-moved.ensures.moved core runs in
    let o = subst (λ o. HasOpenWorks setup l o core) c.in-Some.is runs in
    step_tells setup c.requires.setup c.args.id w l x core (part_now setup l x.part s some) c.make_step.new.self c.in_ok-moved.moved moved
    c.propose_full.new.self (Ok c.in_ok-out.out) _ refl refl (c.request-index.ensures setup l core o) refl
    (c.in_ok-out.ensures x (core_stepped setup l.epoch core w) moved.works) c.in_ok-moved.ensures.there
