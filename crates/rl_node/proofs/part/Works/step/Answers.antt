use Rattle.std.proofs.Common.{◌≡◌, ◌-◌, ◌<◌, length, Some, refl, arith}
use Rattle.std.specs.Prelude.{slice_get}
use Rattle.std.proofs.lemmas.Option.{slice_get_read}
use Rattle.rl_node.specs.SetupOf.{setup_of}
use Rattle.rl_node.proofs.Turns.{answered_step}
use Rattle.rl_node.proofs.part.Works.step.Goals as goal

pub step-requires-clause-fits : goal.step-requires-clause-fits
step-requires-clause-fits c =
    let a = c.requires.works.2 in
    let works = c.args.self.now in
    let is = c.requires.worker in
    let inside : c.args.worker - 1 < length works.workers.items = (let count = a.count in omega (arith, is.0, is.1, count)) in
    let at : slice_get works.workers.items (c.args.worker - 1) ≡ Some c.index_mut.result.now =
    slice_get_read works.workers.items (length works.workers.items) (c.args.worker - 1) c.index_mut.result.now refl inside c.index_mut.ensures.value in
    (a.each c.args.worker c.index_mut.result.now is.0 at).fits

pub returns-clause-step : goal.returns-clause-step
returns-clause-step c = λ l core a.
    let works = c.args.self.now in
    let is = c.requires.worker in
    let inside : c.args.worker - 1 < length works.workers.items = (let count = a.count in omega (arith, is.0, is.1, count)) in
    let at : slice_get works.workers.items (c.args.worker - 1) ≡ Some c.index_mut.result.now =
    slice_get_read works.workers.items (length works.workers.items) (c.args.worker - 1) c.index_mut.result.now refl inside c.index_mut.ensures.value in
    answered_step c.turns.ensures.rise c.turns.ensures.items c.turns.ensures.tells (setup_of c.args.setup.now) l works _ core c.args.worker is a
    c.index_mut.result.now c.step.new.self at refl refl c.requires.next c.step.result c.step.ensures.step c.step.ensures.act c.step.ensures.fits c.step.ensures.records
