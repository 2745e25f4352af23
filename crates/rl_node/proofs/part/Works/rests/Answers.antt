use Rattle.std.proofs.Common.{◌≡◌, ◌-◌, length, Some, refl, sym, ap, ◌∙◌, arith}
use Rattle.std.specs.Prelude.{slice_get}
use Rattle.std.proofs.lemmas.Option.{slice_get_read}
use Rattle.rl_worker.specs.Acts.{resting, phase_of}
use Rattle.rl_worker.specs.Workers.{phase_of_worker}
use Rattle.rl_worker.specs.declared.worker.Worker.{Worker}
use Rattle.rl_node.proofs.part.Works.rests.Goals as goal

pub returns-clause-rests : goal.returns-clause-rests
returns-clause-rests c = λ yes x tables at.
    let works = c.args.self.now in
    let read : slice_get works.workers.items (c.args.worker - 1) ≡ Some c.index.result.now =
    slice_get_read works.workers.items (length works.workers.items) (c.args.worker - 1) c.index.result.now refl (omega (arith, c.requires.first, c.requires.last)) c.index.ensures in
    let same : c.index.result.now ≡ x = (let e : Some c.index.result.now ≡ Some x = sym read ∙ at in cc) in
    ap (λ (w : Worker). resting (phase_of_worker tables w)) (sym same) ∙ sym (c.at_rest.ensures.rests tables) ∙ yes

pub returns-clause-core : goal.returns-clause-core
returns-clause-core c = λ setup l core a.
    let works = c.args.self.now in
    let read : slice_get works.workers.items (c.args.worker - 1) ≡ Some c.index.result.now =
    slice_get_read works.workers.items (length works.workers.items) (c.args.worker - 1) c.index.result.now refl (omega (arith, c.requires.first, c.requires.last)) c.index.ensures in
    let is = a.each c.args.worker c.index.result.now c.requires.first read in
    c.at_rest.ensures.rests setup.program.tables ∙ ap resting (sym is.stands.phase ∙ ap (phase_of core) is.number)
