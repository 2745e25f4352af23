use Rattle.std.proofs.Common.{◌≡◌, ◌-◌, length, Some, refl, ◌∙◌, arith}
use Rattle.std.specs.Prelude.{slice_get}
use Rattle.std.proofs.lemmas.Option.{slice_get_read}
use Rattle.rl_node.proofs.Turns.{request_is}
use Rattle.rl_node.proofs.part.Works.request.Goals as goal

pub returns : goal.returns
returns c = λ setup l core a.
    let works = c.args.self.now in
    let at : slice_get works.workers.items (c.args.worker - 1) ≡ Some c.index.result.now =
    slice_get_read works.workers.items (length works.workers.items) (c.args.worker - 1) c.index.result.now refl (omega (arith, c.requires.first, c.requires.last)) c.index.ensures in
    c.next.ensures ∙ request_is setup l works core c.args.worker c.index.result.now c.requires.first at a
