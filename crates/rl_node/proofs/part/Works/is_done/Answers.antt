use Rattle.std.proofs.Common.{◌≡◌, ◌-◌, ◌∙◌, length, Some, refl, sym, arith, inl}
use Rattle.std.specs.Prelude.{slice_get}
use Rattle.std.proofs.lemmas.Option.{slice_get_read}
use Rattle.rl_node.specs.SetupOf.{setup_of}
use Rattle.rl_node.proofs.Marks.{yes_test}
use Rattle.rl_node.proofs.Requests.{done_if, done_by_test}
use Rattle.rl_node.proofs.Turns.{at_index}
use Rattle.rl_node.proofs.part.Works.is_done.Goals as goal

pub returns-then-next-eq0 : goal.returns-then-next-eq0
returns-then-next-eq0 c = λ l core a.
    let setup = setup_of c.args.setup.now in
    let works = c.args.self.now in
    let w = c.args.worker in
    let first = c.requires.first in
    let last = c.requires.list in
    let at : slice_get works.workers.items (w - 1) ≡ Some c.index.result.now =
    slice_get_read works.workers.items (length works.workers.items) (w - 1) c.index.result.now refl (omega (arith, first, c.requires.last)) c.index.ensures in
    let list = at_index setup.program.lists (w - 1) (omega (arith, first, last)) in
    yes_test c.next-next.result 0 c.if-next-eq0.true
    ∙ done_if setup l works core w first a c.index.result.now at (c.requires.rests c.index.result.now setup.program.tables at) list.0 list.1
    (inl (sym c.next-next.ensures ∙ c.if-next-eq0.true))

pub returns-else-next-eq0 : goal.returns-else-next-eq0
returns-else-next-eq0 c = λ l core a.
    let setup = setup_of c.args.setup.now in
    let works = c.args.self.now in
    let w = c.args.worker in
    let first = c.requires.first in
    let at : slice_get works.workers.items (w - 1) ≡ Some c.index.result.now =
    slice_get_read works.workers.items (length works.workers.items) (w - 1) c.index.result.now refl (omega (arith, first, c.requires.last)) c.index.ensures in
    done_by_test setup l works core w first a c.index.result.now at (c.requires.rests c.index.result.now setup.program.tables at) c.get.result.now c.get.ensures
    c.len.result c.next-next.result c.len.ensures c.next-next.ensures (let some = c.if-next-eq0.false in omega (arith, some))
