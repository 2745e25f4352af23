use Rattle.std.proofs.Common.{◌<◌, ◌++◌, [], ◌∷◌, length, set, ap, ◌∙◌}
use Rattle.rl_base.specs.Lists.{with_last}
use Rattle.rl_base.proofs.ListsLemmas.{set_last}
use Rattle.rl_base.proofs.list.Seq+Seq+T.push_at.Goals as goal

pub returns-clause-ok : goal.returns-clause-ok
returns-clause-ok g c =
    let lists = c.self.inside.items.items in
    let i = c.args.i in
    let x = c.args.x in
    let within : i < length lists = rw c.self.view_is c.requires in
    ap (λ list. set lists i list) (c.in_ok-push.ensures.ok ∙ ap (λ list. list ++ x ∷ []) c.index_mut-list.ensures.value)
    ∙ set_last lists i c.index_mut-list.result.now x within ∙ ap (λ ls. with_last ls i x) c.self.view_is
