use Rattle.std.proofs.Common.{ap, ◌∙◌, subst, arith, List}
use Rattle.rl_store.specs.declared.view.Read.{Read}
use Rattle.rl_store.specs.Entries.{In}
use Rattle.rl_store.proofs.store.Store.observe.Goals as goal

pub confirm-found-requires-clause-once : goal.confirm-found-requires-clause-once
confirm-found-requires-clause-once c x i =
    let even = c.if-word-eq1.false in
    c.requires.once x (subst (λ (l : List Read). In x l) (ap (λ v. v.attempt.reads) c.column_loads-cells.ensures.loaded ∙ ap (λ v. v.attempt.reads) (c.first_load-word.ensures.begun (omega arith))) i)
