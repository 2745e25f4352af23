use Rattle.std.proofs.Common.{ap, sym, ◌∙◌, subst}
use Rattle.rl_store.specs.declared.view.View.{View}
use Rattle.rl_store.specs.Entries.{IsDecided}
use Rattle.rl_store.proofs.Calls.{some_words}
use Rattle.rl_store.proofs.Allowed.{rest}
use Rattle.rl_store.proofs.store.Store.rest.Goals as goal

pub load-found-requires : goal.load-found-requires
load-found-requires c =
    let is = ap (λ z. z.view) c.pass.view_is in (
      ap (λ z. z.table) c.pass.view_is ∙ c.requires.table ∙ sym (ap (λ z. z.table) c.self.view_is),
      some_words _ _ _ _ c.self.invariant,
      rest _ _ _ _ (ap (λ v. v.attempt.held) is ∙ c.requires.free) (subst (λ (v : View). IsDecided v.attempt → ⊥) (sym is) c.requires.undecided),
    )
