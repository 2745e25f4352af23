use Rattle.std.proofs.Common.{ℕ, ◌+◌, ◌*◌, ◌^◌, ap, sym, ◌∙◌, subst, arith}
use Rattle.rl_store.specs.declared.view.View.{View}
use Rattle.rl_store.specs.Passes.{IsAbove}
use Rattle.rl_store.proofs.Allowed.{draw_below}
use Rattle.rl_store.proofs.Calls.{some_words}
use Rattle.rl_store.proofs.store.Store.draw_below_as.Goals as goal

pub fetch_add-seq-requires : goal.fetch_add-seq-requires
fetch_add-seq-requires g c = (
  ap (λ z. z.table) c.pass.view_is ∙ c.requires.table ∙ sym (ap (λ z. z.table) c.self.view_is),
  some_words _ _ _ _ c.self.invariant,
  draw_below _ _ _ _ _ _ (c.requires.base ∙ ap (λ z. z.made.epoch * 2 ^ 40) (sym c.self.view_is)) (ap (λ z. z.view.attempt.drawn) c.pass.view_is ∙ c.requires.undrawn)
      (let e = ap (λ z. z.view.tries) c.pass.view_is in let l = c.requires.left in omega arith),
)

pub returns-clause-above : goal.returns-clause-above
returns-clause-above g c =
    let is = ap (λ z. z.view) c.pass.view_is in
    subst (λ (p : ℕ × View). IsAbove p.1 (p.0 + c.fetch_add-seq.result)) (λ j. (c.requires.base j, is j)) c.fetch_add-seq.ensures.2.5
