use Rattle.std.proofs.Common.{sym, ap, ◌∙◌}
use Rattle.rl_store.proofs.Allowed.{rest}
use Rattle.rl_store.proofs.Calls.{some_words}
use Rattle.rl_store.proofs.Grouped.{joins_as}
use Rattle.rl_store.proofs.Seating.{joins}
use Rattle.rl_store.proofs.Loads.{Some≢None}
use Rattle.rl_store.proofs.pass.Pass.join.Goals as goal

pub join_seat-requires : goal.join_seat-requires
join_seat-requires c = (
  ap (λ z. z.table) c.self.view_is ∙ c.requires.tables.0 ∙ sym (ap (λ z. z.table) c.store.view_is),
  ap (λ z. z.table) c.other.view_is ∙ c.requires.tables.1 ∙ sym (ap (λ z. z.table) c.store.view_is),
  c.other.invariant.no_slots,
  some_words _ _ _ _ c.store.invariant,
  joins_as _ _ _ _ _ _ _ (joins _ _ _ (ap (λ z. z.view.attempt) c.self.view_is ∙ c.requires.rest.0) (ap (λ z. z.view.attempt) c.other.view_is ∙ c.requires.rest.1) _ _),
)

pub load-found-requires : goal.load-found-requires
load-found-requires c =
    let e = c.join_seat.ensures in
    let quiet = ap (λ m. m.0.attempt) e.2 ∙ (ap (λ z. z.view.attempt) c.self.view_is ∙ c.requires.rest.0) in (
      e.0 ∙ (ap (λ z. z.table) c.self.view_is ∙ c.requires.tables.0 ∙ sym (ap (λ z. z.table) c.store.view_is)),
      some_words _ _ _ _ c.store.invariant,
      rest _ _ _ _ (ap (λ a. a.held) quiet) (λ d. Some≢None d.0 (sym d.1 ∙ ap (λ a. a.drawn) quiet)),
    )
