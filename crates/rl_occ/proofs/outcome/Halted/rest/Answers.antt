use Rattle.std.proofs.Common.{◌≡◌, List, sym, ap, ◌∙◌, subst}
use mathlib.Core.Option.{some}
use lib.ListN.{get_elem?}
use Rattle.rl_store.specs.declared.view.Held.{Held}
use Rattle.rl_store.proofs.Marks.{at_map}
use Rattle.rl_occ.specs.declared.sets.Lock.{Lock}
use Rattle.rl_occ.specs.Locking.{held_of}
use Rattle.rl_occ.proofs.outcome.Halted.rest.Goals as goal

pub release-requires-clause-records : goal.release-requires-clause-records
release-requires-clause-records c x i =
    let at = subst (λ (l : List Lock). get_elem? l i.0 ≡ some x) c.as_slice.ensures i.1 in
    let held = sym c.self.invariant.held ∙ ap (λ z. z.view.attempt.held) c.self.view_is in
    c.requires.store (held_of x) (i.0, subst (λ (l : List Held). get_elem? l i.0 ≡ some (held_of x)) held (at_map held_of c.self.inside.locks.items i.0 x at))
