use Rattle.std.proofs.Common.{◌≡◌, ◌∷◌, [], map, take, slice_index_or, ap, ◌∙◌, subst, ⊎_elim}
use Rattle.std.proofs.lemmas.List.{take_more}
use mathlib.Core.List.{map-append}
use mathlib.Core.Option.{some}
use lib.ListN.{get_elem?}
use Rattle.rl_store.proofs.Marks.{at_map}
use Rattle.rl_store.proofs.Views.{at_end}
use Rattle.rl_occ.specs.declared.sets.Lock.{Lock}
use Rattle.rl_occ.specs.Locking.{lock_rec}
use Rattle.rl_occ.proofs.Places.{at_or}
use Rattle.rl_occ.proofs.commit.is_locked.Goals as goal

pub returns-then-locks-i : goal.returns-then-locks-i
returns-then-locks-i c =
    let d : Lock = record { rec = 0; old = 0 } in
    (c.loop-i.i, at_map lock_rec c.args.locks.now c.loop-i.i (slice_index_or c.args.locks.now c.loop-i.i d) (at_or c.args.locks.now c.loop-i.i d c.loop-i-test.true) ∙ ap some c.if-locks-i.true)

pub loop-i-preserved : goal.loop-i-preserved
loop-i-preserved c k =
    let d : Lock = record { rec = 0; old = 0 } in
    let i = c.loop-i.i in
    let ls = c.args.locks.now in
    let l = slice_index_or ls i d in
    let all = ap (map lock_rec) (take_more ls i d c.loop-i-test.true) ∙ map-append lock_rec (take i ls) (l ∷ []) in
    ⊎_elim
    (λ p. c.loop-i.invariant (k.0, p))
    (λ p. c.if-locks-i.false p.1)
    (at_end (map lock_rec (take i ls)) l.rec c.args.rec k.0 (subst (λ xs. get_elem? xs k.0 ≡ some c.args.rec) all k.1))
