use Rattle.std.proofs.Common.{◌≡◌, List, ◌++◌, [], ◌∷◌, Contains, length, ap, sym, ◌∙◌, refl, subst, append-nil, arith}
use Rattle.std.proofs.lemmas.List.{append_assoc}
use Rattle.std.specs.Vec.Iter.{into_iter_items}
use Rattle.rl_shared_replay.specs.declared.view.Seen.{Seen}
use Rattle.rl_shared_replay.specs.declared.view.Version.{Version}
use Rattle.rl_shared_replay.specs.declared.view.View.{View}
use Rattle.rl_shared_replay.specs.Calls.{SeatOf}
use Rattle.rl_shared_replay.specs.Jobs.{SeesAll}
use Rattle.rl_shared_replay.specs.Views.{Settled}
use Rattle.rl_shared_replay.proofs.Lists.{has_back}
use Rattle.rl_shared_replay.proofs.Settling.{seen_more}
use Rattle.rl_shared_replay.proofs.Wholes.{all_more, no_more}
use Rattle.rl_shared_replay.proofs.run.join_all.Goals as goal

seen_other : (v w : View) (ys : List Seen) → w.seen ≡ ys ++ v.seen → (x : Version) → Settled v x → Settled w x
seen_other v w ys e x s = (s.0, subst (λ (l : List Seen). Contains l s.0) (sym e) (has_back ys v.seen s.0 s.1), s.2, s.3)

pub loop-other-preserved : goal.loop-other-preserved
loop-other-preserved c =
    let i = c.loop-other.invariant in
    let other = c.in-Some.other in
    let rest = into_iter_items c.next.new.self in
    let new = c.join.new.self.view in
    let seen = ap (λ (v : View). v.seen) c.join.ensures.joined in
    record {
      table = c.join.ensures.table ∙ i.table;
      all = append_assoc c.loop-other.yielded (other ∷ []) rest ∙ (ap (λ z. c.loop-other.yielded ++ z) (sym c.in-Some.ensures.steps.0) ∙ i.all);
      sees = all_more (λ (s : SeatOf). (x : Version) → Settled s.view x → Settled new x) c.loop-other.yielded other
          (λ k d l x s. seen_more c.loop-other.seat.view new _ seen x (i.sees k d l x s))
          (seen_other other.view new c.loop-other.seat.view.seen seen);
    }

pub returns-clause-seen : goal.returns-clause-seen
returns-clause-seen c =
    let i = c.loop-other.invariant in
    let none : into_iter_items c.loop-other.other-iterator ≡ [] = no_more (into_iter_items c.loop-other.other-iterator) (let a = c.loop-other.other-iterator.rest.ok.0 in let b = c.in-None.ensures.steps.0 in omega arith) in
    let whole : c.loop-other.yielded ≡ c.args.seats.items = sym (append-nil c.loop-other.yielded) ∙ (ap (λ z. c.loop-other.yielded ++ z) (sym none) ∙ i.all) in
    subst (SeesAll c.loop-other.seat.view) whole i.sees
