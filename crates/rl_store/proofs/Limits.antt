-- A draw with a limit keeps the rule: a seq above it refuses at once.
use Rattle.std.proofs.Common.{◌≡◌, ℕ, ◌+◌, ◌-◌, ◌%◌, ◌^◌, ◌<◌, ◌≤◌, List, [], ◌∷◌, get_or, set, refl, sym, ap, subst, true≢false, arith}
use Rattle.std.specs.Prelude.{None}
use mathlib.Core.Logic.{dite}
use mathlib.Core.Option.{some, none}
use native.Mathlib.Decide.{ℕ_discrete}
use lib.ListN.{get_elem?}
use Rattle.atomic_table.specs.Table.{step, keeps, Allows}
use Rattle.rl_store.specs.declared.view.Held.{Held}
use Rattle.rl_store.specs.declared.view.Refused.{Refused}
use Rattle.rl_store.specs.declared.view.View.{View}
use Rattle.rl_store.specs.Entries.{IsDecided, Stands, Installs}
use Rattle.rl_store.specs.Layout.{Opening}
use Rattle.rl_store.specs.Rule.{Shared}
use Rattle.rl_store.specs.Steps.{Mine, DrawBelow}
use Rattle.rl_store.specs.Views.{above_at, gave_up, rested, settled, stopped, with_draw}
use Rattle.rl_store.proofs.Grouped.{Kept}
use Rattle.rl_store.proofs.Views.{sum_put}
use Rattle.rl_store.proofs.Quiet.{quiet_rule}
use Rattle.rl_store.proofs.Seating.{rests_kept}
use Rattle.rl_store.proofs.Locking.{gives_up}
use Rattle.rl_store.proofs.Draws.{draws, small}
use Rattle.rl_store.proofs.Finishing.{twice, left_there, settles}

module _ (b : Opening) (s : Shared) (h : Kept b s) (id : ℕ) (v : View) (at : get_elem? s.views id ≡ some v) (drawn : v.attempt.drawn ≡ None) (some_left : 0 < v.tries) (x : Refused) where
  abbrev n : ℕ
  n = get_or s.words 0 0

  abbrev ws : List ℕ
  ws = set s.words 0 (n + 1)

  abbrev u : View
  u = gave_up v x

  abbrev w : View
  w = with_draw u (b.base + n)

  -- it gives up, and draws
  abbrev given : Shared
  given = record { words = s.words; homes = s.homes; views = set s.views id u }

  gives : Kept b given
  gives = let k = gives_up b s.words (Stands s.views) (Installs s.views) v x drawn (h.facts.each id v at) in quiet_rule b s id v u h at k.0 refl refl k.1

  drew : Kept b record { words = ws; homes = s.homes; views = set s.views id w }
  drew = twice b ws s id u w (draws b given gives id u (left_there s id v u at) drawn some_left)

  lost : IsDecided w.attempt → ⊥
  lost d = true≢false (sym d.2.0)

  pub draws_above : Kept b record { words = ws; homes = s.homes; views = set s.views id (stopped v.attempt.held (with_draw v (b.base + n)) x) }
  draws_above = go v.attempt.held refl
    where
      go : (hs : List Held) → v.attempt.held ≡ hs → Kept b record { words = ws; homes = s.homes; views = set s.views id (stopped hs (with_draw v (b.base + n)) x) }
      go [] e = twice b ws s id w (rested w) (rests_kept b record { words = ws; homes = s.homes; views = set s.views id w } drew id w (left_there s id v w at) e lost)
      go (y ∷ hs) e = drew

pub gets_below : (b : Opening) (base limit slots id : ℕ) (me : Mine) → base ≡ b.base → me.0.attempt.drawn ≡ None → 0 < me.0.tries → Allows (Kept b) slots id me 0 (λ n. (n + 1) % 2 ^ 64) (DrawBelow base limit (step slots 0 1 0 none) me)
gets_below b base limit slots id me e drawn left s h _ at _ =
    let n = get_or s.words 0 0 in
    let v = me.0 in
    let w = with_draw v (b.base + n) in
    let two : 2 ≤ n = (let a = h.next in omega arith) in
    let few : n + 2 ≤ 2 ^ 40 = (let a = h.next in let c = h.whole in let f = h.few in let d = sum_put (λ u. u.tries) s.views id v w at in omega arith) in
    dite (ℕ_discrete (n - limit) 0)
    (λ below. (
      settled w,
      keeps,
      tt,
      subst (λ m. Kept b record { words = set s.words 0 m; homes = s.homes; views = set s.views id (settled w) }) (sym (small b s h id v at drawn left)) (settles b (set s.words 0 (n + 1)) s id v w at (draws b s h id v at drawn left)),
      (
        refl,
        (λ _. ap (λ k. settled (with_draw v (k + n))) (sym e)),
        (λ above. absurd (omega arith)),
        two,
        few,
        (λ x i. let l = (h.facts.ents x (id, v, at, i)).to in omega arith),
      ),
    ))
    (λ over. (
      stopped v.attempt.held w (above_at n),
      keeps,
      tt,
      subst (λ m. Kept b record { words = set s.words 0 m; homes = s.homes; views = set s.views id (stopped v.attempt.held w (above_at n)) }) (sym (small b s h id v at drawn left)) (draws_above b s h id v at drawn left (above_at n)),
      (
        refl,
        (λ below. absurd (omega arith)),
        (λ _. ap (λ k. stopped v.attempt.held (with_draw v (k + n)) (above_at n)) (sym e)),
        two,
        few,
        (λ x i. let l = (h.facts.ents x (id, v, at, i)).to in omega arith),
      ),
    ))
