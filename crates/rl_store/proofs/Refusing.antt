-- A validation, by the word that is found.
use Rattle.std.proofs.Common.{◌≡◌, ◌≢◌, ℕ, ◌+◌, ◌*◌, ◌/◌, ◌%◌, ◌<◌, true, false, get_or, set, refl, sym, ap, ◌∙◌, subst, arith}
use Rattle.std.specs.Prelude.{Bool, MatchBool, Some}
use mathlib.Core.Logic.{dite}
use mathlib.Core.Option.{some, none}
use native.Mathlib.Decide.{ℕ_discrete}
use lib.ListN.{get_elem?}
use lib.Seq.{set-get_or}
use Rattle.atomic_table.specs.Table.{step, keeps, Allows}
use Rattle.rl_base.specs.Words.{without_lock}
use Rattle.rl_store.specs.declared.view.Read.{Read}
use Rattle.rl_store.specs.declared.view.View.{View}
use Rattle.rl_store.specs.Entries.{In, of_attempt, Decided, Holds}
use Rattle.rl_store.specs.Layout.{Opening, place}
use Rattle.rl_store.specs.Passes.{held_bit}
use Rattle.rl_store.specs.Rule.{Shared}
use Rattle.rl_store.specs.Steps.{Mine, Validate}
use Rattle.rl_store.specs.Views.{locked_at, changed_at, stopped, with_valid, settled}
use Rattle.rl_store.proofs.Grouped.{Kept}
use Rattle.rl_store.proofs.Validates.{validates}
use Rattle.rl_store.proofs.Stopping.{stops_drawn}
use Rattle.rl_store.proofs.Locking.{stop_tries}
use Rattle.rl_store.proofs.Finishing.{settles, settled_tries}

-- the number is 1 where the view holds the record, and 0 where it doesn't
pub record Tells (held : ℕ) (v : View) (r : ℕ) : Type 0 where
  pub own : held ≡ 1 → Holds v r
  pub other : held ≢ 1 → held ≡ 0
  pub free : held ≡ 0 → Holds v r → ⊥

pub tells_of : (held : Bool) (n : ℕ) (v : View) (r : ℕ) → n ≡ held_bit held → MatchBool held (Holds v r) (Holds v r → ⊥) → Tells n v r
tells_of true n v r e holds = record { own = λ _. holds; other = λ ne. absurd (ne e); free = λ z k. absurd (omega arith) }
tells_of false n v r e bare = record { own = λ z. absurd (omega arith); other = λ _. e; free = λ _ k. bare k }

module _ (b : Opening) (slots id : ℕ) (me : Mine) (held t : ℕ) (x : Read) (drawn : me.0.attempt.drawn ≡ Some t) (read : In x me.0.attempt.reads) (new : In x.rec me.0.attempt.validated → ⊥) (tells : Tells held me.0 x.rec) where
  unsure : Decided (of_attempt me.0.attempt t) → ⊥
  unsure d = new (d.1 x read)

  module _ (s : Shared) (h : Kept b s) (at : get_elem? s.views id ≡ some me.0) where
    abbrev found : ℕ
    found = get_or s.words (place x.rec) 0

    -- any other read at this place is it
    one : (y : Read) → In y me.0.attempt.reads → place x.rec ≡ place y.rec → x ≡ y
    one y i e = (h.facts.each id me.0 at).alone x y read i (let p : 1 + 6 * x.rec ≡ 1 + 6 * y.rec = e in omega arith)

    inside : x.rec < b.records
    inside = ((h.facts.each id me.0 at).counted x read).2

    -- nobody else holds it, where the word is the one that was read
    mine : found ≡ 2 * x.stamp + held → (j : ℕ) (u : View) → get_elem? s.views j ≡ some u → Holds u x.rec → j ≡ id
    mine same j u e k = dite (ℕ_discrete held 1)
        (λ is. dite (ℕ_discrete j id) (λ z. z) (λ ne. absurd ((h.facts.apart j id u me.0 ne e at).records x.rec k (tells.own is))))
        (λ ne. absurd (let zero_ = tells.other ne in let odd = (h.facts.recs x.rec inside).locks (j, u, e, k) in omega arith))

    odd_where_held : held ≡ 1 → found % 2 ≡ 1
    odd_where_held is = (h.facts.recs x.rec inside).locks (id, me.0, at, tells.own is)

    unchanged : (w : View) → Kept b record { words = s.words; homes = s.homes; views = set s.views id w } → Kept b record { words = set s.words (place x.rec) found; homes = s.homes; views = set s.views id w }
    unchanged w = subst (λ ws. Kept b record { words = ws; homes = s.homes; views = set s.views id w }) (sym (set-get_or s.words (place x.rec) 0))

  pub checks : Allows (Kept b) slots id me (place x.rec) (λ n. n) (Validate held (step slots (place x.rec) 0 0 none) me)
  checks s h _ at _ =
      let v = me.0 in
      let n = get_or s.words (place x.rec) 0 in
      let is_read : (y : Read) → In y v.attempt.reads → place x.rec ≡ place y.rec → x ≡ y = one s h at in
      dite (ℕ_discrete n (2 * x.stamp + held))
      (λ same. (
        settled (with_valid v x.rec),
        keeps,
        tt,
        unchanged s h at _ (settles b s.words s id v (with_valid v x.rec) at (validates b s h id v at t drawn x read (let a = tells.other in let z = bit same in z) (mine s h at same))),
        λ y i e. let z = is_read y i e in (
          refl,
          (λ _. ap (λ (u : Read). settled (with_valid v u.rec)) z),
          (λ ne. absurd (ne (same ∙ ap (λ (u : Read). 2 * u.stamp + held) z))),
          (λ ne. absurd (ne (same ∙ ap (λ (u : Read). 2 * u.stamp + held) z))),
          odd_where_held s h at,
        ),
      ))
      (λ differ. dite (ℕ_discrete (n % 2) held)
      (λ bits. (
        stopped v.attempt.held v (changed_at x.rec (2 * x.stamp) (without_lock n)),
        keeps,
        tt,
        unchanged s h at _ (stops_drawn b s h id v at t drawn unsure (changed_at x.rec (2 * x.stamp) (without_lock n))),
        λ y i e. let z = is_read y i e in (
          refl,
          (λ same. absurd (differ (same ∙ sym (ap (λ (u : Read). 2 * u.stamp + held) z)))),
          (λ _ zero_ odd. absurd (omega arith)),
          (λ _ _. ap (λ (u : Read). stopped v.attempt.held v (changed_at u.rec (2 * u.stamp) (without_lock n))) z),
          odd_where_held s h at,
        ),
      ))
      (λ bits. (
        stopped v.attempt.held v (locked_at x.rec n),
        keeps,
        tt,
        unchanged s h at _ (stops_drawn b s h id v at t drawn unsure (locked_at x.rec n)),
        λ y i e. let z = is_read y i e in (
          refl,
          (λ same. absurd (differ (same ∙ sym (ap (λ (u : Read). 2 * u.stamp + held) z)))),
          (λ _ _ _. ap (λ (u : Read). stopped v.attempt.held v (locked_at u.rec n)) z),
          (λ _ same. absurd (bits same)),
          odd_where_held s h at,
        ),
      )))
    where
      bit : {n : ℕ} → n ≡ 2 * x.stamp + held → n / 2 ≡ x.stamp
      bit {n} e = dite (ℕ_discrete held 1) (λ is. omega arith) (λ ne. let z = tells.other ne in omega arith)

-- a validation leaves the tries as they are
pub check_tries : (held n : ℕ) (x : Read) (v w : View) (is : Bool) → held ≡ held_bit is
    → (n ≡ 2 * x.stamp + held → w ≡ settled (with_valid v x.rec))
    → (n ≢ 2 * x.stamp + held → held ≡ 0 → n % 2 ≡ 1 → w ≡ stopped v.attempt.held v (locked_at x.rec n))
    → (n ≢ 2 * x.stamp + held → n % 2 ≡ held → w ≡ stopped v.attempt.held v (changed_at x.rec (2 * x.stamp) (without_lock n)))
    → (held ≡ 1 → n % 2 ≡ 1)
    → w.tries ≡ v.tries
check_tries held n x v w is e valid locked changed own = dite (ℕ_discrete n (2 * x.stamp + held))
    (λ same. ap (λ (u : View). u.tries) (valid same) ∙ settled_tries (with_valid v x.rec))
    (λ differ. dite (ℕ_discrete (n % 2) held)
    (λ bits. ap (λ (u : View). u.tries) (changed differ bits) ∙ stop_tries v (changed_at x.rec (2 * x.stamp) (without_lock n)))
    (λ bits. let zero_ = none is e bits in ap (λ (u : View). u.tries) (locked differ zero_ (omega arith)) ∙ stop_tries v (locked_at x.rec n)))
  where
    none : (is : Bool) → held ≡ held_bit is → n % 2 ≢ held → held ≡ 0
    none true e bits = absurd (bits (own e ∙ sym e))
    none false e bits = e
