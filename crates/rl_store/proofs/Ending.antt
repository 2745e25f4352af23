-- A whole pass at rest leaves no draw to any other view, so what stands are its items.
use Rattle.std.proofs.Common.{◌≡◌, ◌≢◌, ℕ, zero, suc, ◌+◌, ◌/◌, ◌<◌, ◌≤◌, List, [], ◌∷◌, ◌++◌, map, length, get_or, set, refl, sym, ap, ◌∙◌, subst, arith}
use Rattle.std.specs.Prelude.{sum_by}
use mathlib.Core.Logic.{dite}
use mathlib.Core.Option.{some, some-ne-none, some-injective}
use native.Mathlib.Decide.{ℕ_discrete}
use lib.ListN.{get_elem?}
use Rattle.atomic_table.proofs.Lists.{at_map, set_else}
use Rattle.rl_store.specs.declared.view.Item.{Item}
use Rattle.rl_store.specs.declared.view.View.{View}
use Rattle.rl_store.specs.Entries.{In, Entry, RowOf, entries, drawn_entry, of_item, of_attempt, read_rec, Decided, Stands, Holds, Installs}
use Rattle.rl_store.specs.Layout.{Opening, place, Closes, Shows, Version}
use Rattle.rl_store.specs.Rule.{Shared}
use Rattle.rl_store.proofs.Grouped.{Kept}
use Rattle.rl_store.specs.Views.{blank, spent}
use Rattle.rl_store.proofs.Views.{sum_put}
use Rattle.rl_store.proofs.Loads.{nowhere}
use Rattle.rl_store.proofs.Seating.{append_none, at_behind}
use Rattle.rl_store.proofs.Quiet.{version_moves}

pub from_map : {A B : Type 0} (f : A → B) (xs : List A) (k : ℕ) (y : B) → get_elem? (map f xs) k ≡ some y → (x : A) × (f x ≡ y)
from_map f [] k y e = absurd (some-ne-none y (sym e))
from_map f (x ∷ xs) zero y e = (x, some-injective _ _ e)
from_map f (x ∷ xs) (suc k) y e = from_map f xs k y e

pub item_decided : (i : Item) → Decided (of_item i)
item_decided i = (refl, λ x p. (p.0, at_map read_rec i.reads p.0 x p.1))

rest_entries : (u : View) → u.attempt ≡ blank → entries u ≡ map of_item u.items
rest_entries u e = ap (λ a. map of_item u.items ++ drawn_entry a a.drawn) e ∙ append_none (map of_item u.items)

pub rest_decided : (v : View) (e : Entry) → v.attempt ≡ blank → In e (entries v) → Decided e
rest_decided v e rest i = let x = from_map of_item v.items i.0 e (subst (λ l. get_elem? l i.0 ≡ some e) (rest_entries v rest) i.1) in subst Decided x.1 (item_decided x.0)

sum_one : (f : View → ℕ) (views : List View) (j : ℕ) (u : View) → f spent ≡ 0 → get_elem? views j ≡ some u → f u ≤ sum_by f views
sum_one f views j u z at = let p = sum_put f views j u spent at in omega arith

sum_two : (f : View → ℕ) (views : List View) (id j : ℕ) (v u : View) → f spent ≡ 0 → j ≢ id → get_elem? views id ≡ some v → get_elem? views j ≡ some u → f v + f u ≤ sum_by f views
sum_two f views id j v u z apart at there =
    let p = sum_put f views id v spent at in
    let q = sum_one f (set views id spent) j u z (set_else views id j spent apart ∙ there) in
    omega arith

-- the record has the stamp and the row of the newest of the entries that closed it, or the opening ones
pub record Last (b : Opening) (E : Entry → Type 0) (ws : List ℕ) (r : ℕ) : Type 0 where
  pub row : RowOf
  pub shown : Shows b ws r row
  pub version : Version b E r (get_or ws (place r) 0 / 2) row
  pub newest : (e : Entry) (row : RowOf) → E e → Closes e r row → e.stamp ≤ get_or ws (place r) 0 / 2

module _ (b : Opening) (s : Shared) (h : Kept b s) (id : ℕ) (v : View) (at : get_elem? s.views id ≡ some v) (all : v.draws + v.tries ≡ b.total) (rest : v.attempt ≡ blank) where
  idle : (j : ℕ) (u : View) → j ≢ id → get_elem? s.views j ≡ some u → u.draws ≡ 0
  idle j u apart there =
      let d = sum_two (λ (x : View). x.draws) s.views id j v u refl apart at there in
      let t = sum_one (λ (x : View). x.tries) s.views id v refl at in
      let w = h.whole in
      omega arith

  empty : (j : ℕ) (u : View) (e : Entry) → j ≢ id → get_elem? s.views j ≡ some u → In e (entries u) → ⊥
  empty j u e apart there i =
      let f = h.facts.each j u there in
      let d = idle j u apart there in
      let l : length (entries u) ≤ 0 = (let w = f.drew in omega arith) in
      none (entries u) l i
    where
      none : (l : List Entry) → length l ≤ 0 → In e l → ⊥
      none [] z i = some-ne-none e (sym i.1)
      none (x ∷ xs) z i = absurd (omega arith)

  pub mine : (e : Entry) → Stands s.views e → In e (entries v)
  mine e x = dite (ℕ_discrete x.0 id)
      (λ same. subst (λ u. In e (entries u)) (some-injective x.1 v (sym x.2 ∙ (ap (get_elem? s.views) same ∙ at))) x.3)
      (λ apart. absurd (empty x.0 x.1 e apart x.2 x.3))

  nobody : (r : ℕ) → Installs s.views r → ⊥
  nobody r x = dite (ℕ_discrete x.0 id)
      (λ same. let k = subst (λ u. Holds u r) (some-injective x.1 v (sym x.2 ∙ (ap (get_elem? s.views) same ∙ at))) x.3 in nowhere k.0 v.attempt.held (ap (λ a. a.held) rest) k.1)
      (λ apart. empty x.0 x.1 (of_attempt x.1.attempt x.4.0) apart x.2
      (length (map of_item x.1.items) + 0, subst (λ d. get_elem? (map of_item x.1.items ++ drawn_entry x.1.attempt d) (length (map of_item x.1.items) + 0) ≡ some (of_attempt x.1.attempt x.4.0)) (sym x.4.1) (at_behind (map of_item x.1.items) (of_attempt x.1.attempt x.4.0 ∷ []) 0 (of_attempt x.1.attempt x.4.0) refl)))

  pub ends : (r : ℕ) → r < b.records → Last b (λ e. In e (entries v)) s.words r
  ends r l =
      let c = h.facts.recs r l in
      record {
        row = c.row;
        shown = c.shown (nobody r);
        version = version_moves b (Stands s.views) (λ e. In e (entries v)) (λ e x d. mine e x) r (get_or s.words (place r) 0 / 2) c.row c.version;
        newest = λ e cells i. c.newest e cells (id, v, at, i) (rest_decided v e rest i);
      }
