-- Writes that are installed one after another.
use Rattle.std.proofs.Common.{◌≡◌, ◌≢◌, ℕ, zero, suc, ◌+◌, ◌<◌, ◌≤◌, List, [], ◌∷◌, ◌++◌, map, take, drop, length, refl, sym, ap, ◌∙◌, subst, arith}
use Rattle.std.proofs.lemmas.List.{take_more, length-map}
use Rattle.std.specs.Prelude.{Some, None}
use mathlib.Core.List.{map-append}
use mathlib.Core.Option.{some, some-ne-none}
use lib.ListN.{get_elem?}
use lib.Seq.{take_all}
use Rattle.rl_value.specs.Tables.{Table}
use Rattle.rl_txn.specs.Fits.{RowHas}
use Rattle.rl_txn.specs.declared.write.Write as txn
use Rattle.rl_store.specs.declared.view.Held.{Held}
use Rattle.rl_store.specs.declared.view.View.{View}
use Rattle.rl_store.specs.Entries.{RowOf, held_rec}
use Rattle.rl_store.specs.Layout.{FitsColumns}
use Rattle.rl_store.specs.Passes.{HasStored}
use Rattle.rl_store.specs.Views.{blank, closed_with, is_decided, settled, settled_as, without}
use Rattle.rl_store.proofs.Deciding.{of_decided}
use Rattle.rl_store.proofs.Marks.{drop_at}
use Rattle.rl_store.proofs.Views.{at_below, at_get}
use Rattle.rl_store.proofs.Without.{skip, stay}
use Rattle.rl_occ.specs.Committing.{IsToInstall, all_closed}
use Rattle.rl_occ.specs.Fits.{AreWrites, rec_of}
use Rattle.rl_occ.specs.Outcomes.{write_at}
use Rattle.rl_occ.proofs.Places.{same_place}

pub row_fits : (columns : ℕ) (row : RowOf) → RowHas columns row → FitsColumns columns row
row_fits columns None h = tt
row_fits columns (Some row) h = h

-- the records that are held but for one of another number
pub others_held : (r : ℕ) (hs : List Held) → ((j : ℕ) (h : Held) → get_elem? hs j ≡ some h → h.rec ≢ r) → without r hs ≡ hs
others_held r [] o = refl
others_held r (h ∷ hs) o = stay r h hs (o 0 h refl) ∙ ap (λ l. h ∷ l) (others_held r hs (λ j g e. o (suc j) g e))

pub drop_all : {A : Type 0} (n : ℕ) (xs : List A) → length xs ≤ n → drop n xs ≡ []
drop_all zero [] l = refl
drop_all zero (x ∷ xs) l = absurd (omega arith)
drop_all (suc n) [] l = refl
drop_all (suc n) (x ∷ xs) l = drop_all n xs (omega arith)

pub of_drop : {A : Type 0} (n : ℕ) (xs : List A) (k : ℕ) (x : A) → get_elem? (drop n xs) k ≡ some x → get_elem? xs (n + k) ≡ some x
of_drop zero xs k x e = subst (λ n. get_elem? xs n ≡ some x) (let z : k ≡ 0 + k = omega arith in z) e
of_drop (suc n) [] k x e = absurd (some-ne-none x (sym e))
of_drop (suc n) (y ∷ xs) k x e = subst (λ m. get_elem? (y ∷ xs) m ≡ some x) (let z : suc (n + k) ≡ suc n + k = omega arith in z) (of_drop n xs k x e)

-- the first writes are installed
abbrev pub first_closed : (tables : List Table) (v : View) (writes : List txn.Write) (k : ℕ) → View
first_closed tables v writes k = record v { attempt = record v.attempt { held = drop k v.attempt.held; closed = map (write_at tables) (take k writes) } }

module _ (tables : List Table) (v : View) (stamp : ℕ) (writes : List txn.Write) (ready : AreWrites tables writes) (h : IsToInstall tables v stamp writes) where
  pub none_closed : first_closed tables v writes 0 ≡ v
  none_closed = λ i. record v { attempt = record v.attempt { closed = sym h.none i } }

  -- the hold of a write
  pub hold_at : (k : ℕ) (w : txn.Write) → get_elem? writes k ≡ some w → (g : Held) × (get_elem? v.attempt.held k ≡ some g) × (g.rec ≡ rec_of tables w)
  hold_at k w at = same_place (rec_of tables) held_rec writes v.attempt.held (sym h.held) k w at

  pub drops : (k : ℕ) (w : txn.Write) (at : get_elem? writes k ≡ some w) → drop k v.attempt.held ≡ (hold_at k w at).0 ∷ drop (suc k) v.attempt.held
  drops k w at = drop_at v.attempt.held k (hold_at k w at).0 (hold_at k w at).1

  pub goes_on : (k : ℕ) (w : txn.Write) → get_elem? writes k ≡ some w → settled (first_closed tables v writes k) ≡ first_closed tables v writes k
  goes_on k w at = ap (λ hs. settled_as hs (is_decided v.attempt) v.attempt.drawn (first_closed tables v writes k)) (drops k w at)

  pub has_stored : (k : ℕ) (w : txn.Write) → get_elem? writes k ≡ some w → HasStored (first_closed tables v writes k) (rec_of tables w) []
  has_stored k w at = let g = hold_at k w at in (g.0, (0, ap (λ l. get_elem? l 0) (drops k w at)), g.2, h.bare g.0 (k, g.1))

  pub left : (k : ℕ) (w : txn.Write) → get_elem? writes k ≡ some w → without (rec_of tables w) (drop k v.attempt.held) ≡ drop (suc k) v.attempt.held
  left k w at =
      let g = hold_at k w at in
      ap (without (rec_of tables w)) (drops k w at) ∙ skip (rec_of tables w) g.0 (drop (suc k) v.attempt.held) g.2
      ∙ others_held (rec_of tables w) (drop (suc k) v.attempt.held) (λ j x e same.
      let y = same_place held_rec (rec_of tables) v.attempt.held writes h.held (suc k + j) x (of_drop (suc k) v.attempt.held j x e) in
      let z : suc k + j ≡ k = ready.apart (suc k + j) k y.0 w y.1 at (y.2 ∙ same) in omega arith)

  pub closes_one : (k : ℕ) (w : txn.Write) (at : get_elem? writes k ≡ some w) → 0 < length writes
      → closed_with (without (rec_of tables w) (drop k v.attempt.held)) (first_closed tables v writes k) stamp (rec_of tables w) w.row ≡ settled (first_closed tables v writes (suc k))
  closes_one k w at some_ = ap (λ hs. closed_with hs (first_closed tables v writes k) stamp (rec_of tables w) w.row) (left k w at) ∙ go (drop (suc k) v.attempt.held) refl
    where
      l : k < length writes
      l = at_below writes w k at

      closed : map (write_at tables) (take k writes) ++ record { rec = rec_of tables w; row = w.row } ∷ [] ≡ map (write_at tables) (take (suc k) writes)
      closed = sym (ap (λ n. map (write_at tables) (take n writes)) (let z : suc k ≡ k + 1 = omega arith in z)
          ∙ ap (map (write_at tables)) (take_more writes k w l ∙ ap (λ x. take k writes ++ x ∷ []) (at_get writes k w w at))
          ∙ map-append (write_at tables) (take k writes) (w ∷ []))

      go : (hs : List Held) → drop (suc k) v.attempt.held ≡ hs → closed_with hs (first_closed tables v writes k) stamp (rec_of tables w) w.row ≡ settled (first_closed tables v writes (suc k))
      go [] e =
          (λ i. record v { items = v.items ++ record { stamp = stamp; reads = v.attempt.reads; writes = closed i } ∷ []; attempt = blank })
          ∙ sym (λ i. settled_as (e i) (of_decided v.attempt (h.decided some_).0 (h.decided some_).2 i) (h.drawn some_ i) (first_closed tables v writes (suc k)))
      go (x ∷ hs) e =
          (λ i. record v { attempt = record v.attempt { held = left k w at i; closed = closed i } })
          ∙ sym (ap (λ l. settled_as l (is_decided v.attempt) v.attempt.drawn (first_closed tables v writes (suc k))) e)

  pub all_are : (k : ℕ) → length writes ≡ k → first_closed tables v writes k ≡ all_closed tables v writes
  all_are k e =
      let n : length v.attempt.held ≡ k = sym (length-map v.attempt.held held_rec) ∙ ap length h.held ∙ length-map writes (rec_of tables) ∙ e in
      λ i. record v { attempt = record v.attempt { held = drop_all k v.attempt.held (let z = n in omega arith) i; closed = map (write_at tables) (take_all k writes (let z = e in omega arith) i) } }
