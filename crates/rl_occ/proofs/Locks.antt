-- The locks of the writes of a transaction.
use Rattle.std.proofs.Common.{◌≡◌, ℕ, ◌+◌, ◌<◌, List, [], ◌∷◌, ◌++◌, map, take, length, slice_index, sum, sym, ap, ◌∙◌, subst, arith}
use Rattle.std.proofs.lemmas.List.{take_more, length-map}
use Rattle.std.specs.Prelude.{Bool, true, false, MatchBool}
use mathlib.Core.List.{map-append}
use mathlib.Core.Option.{some}
use lib.ListN.{get_elem?}
use Rattle.rl_value.specs.Tables.{Table, size_of}
use Rattle.rl_tables.specs.Numbers.{sizes_of, record_of}
use Rattle.rl_tables.proofs.Sizes.{size_at, sum_before}
use Rattle.rl_txn.specs.Fits.{WriteFits}
use Rattle.rl_txn.specs.declared.write.Write.{Write}
use Rattle.rl_store.specs.declared.view.Held.{Held}
use Rattle.rl_store.specs.declared.view.View.{View}
use Rattle.rl_store.specs.Entries.{In, Holds}
use Rattle.rl_store.specs.Opening.{Made}
use Rattle.rl_store.specs.Views.{with_lock}
use Rattle.rl_store.proofs.Marks.{at_map, in_map}
use Rattle.rl_occ.specs.declared.sets.Lock.{Lock}
use Rattle.rl_occ.specs.Fits.{AreWrites, IsStoreOf, rec_of}
use Rattle.rl_occ.specs.Locking.{AreApart, AreBelow, held_of, lock_rec, with_locks}
use Rattle.rl_occ.specs.Reading.{OnlyReads}
use Rattle.rl_store.proofs.Views.{at_below, at_get}
use Rattle.rl_occ.proofs.Places.{of_map, of_take, same_place}
use Rattle.rl_occ.proofs.Validations.{short}

pub number_below : (tables : List Table) (t k : ℕ) → t < length tables → k < size_of tables t → record_of (sizes_of tables) t k < sum (sizes_of tables)
number_below tables t k l m = let a = sum_before (sizes_of tables) t (subst (λ n. t < n) (sym (length-map tables (λ (t : Table). t.size))) l) in let e = size_at tables t in omega arith

module _ (tables : List Table) (writes : List Write) (h : AreWrites tables writes) (n : ℕ) (locks : List Lock) (are : map lock_rec locks ≡ map (rec_of tables) (take n writes)) where
  -- the write of a lock
  pub write_of_lock : (k : ℕ) (x : Lock) → get_elem? locks k ≡ some x → (w : Write) × (get_elem? writes k ≡ some w) × (rec_of tables w ≡ x.rec)
  write_of_lock k x at = let y = same_place lock_rec (rec_of tables) locks (take n writes) are k x at in (y.0, of_take n writes k y.0 y.1, y.2)

  pub locks_apart : AreApart locks
  locks_apart i j x y p q e = let a = write_of_lock i x p in let c = write_of_lock j y q in h.apart i j a.0 c.0 a.1 c.1 (a.2 ∙ e ∙ sym c.2)

  pub locks_below : (made : Made) → IsStoreOf made tables → AreBelow (length made.columns) locks
  locks_below made of x i = let a = write_of_lock i.0 x i.1 in let f = h.fit a.0 (i.0, a.1) in let l = number_below tables a.0.table a.0.key f.0 f.1 in let r = of.records in let e = a.2 in omega arith

  -- the record of the next write is not locked yet
  pub next_is_free : (w : Write) → get_elem? writes n ≡ some w → In (rec_of tables w) (map lock_rec locks) → ⊥
  next_is_free w at i =
      let x = of_map (rec_of tables) (take n writes) i.0 (rec_of tables w) (subst (λ l. get_elem? l i.0 ≡ some (rec_of tables w)) are i.1) in
      let same : i.0 ≡ n = h.apart i.0 n x.0 w (of_take n writes i.0 x.0 x.1) at x.2 in
      let l = at_below (take n writes) x.0 i.0 x.1 in
      let m = short n writes in absurd (omega arith)

-- the records of the writes, with one more
pub one_more_rec : (tables : List Table) (writes : List Write) (locks : List Lock) (n rec old : ℕ) (w : Write) → get_elem? writes n ≡ some w → rec ≡ rec_of tables w → map lock_rec locks ≡ map (rec_of tables) (take n writes)
    → map lock_rec (locks ++ record { rec = rec; old = old } ∷ []) ≡ map (rec_of tables) (take (n + 1) writes)
one_more_rec tables writes locks n rec old w at e are =
    map-append lock_rec locks (record { rec = rec; old = old } ∷ [])
    ∙ (λ i. are i ++ e i ∷ [])
    ∙ sym (ap (map (rec_of tables)) (take_more writes n w (at_below writes w n at) ∙ ap (λ x. take n writes ++ x ∷ []) (at_get writes n w w at)) ∙ map-append (rec_of tables) (take n writes) (w ∷ []))

-- no lock yet
pub no_locks : (v : View) → OnlyReads v → with_locks v [] ≡ v
no_locks v only = λ i. record v { attempt = record v.attempt { held = sym (ap (λ a. a.held) only) i } }

-- one lock more
pub one_more : (v : View) (locks : List Lock) (rec old : ℕ) → with_lock (with_locks v locks) rec old ≡ with_locks v (locks ++ record { rec = rec; old = old } ∷ [])
one_more v locks rec old = λ i. record v { attempt = record v.attempt { held = sym (map-append held_of locks (record { rec = rec; old = old } ∷ [])) i } }

pub holds_lock : (v : View) (locks : List Lock) (r : ℕ) → v.attempt.held ≡ map held_of locks → In r (map lock_rec locks) → Holds v r
holds_lock v locks r e i = let x = in_map lock_rec locks i.0 r i.1 in (held_of x.0, (x.1.0, subst (λ l. get_elem? l x.1.0 ≡ some (held_of x.0)) (sym e) (at_map held_of locks x.1.0 x.0 x.1.1)), x.2)

pub lock_of_hold : (v : View) (locks : List Lock) (r : ℕ) → v.attempt.held ≡ map held_of locks → Holds v r → In r (map lock_rec locks)
lock_of_hold v locks r e h =
    let x = in_map held_of locks h.1.0 h.0 (subst (λ l. get_elem? l h.1.0 ≡ some h.0) e h.1.1) in
    (x.1.0, subst (λ n. get_elem? (map lock_rec locks) x.1.0 ≡ some n) (ap (λ (g : Held). g.rec) x.2 ∙ h.2) (at_map lock_rec locks x.1.0 x.0 x.1.1))

pub match_holds : (b : Bool) (v : View) (locks : List Lock) (r : ℕ) → v.attempt.held ≡ map held_of locks → MatchBool b (In r (map lock_rec locks)) (In r (map lock_rec locks) → ⊥) → MatchBool b (Holds v r) (Holds v r → ⊥)
match_holds true v locks r e m = holds_lock v locks r e m
match_holds false v locks r e m = λ h. m (lock_of_hold v locks r e h)

-- a write names a record of the layout
pub write_table : (tables : List Table) (layout : List ℕ) (w : Write) → layout ≡ sizes_of tables → WriteFits tables w → w.table < length layout
write_table tables layout w e f = subst (λ (l : List ℕ). w.table < length l) (sym e) (subst (λ n. w.table < n) (sym (length-map tables (λ (t : Table). t.size))) f.0)

pub write_key : (tables : List Table) (layout : List ℕ) (w : Write) → layout ≡ sizes_of tables → WriteFits tables w → w.key < slice_index layout w.table
write_key tables layout w e f = subst (λ (l : List ℕ). w.key < slice_index l w.table) (sym e) (subst (λ n. w.key < n) (sym (size_at tables w.table)) f.1)
