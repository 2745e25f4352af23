-- What an attempt has locked.
use Rattle.std.specs.Prelude.{◌≡◌, ℕ, ◌<◌, List, [], map}
use mathlib.Core.Option.{some}
use lib.ListN.{get_elem?}
use Rattle.rl_base.specs.declared.refusal.Refusal.{Refusal}
use Rattle.rl_store.specs.declared.view.Held.{Held}
use Rattle.rl_store.specs.declared.view.View.{View}
use Rattle.rl_store.specs.Entries.{In}
use Rattle.rl_store.specs.Passes.{IsLockedRefusal}
use Rattle.rl_occ.specs.declared.sets.Lock.{Lock}

-- the record of a lock
abbrev pub lock_rec : Lock → ℕ
lock_rec l = l.rec

-- a lock, of whose record nothing is stored yet
abbrev pub held_of : Lock → Held
held_of l = record { rec = l.rec; old = l.old; stored = [] }

-- no record is locked twice
abbrev pub AreApart : (locks : List Lock) → Type 0
AreApart locks = (i j : ℕ) (x y : Lock) → get_elem? locks i ≡ some x → get_elem? locks j ≡ some y → x.rec ≡ y.rec → i ≡ j

-- all are records of a store of so many
abbrev pub AreBelow : (count : ℕ) (locks : List Lock) → Type 0
AreBelow count locks = (x : Lock) → In x locks → x.rec < count

-- the view, with these locks
abbrev pub with_locks : (v : View) (locks : List Lock) → View
with_locks v locks = record v { attempt = record v.attempt { held = map held_of locks } }

-- a record that the attempt has not locked itself was found locked
abbrev pub RefusesLock : (locks : List Lock) → Refusal → Type 0
RefusesLock locks refusal = (r : ℕ) × IsLockedRefusal r refusal × (In r (map lock_rec locks) → ⊥)
