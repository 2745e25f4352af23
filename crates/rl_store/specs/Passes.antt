-- What the calls see of a store and of a pass.
use Rattle.std.specs.Prelude.{◌≡◌, ◌≢◌, ℕ, ◌+◌, ◌*◌, ◌%◌, ◌^◌, ◌<◌, ◌≤◌, Bool, true, false, List, [], length, slice_index, Some}
use Rattle.atomic_table.specs.Seated.{TableId}
use Rattle.rl_base.specs.declared.refusal.Refusal.{Refusal}
use Rattle.rl_base.specs.declared.refusal.Refusal.TheVariants.{Locked, Changed}
use Rattle.rl_store.specs.declared.rule.Start.{Start}
use Rattle.rl_store.specs.declared.view.Read.{Read}
use Rattle.rl_store.specs.declared.view.Held.{Held}
use Rattle.rl_store.specs.declared.view.View.{View}
use Rattle.rl_store.specs.Entries.{In, Entry, entries}
use Rattle.rl_store.specs.Opening.{Made}
use Rattle.rl_store.specs.Steps.{Mine}

-- a store: its table, and what it was made of
pub record StoreOf : Type 0 where
  pub table : TableId
  pub made : Made

-- a pass: its table, and its view
pub record PassOf : Type 0 where
  pub table : TableId
  pub view : View

-- what a store keeps of its key and of the size of its table
pub record StoreFits (table : TableId) (key : Start) (kept : List ℕ) (dated : ℕ) : Type 0 where
  pub columns : key.columns.items ≡ kept
  pub epoch : key.epoch ≡ dated
  pub words : table.words ≡ 1 + 6 * length kept
  pub no_slots : table.slots ≡ 0
  pub records : length kept ≤ 65536
  pub early : dated < 2 ^ 20
  -- each record has one to four columns
  pub some : (r : ℕ) → r < length kept → 0 < slice_index kept r
  pub few : (r : ℕ) → slice_index kept r ≤ 4

-- what a pass keeps beside its view: the tries as a number
pub record PassFits (left : ℕ) (me : Mine) : Type 0 where
  pub no_slots : me.1 ≡ []
  pub tries : left ≡ me.0.tries

-- the refusal of a lock: the word of record r that was found is locked
abbrev pub IsLockedRefusal : (r : ℕ) → Refusal → Type 0
IsLockedRefusal r (Locked rec found) = (rec ≡ r) × (found % 2 ≡ 1)
IsLockedRefusal r (Changed rec seen found) = ⊥

-- the stamp is above those of the entries of the view
abbrev pub IsAbove : (v : View) (stamp : ℕ) → Type 0
IsAbove v stamp = (e : Entry) → In e (entries v) → e.stamp < stamp

-- the word for which record r refuses: a locked one, or one that isn't the one seen, of which neither is locked
abbrev pub Refuses : (r : ℕ) → Refusal → Type 0
Refuses r (Locked rec found) = (rec ≡ r) × (found % 2 ≡ 1)
Refuses r (Changed rec seen found) = (rec ≡ r) × (seen ≢ found) × (seen % 2 ≡ 0) × (found % 2 ≡ 0)

-- the attempt has read r under the stamp of this word
abbrev pub HasReadWord : (v : View) (r word : ℕ) → Type 0
HasReadWord v r word = (x : Read) × In x v.attempt.reads × (x.rec ≡ r) × (word ≡ 2 * x.stamp)

-- the attempt has drawn a stamp
abbrev pub HasDrawn : (v : View) → Type 0
HasDrawn v = (stamp : ℕ) × (v.attempt.drawn ≡ Some stamp)

-- the lock bit of a record that the attempt itself holds, or doesn't
abbrev pub held_bit : (held : Bool) → ℕ
held_bit true = 1
held_bit false = 0

-- the word for which the read of r, which saw this word, is refused: one that another has locked, or one of another
-- stamp
abbrev pub RefusesRead : (r word : ℕ) (held : Bool) → Refusal → Type 0
RefusesRead r word held (Locked rec found) = (rec ≡ r) × (found % 2 ≡ 1) × (held ≡ false)
RefusesRead r word held (Changed rec seen found) = (rec ≡ r) × (seen ≡ word) × (found ≢ word) × (found % 2 ≡ 0)

-- the attempt holds r, whose word was this
abbrev pub HoldsWord : (v : View) (r word : ℕ) → Type 0
HoldsWord v r word = (h : Held) × In h v.attempt.held × (h.rec ≡ r) × (h.old ≡ word)

-- the attempt holds r, and has stored these cells of it
abbrev pub HasStored : (v : View) (r : ℕ) (cells : List ℕ) → Type 0
HasStored v r cells = (h : Held) × In h v.attempt.held × (h.rec ≡ r) × (h.stored ≡ cells)
