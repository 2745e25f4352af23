-- What an attempt comes to, by the views of its pass before and after.
use Rattle.std.specs.Prelude.{◌≡◌, ◌≢◌, ℕ, ◌+◌, ◌%◌, ◌<◌, List, map, length, Some}
use Rattle.rl_base.specs.declared.refusal.Refusal.{Refusal}
use Rattle.rl_base.specs.declared.refusal.Refusal.TheVariants.{Locked, Changed}
use Rattle.rl_txn.specs.declared.write.Write as txn
use Rattle.rl_value.specs.Tables.{Table}
use Rattle.rl_store.specs.declared.view.Held.{Held}
use Rattle.rl_store.specs.declared.view.Refused.{Refused}
use Rattle.rl_store.specs.declared.view.View.{View}
use Rattle.rl_store.specs.declared.view.Write.{Write}
use Rattle.rl_store.specs.Entries.{In, IsDecided}
use Rattle.rl_store.specs.Opening.{Made}
use Rattle.rl_occ.specs.declared.sets.Lock.{Lock}
use Rattle.rl_occ.specs.declared.sets.Seen.{Seen}
use Rattle.rl_occ.specs.Fits.{rec_of}
use Rattle.rl_occ.specs.Locking.{AreApart, held_of, lock_rec}
use Rattle.rl_occ.specs.Reading.{IsSeen}

-- what the attempt holds are records of the store
abbrev pub HoldsOf : (made : Made) (v : View) → Type 0
HoldsOf made v = (h : Held) → In h v.attempt.held → h.rec < length made.columns

-- the attempt isn't decided, and holds these locks
pub record IsStopped (v : View) (locks : List Lock) : Type 0 where
  pub held : v.attempt.held ≡ map held_of locks
  pub apart : AreApart locks
  pub undecided : IsDecided v.attempt → ⊥

-- one refusal more, this one, and nothing else but the attempt and what it was charged
pub record HasRefused (v w : View) (why : Refused) : Type 0 where
  pub refusals : w.refusals ≡ v.refusals + 1
  pub last : w.last ≡ Some why
  pub items : w.items ≡ v.items
  pub splits : w.splits ≡ v.splits

-- a read is refused: its record was found locked by another, or with another word than the one that was seen
abbrev pub RefusesReads : (words : List Seen) (locks : List Lock) → Refusal → Type 0
RefusesReads words locks (Locked rec found) = ((word : ℕ) × IsSeen words rec word) × (found % 2 ≡ 1) × (In rec (map lock_rec locks) → ⊥)
RefusesReads words locks (Changed rec seen found) = IsSeen words rec seen × (found ≢ seen) × (found % 2 ≡ 0)

-- a write of a transaction, as the store keeps it
abbrev pub write_at : (tables : List Table) (w : txn.Write) → Write
write_at tables w = record { rec = rec_of tables w; row = w.row }
