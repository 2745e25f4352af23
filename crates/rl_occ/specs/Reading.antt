-- What an attempt has read.
use Rattle.std.specs.Prelude.{◌≡◌, ℕ, ◌*◌, ◌<◌, List, map, sum, false, IfSome}
use Rattle.std.specs.FinMap as finite
use mathlib.Core.Option.{some}
use lib.ListN.{get_elem?}
use Rattle.rl_base.specs.declared.refusal.Refusal.{Refusal}
use Rattle.rl_value.specs.Rows.{Rows}
use Rattle.rl_value.specs.Tables.{Table}
use Rattle.rl_tables.specs.Numbers.{sizes_of, place_of}
use Rattle.rl_txn.specs.Eval.{is_new}
use Rattle.rl_txn.specs.Run.{Overlay}
use Rattle.rl_store.specs.declared.view.Read.{Read}
use Rattle.rl_store.specs.declared.view.View.{View}
use Rattle.rl_store.specs.Entries.{In}
use Rattle.rl_store.specs.Passes.{Refuses}
use Rattle.rl_store.specs.Views.{blank}
use Rattle.rl_occ.specs.declared.sets.Seen.{Seen}

-- the rows have what was read
abbrev pub HasRowsRead : (tables : List Table) (reads : List Read) (rows : Rows) → Type 0
HasRowsRead tables reads rows = (x : Read) → In x reads → finite.get rows (place_of (sizes_of tables) x.rec) ≡ x.row

-- a read, by the word that was seen
abbrev pub seen_of : Read → Seen
seen_of x = record { rec = x.rec; word = 2 * x.stamp }

-- no record was read twice
abbrev pub AreOnce : (reads : List Read) → Type 0
AreOnce reads = (i j : ℕ) (x y : Read) → get_elem? reads i ≡ some x → get_elem? reads j ≡ some y → x.rec ≡ y.rec → i ≡ j

-- the attempt has done nothing but reads
abbrev pub OnlyReads : (v : View) → Type 0
OnlyReads v = v.attempt ≡ record blank { reads = v.attempt.reads }

-- an attempt that has done nothing but reads, whose rows are those that are known, and whose words are kept
pub record HasRead (tables : List Table) (v : View) (rows : Overlay) (words : List Seen) : Type 0 where
  pub only : OnlyReads v
  pub seen : map seen_of v.attempt.reads ≡ words
  pub known : (t k : ℕ) → IfSome (finite.get rows (t, k)) (λ row. (x : Read) × In x v.attempt.reads × (place_of (sizes_of tables) x.rec ≡ (t, k)) × (x.row ≡ row))
  pub from : (x : Read) → In x v.attempt.reads → (is_new rows (place_of (sizes_of tables) x.rec) ≡ false) × (x.rec < sum (sizes_of tables))
  pub once : AreOnce v.attempt.reads

-- nothing of the view changed but its attempt
abbrev pub SameButAttempt : (v w : View) → Type 0
SameButAttempt v w = w ≡ record v { attempt = w.attempt }

-- this word of the record is among those that were seen
abbrev pub IsSeen : (words : List Seen) (rec word : ℕ) → Type 0
IsSeen words rec word = In {X = Seen} (record { rec = rec; word = word }) words

-- a record of the tables was found locked, or with another word than the one seen
abbrev pub RefusesSome : (tables : List Table) → Refusal → Type 0
RefusesSome tables refusal = (r : ℕ) × (r < sum (sizes_of tables)) × Refuses r refusal
