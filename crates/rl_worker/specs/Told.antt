-- What the code tells of records, of acts and of refusals: words in the place of stamps and holders.
use Rattle.std.specs.Prelude.{ℕ, ◌+◌, ◌*◌, ◌<◌, List, [], ◌∷◌, length, sum, get_or, nat_lt, is_some, if◌then◌else◌, Option, IfSome}
use Rattle.rl_base.specs.declared.refusal.Refusal.{Refusal}
use Rattle.rl_base.specs.declared.refusal.Refusal.TheVariants as refusals
use Rattle.rl_value.specs.Tables.{Table}
use Rattle.rl_tables.specs.Numbers.{sizes_of}
use Rattle.rl_worker.specs.declared.act.Act.{Act}
use Rattle.rl_worker.specs.declared.act.Act.TheVariants as act
use Rattle.rl_worker.specs.Phases.{Rec, Phase, Wanting, Loading, Locking, Validating, Storing, Refusing}
use Rattle.rl_worker.specs.Acts.{Cause, Locked, Changed, CoreRefusal, no_rec}

-- the record of a number, among some
abbrev pub found : List Rec → (r : ℕ) → Rec
found recs r = get_or recs r no_rec

-- 1 where a worker holds the record
abbrev pub lock_bit : Rec → ℕ
lock_bit x = if is_some x.holder then 1 else 0

-- a record's word: twice the stamp, and the lock bit where a worker holds it
abbrev pub word : Rec → ℕ
word x = 2 * x.stamp + lock_bit x

-- a refusal at a record tells the words that were found
abbrev pub refusal_at : (r : ℕ) → Cause → Refusal
refusal_at r (Locked holder stamp) = refusals.Locked r (2 * stamp + 1)
refusal_at r (Changed holder seen stamp) = refusals.Changed r (2 * seen) (2 * stamp)

-- a refusal of the core as it is told
abbrev pub refused : CoreRefusal → Refusal
refused f = refusal_at f.rec f.cause

-- the record of a refusal
abbrev pub record_in : Refusal → ℕ
record_in (refusals.Locked r word) = r
record_in (refusals.Changed r seen found) = r

-- a refusal, where there is one, names a record that is there
abbrev pub NamesRecord : List Table → Option Refusal → Type 0
NamesRecord tables f = IfSome f (λ r. record_in r < sum (sizes_of tables))

-- what an act tells of itself, where it finds a record and n is the next seq
abbrev pub act_of : (n : ℕ) → Phase → Rec → Act
act_of n (Wanting q reads r) x = act.FirstLoad r (word x)
act_of n (Loading q reads r seen loaded) x =
    if nat_lt (length loaded) (length x.cells) then act.ColumnLoad r (length loaded) (get_or x.cells (length loaded) 0)
    else act.Confirm r (word x)
act_of n (Locking q reads answer locked []) x = act.Draw n
act_of n (Locking q reads answer locked (y ∷ todo)) x = act.Lock y.rec (word x)
act_of n (Validating q t done (y ∷ todo) answer writes) x = act.Validate y.rec (word x)
act_of n (Storing item j (y ∷ todo)) x =
    if nat_lt j (length y.row) then act.ColumnStore y.rec j (get_or y.row j 0) else act.Close y.rec (2 * item.stamp)
act_of n (Refusing q (y ∷ todo)) x = act.Close y.rec (2 * x.stamp)
act_of n p x = act.Rest
