-- Records, and the phases of an attempt: it reads, locks what it writes, draws a stamp, validates what it
-- read, and installs (after Silo's commit protocol).
use Rattle.std.specs.Prelude.{ℕ, List, [], ◌∷◌, Bool, false, not, ◌==◌, nat_lt, if◌then◌else◌, Option, Some, None}
use Rattle.rl_worker.specs.declared.reads.Read as reads
use Rattle.rl_worker.specs.declared.words.Record as words
pub use Rattle.rl_worker.specs.Items.{Answer, Install}
use Rattle.rl_worker.specs.Items.{CoreItem}

-- a read that counts: the record, the stamp that was seen, and its cells, which are presence and columns
abbrev pub Read : Type 0
Read = reads.Read

-- a record: its stamp, the worker that holds it, its cells
abbrev pub Rec : Type 0
Rec = words.Record

-- what a transaction does next, given the records that it has read
pub data Outcome : Type 0 where
  Wants : (rec : ℕ) → Outcome
  Ends : Answer → List Install → Outcome

-- what a worker is about, where q is its request and t the stamp that it drew. It stands in Asking, and in a
-- phase with nothing left to do, only within a step
pub data Phase : Type 0 where
  Rest : (q : ℕ) → Phase
  Asking : (q : ℕ) → List Read → Phase
  Wanting : (q : ℕ) → List Read → (r : ℕ) → Phase
  Loading : (q : ℕ) → List Read → (r seen : ℕ) → (loaded : List ℕ) → Phase
  Locking : (q : ℕ) → List Read → (answer : Answer) → (locked todo : List Install) → Phase
  Validating : (q t : ℕ) → (done todo : List Read) → (answer : Answer) → (writes : List Install) → Phase
  Storing : (item : CoreItem) → (stored : ℕ) → (todo : List Install) → Phase
  Refusing : (q : ℕ) → (todo : List Install) → Phase

-- what stays the same: which requests there are and what they do, the first stamp and the one past the last
pub record Setting : Type 0 where
  pub there : (worker index : ℕ) → Bool
  pub ask : (worker index : ℕ) → List Read → Outcome
  pub base : ℕ
  pub last : ℕ

-- one more read, by rising record number
abbrev pub with_read : Read → List Read → List Read
with_read x [] = x ∷ []
with_read x (y ∷ ys) = if nat_lt x.rec y.rec then x ∷ y ∷ ys else y ∷ with_read x ys

-- the phase after what the transaction asked for
abbrev pub asked : (q : ℕ) → List Read → Outcome → Phase
asked q reads (Wants r) = Wanting q reads r
asked q reads (Ends answer writes) = Locking q reads answer [] writes

-- a holder that is not this worker
abbrev pub other : (worker : ℕ) → (holder : Option ℕ) → Bool
other w None = false
other w (Some v) = not (v == w)
