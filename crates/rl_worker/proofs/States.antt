-- The acts over functions by number, beside a log of all stamps that were drawn.
use Rattle.std.proofs.Common.{ℕ, suc, List, Bool, true, false}
use Rattle.rl_base.specs.Lists.{updated}
pub use Rattle.rl_worker.specs.Phases.{Answer, Read, Install, Rec, Outcome, Wants, Ends, Phase, Rest, Asking, Wanting, Loading, Locking, Validating, Storing, Refusing, Setting, with_read, asked, other}
pub use Rattle.rl_worker.proofs.OwnLaw.{has, row_at}

-- what became of a stamp that was drawn
pub data Status : Type 0 where
  Void : Status
  Drawn : Status
  Decided : Status

-- what the attempt was that drew a stamp
pub record Entry : Type 0 where
  pub worker : ℕ
  pub index : ℕ
  pub reads : List Read
  pub answer : Answer
  pub writes : List Install
  pub status : Status

pub record State : Type 0 where
  pub recs : ℕ → Rec
  pub workers : ℕ → Phase
  pub log : ℕ → Entry
  pub next : ℕ

abbrev pub live : Status → Bool
live Void = false
live Drawn = true
live Decided = true

abbrev pub decided : Status → Bool
decided Void = false
decided Drawn = false
decided Decided = true

-- ---- the acts ----
abbrev pub goes : State → ℕ → Phase → State
goes σ w p = record { recs = σ.recs; workers = updated σ.workers w p; log = σ.log; next = σ.next }

abbrev pub sets : State → ℕ → Rec → ℕ → Phase → State
sets σ r x w p = record { recs = updated σ.recs r x; workers = updated σ.workers w p; log = σ.log; next = σ.next }

abbrev pub draws : State → Entry → ℕ → Phase → State
draws σ e w p = record { recs = σ.recs; workers = updated σ.workers w p; log = updated σ.log σ.next e; next = suc σ.next }

abbrev pub ends : State → ℕ → Status → ℕ → Phase → State
ends σ t s w p = record { recs = σ.recs; workers = updated σ.workers w p; log = updated σ.log t (record (σ.log t) { status = s }); next = σ.next }
