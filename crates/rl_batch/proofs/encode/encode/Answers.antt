use Rattle.std.proofs.Common.{sym, subst, All}
use Rattle.rl_txn.specs.declared.batch.Batch.{Batch}
use Rattle.rl_batch.specs.Ranges.{ItemHasWords, HasWords}
use Rattle.rl_batch.proofs.encode.encode.Goals as goal
use Rattle.rl_batch.proofs.encode.encode.Goals.{in-Items+in_ok-push_u8-in-Items+in_ok-push_items-in-Items, in-Idle+in_ok-push_u8-in-Idle+in_ok-push_mark-in-Idle, in-Opened+in_ok-push_u8-in-Opened+in_ok-push_mark-in-Opened}

pub returns-clause-words : goal.returns-clause-words
returns-clause-words c = elim c.match-b.branch [
  | in-Items+in_ok-push_u8-in-Items+in_ok-push_items-in-Items w ↦ subst (λ (b : Batch). HasWords b) (sym w.in-Items.is) (subst (All ItemHasWords) w.as_slice.ensures w.in_ok-push_items-in-Items.ensures.words)
  | in-Idle+in_ok-push_u8-in-Idle+in_ok-push_mark-in-Idle w ↦ subst (λ (b : Batch). HasWords b) (sym w.in-Idle.is) tt
  | in-Opened+in_ok-push_u8-in-Opened+in_ok-push_mark-in-Opened w ↦ subst (λ (b : Batch). HasWords b) (sym w.in-Opened.is) tt
]
