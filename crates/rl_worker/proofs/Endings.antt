-- A transaction that has ended is to be committed.
use Rattle.std.proofs.Common.{◌≡◌, ℕ, List, [], ◌∷◌, map, Option, Some, None, sym, ap, ◌∙◌, subst, arith, All}
use Rattle.rl_value.specs.Tables.{Table, columns_of}
use Rattle.rl_txn.specs.Fits.{TxnFits, WriteFits, RowHas}
use Rattle.rl_txn.specs.Run.{run}
use Rattle.rl_txn.specs.Eval.{rows_of, wants}
use Rattle.rl_txn.specs.declared.op.Op.{Op}
use Rattle.rl_txn.specs.declared.write.End.{End}
use Rattle.rl_txn.specs.declared.write.Write.{Write}
use Rattle.rl_txn.specs.declared.eval.Wants.TheVariants.{Ended as WantsEnded}
use Rattle.rl_worker.specs.declared.commit.Commit.{Commit}
use Rattle.rl_worker.specs.declared.commit.Part.TheVariants as part
use Rattle.rl_worker.specs.Phases.{Answer, Read, Locking, asked}
use Rattle.rl_worker.specs.Opening.{overlay_of, install_of, outcome_of, outcome}
use Rattle.rl_worker.specs.Workers.{part_phase, commit_phase}
use Rattle.rl_worker.proofs.Writes as writes
use Rattle.rl_worker.proofs.Readings.{all_more}

-- it stands before the first lock
pub ended_phase : (tables : List Table) (txn : List Op) (q : ℕ) (reads : List Read) (c : Commit) (end : End) → WantsEnded end ≡ wants tables txn (overlay_of tables reads) → c.part ≡ part.Locking 0
    → c.item.index ≡ q → c.reads.0 ≡ reads → ◌≡◌ {A = Answer} (c.item.reply, c.item.writes) (run tables txn (rows_of (overlay_of tables reads))) → commit_phase tables c ≡ asked q reads (outcome tables txn reads)
ended_phase tables txn q reads c end e p i r is =
    ap (part_phase tables c) p
    ∙ ap (λ n. Locking n c.reads.0 (c.item.reply, c.item.writes) [] (map (install_of tables) c.item.writes)) i
    ∙ ap (λ xs. Locking q xs (c.item.reply, c.item.writes) [] (map (install_of tables) c.item.writes)) r
    ∙ ap (λ (a : Answer). Locking q reads a [] (map (install_of tables) a.1)) is
    ∙ ap (λ v. asked q reads (outcome_of tables txn reads v)) e

row_has : (tables : List Table) (n : ℕ) (row : Option (List ℕ)) → writes.RowFits tables n row → RowHas n row
row_has tables n None h = tt
row_has tables n (Some row) h = h

all_fit : (tables : List Table) (ws : List Write) → writes.WritesFit tables ws → All (WriteFits tables) ws
all_fit tables [] h = λ i d l. absurd (omega arith)
all_fit tables (w ∷ ws) h = all_more (WriteFits tables) w ws (h.0.0, h.0.1, row_has tables (columns_of tables w.table) w.row h.0.2) (all_fit tables ws h.1)

-- and its writes fit the tables
pub writes_fit : (tables : List Table) (txn : List Op) (reads : List Read) (c : Commit) → TxnFits tables txn
    → ◌≡◌ {A = Answer} (c.item.reply, c.item.writes) (run tables txn (rows_of (overlay_of tables reads))) → All (WriteFits tables) c.item.writes
writes_fit tables txn reads c fits is =
    subst (λ ws. All (WriteFits tables) ws) (sym (ap (λ (a : Answer). a.1) is)) (all_fit tables (run tables txn (rows_of (overlay_of tables reads))).1 (writes.run_fits tables txn (rows_of (overlay_of tables reads)) fits))
