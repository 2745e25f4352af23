use Rattle.std.proofs.Common.{IfOk, Result, Ok, Err, length, refl, subst, sym}
use Rattle.rl_value.specs.Rows.{Rows}
use Rattle.rl_report.specs.Lent.{threads_report}
use Rattle.rl_report.specs.Lines.{row_lines}
use Rattle.rl_check.specs.declared.verdict.Verdict.{Verdict}
use Rattle.rl_check.specs.Counts.{CountsItems}
use Rattle.rl_check.specs.Reruns.{HasRunAll, IsNodesVerdict, with_rows}
use Rattle.rl_check.specs.Verdicts.{IsVerdict}
use Rattle.rl_check.proofs.LiveLemmas.{nodes_verdict}
use Rattle.rl_check.proofs.check.judge_threads.Goals as goal

weaker : {E : Type 0} (P Q : Verdict → Type 0) → ((v : Verdict) → P v → Q v) → (r : Result Verdict E) → IfOk r P → IfOk r Q
weaker P Q h (Ok v) p = h v p
weaker P Q h (Err e) p = tt

pub returns : goal.returns
returns c = λ text read prints.
    let script = with_rows c.args.script.now c.args.rows in
    let report = threads_report c.args.items.now c.args.nodes.now in
    let all : HasRunAll script report.items c.in-Ok.rerun = rw c.in-Ok.is at c.in_ok-rerun.ensures in
    let counted = subst (CountsItems (length script.lists) all.items) (sym c.as_slice.ensures.value) all.ran.counts in
    let whole = c.if-not-are_whole.ensures.yes all.items all.ran.decided.in_lists counted in
    weaker (λ v. IsNodesVerdict script.nodes (row_lines script.schema c.in-Ok.rerun.rows) report v) (λ v. IsVerdict script text v)
    (λ v is. nodes_verdict script report refl c.requires.form text read prints all.items all.of_items all.ran.decided whole v (subst (λ (rows : Rows). IsNodesVerdict script.nodes (row_lines script.schema rows) report v) all.ran.rows is))
    c.judge_nodes.result c.judge_nodes.ensures
