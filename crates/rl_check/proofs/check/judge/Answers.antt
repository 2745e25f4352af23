use Rattle.std.proofs.Common.{length, ap, arith}
use Rattle.rl_report.specs.Lent.{threads_report}
use Rattle.rl_check.proofs.LineCounts.{last_line_le}
use Rattle.rl_check.proofs.check.judge.Goals as goal

pub judge_threads-requires-clause-lines : goal.judge_threads-requires-clause-lines
judge_threads-requires-clause-lines c =
    let prints = rw c.in-Ok-Threads.field-0-is at c.in-Ok-Threads.ensures.printed in
    omega (arith, last_line_le (threads_report c.in-Ok-Threads.items c.in-Ok-Threads.nodes), ap length prints, c.requires.text)
