use Rattle.std.proofs.lemmas.Result.{on_ok_weaker}
use Rattle.std.specs.Fmt.{decimal}
use Rattle.rl_report.proofs.Words.{cause_joined}
use Rattle.rl_report.proofs.printed.push_cause.Goals as goal

pub returns : goal.returns
returns c =
    on_ok_weaker c.write-3.result
    (λ more. cause_joined _ _ _ _ _ _ c.args.why.now c.args.table.now (decimal c.args.key) c.args.words.now c.in_ok-write.ensures.bytes c.in_ok-push_name.ensures c.in_ok-write-2.ensures.bytes c.in_ok-push_numbers.ensures more)
    c.write-3.ensures.bytes
