use Rattle.rl_check.proofs.check.check_report.Goals as goal

pub judge-requires-clause-script : goal.judge-requires-clause-script
judge-requires-clause-script c = rw c.in_ok-copy.ensures c.requires.script
