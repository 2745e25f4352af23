use Rattle.rl_check.proofs.check.check_script.Goals as goal

pub judge-requires-clause-script : goal.judge-requires-clause-script
judge-requires-clause-script c = rw c.replace-rows.ensures.value c.requires.script

pub returns : goal.returns
returns c = rw c.replace-rows.ensures.value at c.judge.ensures
