use Rattle.rl_store.proofs.pass.Pass.split.Given as goal

abbrev pub ghosts-split_as : goal.ghosts-split_as
ghosts-split_as a = record { number = a.tries }
