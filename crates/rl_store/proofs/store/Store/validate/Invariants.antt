use Rattle.rl_store.specs.Passes.{held_bit}
use Rattle.rl_store.proofs.store.Store.validate.Given as goal

abbrev pub ghosts-validate_as : goal.ghosts-validate_as
ghosts-validate_as a = record { number = held_bit a.held }
