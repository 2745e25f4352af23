use Rattle.rl_store.specs.Opening.{Filled}
use Rattle.rl_store.proofs.make.opening_words.Given as goal

-- the words of the records so far
abbrev pub invariant-loop-r : goal.invariant-loop-r
invariant-loop-r l = Filled l.r l.columns l.stamps l.rows l.words.items
