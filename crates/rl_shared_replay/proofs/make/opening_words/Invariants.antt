use Rattle.rl_shared_replay.specs.Opening.{Filled}
use Rattle.rl_shared_replay.proofs.make.opening_words.Given as goal

-- the words of the first records
abbrev pub invariant-loop-r : goal.invariant-loop-r
invariant-loop-r l = Filled l.layout l.opening l.r l.words.items
