use Rattle.std.proofs.Common.{◌≡◌, ℕ, List, get_or, take}
use Rattle.std.specs.List.{best_of}
use Rattle.rl_paxos.specs.Recovery.{Promise, HasStreams, is_better}
use Rattle.rl_election.proofs.candidate.Candidate.recovered.Given as goal

-- the best of those that were looked at
pub record SoFar (s streams index : ℕ) (promises : List Promise) (best : Promise) : Type 0 where
  pub is_best : best ≡ best_of (is_better s) (get_or promises 0 best) (take index promises)
  pub whole : HasStreams streams best

abbrev pub invariant-loop-promise : goal.invariant-loop-promise
invariant-loop-promise l = SoFar l.s l.self.streams l.promise-index l.self.promises l.best
