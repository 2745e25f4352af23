use Rattle.rl_election.specs.StreamEvents.{streams_after}
use Rattle.rl_election.specs.Laws.{before, at_end}
use Rattle.rl_election.proofs.Longest.{longest_chosen, longest_grows}
use Rattle.rl_election.proofs.Stays.{inv_of, stretch_stays}
use Rattle.rl_election.proofs.laws.longest.Goals as goal

pub returns-clause-there : goal.returns-clause-there
returns-clause-there c = λ g events meets s there. longest_chosen g meets (streams_after g events) (inv_of g events) s there

pub returns-clause-grows : goal.returns-clause-grows
returns-clause-grows c = λ run s long now k h. longest_grows run.cluster (before run) (at_end run) s long now (stretch_stays run) k h
