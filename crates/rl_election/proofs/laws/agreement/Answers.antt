use Rattle.rl_election.specs.World.{StreamWorld}
use Rattle.rl_election.specs.StreamEvents.{streams_after}
use Rattle.rl_election.specs.Laws.{before, at_end}
use Rattle.rl_election.proofs.Agree.{chosen_begins}
use Rattle.rl_election.proofs.Stays.{inv_of, stretch_stays, chosen_grows}
use Rattle.rl_election.proofs.laws.agreement.Goals as goal

pub returns-clause-agreement : goal.returns-clause-agreement
returns-clause-agreement c = λ g events meets both.
    let w : StreamWorld = streams_after g events in
    let f = both.is_initial in
    rw (← f.initial_is) (chosen_begins g meets w (inv_of g events) both.epoch both.stream both.later both.chosen both.in_cluster both.is_chosen both.rises f.term f.term_is)

pub returns-clause-initial_logs_stand : goal.returns-clause-initial_logs_stand
returns-clause-initial_logs_stand c = λ run e s initial f.
    let u = (stretch_stays run).terms e f.term f.term_is in
    record { term = u.0; term_is = u.1; initial_is = rw u.2.initial f.initial_is }

pub returns-clause-chosen_grows : goal.returns-clause-chosen_grows
returns-clause-chosen_grows c = λ run e s chosen now k h. chosen_grows run.cluster (before run) (at_end run) e s chosen now (stretch_stays run) k h
