use Rattle.rl_events.proofs.Kept.{expanded_fit, expanded_not_random, expanded_count, expanded_elections}
use Rattle.rl_events.proofs.expand.expand.Goals as goal

pub returns-clause-not_random : goal.returns-clause-not_random
returns-clause-not_random c =
    rw c.in_ok-written_out.ensures (expanded_not_random c.args.nodes c.args.workers c.args.events.now)

pub returns-clause-fits : goal.returns-clause-fits
returns-clause-fits c =
    rw c.in_ok-written_out.ensures (expanded_fit c.args.nodes c.args.workers c.args.events.now c.requires.nodes c.requires.workers)

pub returns-clause-counted : goal.returns-clause-counted
returns-clause-counted c =
    rw c.in_ok-written_out.ensures (expanded_count c.args.nodes c.args.workers c.args.events.now)

pub returns-clause-elections : goal.returns-clause-elections
returns-clause-elections c =
    rw c.in_ok-written_out.ensures (expanded_elections c.args.nodes c.args.workers c.args.events.now)
