use Rattle.rl_app.proofs.Simulated.{stands_for_run, stops_run}
use Rattle.rl_app.proofs.sim.world_of.Goals as goal

pub returns-in_err-take_all-clause-err : goal.returns-in_err-take_all-clause-err
returns-in_err-take_all-clause-err c =
    stops_run c.args.script c.in_ok-world.world c.in_ok-world.ensures.new c.expanded_runs_are_runs.ensures c.in_ok-events.events c.in_ok-events.ensures.events
    c.in_err-take_all.field-0.0 c.from_residual-in_err-take_all.result c.from_residual-in_err-take_all.ensures.1 c.in_err-take_all.ensures

pub returns-clause-ok : goal.returns-clause-ok
returns-clause-ok c =
    stands_for_run c.args.script c.in_ok-world.world c.in_ok-world.ensures.new c.expanded_runs_are_runs.ensures c.in_ok-events.events c.in_ok-events.ensures.events
    c.take_all.new.world c.in_ok-take_all.ensures
