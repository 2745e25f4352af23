use Rattle.std.proofs.Common.{◌≡◌, subst}
use Rattle.rl_nodes.specs.Events.{world_after}
use Rattle.rl_world.specs.Scripts.{setup_of}
use Rattle.rl_world.specs.Worlds.{IsCause}
use Rattle.rl_world.specs.declared.world_error.WorldError.TheVariants.{Limit}
use Rattle.rl_app.specs.Summary.{IsSummary}
use Rattle.rl_app.proofs.Simulated.{reports, stops}
use Rattle.rl_app.proofs.generator.run_summary.Goals as goal

pub returns-in-Ok : goal.returns-in-Ok
returns-in-Ok c =
    reports (IsSummary c.args.requests) c.args.script c.in-Ok.world c.in-Ok.ensures.ok c.world_summary.result c.world_summary.ensures.status c.world_summary.ensures.summary

pub returns-in-Err-Limit : goal.returns-in-Err-Limit
returns-in-Err-Limit c =
    let is : c.in-Err-Limit.field-0 ≡ Limit c.in-Err-Limit.name c.in-Err-Limit.limit = cc in
    stops (IsSummary c.args.requests) c.args.script c.in-Err-Limit.name c.in-Err-Limit.limit (subst (IsCause (world_after (setup_of c.args.script) c.args.script.events)) is c.in-Err-Limit.ensures.err)
    c.passed_answer.result c.passed_answer.ensures.status c.passed_answer.ensures.text
