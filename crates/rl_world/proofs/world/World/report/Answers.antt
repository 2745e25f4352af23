use Rattle.std.proofs.Common.{subst}
use Rattle.rl_nodes.specs.Safe.{Safe}
use Rattle.rl_node.specs.SetupOf.{setup_of}
use Rattle.rl_world.specs.Worlds.{Taken, StandsFor}
use Rattle.rl_world.proofs.Keeping.{says}
use Rattle.rl_world.proofs.world.World.report.Goals as goal

pub returns-clause-safe : goal.returns-clause-safe
returns-clause-safe c =
    let w = c.self.inside in
    let setup = setup_of w.run.setup in
    subst (λ (t : Taken). StandsFor t (Safe (setup_of t.setup))) c.self.view_is
    (says w c.self.invariant (Safe setup) (λ x is st. c.every_run_is_safe.ensures setup w.events x c.self.invariant.safe.fits c.self.invariant.fit is))
