use Rattle.std.proofs.Common.{◌+◌, Some, subst}
use Rattle.rl_world.specs.Worlds.{Taken, RefusesEvent}
use Rattle.rl_world.proofs.Keeping.{taken_in, refuses}
use Rattle.rl_world.proofs.world.World.event.Goals as goal

pub returns-in-Err : goal.returns-in-Err
returns-in-Err c =
    let w = c.self.inside in
    let e = c.args.e.now in
    let error = c.in-Err.error in
    record {
      event = subst (λ (t : Taken). RefusesEvent t (taken_in (record { run = c.take.new.run; events = c.take.new.events; counted = w.counted + c.count.result; failed = Some error })) e error)
          c.self.view_is
          (refuses w e c.count.result c.count.ensures c.in_default.is c.take.new.run c.take.new.events c.in-Err.ensures.setup
          c.in-Err.ensures.kept error c.in-Err.ensures.refused);
    }
