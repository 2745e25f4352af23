use Rattle.std.proofs.Common.{List, ap}
use Rattle.rl_report.specs.declared.middle.Middle.{Middle}
use Rattle.rl_world.specs.declared.told.Told.{Told}
use Rattle.rl_world.proofs.Showings.{shows}
use Rattle.rl_world.proofs.run.Run.show.Goals as goal

pub returns-clause-runs : goal.returns-clause-runs
returns-clause-runs c w st =
    let r = c.args.self.now in
    let told : Told = record r.told { lines = c.push.new.self } in
    shows r c.args.a c.in_ok-block.block told w st (c.in_ok-block.ensures.block w st) c.in_ok-block.ensures.form
    (ap (λ (lines : List Middle). record r.told { lines = lines }) c.in_ok-push.ensures.ok)
