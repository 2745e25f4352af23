use Rattle.std.proofs.Common.{ℕ, ◌<◌, ◌≤◌, ◌^◌, Ok, Err, refl, ap, ◌∙◌, arith, rules}
use Rattle.rl_nodes.specs.Events.{for_each, delivers}
use Rattle.rl_nodes.specs.World.{pending_from}
use Rattle.rl_node.specs.SetupOf.{setup_of}
use Rattle.rl_world.specs.Amid.{HasDelivered}
use Rattle.rl_world.specs.Moments.{Moment}
use Rattle.rl_world.specs.Standing.{StandsRun}
use Rattle.rl_world.proofs.Amid.{sent_count, begins, delivered_next, refused_next, all_delivered, amid_at, tries_at}
use Rattle.rl_world.proofs.Playing.{refused}
use Rattle.rl_world.proofs.run.Run.deliver_all.Goals as goal

pub loop-number-init : goal.loop-number-init
loop-number-init c = record {
  safe = c.requires.safe;
  amid = c.requires.amid;
  setup = refl;
  delivered = λ m st. begins (setup_of c.args.self.now.setup) c.args.self.now m st;
}

pub loop-number-preserved : goal.loop-number-preserved
loop-number-preserved c =
    let i = c.loop-number.invariant in
    let r = c.args.self.now in
    let setup = setup_of r.setup in
    let number : ℕ = c.in-Some.number in
    let range = c.in-Some.ensures.in_range in
    let above = range.0 in
    let low : 1 ≤ number = omega (arith, above) in
    let high : number < 2 ^ 64 = search rules in
    let more : (m : Moment setup) → StandsRun r m.world → HasDelivered setup c.deliver.new.self m number = λ m st.
    let h = i.delivered m st in
    delivered_next setup c.loop-number.self m c.loop-number.after r.told.sent h (sent_count r m.world st) number range.0 range.1
    c.in-Some.ensures.pending c.in-Some.ensures.least (low, high) c.deliver.new.self
    (tries_at setup c.loop-number.self c.deliver.new.self number (Ok tt) (ap setup_of i.setup) c.in_ok-deliver.ensures.runs h.now h.stands) in
    let now = more c.requires.amid.moment c.requires.amid.stands in
    record {
      safe = c.in_ok-deliver.ensures.safe;
      amid = amid_at setup c.deliver.new.self (ap setup_of (c.in_ok-deliver.ensures.setup ∙ i.setup)) now.now now.stands;
      setup = c.in_ok-deliver.ensures.setup ∙ i.setup;
      delivered = more;
    }

pub returns-in_err-deliver-clause-runs : goal.returns-in_err-deliver-clause-runs
returns-in_err-deliver-clause-runs c m st =
    let i = c.loop-number.invariant in
    let r = c.args.self.now in
    let setup = setup_of r.setup in
    let range = c.in-Some.ensures.in_range in
    let h = i.delivered m st in
    let error = c.in_err-deliver.field-0.0 in
    refused c.deliver.new.self (for_each (pending_from 1 m.world.sent) (delivers setup) m.world) error c.from_residual.result c.from_residual.ensures.1
    (refused_next setup c.loop-number.self m c.loop-number.after r.told.sent h (sent_count r m.world st) c.in-Some.number range.0 range.1
    c.in-Some.ensures.pending c.in-Some.ensures.least error
    (tries_at setup c.loop-number.self c.deliver.new.self c.in-Some.number (Err error) (ap setup_of i.setup) c.in_err-deliver.ensures.runs h.now h.stands))

pub returns-clause-runs : goal.returns-clause-runs
returns-clause-runs c m st =
    let i = c.loop-number.invariant in
    let r = c.args.self.now in
    all_delivered (setup_of r.setup) c.loop-number.self m c.loop-number.after r.told.sent (i.delivered m st) (sent_count r m.world st) c.in_default.ensures.none
