use Rattle.std.proofs.Common.{◌≤◌, subst, length, arith}
use Rattle.std.proofs.lemmas.List.{take_all}
use Rattle.rl_events.specs.declared.event.Event.TheVariants as event
use Rattle.rl_nodes.specs.Events.{world_after}
use Rattle.rl_node.specs.SetupOf.{setup_of}
use Rattle.rl_world.specs.Worlds.{IsCause}
use Rattle.rl_app.specs.Simulating.{HasTaken}
use Rattle.rl_app.proofs.Simulated.{next_is, fits, room, taken, refused, known_refusal}
use Rattle.rl_app.proofs.sim.take_all.Goals as goal

pub loop-event-init : goal.loop-event-init
loop-event-init c = c.requires.new

pub event-requires-clause-fits : goal.event-requires-clause-fits
event-requires-clause-fits c =
    let i = c.loop-event.event-index in
    let next = next_is c.as_slice-event-items.result.now c.args.events.now i c.as_slice-event-items.ensures (event.Step 0 0 0) c.loop-event-test.true in
    fits (setup_of c.args.world.now.setup) c.args.events.now c.requires.can i _ next.0 next.1 c.loop-event.world c.loop-event.invariant

pub event-requires-clause-room : goal.event-requires-clause-room
event-requires-clause-room c =
    let i = c.loop-event.event-index in
    let next = next_is c.as_slice-event-items.result.now c.args.events.now i c.as_slice-event-items.ensures (event.Step 0 0 0) c.loop-event-test.true in
    room (setup_of c.args.world.now.setup) c.args.events.now c.requires.can i _ next.0 next.1 c.loop-event.world c.loop-event.invariant

pub returns-in_err-event : goal.returns-in_err-event
returns-in_err-event c =
    let setup = setup_of c.args.world.now.setup in
    let i = c.loop-event.event-index in
    let next = next_is c.as_slice-event-items.result.now c.args.events.now i c.as_slice-event-items.ensures (event.Step 0 0 0) c.loop-event-test.true in
    let error = c.in_err-event.field-0.0 in
    known_refusal (HasTaken setup c.args.events.now c.event.new.self) (IsCause (world_after setup c.args.events.now)) error c.from_residual.result c.from_residual.ensures.1
    (refused setup c.args.events.now c.requires.can i _ next.0 next.1 c.loop-event.world c.loop-event.invariant c.runs_go_on.ensures c.event.new.self error c.in_err-event.ensures.event)

pub loop-event-preserved : goal.loop-event-preserved
loop-event-preserved c =
    let i = c.loop-event.event-index in
    let next = next_is c.as_slice-event-items.result.now c.args.events.now i c.as_slice-event-items.ensures (event.Step 0 0 0) c.loop-event-test.true in
    taken (setup_of c.args.world.now.setup) c.args.events.now c.requires.can i _ next.0 next.1 c.loop-event.world c.loop-event.invariant c.event.new.self c.in_ok-event.ensures.event

pub returns : goal.returns
returns c =
    let events = c.args.events.now in
    let past : length events ≤ c.loop-event.event-index = rw (← c.as_slice-event-items.ensures) (omega (arith, c.loop-event-test.false)) in
    subst (λ es. HasTaken (setup_of c.args.world.now.setup) es c.loop-event.world) (take_all c.loop-event.event-index events past) c.loop-event.invariant
