use Rattle.std.proofs.Common.{◌<◌, subst, sym, get_or, length, take}
use Rattle.rl_events.specs.declared.event.Event.TheVariants as event
use Rattle.rl_events.specs.Fits.{EventFits}
use Rattle.rl_worker.specs.Acts.{after_turns}
use Rattle.rl_worker.specs.Opening.{setting_of, core_after}
use Rattle.rl_app.specs.Runs.{leader_of, turns_in, turns_of}
use Rattle.rl_app.specs.Running.{IsRun}
use Rattle.rl_app.proofs.Followed.{after_more}
use Rattle.rl_app.proofs.run.Run.follow.Goals as goal

pub event-requires-clause-event : goal.event-requires-clause-event
event-requires-clause-event c =
    let events = c.args.script.now.events in
    let i = c.loop-event.event-index in
    let l : i < length events = rw (← c.as_slice-event-items.ensures) c.loop-event-test.true in
    let at : EventFits c.args.script.now.nodes c.args.script.now.workers (get_or events i (event.Step 0 0 0)) = c.requires.fits.events.each i (event.Step 0 0 0) l in
    (c.args.script.now.nodes, rw (c.as_slice-event-items.ensures, c.requires.fits.one_list_each) at)

pub loop-event-preserved : goal.loop-event-preserved
loop-event-preserved c =
    let script = c.args.script.now in
    let events = script.events in
    let i = c.loop-event.event-index in
    let l : i < length events = rw (← c.as_slice-event-items.ensures) c.loop-event-test.true in
    let core = core_after (leader_of script) (turns_of (take i events)) in
    let s = setting_of script.schema script.lists 1 in
    let got = c.in_ok-event.ensures core c.loop-event.invariant in
    subst (IsRun script.schema script.lists c.event.new.self) (sym (after_more script i l))
    (subst (λ es. IsRun script.schema script.lists c.event.new.self (after_turns s core (turns_in (get_or es i (event.Step 0 0 0))))) c.as_slice-event-items.ensures got)
