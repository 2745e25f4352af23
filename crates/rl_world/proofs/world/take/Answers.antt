use Rattle.std.proofs.Common.{sym, subst}
use Rattle.rl_world.specs.Kept.{IsAfter}
use Rattle.rl_world.proofs.Keeping.{moment_of, room_for, happened, refused}
use Rattle.rl_world.proofs.world.take.Goals as goal

pub happen-requires-clause-room : goal.happen-requires-clause-room
happen-requires-clause-room c =
    room_for c.args.run.now c.args.events.now c.requires.fit c.requires.after _ c.requires.room

pub returns-in-Ok-clause-after : goal.returns-in-Ok-clause-after
returns-in-Ok-clause-after c =
    let r = c.args.run.now in
    let events = c.args.events.now in
    let m = moment_of r events c.requires.fit c.requires.after in
    subst (IsAfter c.happen.new.self) (sym c.in_ok-push.ensures.ok)
    (happened r events c.requires.fit c.requires.after c.args.e.now c.requires.plain c.happen.new.self c.in-Ok.ensures.setup (c.in-Ok.ensures.runs m c.requires.after.stands))

pub returns-in-Err-clause-refused : goal.returns-in-Err-clause-refused
returns-in-Err-clause-refused c =
    let r = c.args.run.now in
    let events = c.args.events.now in
    let m = moment_of r events c.requires.fit c.requires.after in
    refused r events c.requires.fit c.requires.after c.args.e.now c.requires.plain c.in-Err.error (c.in-Err.ensures.runs m c.requires.after.stands)
