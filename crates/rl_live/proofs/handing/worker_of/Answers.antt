use Rattle.std.proofs.Common.{refl, ◌∙◌}
use Rattle.rl_live.proofs.Hands.{ready_of}
use Rattle.rl_live.proofs.handing.worker_of.Goals as goal

pub returns-clause-ready : goal.returns-clause-ready
returns-clause-ready c =
    ready_of c.args.script.now c.args.store.now c.args.progress.now c.args.tries c.requires.stage c.args.number c.requires.seat.0 _ c.args.led c.args.pass.now.view c.requires.low c.requires.high
    refl refl refl (c.split-own.ensures.tables.1 ∙ c.requires.own) c.split-own.ensures.right c.requires.led refl refl c.requires.seat.1
