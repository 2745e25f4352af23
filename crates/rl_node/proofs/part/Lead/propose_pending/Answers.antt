use Rattle.std.proofs.Common.{[], sym, subst}
use Rattle.rl_batch.specs.Encoding.{batch_bytes}
use Rattle.rl_batch.specs.Ranges.{ItemsInRange}
use Rattle.rl_node.specs.Outs.{Adds}
use Rattle.rl_txn.specs.declared.batch.Batch.TheVariants.{Items}
use Rattle.rl_node.specs.Leading.{stream_of, accept_of}
use Rattle.rl_node.specs.SetupOf.{setup_of}
use Rattle.rl_node.specs.declared.part.Lead.{Lead}
use Rattle.rl_node.proofs.Proposals.{taken_fits, pending_in_range, pending_fits, pending_works}
use Rattle.rl_node.proofs.part.Lead.propose_pending.Goals as goal

pub propose-requires-clause-fits : goal.propose-requires-clause-fits
propose-requires-clause-fits c =
    let old : Lead = record c.args.self.now { pending = c.take_pending.new.pending } in
    taken_fits (setup_of c.args.setup.now) c.args.self.now old c.args.worker c.requires.fits c.take_pending.ensures.none

pub propose-requires-clause-batch : goal.propose-requires-clause-batch
propose-requires-clause-batch c =
    subst ItemsInRange (sym c.take_pending.ensures.items)
    (pending_in_range (setup_of c.args.setup.now) c.requires.setup c.args.self.now c.requires.open.0 c.requires.open.1 c.requires.open.2 c.requires.fits
    c.args.worker c.requires.worker c.requires.some c.requires.few)

pub returns-clause-fits : goal.returns-clause-fits
returns-clause-fits c =
    let old : Lead = record c.args.self.now { pending = c.take_pending.new.pending } in
    let told = c.in_ok-sends.ensures in
    pending_fits c.args.self.now old c.propose.new.self c.args.worker c.take_pending.result c.take_pending.ensures.none told.proposed
    (setup_of c.args.setup.now) c.requires.setup c.requires.open.0 c.requires.open.1 c.requires.open.2 c.requires.fits
    c.requires.worker c.take_pending.ensures.items told.read told.free told.short

pub returns-clause-stands : goal.returns-clause-stands
returns-clause-stands c =
    let old : Lead = record c.args.self.now { pending = c.take_pending.new.pending } in
    let told = c.in_ok-sends.ensures in
    pending_works c.args.self.now old c.propose.new.self c.args.worker c.take_pending.result c.take_pending.ensures.none told.proposed
    (setup_of c.args.setup.now) c.requires.setup c.requires.open.0 c.requires.open.1 c.requires.open.2 c.requires.fits
    c.requires.worker c.take_pending.ensures.items told.read told.free told.short

pub returns-clause-sends : goal.returns-clause-sends
returns-clause-sends c =
    c.sending.ensures _ (subst
    (λ items. Adds [] c.in_ok-sends.sends (accept_of c.args.id c.args.self.now.epoch c.args.worker (stream_of c.args.self.now c.args.worker) (batch_bytes (Items items)) c.args.setup.now.nodes))
    c.take_pending.ensures.items c.in_ok-sends.ensures.sends)
