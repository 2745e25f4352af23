use Rattle.std.proofs.Common.{◌≤◌, ◌<◌, ◌-◌, [], length, refl, sym, ap, subst, arith}
use Rattle.rl_node.specs.Outs.{Adds}
use Rattle.rl_node.specs.SetupOf.{setup_of}
use Rattle.rl_node.specs.Standing.{pending_in}
use Rattle.rl_node.proofs.Flushes.{opened_with}
use Rattle.rl_node.proofs.Items.{item_is}
use Rattle.rl_node.proofs.Steps.{few_quiet, full_tries}
use Rattle.rl_node.proofs.part.Lead.propose_full.Goals as goal

pub propose_pending-requires-clause-open : goal.propose_pending-requires-clause-open
propose_pending-requires-clause-open c =
    let o = opened_with (setup_of c.args.setup.now) c.args.self.now c.requires.open.0 c.args.self.now.works c.requires.open.1 in
    (o.0, c.requires.open.0, o.2)

pub returns-then-len-setup : goal.returns-then-len-setup
returns-then-len-setup c = λ x core runs.
    let setup = setup_of c.args.setup.now in
    let l = c.args.self.now in
    let w = c.args.worker in
    let is = c.requires.worker in
    let size = c.requires.fits.pending in
    let here = item_is l.pending.items (w - 1) c.index.result.now [] (omega (arith, is.0, is.1, size)) c.index.ensures in
    let count = ap length here in
    let few : length (pending_in l w) < setup.batch = (let len = c.len.ensures in let test = c.if-len-setup.true in omega (arith, count, len, test)) in
    few_quiet setup l core w c.requires.fits runs c.requires.filling few c.args.id x c.sending.result
    (c.sending.ensures [] (subst (λ sends. Adds [] sends []) (sym c.new.ensures) (record { sends = refl; in_range = λ k d less. absurd (omega (arith, less)) })))

pub returns : goal.returns
returns c = λ x core runs.
    let setup = setup_of c.args.setup.now in
    let l = c.args.self.now in
    let w = c.args.worker in
    let is = c.requires.worker in
    let size = c.requires.fits.pending in
    let here = item_is l.pending.items (w - 1) c.index.result.now [] (omega (arith, is.0, is.1, size)) c.index.ensures in
    let count = ap length here in
    let full : setup.batch ≤ length (pending_in l w) = (let len = c.len.ensures in let test = c.if-len-setup.false in omega (arith, count, len, test)) in
    let told = c.propose_pending.ensures in
    full_tries setup c.requires.setup l c.propose_pending.new.self core w c.args.id x c.requires.worker c.requires.fits runs c.requires.filling full
    c.propose_pending.result told.proposed told.free told.fits told.stands told.sends told.refused
