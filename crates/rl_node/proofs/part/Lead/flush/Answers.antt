use Rattle.std.proofs.Common.{[], refl, sym, subst, arith}
use Rattle.rl_node.specs.Outs.{Adds}
use Rattle.rl_node.specs.SetupOf.{setup_of}
use Rattle.rl_node.proofs.Flushes.{flush_quiet, flush_tries, is_open}
use Rattle.rl_node.proofs.part.Lead.flush.Goals as goal

pub propose_pending-requires-clause-open : goal.propose_pending-requires-clause-open
propose_pending-requires-clause-open c =
    let s = c.requires.stands.1 in
    let has = c.has_pending.ensures.some c.if-not-has_pending.false in
    let o = is_open (setup_of c.args.setup.now) c.args.self.now c.args.self.now.works s.core s.works has.0 in
    (o.works, o.core, o.are)

pub returns-then-not-has_pending : goal.returns-then-not-has_pending
returns-then-not-has_pending c = λ x s.
    flush_quiet (setup_of c.args.setup.now) c.args.id c.args.worker c.args.self.now x s (c.has_pending.ensures.none c.if-not-has_pending.true) c.sending.result
    (c.sending.ensures [] (subst (λ sends. Adds [] sends []) (sym c.new.ensures) (record { sends = refl; in_range = λ k d less. absurd (omega (arith, less)) })))

pub returns : goal.returns
returns c = λ x s.
    let has = c.has_pending.ensures.some c.if-not-has_pending.false in
    let told = c.propose_pending.ensures in
    flush_tries (setup_of c.args.setup.now) c.requires.setup c.args.id c.args.worker c.args.self.now x s c.requires.worker has.0 has.1 c.propose_pending.new.self
    c.propose_pending.result told.proposed told.free told.fits told.stands told.sends told.refused
