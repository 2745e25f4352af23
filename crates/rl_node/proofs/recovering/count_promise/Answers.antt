use Rattle.std.proofs.Common.{◌<◌, ◌≤◌, length, subst, sym, arith}
use Rattle.rl_paxos.specs.Recovery.{Promise, Candidate}
use Rattle.rl_node.specs.Fits.{CandidateFits}
use Rattle.rl_node.specs.Recovering.{IsNewLead, HasBecome}
use Rattle.rl_node.specs.SetupOf.{setup_of}
use Rattle.rl_node.specs.declared.part.Part.TheVariants.{Stands, Leads}
use Rattle.rl_node.proofs.Recoveries.{counted_fits, becomes_candidate, becomes_leader, logs_many, logs_short, lead_fits}
use Rattle.rl_node.proofs.recovering.count_promise.Goals as goal

pub returns-then-promise-setup : goal.returns-then-promise-setup
returns-then-promise-setup c =
    let setup = setup_of c.args.setup.now in
    let p : Promise = record { node = c.args.from; ballots = c.args.ballots; logs = c.args.logs } in
    let q = c.promise.new.self in
    let fit : CandidateFits setup q = subst (CandidateFits setup) (sym c.promise.ensures.counted) (counted_fits setup c.args.candidate p c.requires.candidate c.requires.promise) in
    let few : length q.promises < q.need = (let need = fit.need in let have = c.promise.ensures.have in let less = c.if-promise-setup.true in omega (arith, need, have, less)) in
    subst (λ (z : Candidate). HasBecome setup c.args.id z (record { part = Stands q; sends = c.new.result })) c.promise.ensures.counted
    (becomes_candidate setup c.args.id q fit few c.new.result c.new.ensures)

pub begin-requires-clause-streams : goal.begin-requires-clause-streams
begin-requires-clause-streams c =
    let setup = setup_of c.args.setup.now in
    let p : Promise = record { node = c.args.from; ballots = c.args.ballots; logs = c.args.logs } in
    let q = c.promise.new.self in
    let fit : CandidateFits setup q = subst (CandidateFits setup) (sym c.promise.ensures.counted) (counted_fits setup c.args.candidate p c.requires.candidate c.requires.promise) in
    let some : 1 ≤ length q.promises = (let first = c.requires.setup.first in let have = c.promise.ensures.have in let less = c.if-promise-setup.false in omega (arith, first, have, less)) in
    logs_many setup c.requires.setup q fit some c.reads_back.ensures.read_back c.short.ensures c.in_ok-logs.logs c.in_ok-logs.ensures.logs c.in_ok-logs.ensures.room

pub begin-requires-clause-short : goal.begin-requires-clause-short
begin-requires-clause-short c =
    let setup = setup_of c.args.setup.now in
    let p : Promise = record { node = c.args.from; ballots = c.args.ballots; logs = c.args.logs } in
    let q = c.promise.new.self in
    let fit : CandidateFits setup q = subst (CandidateFits setup) (sym c.promise.ensures.counted) (counted_fits setup c.args.candidate p c.requires.candidate c.requires.promise) in
    let some : 1 ≤ length q.promises = (let first = c.requires.setup.first in let have = c.promise.ensures.have in let less = c.if-promise-setup.false in omega (arith, first, have, less)) in
    logs_short setup c.requires.setup q fit some c.reads_back.ensures.read_back c.short.ensures c.in_ok-logs.logs c.in_ok-logs.ensures.logs c.in_ok-logs.ensures.room

pub send_logs-requires-clause-fits : goal.send_logs-requires-clause-fits
send_logs-requires-clause-fits c =
    let setup = setup_of c.args.setup.now in
    let p : Promise = record { node = c.args.from; ballots = c.args.ballots; logs = c.args.logs } in
    let q = c.promise.new.self in
    let fit : CandidateFits setup q = subst (CandidateFits setup) (sym c.promise.ensures.counted) (counted_fits setup c.args.candidate p c.requires.candidate c.requires.promise) in
    let some : 1 ≤ length q.promises = (let first = c.requires.setup.first in let have = c.promise.ensures.have in let less = c.if-promise-setup.false in omega (arith, first, have, less)) in
    lead_fits setup c.requires.setup q fit some c.reads_back.ensures.read_back c.short.ensures c.in_ok-logs.logs c.in_ok-logs.ensures.logs c.in_ok-logs.ensures.room
    c.in_ok-lead.lead (subst (λ e. IsNewLead setup e c.in_ok-logs.logs c.in_ok-lead.lead) c.epoch.ensures c.in_ok-lead.ensures)

pub returns : goal.returns
returns c =
    let setup = setup_of c.args.setup.now in
    let p : Promise = record { node = c.args.from; ballots = c.args.ballots; logs = c.args.logs } in
    let q = c.promise.new.self in
    let fit : CandidateFits setup q = subst (CandidateFits setup) (sym c.promise.ensures.counted) (counted_fits setup c.args.candidate p c.requires.candidate c.requires.promise) in
    let some : 1 ≤ length q.promises = (let first = c.requires.setup.first in let have = c.promise.ensures.have in let less = c.if-promise-setup.false in omega (arith, first, have, less)) in
    let enough : q.need ≤ length q.promises = (let need = fit.need in let have = c.promise.ensures.have in let less = c.if-promise-setup.false in omega (arith, need, have, less)) in
    subst (λ (z : Candidate). HasBecome setup c.args.id z (record { part = Leads c.in_ok-lead.lead; sends = c.in_ok-sends.sends })) c.promise.ensures.counted
    (becomes_leader setup c.requires.setup q fit some c.reads_back.ensures.read_back c.short.ensures c.in_ok-logs.logs c.in_ok-logs.ensures.logs c.in_ok-logs.ensures.room
    c.in_ok-lead.lead (subst (λ e. IsNewLead setup e c.in_ok-logs.logs c.in_ok-lead.lead) c.epoch.ensures c.in_ok-lead.ensures)
    c.args.id enough c.in_ok-sends.sends c.in_ok-sends.ensures)
