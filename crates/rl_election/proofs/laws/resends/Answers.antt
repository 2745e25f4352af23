use Rattle.std.proofs.Common.{get_or, []}
use Rattle.rl_base.specs.Epochs.{owner_of}
use Rattle.rl_base.proofs.Members.{in_contains}
use Rattle.rl_election.specs.World.{Prepare, Sync, Accept, StreamWorld, stream_of}
use Rattle.rl_election.specs.StreamEvents.{streams_after}
use Rattle.rl_election.specs.Chosen.{initial_log}
use Rattle.rl_election.specs.Laws.{world_of}
use Rattle.rl_election.proofs.Inv.{StandsOk, RoleOk}
use Rattle.rl_election.proofs.Leaders.{LeadingOk, leading_of}
use Rattle.rl_election.proofs.Stays.{inv_of}
use Rattle.rl_election.proofs.laws.resends.Goals as goal

pub returns-clause-prepares : goal.returns-clause-prepares
returns-clause-prepares c = λ g events x.
    let w : StreamWorld = streams_after g events in
    let ok : RoleOk g w x.node (w.node x.node).role = (inv_of g events).role_ok x.node in
    let stands : StandsOk g w x.node x.candidate = rw x.stands at ok in
    in_contains w.sent (record { from = x.node; to = x.to; message = Prepare x.candidate.epoch }) (stands.asked x.to x.is_receiver)

pub returns-clause-syncs : goal.returns-clause-syncs
returns-clause-syncs c = λ x initial to f member.
    let w : StreamWorld = world_of x in
    let ok : LeadingOk x.cluster w x.epoch x.stream (initial_log f.term x.stream) (stream_of f.term x.stream) = leading_of x.cluster x.events x.epoch f.term f.term_is x.stream x.in_cluster in
    rw f.initial_is at (in_contains w.sent (record { from = owner_of x.epoch x.cluster.nodes; to = to; message = Sync x.epoch x.stream (initial_log f.term x.stream) }) (ok.sync_sent to member))

pub returns-clause-accepts : goal.returns-clause-accepts
returns-clause-accepts c = λ x r.
    let w : StreamWorld = world_of x in
    let l = r.is_leading in
    let ok : LeadingOk x.cluster w x.epoch x.stream (initial_log l.term x.stream) (stream_of l.term x.stream) = leading_of x.cluster x.events x.epoch l.term l.term_is x.stream x.in_cluster in
    let ok2 : LeadingOk x.cluster w x.epoch x.stream (initial_log l.term x.stream) r.stream = rw l.stream_is at ok in
    in_contains w.sent (record { from = owner_of x.epoch x.cluster.nodes; to = r.to; message = Accept x.epoch x.stream r.slot (get_or r.stream.log r.slot []) }) (ok2.accepts_sent r.slot r.to r.behind r.within r.is_receiver)
