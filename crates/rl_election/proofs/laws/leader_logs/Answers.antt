use Rattle.std.proofs.Common.{◌≡◌, ◌-◌}
use Rattle.rl_base.specs.Lists.{IsPrefix}
use Rattle.rl_election.specs.World.{StreamWorld, stream_of}
use Rattle.rl_election.specs.StreamEvents.{streams_after}
use Rattle.rl_election.specs.Chosen.{initial_log, BeganWith}
use Rattle.rl_election.specs.Laws.{at_end, world_of}
use Rattle.rl_election.proofs.Inv.{log_at, RoleOk, StandsOk}
use Rattle.rl_election.proofs.Leaders.{LeadingOk, leading_of}
use Rattle.rl_election.proofs.Origins.{origin}
use Rattle.rl_election.proofs.Stays.{inv_of, stretch_stays}
use Rattle.rl_election.proofs.Steps.{some_same}
use Rattle.rl_election.proofs.laws.leader_logs.Goals as goal

pub returns-clause-origins : goal.returns-clause-origins
returns-clause-origins c = λ x initial f. rw f.initial_is at (origin x.cluster (world_of x) (inv_of x.cluster x.events) x.epoch x.stream x.in_cluster f.term f.term_is)

pub returns-clause-began : goal.returns-clause-began
returns-clause-began c = λ x initial stream f l.
    let w : StreamWorld = world_of x in
    let one : f.term ≡ l.term = some_same f.term l.term (w.terms x.epoch) f.term_is l.term_is in
    let is : initial_log l.term x.stream ≡ initial = rw one at f.initial_is in
    let ok : LeadingOk x.cluster w x.epoch x.stream (initial_log l.term x.stream) (stream_of l.term x.stream) = leading_of x.cluster x.events x.epoch l.term l.term_is x.stream x.in_cluster in
    let begins : IsPrefix (initial_log l.term x.stream) (stream_of l.term x.stream).log = ((inv_of x.cluster x.events).term_ok x.epoch l.term l.term_is).begins (x.stream - 1) in
    let began : BeganWith x.cluster x.epoch (initial_log l.term x.stream) (stream_of l.term x.stream) = record {
      epoch_is = ok.epoch;
      quorum_is = ok.quorum;
      nodes_are = ok.sized;
      initial_len_is = ok.initial_len;
      begins = begins;
    } in
    rw (is, l.stream_is) at began

pub returns-clause-grow : goal.returns-clause-grow
returns-clause-grow c = λ run e s log now k h.
    let u = (stretch_stays run).terms e k.term k.term_is in
    let one : u.0 ≡ h.term = some_same u.0 h.term ((at_end run).terms e) u.1 h.term_is in
    let grown : IsPrefix (log_at k.term (s - 1)) (log_at u.0 (s - 1)) = u.2.logs (s - 1) in
    let there : IsPrefix (log_at k.term (s - 1)) (log_at h.term (s - 1)) = rw one at grown in
    rw (k.log_is, h.log_is) at there

pub returns-clause-owners : goal.returns-clause-owners
returns-clause-owners c = λ g events a e is.
    let w : StreamWorld = streams_after g events in
    let ok : RoleOk g w a (w.node a).role = (inv_of g events).role_ok a in
    rw is at ok

pub returns-clause-candidates : goal.returns-clause-candidates
returns-clause-candidates c = λ g events a k is.
    let w : StreamWorld = streams_after g events in
    let ok : RoleOk g w a (w.node a).role = (inv_of g events).role_ok a in
    let stands : StandsOk g w a k = rw is at ok in
    record { own = stands.own; nodes_are = stands.nodes_is; need_is = stands.need_is; no_term = stands.unborn }
