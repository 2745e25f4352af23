-- What holds between any two events. Streams stand here by their index, from 0.
use Rattle.std.proofs.Common.{◌≡◌, ℕ, ◌+◌, ◌-◌, ◌<◌, ◌≤◌, List, [], ◌∷◌, ◌++◌, length, get_or, true, Some, None, refl, sym, ◌∙◌, arith}
use Rattle.rl_base.specs.Epochs.{owner_of}
use Rattle.rl_base.specs.Lists.{IsPrefix}
use Rattle.rl_paxos.specs.Acceptors.{Kept, Acceptor, nothing_kept}
use Rattle.rl_paxos.specs.Logs.{Batch, Log}
use Rattle.rl_paxos.specs.Quorums.{is_node, is_quorum}
use Rattle.rl_paxos.specs.Recovery.{Promise, Candidate, has_promised, recovered}
use Rattle.rl_paxos.proofs.Counting.{EachOnce}
use Rattle.rl_base.proofs.Members.{In}
use Rattle.rl_election.specs.World.{Cluster, Message, Prepare, Promised, Sync, Accept, Ack, Envelope, Role, Follows, Stands, Leads, Term, StreamWorld, no_stream}
use Rattle.rl_base.proofs.Prefixes.{prefix_self, prefix_trans, prefix_length, prefix_get}

-- what an acceptor keeps at an index
abbrev pub kept_at : Acceptor → ℕ → Kept
kept_at x i = get_or x.streams i nothing_kept

abbrev pub initial_at : Term → ℕ → Log
initial_at t i = get_or t.initial i []

abbrev pub log_at : Term → ℕ → Log
log_at t i = (get_or t.streams i no_stream).log

-- a message from a node, to whomever
abbrev pub WasSent : StreamWorld → (from : ℕ) → Message → Type 0
WasSent w from message = (to : ℕ) × In (record { from = from; to = to; message = message }) w.sent

-- a log begins with the initial log of an epoch and is a prefix of its leader's
pub record InLeaderLog (w : StreamWorld) (e i : ℕ) (log : Log) : Type 0 where
  pub term : Term
  pub term_is : w.terms e ≡ Some term
  pub begins : IsPrefix (initial_at term i) log
  pub within : IsPrefix log (log_at term i)

-- a ballot, and the log adopted at it
pub record KeptOk (w : StreamWorld) (top i : ℕ) (k : Kept) : Type 0 where
  pub below : k.ballot ≤ top
  pub has : 0 < k.ballot → InLeaderLog w k.ballot i k.log
  pub none : k.ballot ≡ 0 → k.log ≡ []

pub record AcceptorOk (g : Cluster) (w : StreamWorld) (x : Acceptor) : Type 0 where
  pub sized : length x.streams ≡ g.streams
  pub kept : (i : ℕ) → KeptOk w x.promised i (kept_at x i)

-- a promise in a message
abbrev pub shown : List ℕ → List Log → ℕ → Kept
shown ballots logs i = record { ballot = get_or ballots i 0; log = get_or logs i [] }

pub record PromiseOk (w : StreamWorld) (from e : ℕ) (ballots : List ℕ) (logs : List Log) : Type 0 where
  pub kept : e ≤ (w.node from).acceptor.promised
  pub each : (i : ℕ) → KeptOk w e i (shown ballots logs i)

pub record AcceptOk (w : StreamWorld) (e s slot : ℕ) (batch : Batch) : Type 0 where
  pub term : Term
  pub term_is : w.terms e ≡ Some term
  pub there : slot < length (log_at term (s - 1))
  pub batch_is : get_or (log_at term (s - 1)) slot [] ≡ batch

pub record AckOk (w : StreamWorld) (from e s len : ℕ) : Type 0 where
  pub born : 0 < e
  pub reach : e ≤ (kept_at (w.node from).acceptor (s - 1)).ballot
  pub has : (kept_at (w.node from).acceptor (s - 1)).ballot ≡ e → len ≤ length (kept_at (w.node from).acceptor (s - 1)).log

abbrev pub MessageOk : StreamWorld → (from : ℕ) → Message → Type 0
MessageOk w from (Prepare e) = Unit {0}
MessageOk w from (Promised e ballots logs) = PromiseOk w from e ballots logs
MessageOk w from (Sync e s log) = InLeaderLog w e (s - 1) log
MessageOk w from (Accept e s slot batch) = AcceptOk w e s slot batch
MessageOk w from (Ack e s len) = AckOk w from e s len

-- a promise at a later epoch shows what was acked
pub record Shows (k : Kept) (e len : ℕ) : Type 0 where
  pub ballot : e ≤ k.ballot
  pub holds : k.ballot ≡ e → len ≤ length k.log

-- the promises of a candidate or a leader were sent, and are of lower ballots
pub record Used (w : StreamWorld) (e : ℕ) (p : Promise) : Type 0 where
  pub sent : WasSent w p.node (Promised e p.ballots p.logs)
  pub lower : (i : ℕ) → get_or p.ballots i 0 < e

pub record StandsOk (g : Cluster) (w : StreamWorld) (a : ℕ) (c : Candidate) : Type 0 where
  pub member : is_node g.nodes a ≡ true
  pub own : owner_of c.epoch g.nodes ≡ a
  pub born : 0 < c.epoch
  pub asked : (to : ℕ) → is_node g.nodes to ≡ true → In (record { from = a; to = to; message = Prepare c.epoch }) w.sent
  pub kept : c.epoch ≤ (w.node a).acceptor.promised
  pub unborn : w.terms c.epoch ≡ None
  pub nodes_is : c.nodes ≡ g.nodes
  pub need_is : c.need ≡ g.first_quorum
  pub once : EachOnce g.nodes c.promises
  pub used : (p : Promise) → In p c.promises → Used w c.epoch p

abbrev pub RoleOk : Cluster → StreamWorld → ℕ → Role → Type 0
RoleOk g w a Follows = Unit {0}
RoleOk g w a (Stands c) = StandsOk g w a c
RoleOk g w a (Leads e) = owner_of e g.nodes ≡ a

pub record TermOk (g : Cluster) (w : StreamWorld) (e : ℕ) (t : Term) : Type 0 where
  pub member : is_node g.nodes (owner_of e g.nodes) ≡ true
  pub born : 0 < e
  pub own : e ≤ (w.node (owner_of e g.nodes)).acceptor.promised
  pub promises : List Promise
  pub quorum : is_quorum g.first_quorum g.nodes (has_promised promises) ≡ true
  pub used : (p : Promise) → In p promises → Used w e p
  pub initial_is : (i : ℕ) → i < g.streams → initial_at t i ≡ recovered promises (i + 1) ++ g.open_mark e ∷ []
  pub sized : length t.streams ≡ g.streams
  pub begins : (i : ℕ) → IsPrefix (initial_at t i) (log_at t i)

pub record Inv (g : Cluster) (w : StreamWorld) : Type 0 where
  pub node_ok : (a : ℕ) → AcceptorOk g w (w.node a).acceptor
  pub role_ok : (a : ℕ) → RoleOk g w a (w.node a).role
  pub term_ok : (e : ℕ) (t : Term) → w.terms e ≡ Some t → TermOk g w e t
  pub message_ok : (m : Envelope) → In m w.sent → MessageOk w m.from m.message
  pub shows : (a e : ℕ) (ballots : List ℕ) (logs : List Log) (f s len : ℕ) → WasSent w a (Promised e ballots logs) → WasSent w a (Ack f s len) → f < e → Shows (shown ballots logs (s - 1)) f len

-- ---- what only grows ----

-- a term keeps its initial logs, and its logs grow
pub record TermGrows (t u : Term) : Type 0 where
  pub initial : u.initial ≡ t.initial
  pub logs : (i : ℕ) → IsPrefix (log_at t i) (log_at u i)
  pub sized : length u.streams ≡ length t.streams

pub record AcceptorGrows (x y : Acceptor) : Type 0 where
  pub promised : x.promised ≤ y.promised
  pub ballot : (i : ℕ) → (kept_at x i).ballot ≤ (kept_at y i).ballot
  pub log : (i : ℕ) → (kept_at y i).ballot ≡ (kept_at x i).ballot → length (kept_at x i).log ≤ length (kept_at y i).log

pub record Grows (w v : StreamWorld) : Type 0 where
  pub terms : (e : ℕ) (t : Term) → w.terms e ≡ Some t → (u : Term) × (v.terms e ≡ Some u) × TermGrows t u
  pub nodes : (a : ℕ) → AcceptorGrows (w.node a).acceptor (v.node a).acceptor
  pub sent : (m : Envelope) → In m w.sent → In m v.sent

module _ (w v : StreamWorld) (h : Grows w v) where
  pub leader_log_kept : (e i : ℕ) (log : Log) → InLeaderLog w e i log → InLeaderLog v e i log
  leader_log_kept e i log k =
      let u = h.terms e k.term k.term_is in
      record {
        term = u.0;
        term_is = u.1;
        begins = rw u.2.initial k.begins;
        within = prefix_trans log (log_at k.term i) (log_at u.0 i) k.within (u.2.logs i);
      }

  pub kept_kept : (top top2 i : ℕ) (k : Kept) → top ≤ top2 → KeptOk w top i k → KeptOk v top2 i k
  kept_kept top top2 i k up q = record { below = omega (arith, q.below); has = λ b. leader_log_kept k.ballot i k.log (q.has b); none = q.none }

  pub sent_kept : (from : ℕ) (message : Message) → WasSent w from message → WasSent v from message
  sent_kept from message k = (k.0, h.sent (record { from = from; to = k.0; message = message }) k.1)

  pub used_kept : (e : ℕ) (p : Promise) → Used w e p → Used v e p
  used_kept e p k = record { sent = sent_kept p.node (Promised e p.ballots p.logs) k.sent; lower = k.lower }

  pub message_kept : (from : ℕ) (message : Message) → MessageOk w from message → MessageOk v from message
  message_kept from (Prepare e) k = k
  message_kept from (Promised e ballots logs) k = record {
    kept = omega (arith, k.kept, (h.nodes from).promised);
    each = λ i. kept_kept e e i (shown ballots logs i) (omega arith) (k.each i);
  }
  message_kept from (Sync e s log) k = leader_log_kept e (s - 1) log k
  message_kept from (Accept e s slot batch) k =
      let u = h.terms e k.term k.term_is in
      record {
        term = u.0;
        term_is = u.1;
        there = omega (arith, k.there, prefix_length (log_at k.term (s - 1)) (log_at u.0 (s - 1)) (u.2.logs (s - 1)));
        batch_is = prefix_get [] (log_at k.term (s - 1)) (log_at u.0 (s - 1)) slot (u.2.logs (s - 1)) k.there ∙ k.batch_is;
      }
  message_kept from (Ack e s len) k =
      let q = h.nodes from in
      record {
        born = k.born;
        reach = omega (arith, k.reach, q.ballot (s - 1));
        has = λ b. let same : (kept_at (w.node from).acceptor (s - 1)).ballot ≡ e = omega (arith, k.reach, q.ballot (s - 1)) in omega (arith, k.has same, q.log (s - 1) (b ∙ sym same));
      }

  pub stands_kept : (g : Cluster) (a : ℕ) (c : Candidate) → v.terms c.epoch ≡ None → StandsOk g w a c → StandsOk g v a c
  stands_kept g a c none k = record {
    member = k.member;
    own = k.own;
    born = k.born;
    asked = λ to is. h.sent (record { from = a; to = to; message = Prepare c.epoch }) (k.asked to is);
    kept = omega (arith, k.kept, (h.nodes a).promised);
    unborn = none;
    nodes_is = k.nodes_is;
    need_is = k.need_is;
    once = k.once;
    used = λ p i. used_kept c.epoch p (k.used p i);
  }

  pub acceptor_kept : (g : Cluster) (x : Acceptor) → AcceptorOk g w x → AcceptorOk g v x
  acceptor_kept g x k = record { sized = k.sized; kept = λ i. kept_kept x.promised x.promised i (kept_at x i) (omega arith) (k.kept i) }

  pub term_kept : (g : Cluster) (e : ℕ) (t u : Term) → TermGrows t u → TermOk g w e t → TermOk g v e u
  term_kept g e t u r k = record {
    member = k.member;
    born = k.born;
    own = omega (arith, k.own, (h.nodes (owner_of e g.nodes)).promised);
    promises = k.promises;
    quorum = k.quorum;
    used = λ p i. used_kept e p (k.used p i);
    initial_is = λ i l. rw r.initial (k.initial_is i l);
    sized = r.sized ∙ k.sized;
    begins = λ i. rw r.initial (prefix_trans (initial_at t i) (log_at t i) (log_at u i) (k.begins i) (r.logs i));
  }

pub acceptor_stays : (x : Acceptor) → AcceptorGrows x x
acceptor_stays x = record { promised = omega arith; ballot = λ i. omega arith; log = λ i e. omega arith }

pub term_stays : (t : Term) → TermGrows t t
term_stays t = record { initial = refl; logs = λ i. prefix_self (log_at t i); sized = refl }
