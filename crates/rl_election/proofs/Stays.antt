-- What was said stays said: initial logs stand, and a leader's logs and what was sent only grow.
use Rattle.std.proofs.Common.{◌≡◌, ℕ, zero, suc, ◌+◌, ◌-◌, ◌≤◌, List, [], ◌∷◌, ◌++◌, length, Bool, true, not, ◌&&◌, ◌==◌, nat_le, Option, Some, None, refl, sym, ap, ◌∙◌, arith, inl, inr, append_assoc, append-nil}
use Rattle.std.proofs.lemmas.Bool.{and_parts, or_cases, cond_both, true≢false, or_left, or_right, le-leb, leb-true}
use Rattle.std.specs.Prelude.{slice_get}
use Rattle.rl_base.specs.Lists.{IsPrefix}
use Rattle.rl_paxos.specs.declared.refused.Refused.{Refused}
use Rattle.rl_paxos.specs.Acceptors.{refuses, refuses_accept}
use Rattle.rl_paxos.specs.Leaders.{Leading, with_ack, proposed}
use Rattle.rl_paxos.specs.Logs.{Batch, Log}
use Rattle.rl_paxos.specs.Quorums.{is_node, count, is_quorum}
use Rattle.rl_paxos.specs.Recovery.{Promise, Candidate, with_promise, has_promised}
use Rattle.rl_election.specs.World.{Cluster, Message, Prepare, Promised, Sync, Accept, Ack, Envelope, Role, Follows, Stands, Leads, Node, Term, StreamWorld, initial_streams, is_up, is_stream, stream_of}
use Rattle.rl_election.specs.StreamEvents.{StreamEvent, Elect, Deliver, Propose, Crash, Return, Lose, acts, unless_refused, may_stand, leads, stands_or_leads, receives_promise, counts_ack, receives_ack, receives, delivers, proposes_in, proposes, after_stream_event, after_stream_events, streams_after}
use Rattle.rl_election.specs.Chosen.{acks_at_least, has_acked, is_chosen_len, IsChosen}
use Rattle.rl_election.specs.Laws.{Stretch, before, at_end}
use Rattle.rl_base.proofs.Prefixes.{prefix_self, prefix_trans}
use Rattle.rl_base.proofs.UpdateLemmas.{by_updated}
use Rattle.rl_election.proofs.Inv.{log_at, RoleOk, Inv, TermGrows, term_stays}
use Rattle.rl_election.proofs.Steps.{some_same, some_none, further_terms, event_inv, events_inv, initial_inv}

pub record Stays (w v : StreamWorld) : Type 0 where
  pub terms : (e : ℕ) (t : Term) → w.terms e ≡ Some t → (u : Term) × (v.terms e ≡ Some u) × TermGrows t u
  pub sent : (more : List Envelope) × (w.sent ++ more ≡ v.sent)

pub grows_on : (t u z : Term) → TermGrows t u → TermGrows u z → TermGrows t z
grows_on t u z a b = record { initial = b.initial ∙ a.initial; logs = λ i. prefix_trans (log_at t i) (log_at u i) (log_at z i) (a.logs i) (b.logs i); sized = b.sized ∙ a.sized }

pub still : (w : StreamWorld) → Stays w w
still w = record { terms = λ e t is. (t, is, term_stays t); sent = ([], append-nil w.sent) }

pub stays_on : (w v u : StreamWorld) → Stays w v → Stays v u → Stays w u
stays_on w v u a b = record {
  terms = λ e t is. let x = a.terms e t is in let y = b.terms e x.0 x.1 in (y.0, y.1, grows_on t x.0 y.0 x.2 y.2);
  sent = (a.sent.0 ++ b.sent.0, sym (append_assoc w.sent a.sent.0 b.sent.0) ∙ ap (λ z. z ++ b.sent.0) a.sent.1 ∙ b.sent.1);
}

did : (w : StreamWorld) (a : ℕ) (x : Node) (ms : List Envelope) → Stays w (acts w a x ms)
did w a x ms = record { terms = λ e t is. (t, is, term_stays t); sent = (ms, refl) }

module _ (g : Cluster) (w : StreamWorld) (inv : Inv g w) where
  led : (a : ℕ) (c : Candidate) → w.terms c.epoch ≡ None → Stays w (leads g w a c)
  led a c none = record {
    terms = λ e t is. by_updated (λ z. (u : Term) × (z ≡ Some u) × TermGrows t u) w.terms c.epoch _ e
        (λ q. absurd (some_none t (w.terms c.epoch) (ap w.terms (sym q) ∙ is) none))
        (λ m. (t, is, term_stays t));
    sent = (_, refl);
  }

  heard : (a e : ℕ) (p : Promise) (r : Role) → RoleOk g w a r → Stays w (receives_promise g w a e p r)
  heard a e p Follows ok = still w
  heard a e p (Leads f) ok = still w
  heard a e p (Stands c) k = cond_both (c.epoch == e) (stands_or_leads g w a (with_promise c p)) w (λ z. Stays w z)
      (λ t. let unborn : w.terms (with_promise c p).epoch ≡ None = cond_both (is_node c.nodes p.node && not (has_promised c.promises p.node)) (record c { promises = c.promises ++ p ∷ [] }) c (λ z. w.terms z.epoch ≡ None) (λ q. k.unborn) (λ q. k.unborn) in
      cond_both (nat_le (with_promise c p).need (length (with_promise c p).promises)) (leads g w a (with_promise c p)) (acts w a (record (w.node a) { role = Stands (with_promise c p) }) []) (λ z. Stays w z)
      (λ q. led a (with_promise c p) unborn)
      (λ q. did w a _ []))
      (λ t. still w)

  acked_on : (a e s from len : ℕ) → is_stream g s ≡ true → (o : Option Term) → w.terms e ≡ o → Stays w (counts_ack w e s from len o)
  acked_on a e s from len there None is = still w
  acked_on a e s from len there (Some t) is =
      let y : Leading = with_ack (stream_of t s) from len in
      record {
        terms = further_terms g w inv e s t is there y (cond_both (is_node (length (stream_of t s).acked) from) _ (stream_of t s) (λ z. IsPrefix (stream_of t s).log z.log) (λ q. prefix_self (stream_of t s).log) (λ q. prefix_self (stream_of t s).log));
        sent = ([], append-nil w.sent);
      }

  ack_heard : (a e s from len : ℕ) (r : Role) → Stays w (receives_ack g w e s from len r)
  ack_heard a e s from len Follows = still w
  ack_heard a e s from len (Stands c) = still w
  ack_heard a e s from len (Leads f) = cond_both ((f == e) && is_stream g s) (counts_ack w e s from len (w.terms e)) w (λ z. Stays w z)
      (λ t. acked_on a e s from len (and_parts (f == e) (is_stream g s) t).1 (w.terms e) refl) (λ t. still w)

  proposed_on : (a e s : ℕ) (batch : Batch) → is_stream g s ≡ true → (o : Option Term) → w.terms e ≡ o → Stays w (proposes_in g w a e s batch o)
  proposed_on a e s batch there None is = still w
  proposed_on a e s batch there (Some t) is = record {
    terms = further_terms g w inv e s t is there (proposed (stream_of t s) batch) (batch ∷ [], refl);
    sent = (_, refl);
  }

  proposal : (a s : ℕ) (batch : Batch) (r : Role) → Stays w (proposes g w a s batch r)
  proposal a s batch Follows = still w
  proposal a s batch (Stands c) = still w
  proposal a s batch (Leads e) = cond_both (is_up (w.node a).state && is_stream g s) (proposes_in g w a e s batch (w.terms e)) w (λ z. Stays w z)
      (λ t. proposed_on a e s batch (and_parts (is_up (w.node a).state) (is_stream g s) t).1 (w.terms e) refl) (λ t. still w)

  unless_stays : (o : Option Refused) (v : StreamWorld) → Stays w v → Stays w (unless_refused o v w)
  unless_stays None v h = h
  unless_stays (Some r) v h = still w

  received : (a from : ℕ) (message : Message) → Stays w (receives g w a from message)
  received a from (Prepare e) = unless_stays (refuses (w.node a).acceptor e) _ (did w a _ _)
  received a from (Promised e ballots logs) = heard a e (record { node = from; ballots = ballots; logs = logs }) (w.node a).role (inv.role_ok a)
  received a from (Sync e s log) = cond_both (is_stream g s) _ w (λ z. Stays w z) (λ t. unless_stays (refuses (w.node a).acceptor e) _ (did w a _ _)) (λ t. still w)
  received a from (Accept e s slot batch) = cond_both (is_stream g s) _ w (λ z. Stays w z) (λ t. unless_stays (refuses_accept (w.node a).acceptor e s slot) _ (did w a _ _)) (λ t. still w)
  received a from (Ack e s len) = ack_heard a e s from len (w.node a).role

  deliveries : (o : Option Envelope) → Stays w (delivers g w o)
  deliveries None = still w
  deliveries (Some m) = cond_both (is_up (w.node m.to).state) (receives g w m.to m.from m.message) w (λ z. Stays w z) (λ t. received m.to m.from m.message) (λ t. still w)

  pub stays : (x : StreamEvent) → Stays w (after_stream_event g w x)
  stays (Elect a e) = cond_both (may_stand g (w.node a) a e) _ w (λ z. Stays w z) (λ t. did w a _ _) (λ t. still w)
  stays (Deliver number) = deliveries (slice_get w.sent number)
  stays (Propose a s batch) = proposal a s batch (w.node a).role
  stays (Crash a) = did w a _ []
  stays (Return a) = did w a _ []
  stays (Lose a) = did w a _ []

pub events_stay : (g : Cluster) (xs : List StreamEvent) (w : StreamWorld) → Inv g w → Stays w (after_stream_events g w xs)
events_stay g [] w inv = still w
events_stay g (x ∷ xs) w inv = stays_on w (after_stream_event g w x) (after_stream_events g (after_stream_event g w x) xs) (stays g w inv x) (events_stay g xs (after_stream_event g w x) (event_inv g w inv x))

pub events-append : (g : Cluster) (xs ys : List StreamEvent) (w : StreamWorld) → after_stream_events g w (xs ++ ys) ≡ after_stream_events g (after_stream_events g w xs) ys
events-append g [] ys w = refl
events-append g (x ∷ xs) ys w = events-append g xs ys (after_stream_event g w x)

-- ---- what was acked stays acked ----
more_acked : (ms more : List Envelope) (e s len a : ℕ) → has_acked ms e s len a ≡ true → has_acked (ms ++ more) e s len a ≡ true
more_acked [] more e s len a h = absurd (true≢false (sym h))
more_acked (m ∷ ms) more e s len a h = elim (or_cases ((m.from == a) && acks_at_least e s len m.message) (has_acked ms e s len a) h) [
  | inl t ↦ or_left ((m.from == a) && acks_at_least e s len m.message) (has_acked (ms ++ more) e s len a) t
  | inr t ↦ or_right ((m.from == a) && acks_at_least e s len m.message) (has_acked (ms ++ more) e s len a) (more_acked ms more e s len a t)
]

pub more_count : (f h : ℕ → Bool) (n : ℕ) → ((a : ℕ) → f a ≡ true → h a ≡ true) → count f n ≤ count h n
more_count f h zero up = omega arith
more_count f h (suc n) up = cond_both (f (suc n)) 1 0 (λ z. z + count f n ≤ count h (suc n))
    (λ t. rw (up (suc n) t) (omega (arith, more_count f h n up)))
    (λ t. let k = more_count f h n up in omega arith)

pub chosen_on : (g : Cluster) (w v : StreamWorld) (e s len : ℕ) → Stays w v → is_chosen_len g w e s len ≡ true → is_chosen_len g v e s len ≡ true
chosen_on g w v e s len st h = elim (or_cases (len == 0) (is_quorum g.second_quorum g.nodes (has_acked w.sent e s len)) h) [
  | inl t ↦ or_left (len == 0) (is_quorum g.second_quorum g.nodes (has_acked v.sent e s len)) t
  | inr t ↦ or_right (len == 0) (is_quorum g.second_quorum g.nodes (has_acked v.sent e s len))
      (le-leb g.second_quorum (count (has_acked v.sent e s len) g.nodes)
      (omega (arith, leb-true g.second_quorum (count (has_acked w.sent e s len) g.nodes) t, more_count (has_acked w.sent e s len) (has_acked v.sent e s len) g.nodes (λ a k. rw (← st.sent.1) (more_acked w.sent st.sent.0 e s len a k)))))
]

-- what is chosen at an epoch only grows
pub chosen_grows : (g : Cluster) (w v : StreamWorld) (e s : ℕ) (chosen now : Log) → Stays w v → IsChosen g w e s chosen → IsChosen g v e s now → IsPrefix chosen now
chosen_grows g w v e s chosen now st k h =
    let u = st.terms e k.is_log.term k.is_log.term_is in
    let within : IsPrefix chosen (log_at k.is_log.term (s - 1)) = rw (← k.is_log.log_is) at k.within in
    let longer : IsPrefix chosen (log_at u.0 (s - 1)) = prefix_trans chosen (log_at k.is_log.term (s - 1)) (log_at u.0 (s - 1)) within (u.2.logs (s - 1)) in
    let one : u.0 ≡ h.is_log.term = some_same u.0 h.is_log.term (v.terms e) u.1 h.is_log.term_is in
    let there : IsPrefix chosen (log_at h.is_log.term (s - 1)) = rw one at longer in
    let there2 : IsPrefix chosen h.log = rw h.is_log.log_is at there in
    h.longest chosen there2 (chosen_on g w v e s (length chosen) st k.acked)

-- ---- after any list of events ----

pub inv_of : (g : Cluster) (events : List StreamEvent) → Inv g (streams_after g events)
inv_of g events = events_inv g events (initial_streams g) (initial_inv g)

-- what was said before further events is said after them
pub stretch_stays : (run : Stretch) → Stays (before run) (at_end run)
stretch_stays run = rw (events-append run.cluster run.events run.more (initial_streams run.cluster)) (events_stay run.cluster run.more (before run) (inv_of run.cluster run.events))
