-- What holds of each stream at its leader: what it counts as acknowledged was acked by a second quorum, and what it would send
-- again was sent before.
use Rattle.std.proofs.Common.{◌≡◌, ◌≢◌, ◌⊎◌, ℕ, zero, suc, ◌+◌, ◌-◌, ◌<◌, ◌≤◌, max, List, [], ◌∷◌, ◌++◌, length, map, get_or, set, take, replicate, cond, Bool, true, false, not, ◌&&◌, ◌==◌, nat_le, if◌then◌else◌, Option, Some, None, refl, sym, ap, ◌∙◌, arith, inl, inr, eqb-true, eq-eqb, get_or-set_same, get_or-set_other, length-set, length-append, le-leb}
use Rattle.std.proofs.Math.Seq.{take-suc}
use Rattle.std.proofs.lemmas.Bool.{cases_eq, cases_lt, and_parts, cond_both, or_cases, or_left, or_right, leb-true, lt-leb}
use Rattle.std.proofs.lemmas.List.{length-map, get_or-map, length-replicate}
use Rattle.std.proofs.lemmas.List.Sums.{sum_by-append}
use Rattle.std.specs.Prelude.{slice_get}
use Rattle.rl_base.specs.Epochs.{owner_of}
use Rattle.rl_paxos.specs.declared.refused.Refused.{Refused}
use Rattle.rl_paxos.specs.Acceptors.{refuses, refuses_accept}
use Rattle.rl_paxos.specs.Leaders.{Leading, new_leading, with_ack, proposed, acked_count}
use Rattle.rl_paxos.specs.Logs.{Batch, Log}
use Rattle.rl_paxos.specs.Quorums.{is_node, count, is_quorum}
use Rattle.rl_paxos.specs.Recovery.{Promise, Candidate, with_promise, has_promised, recovered_logs}
use Rattle.rl_paxos.proofs.Counting.{is_node_low, is_node_high}
use Rattle.rl_base.proofs.Members.{In, in_prefix, in_suffix}
use Rattle.rl_election.specs.World.{Cluster, Message, Prepare, Promised, Sync, Accept, Ack, Envelope, Role, Follows, Stands, Leads, Node, Term, StreamWorld, initial_streams, is_up, is_stream, no_stream, stream_of, with_stream, to_all}
use Rattle.rl_base.specs.Lists.{updated}
use Rattle.rl_election.specs.StreamEvents.{StreamEvent, Elect, Deliver, Propose, Crash, Return, Lose, acts, unless_refused, may_stand, initial_logs, syncs, leads, stands_or_leads, receives_promise, counts_ack, receives_ack, receives, delivers, proposes_in, proposes, after_stream_event, after_stream_events, streams_after}
use Rattle.rl_election.specs.Chosen.{acks_at_least, has_acked, is_chosen_len, initial_log}
use Rattle.rl_election.proofs.Agree.{Acked, acked_in}
use Rattle.rl_election.proofs.Inv.{WasSent, RoleOk, Inv}
use Rattle.rl_base.proofs.Prefixes.{prefix_more, prefix_get, get_end}
use Rattle.rl_election.proofs.Stays.{Stays, stays, more_count}
use Rattle.rl_election.proofs.Steps.{event_inv, initial_inv}
use Rattle.rl_base.proofs.UpdateLemmas.{by_updated}
use Rattle.rl_election.proofs.Updates.{index_of, to_all_has, syncs_has, get_in, length-recovered}

-- each length that is counted for a node was acked by it; the initial log, and each batch behind it, was sent to each node
pub record LeadingOk (g : Cluster) (w : StreamWorld) (e s : ℕ) (initial : Log) (x : Leading) : Type 0 where
  pub epoch : x.epoch ≡ e
  pub quorum : x.quorum ≡ g.second_quorum
  pub sized : length x.acked ≡ g.nodes
  pub acks : (b : ℕ) → (get_or x.acked b 0 ≡ 0) ⊎ Acked w e s (get_or x.acked b 0) (suc b)
  pub initial_len : x.initial_len ≡ length initial
  pub sync_sent : (to : ℕ) → is_node g.nodes to ≡ true → In (record { from = owner_of e g.nodes; to = to; message = Sync e s initial }) w.sent
  pub accepts_sent : (slot to : ℕ) → x.initial_len ≤ slot → slot < length x.log → is_node g.nodes to ≡ true → In (record { from = owner_of e g.nodes; to = to; message = Accept e s slot (get_or x.log slot []) }) w.sent

abbrev pub AllLeadingOk : Cluster → StreamWorld → Type 0
AllLeadingOk g w = (e : ℕ) (t : Term) → w.terms e ≡ Some t → (s : ℕ) → is_stream g s ≡ true → LeadingOk g w e s (initial_log t s) (stream_of t s)

-- what was sent or acked stays so
sent_stays : (w v : StreamWorld) → Stays w v → (m : Envelope) → In m w.sent → In m v.sent
sent_stays w v st m i = rw (← st.sent.1) (in_prefix w.sent st.sent.0 m i)

acked_stays : (w v : StreamWorld) → Stays w v → (e s len a : ℕ) → Acked w e s len a → Acked v e s len a
acked_stays w v st e s len a k = record {
  longer = k.longer;
  sent = (k.sent.0, sent_stays w v st _ k.sent.1);
  reaches = k.reaches;
}

leading_stays : (g : Cluster) (w v : StreamWorld) → Stays w v → (e s : ℕ) (initial : Log) (x : Leading) → LeadingOk g w e s initial x → LeadingOk g v e s initial x
leading_stays g w v st e s initial x k = record {
  epoch = k.epoch;
  quorum = k.quorum;
  sized = k.sized;
  acks = λ b. elim (k.acks b) [ inl z ↦ inl z | inr q ↦ inr (acked_stays w v st e s (get_or x.acked b 0) (suc b) q) ];
  initial_len = k.initial_len;
  sync_sent = λ to member. sent_stays w v st _ (k.sync_sent to member);
  accepts_sent = λ slot to low high member. sent_stays w v st _ (k.accepts_sent slot to low high member);
}

get_zero : (n b : ℕ) → ◌≡◌ {A = ℕ} (get_or (replicate n 0) b 0) 0
get_zero zero b = refl
get_zero (suc n) zero = refl
get_zero (suc n) (suc b) = get_zero n b

-- a leader begins with nothing counted
begun : (g : Cluster) (w : StreamWorld) (e s : ℕ) (log : Log) → ((to : ℕ) → is_node g.nodes to ≡ true → In (record { from = owner_of e g.nodes; to = to; message = Sync e s log }) w.sent) → LeadingOk g w e s log (new_leading e g.nodes g.second_quorum log)
begun g w e s log sent = record {
  epoch = refl;
  quorum = refl;
  sized = length-replicate g.nodes 0;
  acks = λ b. inl (get_zero g.nodes b);
  initial_len = refl;
  sync_sent = sent;
  accepts_sent = λ slot to low high member. absurd (omega arith);
}

-- an ack that was sent is counted
counts_one : (g : Cluster) (w : StreamWorld) (e s from len : ℕ) (initial : Log) (x : Leading) → WasSent w from (Ack e s len) → LeadingOk g w e s initial x → LeadingOk g w e s initial (with_ack x from len)
counts_one g w e s from len initial x sent k = cond_both (is_node (length x.acked) from) (record x { acked = set x.acked (from - 1) (max (get_or x.acked (from - 1) 0) len) }) x (λ z. LeadingOk g w e s initial z)
    (λ t. let low : 1 ≤ from = is_node_low (length x.acked) from t in
    let high : from ≤ length x.acked = is_node_high (length x.acked) from t in
    let inside : from - 1 < length x.acked = omega arith in
    let at : suc (from - 1) ≡ from = omega arith in
    let old : ℕ = get_or x.acked (from - 1) 0 in
    let has : Acked w e s len from = record { longer = len; sent = sent; reaches = omega arith } in
    record {
      epoch = k.epoch;
      quorum = k.quorum;
      sized = length-set x.acked (from - 1) (max old len) ∙ k.sized;
      acks = λ b. elim (cases_eq b (from - 1)) [
        | inl q ↦ rw (q, get_or-set_same x.acked (from - 1) (max old len) 0 inside, at) (elim (cases_lt old len) [
          | inl l ↦ (let m : max old len ≡ len = omega arith in rw m (inr has))
          | inr l ↦ (let m : max old len ≡ old = omega arith in let o : (old ≡ 0) ⊎ Acked w e s old from = rw at at (k.acks (from - 1)) in rw m o)
        ])
        | inr m ↦ rw (get_or-set_other x.acked (from - 1) b (max old len) 0 m) (k.acks b)
      ];
      initial_len = k.initial_len;
      sync_sent = k.sync_sent;
      accepts_sent = k.accepts_sent;
    })
    (λ t. k)

module _ (g : Cluster) (w : StreamWorld) (inv : Inv g w) (all : AllLeadingOk g w) where
  from_one : (s : ℕ) → is_stream g s ≡ true → 1 ≤ s
  from_one s h = leb-true 1 s (and_parts (nat_le 1 s) (nat_le s g.streams) h).0

  -- no term changes
  same_terms : (v : StreamWorld) → Stays w v → ((e : ℕ) → v.terms e ≡ w.terms e) → AllLeadingOk g v
  same_terms v st same e t is s there = leading_stays g w v st e s (initial_log t s) (stream_of t s) (all e t (sym (same e) ∙ is) s there)

  -- the term of an epoch is another
  one_term : (v : StreamWorld) → Stays w v → (e : ℕ) (u : Term) → ((f : ℕ) → v.terms f ≡ updated w.terms e (Some u) f) → ((s : ℕ) → is_stream g s ≡ true → LeadingOk g v e s (initial_log u s) (stream_of u s)) → AllLeadingOk g v
  one_term v st e u terms new f t is s there =
      by_updated (λ z. z ≡ Some t → LeadingOk g v f s (initial_log t s) (stream_of t s)) w.terms e (Some u) f
      (λ here q. let same : u ≡ t = (let k : Some u ≡ Some t = q in cc) in rw (here, ← same) (new s there))
      (λ m q. leading_stays g w v st f s (initial_log t s) (stream_of t s) (all f t q s there))
      (sym (terms f) ∙ is)

  -- a stream of the term is another
  one_stream : (v : StreamWorld) → Stays w v → (e r : ℕ) (t : Term) → w.terms e ≡ Some t → is_stream g r ≡ true → (x : Leading) → LeadingOk g v e r (initial_log t r) x → (s : ℕ) → is_stream g s ≡ true → LeadingOk g v e s (initial_log t s) (stream_of (with_stream t r x) s)
  one_stream v st e r t is at x new s there =
      let inside : r - 1 < length t.streams = omega (arith, index_of g r at, (inv.term_ok e t is).sized) in
      elim (cases_eq s r) [
        | inl q ↦ rw (q, get_or-set_same t.streams (r - 1) x no_stream inside) new
        | inr m ↦ (
            let apart : s - 1 ≢ r - 1 = omega (arith, m, from_one s there, from_one r at) in
            rw (get_or-set_other t.streams (r - 1) (s - 1) x no_stream apart) (leading_stays g w v st e s (initial_log t s) (stream_of t s) (all e t is s there)))
      ]

  led : (a : ℕ) (c : Candidate) → owner_of c.epoch g.nodes ≡ a → Stays w (leads g w a c) → AllLeadingOk g (leads g w a c)
  led a c own st = one_term (leads g w a c) st c.epoch _ (λ f. refl) (λ s there.
      let logs : List Log = initial_logs g c in
      let size : length logs ≡ g.streams = length-map (recovered_logs c.promises g.streams) (λ log. log ++ g.open_mark c.epoch ∷ []) ∙ length-recovered c.promises g.streams in
      let is : get_or (map (new_leading c.epoch g.nodes g.second_quorum) logs) (s - 1) no_stream ≡ new_leading c.epoch g.nodes g.second_quorum (get_or logs (s - 1) []) = get_or-map (new_leading c.epoch g.nodes g.second_quorum) logs (s - 1) [] no_stream (omega (arith, index_of g s there, size)) in
      rw is (begun g (leads g w a c) c.epoch s (get_or logs (s - 1) []) (λ to member.
      rw own (in_suffix w.sent (syncs g a c.epoch logs g.streams) _ (syncs_has g a c.epoch logs g.streams s to (from_one s there) (omega (arith, from_one s there, index_of g s there)) member)))))

  by_test : (b : Bool) (u v : StreamWorld) → (Stays w u → AllLeadingOk g u) → (Stays w v → AllLeadingOk g v) → Stays w (if b then u else v) → AllLeadingOk g (if b then u else v)
  by_test true u v f h st = f st
  by_test false u v f h st = h st

  heard : (a e : ℕ) (p : Promise) (r : Role) → RoleOk g w a r → Stays w (receives_promise g w a e p r) → AllLeadingOk g (receives_promise g w a e p r)
  heard a e p Follows ok st = all
  heard a e p (Leads f) ok st = all
  heard a e p (Stands c) k st = by_test (c.epoch == e) (stands_or_leads g w a (with_promise c p)) w
      (λ st2. by_test (nat_le (with_promise c p).need (length (with_promise c p).promises)) (leads g w a (with_promise c p)) (acts w a (record (w.node a) { role = Stands (with_promise c p) }) [])
      (λ st3. led a (with_promise c p) (cond_both (is_node c.nodes p.node && not (has_promised c.promises p.node)) (record c { promises = c.promises ++ p ∷ [] }) c (λ z. owner_of z.epoch g.nodes ≡ a) (λ q. k.own) (λ q. k.own)) st3)
      (λ st3. same_terms (acts w a (record (w.node a) { role = Stands (with_promise c p) }) []) st3 (λ f. refl)) st2)
      (λ st2. all) st

  acked_on : (e s from len : ℕ) → is_stream g s ≡ true → WasSent w from (Ack e s len) → (o : Option Term) → w.terms e ≡ o → Stays w (counts_ack w e s from len o) → AllLeadingOk g (counts_ack w e s from len o)
  acked_on e s from len there sent None is st = all
  acked_on e s from len there sent (Some t) is st =
      let v : StreamWorld = counts_ack w e s from len (Some t) in
      one_term v st e (with_stream t s (with_ack (stream_of t s) from len)) (λ f. refl)
      (one_stream v st e s t is there (with_ack (stream_of t s) from len) (counts_one g v e s from len (initial_log t s) (stream_of t s) sent (leading_stays g w v st e s (initial_log t s) (stream_of t s) (all e t is s there))))

  ack_heard : (e s from len : ℕ) → WasSent w from (Ack e s len) → (r : Role) → Stays w (receives_ack g w e s from len r) → AllLeadingOk g (receives_ack g w e s from len r)
  ack_heard e s from len sent Follows st = all
  ack_heard e s from len sent (Stands c) st = all
  ack_heard e s from len sent (Leads f) st = on ((f == e) && is_stream g s) refl st
    where
      on : (b : Bool) → ((f == e) && is_stream g s) ≡ b → Stays w (if b then counts_ack w e s from len (w.terms e) else w) → AllLeadingOk g (if b then counts_ack w e s from len (w.terms e) else w)
      on true t st2 = acked_on e s from len (and_parts (f == e) (is_stream g s) t).1 sent (w.terms e) refl st2
      on false t st2 = all

  proposed_on : (a e s : ℕ) (batch : Batch) → owner_of e g.nodes ≡ a → is_stream g s ≡ true → (o : Option Term) → w.terms e ≡ o → Stays w (proposes_in g w a e s batch o) → AllLeadingOk g (proposes_in g w a e s batch o)
  proposed_on a e s batch own there None is st = all
  proposed_on a e s batch own there (Some t) is st =
      let v : StreamWorld = proposes_in g w a e s batch (Some t) in
      let log : Log = (stream_of t s).log in
      let old : LeadingOk g v e s (initial_log t s) (stream_of t s) = leading_stays g w v st e s (initial_log t s) (stream_of t s) (all e t is s there) in
      one_term v st e (with_stream t s (proposed (stream_of t s) batch)) (λ f. refl)
      (one_stream v st e s t is there (proposed (stream_of t s) batch) (record {
        epoch = old.epoch;
        quorum = old.quorum;
        sized = old.sized;
        acks = old.acks;
        initial_len = old.initial_len;
        sync_sent = old.sync_sent;
        accepts_sent = λ slot to low high member. elim (cases_eq slot (length log)) [
          | inl q ↦ rw (q, get_end [] log batch, own) (in_suffix w.sent (to_all g.nodes a (Accept e s (length log) batch)) _ (to_all_has g.nodes a to (Accept e s (length log) batch) member))
          | inr m ↦ (
              let less : slot < length log = omega (arith, m, high, length-append log (batch ∷ [])) in
              rw (prefix_get [] log (log ++ batch ∷ []) slot (prefix_more log (batch ∷ [])) less) (old.accepts_sent slot to low less member))
        ];
      }))

  proposal : (a s : ℕ) (batch : Batch) (r : Role) → RoleOk g w a r → Stays w (proposes g w a s batch r) → AllLeadingOk g (proposes g w a s batch r)
  proposal a s batch Follows ok st = all
  proposal a s batch (Stands c) ok st = all
  proposal a s batch (Leads e) own st = on (is_up (w.node a).state && is_stream g s) refl st
    where
      on : (b : Bool) → (is_up (w.node a).state && is_stream g s) ≡ b → Stays w (if b then proposes_in g w a e s batch (w.terms e) else w) → AllLeadingOk g (if b then proposes_in g w a e s batch (w.terms e) else w)
      on true t st2 = proposed_on a e s batch own (and_parts (is_up (w.node a).state) (is_stream g s) t).1 (w.terms e) refl st2
      on false t st2 = all

  unless_leading : (o : Option Refused) (v : StreamWorld) → (Stays w v → AllLeadingOk g v) → Stays w (unless_refused o v w) → AllLeadingOk g (unless_refused o v w)
  unless_leading None v h st = h st
  unless_leading (Some r) v h st = all

  did : (a : ℕ) (x : Node) (ms : List Envelope) → Stays w (acts w a x ms) → AllLeadingOk g (acts w a x ms)
  did a x ms st = same_terms (acts w a x ms) st (λ f. refl)

  received : (a from : ℕ) (message : Message) → WasSent w from message → Stays w (receives g w a from message) → AllLeadingOk g (receives g w a from message)
  received a from (Prepare e) sent st = unless_leading (refuses (w.node a).acceptor e) _ (did a _ _) st
  received a from (Promised e ballots logs) sent st = heard a e (record { node = from; ballots = ballots; logs = logs }) (w.node a).role (inv.role_ok a) st
  received a from (Sync e s log) sent st = by_test (is_stream g s) _ w (unless_leading (refuses (w.node a).acceptor e) _ (did a _ _)) (λ st2. all) st
  received a from (Accept e s slot batch) sent st = by_test (is_stream g s) _ w (unless_leading (refuses_accept (w.node a).acceptor e s slot) _ (did a _ _)) (λ st2. all) st
  received a from (Ack e s len) sent st = ack_heard e s from len sent (w.node a).role st

  deliveries : (o : Option Envelope) → ((m : Envelope) → o ≡ Some m → In m w.sent) → Stays w (delivers g w o) → AllLeadingOk g (delivers g w o)
  deliveries None h st = all
  deliveries (Some m) h st = by_test (is_up (w.node m.to).state) (receives g w m.to m.from m.message) w (received m.to m.from m.message (m.to, h m refl)) (λ st2. all) st

  pub leading : (x : StreamEvent) → Stays w (after_stream_event g w x) → AllLeadingOk g (after_stream_event g w x)
  leading (Elect a e) st = by_test (may_stand g (w.node a) a e) _ w (did a _ _) (λ st2. all) st
  leading (Deliver number) st = deliveries (slice_get w.sent number) (λ m e. get_in w.sent number m e) st
  leading (Propose a s batch) st = proposal a s batch (w.node a).role (inv.role_ok a) st
  leading (Crash a) st = did a _ [] st
  leading (Return a) st = did a _ [] st
  leading (Lose a) st = did a _ [] st

pub events_leading : (g : Cluster) (xs : List StreamEvent) (w : StreamWorld) → Inv g w → AllLeadingOk g w → AllLeadingOk g (after_stream_events g w xs)
events_leading g [] w inv all = all
events_leading g (x ∷ xs) w inv all = events_leading g xs (after_stream_event g w x) (event_inv g w inv x) (leading g w inv all x (stays g w inv x))

pub initial_leading : (g : Cluster) → AllLeadingOk g (initial_streams g)
initial_leading g e t is s there = absurd (let q : None ≡ Some t = is in cc)

-- after any list of events
pub leading_of : (g : Cluster) (events : List StreamEvent) → AllLeadingOk g (streams_after g events)
leading_of g events = events_leading g events (initial_streams g) (initial_inv g) (initial_leading g)

-- ---- a length that a quorum reached was acked by a second quorum ----

-- a sent ack passes the test
acked_passes : (ms : List Envelope) (e s len a : ℕ) (longer to : ℕ) → In (record { from = a; to = to; message = Ack e s longer }) ms → len ≤ longer → has_acked ms e s len a ≡ true
acked_passes [] e s len a longer to i h = absurd i
acked_passes (m ∷ ms) e s len a longer to i h = elim i [
  | inl q ↦ or_left ((m.from == a) && acks_at_least e s len m.message) (has_acked ms e s len a) (rw (← q, eq-eqb a a refl, eq-eqb e e refl, eq-eqb s s refl, le-leb len longer h) refl)
  | inr j ↦ or_right ((m.from == a) && acks_at_least e s len m.message) (has_acked ms e s len a) (acked_passes ms e s len a longer to j h)
]

-- counted along the list, or by number
reached_count : (xs : List ℕ) (f : ℕ → Bool) (len n : ℕ) → n ≤ length xs → ((b : ℕ) → b < n → len ≤ get_or xs b 0 → f (suc b) ≡ true) → acked_count (take n xs) len ≤ count f n
reached_count xs f len zero short each = omega arith
reached_count xs f len (suc n) short each =
    let front : acked_count (take n xs) len ≤ count f n = reached_count xs f len n (omega arith) (λ b l u. each b (omega arith) u) in
    let split : take (suc n) xs ≡ take n xs ++ get_or xs n 0 ∷ [] = take-suc xs n 0 (omega arith) in
    let sum : acked_count (take n xs ++ get_or xs n 0 ∷ []) len ≡ acked_count (take n xs) len + (0 + cond (nat_le len (get_or xs n 0)) 1 0) = sum_by-append (λ a. cond (nat_le len a) 1 0) (take n xs) (get_or xs n 0 ∷ []) in
    elim (cases_lt (get_or xs n 0) len) [
      | inl l ↦ (let z : cond (nat_le len (get_or xs n 0)) 1 0 ≡ (let o : ℕ = 0 in o) = rw (lt-leb len (get_or xs n 0) l) refl in rw split (omega (arith, sum, z, front)))
      | inr l ↦ (let z : cond (nat_le len (get_or xs n 0)) 1 0 ≡ (let o : ℕ = 1 in o) = rw (le-leb len (get_or xs n 0) l) refl in rw (split, each n (omega arith) l) (omega (arith, sum, z, front)))
    ]

take_all : (xs : List ℕ) → take (length xs) xs ≡ xs
take_all [] = refl
take_all (x ∷ xs) = ap (λ z. x ∷ z) (take_all xs)

pub acknowledged_chosen : (g : Cluster) (w : StreamWorld) (e s len : ℕ) (initial : Log) (x : Leading) → LeadingOk g w e s initial x → x.quorum ≤ acked_count x.acked len → is_chosen_len g w e s len ≡ true
acknowledged_chosen g w e s len initial x k has = elim (cases_eq len 0) [
  | inl z ↦ or_left (len == 0) (is_quorum g.second_quorum g.nodes (has_acked w.sent e s len)) (eq-eqb len 0 z)
  | inr m ↦ or_right (len == 0) (is_quorum g.second_quorum g.nodes (has_acked w.sent e s len)) (le-leb g.second_quorum (count (has_acked w.sent e s len) g.nodes) (
      let up : acked_count (take (length x.acked) x.acked) len ≤ count (has_acked w.sent e s len) (length x.acked) = reached_count x.acked (has_acked w.sent e s len) len (length x.acked) (omega arith)
      (λ b l u. elim (k.acks b) [
        | inl z ↦ absurd (omega (arith, z, u, m))
        | inr q ↦ acked_passes w.sent e s len (suc b) q.longer q.sent.0 q.sent.1 (omega (arith, u, q.reaches))
      ]) in
      let up2 : acked_count x.acked len ≤ count (has_acked w.sent e s len) (length x.acked) = rw (take_all x.acked) at up in
      let up3 : acked_count x.acked len ≤ count (has_acked w.sent e s len) g.nodes = rw k.sized at up2 in
      omega (arith, has, up3, k.quorum)))
]

-- a shorter length was acked too
less_acked : (ms : List Envelope) (e s len less a : ℕ) → less ≤ len → has_acked ms e s len a ≡ true → has_acked ms e s less a ≡ true
less_acked ms e s len less a h k = let q = acked_in ms e s len a k in acked_passes ms e s less a q.0 q.1 q.2 (omega (arith, h, q.3))

pub less_chosen : (g : Cluster) (w : StreamWorld) (e s len less : ℕ) → less ≤ len → is_chosen_len g w e s len ≡ true → is_chosen_len g w e s less ≡ true
less_chosen g w e s len less h k = elim (or_cases (len == 0) (is_quorum g.second_quorum g.nodes (has_acked w.sent e s len)) k) [
  | inl t ↦ or_left (less == 0) (is_quorum g.second_quorum g.nodes (has_acked w.sent e s less)) (eq-eqb less 0 (let z : len ≡ 0 = eqb-true len 0 t in omega arith))
  | inr t ↦ or_right (less == 0) (is_quorum g.second_quorum g.nodes (has_acked w.sent e s less)) (le-leb g.second_quorum (count (has_acked w.sent e s less) g.nodes)
      (omega (arith, leb-true g.second_quorum (count (has_acked w.sent e s len) g.nodes) t, more_count (has_acked w.sent e s len) (has_acked w.sent e s less) g.nodes (λ a q. less_acked w.sent e s len less a h q))))
]
