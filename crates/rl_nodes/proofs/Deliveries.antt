-- What is delivered in a world of nodes is delivered in the world of streams that goes with it.
use Rattle.std.proofs.Common.{◌≡◌, ℕ, zero, suc, ◌+◌, ◌≤◌, ◌<◌, List, [], ◌∷◌, length, Bool, true, false, not, ◌==◌, ◌||◌, nat_lt, nat_le, if◌then◌else◌, Option, Some, None, Ok, Err, refl, ap, sym, ◌∙◌, subst, arith, inl, inr, unwrap_or, true≢false}
use Rattle.std.proofs.lemmas.Bool.Decides.{nat_tests}
use Rattle.std.specs.Prelude.{slice_get}
use Rattle.std.specs.List.{list_any, cons_option, flat_map, range_with_len}
use Rattle.std.specs.Option.{option_map_or}
use Rattle.rl_base.specs.declared.limit.LimitName.TheVariants.{Bytes}
use Rattle.rl_base.specs.declared.limit.TheConstants.{BYTES, SLOTS}
use Rattle.rl_base.proofs.Members.{In, in_split, in_map, map_in}
use Rattle.rl_base.proofs.Tests.{both_true, neither}
use Rattle.rl_paxos.specs.declared.refused.Refused.{Refused}
use Rattle.rl_paxos.specs.Acceptors.{kept_ballot, refuses, refuses_accept, synced, accepted}
use Rattle.rl_paxos.specs.Quorums.{is_node}
use Rattle.rl_paxos.specs.Recovery.{Promise, Candidate, with_promise, recovered_logs}
use Rattle.rl_election.specs.World as world
use Rattle.rl_election.specs.World.{Envelope, StreamWorld, is_up}
use Rattle.rl_election.specs.StreamEvents as streams
use Rattle.rl_msg.specs.declared.msg.Msg.{Msg}
use Rattle.rl_msg.specs.declared.msg.Msg.TheVariants as msg
use Rattle.rl_msg.specs.Parts.{head_of}
use Rattle.rl_nodes.specs.declared.node_error.NodeError.TheVariants.{BadMessage, StreamFull, NoEpoch, Memory}
use Rattle.rl_nodes.specs.Answers.{Did, Answer, quiet, sending, to_each, unless_denied}
use Rattle.rl_nodes.specs.BadMessages.{is_bad, is_astray, is_usurped, is_partial, is_wrong, is_untrue, carried, stream_named}
use Rattle.rl_nodes.specs.Events.{reaches, delivers}
use Rattle.rl_nodes.specs.Handles.{promises, acks, knows, sync_to, new_lead, leads, recovers_full, stands_or_leads, takes_promise, known_to, opens, releases, advances, counts_ack, takes_ack, takes, receives}
use Rattle.rl_nodes.specs.Nodes.{Lead, NodeState, Part, Follows, Stands, Leads, leading, len_acknowledged, acknowledged_history, has_opened, marks_are_acknowledged}
use Rattle.rl_nodes.specs.Setups.{Setup, cluster_of, node_numbers, stream_numbers}
use Rattle.rl_nodes.specs.Streams.{envelope_of, envelopes_of, stream_node, HasTerm}
use Rattle.rl_nodes.specs.World.{World, Sent, Line, NoMessage, Ran, node_of, with_line, sent_at, delivered, bytes_sent, after_doing, after_answer}
use Rattle.rl_nodes.proofs.Growing.{messages, changed}
use Rattle.rl_nodes.proofs.InStreams.{after_ack, if_true, taken_of, some_same, nodes_take_as_streams}
use Rattle.rl_nodes.proofs.Tied.{between, AllReach, TiedRun, goes_on, stands_still, in_streams}

-- ---- members ----

index_of : {A : Type 0} (x : A) (xs : List A) → In x xs → (i : ℕ) × (slice_get xs i ≡ Some x)
index_of x [] i = absurd i
index_of x (y ∷ ys) i = elim i [
  | inl e ↦ (0, ap Some (sym e))
  | inr j ↦ (let k = index_of x ys j in (suc k.0, k.1))
]

-- an option that has something
abbrev pub HasSome : {A : Type 0} → Option A → Type 0
HasSome None = ⊥
HasSome (Some x) = Unit {0}

pub got_in : {A : Type 0} (xs : List A) (i : ℕ) (x : A) → slice_get xs i ≡ Some x → In x xs
got_in [] i x e = absurd (subst HasSome (sym e) tt)
got_in (y ∷ ys) zero x e = inl (ap (λ o. unwrap_or o x) (sym e))
got_in (y ∷ ys) (suc i) x e = inr (got_in ys i x e)

in_cons : (n : Envelope) (o : Option Envelope) (rest : List Envelope) → In n rest → In n (cons_option o rest)
in_cons n None rest i = i
in_cons n (Some m) rest i = inr i

pub envelope_in : (ms : List Msg) (m : Msg) (n : Envelope) → In m ms → envelope_of m ≡ Some n → In n (envelopes_of ms)
envelope_in [] m n i e = absurd i
envelope_in (y ∷ ys) m n i e = elim i [
  | inl same ↦ subst (λ o. In n (cons_option o (envelopes_of ys))) (sym (ap envelope_of (sym same) ∙ e)) (inl refl)
  | inr j ↦ in_cons n (envelope_of y) (envelopes_of ys) (envelope_in ys m n j e)
]

pub between_as : (sent : List Sent) → between sent ≡ envelopes_of (messages sent)
between_as [] = refl
between_as (m ∷ ms) = ap (cons_option (envelope_of m.message)) (between_as ms)

le_true : (a b : ℕ) → a ≤ b → nat_le a b ≡ true
le_true a b h = grind (arith, nat_tests)

pub in_range : (a n k : ℕ) → In k (range_with_len a n) → (a ≤ k) × (k < a + n)
in_range a zero k i = absurd i
in_range a (suc n) k i = elim i [
  | inl e ↦ (omega (arith, e), omega (arith, e))
  | inr j ↦ (let r = in_range (a + 1) n k j in (omega (arith, r.0), omega (arith, r.1)))
]

pub in_numbers : (n k : ℕ) → In k (range_with_len 1 n) → is_node n k ≡ true
in_numbers n k i =
    let r = in_range 1 n k i in
    both_true (nat_le 1 k) (nat_le k n) (le_true 1 k r.0) (le_true k n (omega (arith, r.1)))

pub flat_in : {A B : Type 0} (g : A → List B) (xs : List A) (y : B) → In y (flat_map g xs) → (x : A) × In x xs × In y (g x)
flat_in g [] y i = absurd i
flat_in g (x ∷ xs) y i = elim (in_split (g x) (flat_map g xs) y i) [
  | inl j ↦ (x, inl refl, j)
  | inr j ↦ (let f = flat_in g xs y j in (f.0, inr f.1, f.2))
]

-- ---- receivers ----

pub reach_one : (nodes : ℕ) (m : Msg) → is_node nodes (head_of m).to ≡ true → AllReach nodes (m ∷ [])
reach_one nodes m h y i = elim i [ inl e ↦ subst (λ x. is_node nodes (head_of x).to ≡ true) (sym e) h | inr j ↦ absurd j ]

pub reach_none : (nodes : ℕ) → AllReach nodes []
reach_none nodes m i = absurd i

pub reach_each : (setup : Setup) (f : ℕ → Msg) → ((k : ℕ) → (head_of (f k)).to ≡ k) → AllReach setup.nodes (to_each setup f)
reach_each setup f to m i =
    let k = map_in f m (node_numbers setup) i in
    subst (λ x. is_node setup.nodes (head_of x).to ≡ true) k.2
    (subst (λ j. is_node setup.nodes j ≡ true) (sym (to k.0)) (in_numbers setup.nodes k.0 k.1))

-- ---- worlds that differ in nothing of the streams ----

abbrev pub TiedTo : Setup → Ran → Type 0
TiedTo setup (Ok w) = TiedRun setup w
TiedTo setup (Err limit) = Unit {0}

pub with_sent : (setup : Setup) (w : World) (r : TiedRun setup w) (sent : List Sent) → messages sent ≡ messages w.sent
    → TiedRun setup (record w { sent = sent })
with_sent setup w r sent same =
    let t = r.tied in
    let between_same : between sent ≡ between w.sent = between_as sent ∙ ap envelopes_of same ∙ sym (between_as w.sent) in
    record {
      events = r.events;
      tied = record {
        size = t.size;
        node = t.node;
        terms = t.terms;
        term = t.term;
        sent = λ n i. subst (In n) (sym between_same) (t.sent n i);
        back = λ n i. t.back n (subst (In n) between_same i);
        receivers = subst (AllReach setup.nodes) (sym same) t.receivers;
      };
    }

pub with_told : (setup : Setup) (w : World) (r : TiedRun setup w) (line : Line) → TiedRun setup (with_line w line)
with_told setup w r line =
    let t = r.tied in
    record {
      events = r.events;
      tied = record { size = t.size; node = t.node; terms = t.terms; term = t.term; sent = t.sent; back = t.back; receivers = t.receivers };
    }

few_bytes : (setup : Setup) (w : World) (many : Bool) → TiedRun setup w → TiedTo setup (if many then Err Bytes else Ok w)
few_bytes setup w true r = tt
few_bytes setup w false r = r

pub answered : (setup : Setup) (w : World) (r : TiedRun setup w) (a number : ℕ) (answer : Answer)
    → ((did : Did) → answer ≡ Ok did → TiedRun setup (after_doing w a number did)) → TiedTo setup (after_answer w a number answer)
answered setup w r a number (Ok did) does =
    few_bytes setup (after_doing w a number did) (nat_lt BYTES (bytes_sent (after_doing w a number did).sent)) (does did refl)
answered setup w r a number (Err BadMessage) does = r
answered setup w r a number (Err (StreamFull slots)) does = tt
answered setup w r a number (Err (NoEpoch promised)) does = r
answered setup w r a number (Err Memory) does = r

-- ---- what a node sends when it takes a message ----

abbrev pub Reaches : (nodes : ℕ) → Answer → Type 0
Reaches nodes (Ok did) = AllReach nodes did.sends
Reaches nodes (Err e) = Unit {0}

module _ (setup : Setup) (a : ℕ) where
  abbrev Reach : Did → Type 0
  Reach did = AllReach setup.nodes did.sends

  reach_unless : (o : Option Refused) (x : NodeState) (did : Did) → Reach did → Reach (unless_denied o x did)
  reach_unless None x did h = h
  reach_unless (Some refused) x did h = reach_none setup.nodes

  reach_if : (b : Bool) (d e : Did) → Reach d → Reach e → Reach (if b then d else e)
  reach_if true d e p q = p
  reach_if false d e p q = q

  reach_ack : (x : NodeState) (part : Part) (e s from len : ℕ) → Reach (takes_ack setup a x e s from len part)
  reach_ack x Follows e s from len = reach_none setup.nodes
  reach_ack x (Stands c) e s from len = reach_none setup.nodes
  reach_ack x (Leads lead) e s from len =
      let new : Lead = after_ack lead s from len in
      let sends : List Msg = to_each setup (known_to a new s) in
      let each : AllReach setup.nodes sends = reach_each setup (known_to a new s) (λ k. refl) in
      let other : Did = if marks_are_acknowledged new then opens setup x new sends else sending (record x { part = Leads new }) sends in
      reach_if (lead.epoch == e) (counts_ack setup a x lead s from len) (quiet x)
      (reach_if (nat_lt (len_acknowledged (leading lead s)) (len_acknowledged (leading new s))) (advances setup a x lead new s) (quiet (record x { part = Leads new }))
      (reach_if (has_opened new) (releases x (acknowledged_history lead) new sends) other each
      (reach_if (marks_are_acknowledged new) (opens setup x new sends) (sending (record x { part = Leads new }) sends) each each))
      (reach_none setup.nodes))
      (reach_none setup.nodes)

  reach_leads : (x : NodeState) (c : Candidate) → Reach (leads setup a x c)
  reach_leads x c m i =
      let s = flat_in (λ s. to_each setup (sync_to a (new_lead setup c) s)) (stream_numbers setup) m i in
      reach_each setup (sync_to a (new_lead setup c) s.0) (λ k. refl) m s.2

  reach_answer : (b : Bool) (d e : Answer) → Reaches setup.nodes d → Reaches setup.nodes e → Reaches setup.nodes (if b then d else e)
  reach_answer true d e p q = p
  reach_answer false d e p q = q

  reach_promise : (x : NodeState) (part : Part) (e : ℕ) (p : Promise) → Reaches setup.nodes (takes_promise setup a x e p part)
  reach_promise x Follows e p = reach_none setup.nodes
  reach_promise x (Leads lead) e p = reach_none setup.nodes
  reach_promise x (Stands c) e p =
      let more : Candidate = with_promise c p in
      reach_answer (c.epoch == e) (stands_or_leads setup a x more) (Ok (quiet x))
      (reach_answer (nat_lt (length more.promises) more.need) (Ok (quiet (record x { part = Stands more }))) (recovers_full setup more (Ok (leads setup a x more)))
      (reach_none setup.nodes)
      (reach_answer (list_any (λ log. length log == SLOTS) (recovered_logs more.promises setup.workers)) (Err (StreamFull SLOTS)) (Ok (leads setup a x more))
      tt (reach_leads x more)))
      (reach_none setup.nodes)

  pub reach_takes : (x : NodeState) (m : Msg) → is_node setup.nodes (head_of m).from ≡ true → Reaches setup.nodes (takes setup a x m)
  reach_takes x (msg.Prepare from to e) h = reach_unless (refuses x.acceptor e) x (promises a x from e) (reach_one setup.nodes _ h)
  reach_takes x (msg.Promise from to e ballots logs) h = reach_promise x x.part e (record { node = from; ballots = ballots; logs = logs })
  reach_takes x (msg.Sync from to e s log) h = reach_unless (refuses x.acceptor e) x (acks a x from e s (synced x.acceptor e s log)) (reach_one setup.nodes _ h)
  reach_takes x (msg.Accept from to e s slot batch) h =
      reach_unless (refuses_accept x.acceptor e s slot) x (acks a x from e s (accepted x.acceptor s slot batch)) (reach_one setup.nodes _ h)
  reach_takes x (msg.Ack from to e s len) h = reach_ack x x.part e s from len
  reach_takes x (msg.Known from to e s len) h = reach_none setup.nodes

-- ---- a delivery ----

known_same : (b : Bool) (x : NodeState) (known : List ℕ) → stream_node (if b then record x { known = known } else x) ≡ stream_node x
known_same true x known = refl
known_same false x known = refl

known_term : (b : Bool) (sw : StreamWorld) (x : NodeState) (known : List ℕ) → HasTerm sw x.part → HasTerm sw (if b then record x { known = known } else x).part
known_term true sw x known h = h
known_term false sw x known h = h

same_did : (did got : Did) → ◌≡◌ {A = Answer} (Ok did) (Ok got) → did ≡ got
same_did did got e = ap (λ r. got_of r did) e
  where
    got_of : Answer → Did → Did
    got_of (Ok d) other = d
    got_of (Err f) other = other

-- an option that has something, from the other side
abbrev HasNothing : Option Envelope → Type 0
HasNothing None = ⊥
HasNothing (Some n) = Unit {0}

-- a message that is none between streams leaves them
of_known : (setup : Setup) (w : World) (r : TiedRun setup w) (a number : ℕ) → is_node setup.nodes a ≡ true → (m : Msg) → envelope_of m ≡ None
    → (did : Did) → takes setup a (node_of setup w a) m ≡ Ok did → TiedRun setup (after_doing w a number did)
of_known setup w r a number there (msg.Known from to e s len) none did is =
    let x : NodeState = node_of setup w a in
    subst (λ d. TiedRun setup (after_doing w a number d)) (same_did (quiet (knows x e s len)) did is)
    (stands_still setup w r a number there (quiet (knows x e s len))
    (known_same (kept_ballot x.acceptor s == e) x _) (known_term (kept_ballot x.acceptor s == e) (streams.streams_after (cluster_of setup) r.events) x _ (r.tied.term a there))
    (λ n i. absurd i) (reach_none setup.nodes))
of_known setup w r a number there (msg.Prepare from to e) none did is = absurd (subst HasNothing none tt)
of_known setup w r a number there (msg.Promise from to e ballots logs) none did is = absurd (subst HasNothing none tt)
of_known setup w r a number there (msg.Sync from to e s log) none did is = absurd (subst HasNothing none tt)
of_known setup w r a number there (msg.Accept from to e s slot batch) none did is = absurd (subst HasNothing none tt)
of_known setup w r a number there (msg.Ack from to e s len) none did is = absurd (subst HasNothing none tt)

envelope_to : (m : Msg) (n : Envelope) → envelope_of m ≡ Some n → n.to ≡ (head_of m).to
envelope_to (msg.Prepare from to e) n is = ap (λ (k : Envelope). k.to) (sym (some_same _ n is))
envelope_to (msg.Promise from to e ballots logs) n is = ap (λ (k : Envelope). k.to) (sym (some_same _ n is))
envelope_to (msg.Sync from to e s log) n is = ap (λ (k : Envelope). k.to) (sym (some_same _ n is))
envelope_to (msg.Accept from to e s slot batch) n is = ap (λ (k : Envelope). k.to) (sym (some_same _ n is))
envelope_to (msg.Ack from to e s len) n is = ap (λ (k : Envelope). k.to) (sym (some_same _ n is))
envelope_to (msg.Known from to e s len) n is = absurd (subst HasNothing (sym is) tt)

pub not_false : (b : Bool) → not b ≡ false → b ≡ true
not_false true h = refl
not_false false h = absurd (true≢false h)

from_there : (setup : Setup) (a : ℕ) (x : NodeState) (m : Msg) → is_bad setup a x m ≡ false → is_node setup.nodes (head_of m).from ≡ true
from_there setup a x m ok =
    let wrong = list_any (is_wrong setup.program.tables) (carried m) in
    let four = neither (((is_astray setup a m || is_usurped setup m) || is_partial setup m) || wrong) (is_untrue x m) ok in
    let three = neither ((is_astray setup a m || is_usurped setup m) || is_partial setup m) wrong four.0 in
    let two = neither (is_astray setup a m || is_usurped setup m) (is_partial setup m) three.0 in
    let one = neither (is_astray setup a m) (is_usurped setup m) two.0 in
    let both = neither (not ((head_of m).to == a) || not (is_node setup.nodes (head_of m).from)) (option_map_or (λ s. not (is_node setup.workers s)) (stream_named m) false) one.0 in
    not_false (is_node setup.nodes (head_of m).from) (neither (not ((head_of m).to == a)) (not (is_node setup.nodes (head_of m).from)) both.0).1

module _ (setup : Setup) (w : World) (r : TiedRun setup w) (number : ℕ) (m : Msg) (sent : In m (messages w.sent)) where
  abbrev at : ℕ
  at = (head_of m).to

  abbrev here : NodeState
  here = node_of setup w at

  abbrev sw : StreamWorld
  sw = streams.streams_after (cluster_of setup) r.events

  there : is_node setup.nodes at ≡ true
  there = r.tied.receivers m sent

  abbrev receives_at : Envelope → ℕ → StreamWorld
  receives_at n a = if is_up (sw.node a).state then streams.receives (cluster_of setup) sw a n.from n.message else sw

  delivery_is : (n : Envelope) → envelope_of m ≡ Some n → is_up here.state ≡ true → (i : ℕ) → slice_get sw.sent i ≡ Some n
      → streams.after_stream_event (cluster_of setup) sw (streams.Deliver i) ≡ streams.receives (cluster_of setup) sw at n.from n.message
  delivery_is n is up i got =
      ap (streams.delivers (cluster_of setup) sw) got ∙ ap (receives_at n) (envelope_to m n is)
      ∙ if_true (is_up (sw.node at).state) _ sw (ap (λ (k : world.Node). is_up k.state) (r.tied.node at there) ∙ up)

  of_envelope : (n : Envelope) → envelope_of m ≡ Some n → is_up here.state ≡ true → (did : Did) → receives setup at here m ≡ Ok did
      → is_bad setup at here m ≡ false → takes setup at here m ≡ Ok did → TiedRun setup (after_doing w at number did)
  of_envelope n is up did receives_is ok takes_is =
      let k = index_of n sw.sent (r.tied.back n (subst (In n) (sym (between_as w.sent)) (envelope_in (messages w.sent) m n sent is))) in
      goes_on setup w r at number there did (streams.Deliver k.0)
      (delivery_is n is up k.0 k.1
      ∙ nodes_take_as_streams setup (record {
        streams = sw;
        node = at;
        state = here;
        message = m;
        did = did;
        envelope = n;
        is_node = in_streams setup w r at there;
        is_message = is;
        takes = receives_is;
      }))
      (subst (Reaches setup.nodes) takes_is (reach_takes setup at here m (from_there setup at here m ok)))

  pub by_envelope : (o : Option Envelope) → envelope_of m ≡ o → is_up here.state ≡ true → (did : Did) → receives setup at here m ≡ Ok did
      → TiedRun setup (after_doing w at number did)
  by_envelope None is up did receives_is =
      of_known setup w r at number there m is did (taken_of (is_bad setup at here m) (takes setup at here m) did receives_is).1
  by_envelope (Some n) is up did receives_is =
      let parts = taken_of (is_bad setup at here m) (takes setup at here m) did receives_is in
      of_envelope n is up did receives_is parts.0 parts.1

  reached_if : (b : Bool) → is_up here.state ≡ b → TiedTo setup (if b then after_answer w at number (receives setup at here m) else Ok w)
  reached_if true up = answered setup w r at number (receives setup at here m) (by_envelope (envelope_of m) refl up)
  reached_if false up = r

  pub reached : TiedTo setup (reaches setup number m w)
  reached = reached_if (is_up here.state) refl

pub sent_in : (sent : List Sent) (number : ℕ) (m : Sent) → sent_at sent number ≡ Some m → In m.message (messages sent)
sent_in sent zero m e = absurd (subst HasSome (sym e) tt)
sent_in sent (suc i) m e = in_map (λ (m : Sent). m.message) m sent (got_in sent i m e)

pub delivery : (setup : Setup) (w : World) (r : TiedRun setup w) (number : ℕ) → TiedTo setup (delivers setup number w)
delivery setup w r number = by_sent (sent_at w.sent number) refl
  where
    same : messages (delivered w number).sent ≡ messages w.sent
    same = changed (λ m. record m { delivered = true }) (λ m. refl) w.sent number

    by_sent : (o : Option Sent) → sent_at w.sent number ≡ o
        → TiedTo setup (option_map_or (λ (m : Sent). reaches setup number m.message (delivered w number)) o (Ok (with_line w (NoMessage number))))
    by_sent None e = with_told setup w r (NoMessage number)
    by_sent (Some m) e =
        reached setup (delivered w number) (with_sent setup w r (delivered w number).sent same) number m.message
        (subst (In m.message) (sym same) (sent_in w.sent number m e))
