-- A world of nodes and the world of streams that goes with it.
use Rattle.std.proofs.Common.{◌≡◌, ◌≢◌, ◌⊎◌, ℕ, ◌-◌, ◌≤◌, ◌<◌, List, [], ◌∷◌, ◌++◌, length, map, true, Some, refl, ap, sym, ◌∙◌, subst, arith, inl, inr}
use Rattle.std.proofs.lemmas.List.{map-append, length-set, get_or-set_same, get_or-set_other}
use Rattle.std.proofs.lemmas.List.Elements.{filter_map-append}
use Rattle.std.specs.Prelude.{filter_map}
use Rattle.std.specs.List.{cons_option}
use Rattle.rl_base.specs.Epochs.{owner_of}
use Rattle.rl_base.proofs.Members.{In, in_prefix, in_suffix, in_split}
use Rattle.rl_base.proofs.UpdateLemmas.{by_updated, updated_same}
use Rattle.rl_paxos.specs.Quorums.{is_node}
use Rattle.rl_election.specs.World as world
use Rattle.rl_election.specs.World.{StreamWorld, Envelope, initial_streams}
use Rattle.rl_election.specs.StreamEvents.{StreamEvent, after_stream_event, streams_after}
use Rattle.rl_election.proofs.Inv.{Inv, RoleOk}
use Rattle.rl_election.proofs.Stays.{inv_of, events-append}
use Rattle.rl_msg.specs.declared.msg.Msg.{Msg}
use Rattle.rl_msg.specs.Parts.{head_of}
use Rattle.rl_nodes.proofs.Growing.{messages}
use Rattle.rl_nodes.specs.Answers.{Did}
use Rattle.rl_nodes.specs.Nodes.{NodeState, Part, Follows, Stands, Leads, new_node}
use Rattle.rl_nodes.specs.Setups.{Setup, cluster_of}
use Rattle.rl_nodes.specs.Streams.{envelope_of, envelopes_of, stream_role, stream_node, streams_after_doing, HasTerm, IsInStreams}
use Rattle.rl_nodes.specs.World.{World, Sent, node_of, new_sent, term_of, terms_after, after_doing}
use Rattle.rl_nodes.proofs.ChangesInStreams.{by_node}
use Rattle.rl_nodes.proofs.InStreams.{same_terms}

-- what was sent between streams
abbrev pub between : List Sent → List Envelope
between sent = filter_map (λ (m : Sent). envelope_of m.message) sent

new_between : (ms : List Msg) → between (map new_sent ms) ≡ envelopes_of ms
new_between [] = refl
new_between (m ∷ ms) = ap (cons_option (envelope_of m)) (new_between ms)

between_more : (sent : List Sent) (ms : List Msg) → between (sent ++ map new_sent ms) ≡ between sent ++ envelopes_of ms
between_more sent ms =
    filter_map-append (λ (m : Sent). envelope_of m.message) sent (map new_sent ms) ∙ ap (λ es. between sent ++ es) (new_between ms)

-- each message has a receiver that is there
abbrev pub AllReach : (nodes : ℕ) → List Msg → Type 0
AllReach nodes ms = (m : Msg) → In m ms → is_node nodes (head_of m).to ≡ true

sends_reach : (nodes : ℕ) (sent : List Sent) (ms : List Msg) → AllReach nodes (messages sent) → AllReach nodes ms
    → AllReach nodes (messages (sent ++ map new_sent ms))
sends_reach nodes sent ms p q m i = elim (in_split (messages sent) ms m (subst (In m) (messages_more sent ms) i)) [ inl j ↦ p m j | inr j ↦ q m j ]
  where
    same_messages : (ms : List Msg) → messages (map new_sent ms) ≡ ms
    same_messages [] = refl
    same_messages (m ∷ ms) = ap (λ xs. m ∷ xs) (same_messages ms)

    messages_more : (sent : List Sent) (ms : List Msg) → messages (sent ++ map new_sent ms) ≡ messages sent ++ ms
    messages_more sent ms = map-append (λ (m : Sent). m.message) sent (map new_sent ms) ∙ ap (λ xs. messages sent ++ xs) (same_messages ms)

-- node by node the same, the same terms, and the same messages
pub record Tied (setup : Setup) (w : World) (sw : StreamWorld) : Type 0 where
  pub size : length w.nodes ≡ setup.nodes
  pub node : (a : ℕ) → is_node setup.nodes a ≡ true → sw.node a ≡ stream_node (node_of setup w a)
  pub terms : sw.terms ≡ w.terms
  pub term : (a : ℕ) → is_node setup.nodes a ≡ true → HasTerm sw (node_of setup w a).part
  pub sent : (n : Envelope) → In n sw.sent → In n (between w.sent)
  pub back : (n : Envelope) → In n (between w.sent) → In n sw.sent
  -- each message has a receiver that is there
  pub receivers : AllReach setup.nodes (messages w.sent)

-- ---- one node more or less ----

less_one : (a nodes size : ℕ) → 1 ≤ a → a ≤ nodes → size ≡ nodes → a - 1 < size
less_one a nodes size low high e = omega arith

pub other_place : (a b : ℕ) → 1 ≤ a → 1 ≤ b → b - 1 ≡ a - 1 → b ≡ a
other_place a b p q e = omega arith

module _ (setup : Setup) (w : World) (sw : StreamWorld) (t : Tied setup w sw) (a number : ℕ) (there : is_node setup.nodes a ≡ true) (did : Did) where
  abbrev later : World
  later = after_doing w a number did

  node_here : node_of setup later a ≡ did.node
  node_here =
      let range = by_node setup.nodes a there in
      get_or-set_same w.nodes (a - 1) did.node (new_node setup) (less_one a setup.nodes (length w.nodes) range.0 range.1 t.size)

  node_there : (b : ℕ) → is_node setup.nodes b ≡ true → b ≢ a → node_of setup later b ≡ node_of setup w b
  node_there b in_range other =
      let range = by_node setup.nodes a there in
      get_or-set_other w.nodes (a - 1) (b - 1) did.node (new_node setup)
      (λ e. other (other_place a b range.0 (by_node setup.nodes b in_range).0 e))

  -- what holds of every node
  pub by_place : (P : ℕ → NodeState → Type 0) → P a did.node
      → ((b : ℕ) → is_node setup.nodes b ≡ true → b ≢ a → P b (node_of setup w b))
      → (b : ℕ) → is_node setup.nodes b ≡ true → P b (node_of setup later b)
  by_place P here others b in_range = by_updated {A = ℕ} (λ y. P b (node_of setup later b)) (λ j. 0) a 0 b
      (λ same. subst (λ c. P c (node_of setup later c)) (sym same) (subst (P a) (sym node_here) here))
      (λ other. subst (P b) (sym (node_there b in_range other)) (others b in_range other))

  sent_more : (n : Envelope) → In n (between w.sent) ⊎ In n (envelopes_of did.sends) → In n (between later.sent)
  sent_more n i = subst (In n) (sym (between_more w.sent did.sends)) (elim i [
    | inl j ↦ in_prefix (between w.sent) (envelopes_of did.sends) n j
    | inr j ↦ in_suffix (between w.sent) (envelopes_of did.sends) n j
  ])

  sent_back : (n : Envelope) → In n (between later.sent) → In n (between w.sent) ⊎ In n (envelopes_of did.sends)
  sent_back n i = in_split (between w.sent) (envelopes_of did.sends) n (subst (In n) (between_more w.sent did.sends) i)

  size_same : length later.nodes ≡ setup.nodes
  size_same = length-set w.nodes (a - 1) did.node ∙ t.size

  -- a node that changes nothing of the streams
  pub still : stream_node did.node ≡ stream_node (node_of setup w a) → HasTerm sw did.node.part
      → ((n : Envelope) → In n (envelopes_of did.sends) → In n sw.sent) → AllReach setup.nodes did.sends → Tied setup later sw
  still same term known reach = record {
    receivers = sends_reach setup.nodes w.sent did.sends t.receivers reach;
    size = size_same;
    node = by_place (λ b x. sw.node b ≡ stream_node x) (t.node a there ∙ sym same) (λ b in_range other. t.node b in_range);
    terms = sym (same_terms sw did.node.part term) ∙ ap (λ terms. terms_after terms did.node.part) t.terms;
    term = by_place (λ b x. HasTerm sw x.part) term (λ b in_range other. t.term b in_range);
    sent = λ n i. sent_more n (inl (t.sent n i));
    back = λ n i. elim (sent_back n i) [ inl j ↦ t.back n j | inr j ↦ known n j ];
  }

-- ---- one node and the streams ----

-- a leader's epoch is its node's
abbrev pub Owns : (nodes a : ℕ) → Part → Type 0
Owns nodes a (Leads lead) = owner_of lead.epoch nodes ≡ a
Owns nodes a other = Unit {0}

role_owns : (g : world.Cluster) (sw : StreamWorld) (a : ℕ) (part : Part) → RoleOk g sw a (stream_role part) → Owns g.nodes a part
role_owns g sw a Follows ok = tt
role_owns g sw a (Stands c) ok = tt
role_owns g sw a (Leads lead) ok = ok

pub owns : (g : world.Cluster) (sw : StreamWorld) → Inv g sw → (a : ℕ) (x : NodeState) → sw.node a ≡ stream_node x → Owns g.nodes a x.part
owns g sw inv a x e = role_owns g sw a x.part (subst (λ (n : world.Node). RoleOk g sw a n.role) e (inv.role_ok a))

-- the term of a node that has led is what it has
own_term : (sw : StreamWorld) (node : ℕ → world.Node) (sent : List Envelope) (part : Part)
    → HasTerm (record { node = node; terms = terms_after sw.terms part; sent = sent }) part
own_term sw node sent Follows = tt
own_term sw node sent (Stands c) = tt
own_term sw node sent (Leads lead) = updated_same sw.terms lead.epoch (Some (term_of lead))

-- and that of another node stays
other_term : (nodes a b : ℕ) → b ≢ a → (sw : StreamWorld) (node : ℕ → world.Node) (sent : List Envelope) (part other : Part)
    → Owns nodes a part → Owns nodes b other → HasTerm sw other
    → HasTerm (record { node = node; terms = terms_after sw.terms part; sent = sent }) other
other_term nodes a b apart sw node sent part Follows p q h = tt
other_term nodes a b apart sw node sent part (Stands c) p q h = tt
other_term nodes a b apart sw node sent Follows (Leads lead) p q h = h
other_term nodes a b apart sw node sent (Stands c) (Leads lead) p q h = h
other_term nodes a b apart sw node sent (Leads own) (Leads lead) p q h =
    by_updated (λ y. y ≡ Some (term_of lead)) sw.terms own.epoch (Some (term_of own)) lead.epoch
    (λ same. absurd (apart (sym q ∙ ap (λ e. owner_of e nodes) same ∙ p))) (λ other. h)

module _ (setup : Setup) (w : World) (sw : StreamWorld) (t : Tied setup w sw) (a number : ℕ) (there : is_node setup.nodes a ≡ true) (did : Did)
    (inv : Inv (cluster_of setup) (streams_after_doing sw a did)) where
  abbrev now : StreamWorld
  now = streams_after_doing sw a did

  node_now : (b : ℕ) → is_node setup.nodes b ≡ true → now.node b ≡ stream_node (node_of setup (after_doing w a number did) b)
  node_now b in_range =
      by_updated (λ y. y ≡ stream_node (node_of setup (after_doing w a number did) b)) sw.node a (stream_node did.node) b
      (λ same. ap stream_node (sym (ap (node_of setup (after_doing w a number did)) same ∙ node_here setup w sw t a number there did)))
      (λ other. t.node b in_range ∙ ap stream_node (sym (node_there setup w sw t a number there did b in_range other)))

  -- a node that changes as the streams do
  pub moved : AllReach setup.nodes did.sends → Tied setup (after_doing w a number did) now
  moved reach = record {
    receivers = sends_reach setup.nodes w.sent did.sends t.receivers reach;
    size = size_same setup w sw t a number there did;
    node = node_now;
    terms = ap (λ terms. terms_after terms did.node.part) t.terms;
    term = by_place setup w sw t a number there did (λ b x. HasTerm now x.part) (own_term sw now.node now.sent did.node.part)
        (λ b in_range other. other_term setup.nodes a b other sw now.node now.sent did.node.part (node_of setup w b).part
        (owns (cluster_of setup) now inv a did.node (updated_same sw.node a (stream_node did.node)))
        (owns (cluster_of setup) now inv b (node_of setup w b)
        (by_updated (λ y. y ≡ stream_node (node_of setup w b)) sw.node a (stream_node did.node) b (λ same. absurd (other same)) (λ apart. t.node b in_range)))
        (t.term b in_range));
    sent = λ n i. sent_more setup w sw t a number there did n (elim (in_split sw.sent (envelopes_of did.sends) n i) [ inl j ↦ inl (t.sent n j) | inr j ↦ inr j ]);
    back = λ n i. elim (sent_back setup w sw t a number there did n i) [
      | inl j ↦ in_prefix sw.sent (envelopes_of did.sends) n (t.back n j)
      | inr j ↦ in_suffix sw.sent (envelopes_of did.sends) n j
    ];
  }

-- ---- runs ----

-- some events make a world of streams that goes with a world of nodes
pub record TiedRun (setup : Setup) (w : World) : Type 0 where
  pub events : List StreamEvent
  pub tied : Tied setup w (streams_after (cluster_of setup) events)

one_more : (setup : Setup) (events : List StreamEvent) (e : StreamEvent)
    → streams_after (cluster_of setup) (events ++ e ∷ []) ≡ after_stream_event (cluster_of setup) (streams_after (cluster_of setup) events) e
one_more setup events e = events-append (cluster_of setup) events (e ∷ []) (initial_streams (cluster_of setup))

-- a node did what the streams do at an event
pub goes_on : (setup : Setup) (w : World) (r : TiedRun setup w) (a number : ℕ) → is_node setup.nodes a ≡ true → (did : Did) (e : StreamEvent)
    → after_stream_event (cluster_of setup) (streams_after (cluster_of setup) r.events) e ≡ streams_after_doing (streams_after (cluster_of setup) r.events) a did
    → AllReach setup.nodes did.sends → TiedRun setup (after_doing w a number did)
goes_on setup w r a number there did e same reach =
    let q = one_more setup r.events e ∙ same in
    record {
      events = r.events ++ e ∷ [];
      tied = subst (Tied setup (after_doing w a number did)) (sym q)
          (moved setup w (streams_after (cluster_of setup) r.events) r.tied a number there did
          (subst (Inv (cluster_of setup)) q (inv_of (cluster_of setup) (r.events ++ e ∷ []))) reach);
    }

-- a node did nothing of the streams
pub stands_still : (setup : Setup) (w : World) (r : TiedRun setup w) (a number : ℕ) → is_node setup.nodes a ≡ true → (did : Did)
    → stream_node did.node ≡ stream_node (node_of setup w a) → HasTerm (streams_after (cluster_of setup) r.events) did.node.part
    → ((n : Envelope) → In n (envelopes_of did.sends) → In n (streams_after (cluster_of setup) r.events).sent)
    → AllReach setup.nodes did.sends → TiedRun setup (after_doing w a number did)
stands_still setup w r a number there did same term known reach = record {
  events = r.events;
  tied = still setup w (streams_after (cluster_of setup) r.events) r.tied a number there did same term known reach;
}

-- a node of a world is one of the streams
pub in_streams : (setup : Setup) (w : World) (r : TiedRun setup w) (a : ℕ) → is_node setup.nodes a ≡ true
    → IsInStreams (streams_after (cluster_of setup) r.events) a (node_of setup w a)
in_streams setup w r a there = record { node = r.tied.node a there; term = r.tied.term a there }
