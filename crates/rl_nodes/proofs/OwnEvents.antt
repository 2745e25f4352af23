-- What a node does by itself in a world of nodes, it does in the world of streams that goes with it.
use Rattle.std.proofs.Common.{◌≡◌, ℕ, zero, suc, ◌+◌, ◌-◌, ◌*◌, ◌^◌, ◌≤◌, ◌<◌, List, [], ◌∷◌, length, map, filter, take, Bool, true, false, ◌==◌, nat_lt, not, if◌then◌else◌, Option, Some, None, Ok, Err, refl, ap, sym, ◌∙◌, subst, arith, inl, inr}
use mathlib.Core.Bool.{false≢true}
use Rattle.std.proofs.lemmas.Bool.Decides.{nat_tests}
use Rattle.std.proofs.lemmas.List.{length-take}
use Rattle.std.specs.Prelude.{slice_index_or}
use Rattle.std.specs.List.{cons_option, flat_map, range_with_len}
use Rattle.std.specs.Option.{option_map_or}
use Rattle.rl_base.specs.Epochs.{owner_of, next_epoch_of}
use Rattle.rl_base.specs.Results.{◌>>=◌}
use Rattle.rl_base.specs.declared.limit.TheConstants.{SLOTS}
use Rattle.rl_base.proofs.Members.{In, in_split, in_filter, map_in}
use Rattle.rl_txn.specs.declared.batch.Batch.{Batch}
use Rattle.rl_txn.specs.declared.batch.Batch.TheVariants.{Items}
use Rattle.rl_nodes.specs.Batches.{END_SEQ, idle_mark}
use Rattle.rl_txn.specs.declared.item.Item.{Item}
use Rattle.rl_batch.specs.Encoding.{batch_bytes}
use Rattle.rl_paxos.specs.Leaders.{Leading, proposed, acked_len}
use Rattle.rl_paxos.specs.Recovery.{Candidate, has_promised}
use Rattle.rl_election.proofs.Inv.{StandsOk, RoleOk}
use Rattle.rl_election.proofs.Stays.{inv_of}
use Rattle.rl_paxos.specs.Logs.{Log}
use Rattle.rl_paxos.specs.Quorums.{is_node}
use Rattle.rl_election.specs.World as world
use Rattle.rl_election.specs.World.{StreamWorld, Envelope, State, Up, Down, Lost, is_up}
use Rattle.rl_election.specs.StreamEvents as streams
use Rattle.rl_election.proofs.Leaders.{LeadingOk, leading_of}
use Rattle.rl_msg.specs.declared.msg.Msg.{Msg}
use Rattle.rl_msg.specs.declared.msg.Msg.TheVariants as msg
use Rattle.rl_worker.specs.Acts.{Core, CoreRefusal, Step, Idle, turn, is_done, phase_of}
use Rattle.rl_nodes.specs.declared.node_error.NodeError.TheVariants.{StreamFull, NoEpoch}
use Rattle.rl_nodes.specs.Answers.{Did, Answer, quiet, sending, to_each}
use Rattle.rl_nodes.specs.Elections.{sends_again, asks_again, resends, resends_to, accepts_from, knowns, ticks, stands, elects, crashed, returned, lost}
use Rattle.rl_nodes.specs.Events.{is_down, does_where}
use Rattle.rl_nodes.specs.Laws.{Placed}
use Rattle.rl_nodes.specs.Nodes.{Lead, NodeState, Part, Follows, Stands, Leads, leading, len_acknowledged, with_leading, initial_log_of, with_pending, pending_of}
use Rattle.rl_nodes.specs.Setups.{Setup, cluster_of, node_numbers, stream_numbers}
use Rattle.rl_nodes.specs.Streams.{envelope_of, envelopes_of, stream_role, stream_node, HasTerm, HasBegun}
use Rattle.rl_nodes.specs.Views.{plays}
use Rattle.rl_worker.specs.OneTurn.{newly_refused}
use Rattle.rl_nodes.specs.Works.{may_idle, proposes, proposes_items, proposes_full, stepped, steps_core, idles_core, if_open, steps, flushes, idles}
use Rattle.rl_nodes.specs.World.{World, node_of, term_of, after_doing, after_answer}
use Rattle.rl_nodes.proofs.ChangesInStreams.{nodes_change_as_streams, leaders_propose_as_streams}
use Rattle.rl_nodes.proofs.Deliveries.{TiedTo, Reaches, HasSome, answered, in_range, in_numbers, flat_in, reach_each, reach_none}
use Rattle.rl_nodes.proofs.InStreams.{some_same}
use Rattle.rl_nodes.specs.Handles.{sync_to, known_to}
use Rattle.rl_msg.specs.Parts.{head_of}
use Rattle.rl_nodes.proofs.Tied.{Owns, owns, TiedRun, goes_on, stands_still, in_streams}

-- the initial logs of a leader's term
pub first_of : (xs : List Leading) (i : ℕ) → slice_index_or (map initial_log_of xs) i [] ≡ initial_log_of (slice_index_or xs i world.no_stream)
first_of [] i = refl
first_of (x ∷ xs) zero = refl
first_of (x ∷ xs) (suc i) = first_of xs i

long_enough : (n : ℕ) (log : Log) → n ≡ length (take n log) → n ≤ length log
long_enough n log e = let m = length-take n log in omega (arith, e, m)

above : (from initial i : ℕ) → nat_lt from initial ≡ false → from ≤ i → initial ≤ i
above from initial i h low = let k : initial ≤ from = at_least from initial h in omega (arith, k, low)
  where
    at_least : (a b : ℕ) → nat_lt a b ≡ false → b ≤ a
    at_least a b h = grind (arith, nat_tests)

below : (from len i : ℕ) → from ≤ i → i < from + (len - from) → i < len
below from len i low high = omega (arith, low, high)

-- an envelope of some messages is one's
abbrev OneOf : List Msg → Envelope → Type 0
OneOf ms n = (m : Msg) × In m ms × (envelope_of m ≡ Some n)

first_or_later : (y : Msg) (ys : List Msg) (n : Envelope) → (In n (envelopes_of ys) → OneOf ys n) → (o : Option Envelope) → envelope_of y ≡ o
    → In n (cons_option o (envelopes_of ys)) → OneOf (y ∷ ys) n
first_or_later y ys n later None is j = let k = later j in (k.0, inr k.1, k.2)
first_or_later y ys n later (Some k) is j = elim j [
  | inl e ↦ (y, inl refl, is ∙ ap Some (sym e))
  | inr l ↦ (let b = later l in (b.0, inr b.1, b.2))
]

envelope_back : (ms : List Msg) (n : Envelope) → In n (envelopes_of ms) → OneOf ms n
envelope_back [] n i = absurd i
envelope_back (y ∷ ys) n i = first_or_later y ys n (λ j. envelope_back ys n j) (envelope_of y) refl i

-- a node that is up
up_state : (s : State) → is_up s ≡ true → s ≡ Up
up_state Up h = refl
up_state Down h = absurd (false≢true h)
up_state Lost h = absurd (false≢true h)

down_state : (s : State) → is_down s ≡ true → s ≡ Down
down_state Down h = refl
down_state Up h = absurd (false≢true h)
down_state Lost h = absurd (false≢true h)

module _ (setup : Setup) (w : World) (r : TiedRun setup w) (a : ℕ) (there : is_node setup.nodes a ≡ true) where
  abbrev here : NodeState
  here = node_of setup w a

  abbrev sw : StreamWorld
  sw = streams.streams_after (cluster_of setup) r.events

  -- an answer after which worlds of nodes and of streams go with each other
  abbrev pub Good : Answer → Type 0
  Good (Ok did) = TiedRun setup (after_doing w a 0 did)
  Good (Err e) = Unit {0}

  good_did : (answer : Answer) → Good answer → (did : Did) → answer ≡ Ok did → TiedRun setup (after_doing w a 0 did)
  good_did answer h did is = subst Good is h

  good_if : (b : Bool) (d e : Answer) → Good d → Good e → Good (if b then d else e)
  good_if true d e p q = p
  good_if false d e p q = q

  where_if : (b : Bool) (answer : Answer) → (b ≡ true → Good answer) → TiedTo setup (if b then after_answer w a 0 answer else Ok w)
  where_if true answer h = answered setup w r a 0 answer (good_did answer (h refl))
  where_if false answer h = r

  pub at_node : (test : State → Bool) (does : NodeState → Answer) → (test here.state ≡ true → Good (does here)) → TiedTo setup (does_where test setup a does w)
  at_node test does h = where_if (test here.state) (does here) h

  abbrev placed : Placed setup
  placed = record { streams = sw; node = a; state = here; in_setup = there; in_streams = in_streams setup w r a there }

  -- ---- elections, crashes, returns and plays ----

  nothing : Good (Ok (quiet here))
  nothing = stands_still setup w r a 0 there (quiet here) refl (r.tied.term a there) (λ n i. absurd i) (reach_none setup.nodes)

  reach_elects : Reaches setup.nodes (elects setup a here)
  reach_elects = reach_if (nat_lt (next_epoch_of here.acceptor.promised a setup.nodes) 1048576)
    where
      reach_if : (b : Bool) → Reaches setup.nodes (if b then Ok (stands setup a here (next_epoch_of here.acceptor.promised a setup.nodes)) else Err (NoEpoch here.acceptor.promised))
      reach_if true = reach_each setup (λ to. msg.Prepare a to (next_epoch_of here.acceptor.promised a setup.nodes)) (λ k. refl)
      reach_if false = tt

  pub elected : is_up here.state ≡ true → Good (elects setup a here)
  elected up = by_answer (elects setup a here) refl
    where
      by_answer : (answer : Answer) → elects setup a here ≡ answer → Good answer
      by_answer (Ok did) is = goes_on setup w r a 0 there did (streams.Elect a (next_epoch_of here.acceptor.promised a setup.nodes))
          (nodes_change_as_streams.elects setup placed did (up_state here.state up) is) (subst (Reaches setup.nodes) is reach_elects)
      by_answer (Err e) is = tt

  pub crashes : is_up here.state ≡ true → Good (Ok (quiet (crashed setup here)))
  crashes up = goes_on setup w r a 0 there (quiet (crashed setup here)) (streams.Crash a) (nodes_change_as_streams.crashes setup placed (up_state here.state up)) (reach_none setup.nodes)

  pub returns : is_down here.state ≡ true → Good (Ok (quiet (returned here)))
  returns down = goes_on setup w r a 0 there (quiet (returned here)) (streams.Return a) (nodes_change_as_streams.returns setup placed (down_state here.state down)) (reach_none setup.nodes)

  pub loses : Good (Ok (quiet (lost setup here)))
  loses = goes_on setup w r a 0 there (quiet (lost setup here)) (streams.Lose a) (nodes_change_as_streams.loses setup placed) (reach_none setup.nodes)

  pub played : (s : ℕ) → Good (Ok (quiet (plays setup here s)))
  played s = stands_still setup w r a 0 there (quiet (plays setup here s)) refl (r.tied.term a there) (λ n i. absurd i) (reach_none setup.nodes)

  -- ---- a leader's workers ----

  module _ (lead : Lead) (is : here.part ≡ Leads lead) where
    term_is : HasTerm sw (Leads lead)
    term_is = subst (HasTerm sw) is (r.tied.term a there)

    -- it leads with another core and other pending items
    leads_on : (core : Option Core) (pending : List (List Item)) → Good (Ok (quiet (record here { part = Leads (record lead { core = core; pending = pending }) })))
    leads_on core pending = stands_still setup w r a 0 there (quiet (record here { part = Leads (record lead { core = core; pending = pending }) }))
        (ap (λ part. stream_node (record here { part = part })) (sym is)) term_is (λ n i. absurd i) (reach_none setup.nodes)

    leading_ok : (s : ℕ) → is_node setup.workers s ≡ true → LeadingOk (cluster_of setup) sw lead.epoch s (slice_index_or (map initial_log_of lead.streams) (s - 1) []) (leading lead s)
    leading_ok s in_stream = leading_of (cluster_of setup) r.events lead.epoch (term_of lead) term_is s in_stream

    begun : (s : ℕ) → is_node setup.workers s ≡ true → HasBegun lead s
    begun s in_stream = long_enough (leading lead s).initial_len (leading lead s).log
        ((leading_ok s in_stream).initial_len ∙ ap length (first_of lead.streams (s - 1)))

    reach_proposes : (next : Lead) (s : ℕ) (batch : Batch) → Reaches setup.nodes (proposes setup a here next s batch)
    reach_proposes next s batch = reach_if (length (leading next s).log == SLOTS)
      where
        reach_if : (b : Bool) → Reaches setup.nodes (if b then Err (StreamFull SLOTS) else Ok (sending (record here { part = Leads (with_leading next s (proposed (leading next s) (batch_bytes batch))) }) (to_each setup (λ to. msg.Accept a to next.epoch s (length (leading next s).log) (batch_bytes batch)))))
        reach_if true = tt
        reach_if false = reach_each setup (λ to. msg.Accept a to next.epoch s (length (leading next s).log) (batch_bytes batch)) (λ k. refl)

    -- it proposes a batch
    proposing : is_up here.state ≡ true → (core : Option Core) (pending : List (List Item)) (s : ℕ) → is_node setup.workers s ≡ true → (batch : Batch)
        → Good (proposes setup a here (record lead { core = core; pending = pending }) s batch)
    proposing up core pending s in_stream batch = by_answer (proposes setup a here (record lead { core = core; pending = pending }) s batch) refl
      where
        by_answer : (answer : Answer) → proposes setup a here (record lead { core = core; pending = pending }) s batch ≡ answer → Good answer
        by_answer (Ok did) same = goes_on setup w r a 0 there did (streams.Propose a s (batch_bytes batch))
            (leaders_propose_as_streams setup (record {
              streams = sw;
              node = a;
              state = record here { part = Leads (record lead { core = core; pending = pending }) };
              in_setup = there;
              in_streams = record { node = r.tied.node a there ∙ ap (λ part. stream_node (record here { part = part })) is; term = term_is };
            }) (record lead { core = core; pending = pending }) s batch did (up_state here.state up) refl (begun s in_stream) in_stream same)
            (subst (Reaches setup.nodes) same (reach_proposes (record lead { core = core; pending = pending }) s batch))
        by_answer (Err e) same = tt

    good_refusal : (answer : Answer) (f : Option CoreRefusal) → Good answer → Good (answer >>= λ did. Ok (record did { refusal = f }))
    good_refusal (Ok did) f k =
        let t = k.tied in
        record {
          events = k.events;
          tied = record { size = t.size; node = t.node; terms = t.terms; term = t.term; sent = t.sent; back = t.back; receivers = t.receivers };
        }
    good_refusal (Err e) f k = tt

    stepping : is_up here.state ≡ true → (s : ℕ) → is_node setup.workers s ≡ true → (core : Core) → Good (steps_core setup a here lead s core)
    stepping up s in_stream core =
        let after = turn (setup.work.setting lead.epoch) core (Step s) in
        let next : Lead = stepped lead core after s in
        good_refusal (proposes_full setup a here next s) (newly_refused core after)
        (good_if (nat_lt (length (pending_of next s)) setup.batch) (Ok (quiet (record here { part = Leads next }))) (proposes_items setup a here next s (pending_of next s))
        (leads_on (Some after) next.pending) (proposing up (Some after) (with_pending next s []).pending s in_stream (Items (pending_of next s))))

    idling : is_up here.state ≡ true → (s : ℕ) → is_node setup.workers s ≡ true → (core : Core) → Good (idles_core setup a here lead s core)
    idling up s in_stream core =
        let after = turn (setup.work.setting lead.epoch) core (Idle s) in
        let ends : Answer = proposes setup a here lead s (idle_mark lead.epoch END_SEQ) in
        let marks : Answer = proposes setup a here (record lead { core = Some after }) s (idle_mark lead.epoch (core.next - lead.epoch * 2 ^ 40)) in
        let done : Bool = is_done (setup.work.setting lead.epoch) s (phase_of core s) in
        good_if (not (may_idle lead s core)) (Ok (quiet here)) (if done then ends else marks) nothing
        (good_if done ends marks (proposing up lead.core lead.pending s in_stream (idle_mark lead.epoch END_SEQ))
        (proposing up (Some after) lead.pending s in_stream (idle_mark lead.epoch (core.next - lead.epoch * 2 ^ 40))))

    flushing : is_up here.state ≡ true → (s : ℕ) → is_node setup.workers s ≡ true
        → Good (if length (pending_of lead s) == 0 then Ok (quiet here) else proposes_items setup a here lead s (pending_of lead s))
    flushing up s in_stream =
        good_if (length (pending_of lead s) == 0) (Ok (quiet here)) (proposes_items setup a here lead s (pending_of lead s)) nothing
        (proposing up lead.core (with_pending lead s []).pending s in_stream (Items (pending_of lead s)))

  open_good : (does : Lead → Core → Answer) → ((lead : Lead) → here.part ≡ Leads lead → (core : Core) → Good (does lead core))
      → (part : Part) → here.part ≡ part → Good (if_open here part does)
  open_good does h Follows is = nothing
  open_good does h (Stands c) is = nothing
  open_good does h (Leads lead) is = by_core lead.core
    where
      by_core : (core : Option Core) → Good (option_map_or (does lead) core (Ok (quiet here)))
      by_core None = nothing
      by_core (Some core) = h lead is core

  pub steps_good : is_up here.state ≡ true → (s : ℕ) → is_node setup.workers s ≡ true → Good (steps setup a here s)
  steps_good up s in_stream = open_good (λ lead core. steps_core setup a here lead s core) (λ lead is core. stepping lead is up s in_stream core) here.part refl

  pub flushes_good : is_up here.state ≡ true → (s : ℕ) → is_node setup.workers s ≡ true → Good (flushes setup a here s)
  flushes_good up s in_stream = open_good _ (λ lead is core. flushing lead is up s in_stream) here.part refl

  pub idles_good : is_up here.state ≡ true → (s : ℕ) → is_node setup.workers s ≡ true → Good (idles setup a here s)
  idles_good up s in_stream = open_good (λ lead core. idles_core setup a here lead s core) (λ lead is core. idling lead is up s in_stream core) here.part refl

  -- ---- sending again ----

  -- a message that may be sent again: it was sent, if it is one between streams, and its receiver is there
  abbrev Again : Msg → Type 0
  Again m = ((n : Envelope) → envelope_of m ≡ Some n → In n sw.sent) × (is_node setup.nodes (head_of m).to ≡ true)

  was_sent : (m : Msg) (n : Envelope) → envelope_of m ≡ Some n → In n sw.sent → is_node setup.nodes (head_of m).to ≡ true → Again m
  was_sent m n is i to = (λ k same. subst (λ j. In j sw.sent) (some_same n k (sym is ∙ same)) i, to)

  asks_sent : (c : Candidate) → here.part ≡ Stands c → (m : Msg) → In m (asks_again setup a c) → Again m
  asks_sent c is m i =
      let f : ℕ → Msg = λ to. msg.Prepare a to c.epoch in
      let k = map_in f m (filter (λ to. not (has_promised c.promises to)) (node_numbers setup)) i in
      let to = in_numbers setup.nodes k.0 (in_filter (λ to. not (has_promised c.promises to)) k.0 (node_numbers setup) k.1).0 in
      let ok : StandsOk (cluster_of setup) sw a c = subst (λ n. RoleOk (cluster_of setup) sw a n)
      (ap (λ (n : world.Node). n.role) (r.tied.node a there) ∙ ap stream_role is) ((inv_of (cluster_of setup) r.events).role_ok a) in
      subst Again k.2 (was_sent (f k.0) _ refl (ok.asked k.0 to) to)

  module _ (lead : Lead) (is : here.part ≡ Leads lead) where
    own_epoch : owner_of lead.epoch setup.nodes ≡ a
    own_epoch = subst (Owns setup.nodes a) is (owns (cluster_of setup) sw (inv_of (cluster_of setup) r.events) a here (r.tied.node a there))

    sync_again : (s to : ℕ) → is_node setup.workers s ≡ true → is_node setup.nodes to ≡ true → Again (sync_to a lead s to)
    sync_again s to in_stream in_nodes =
        was_sent (sync_to a lead s to) _ refl
        (subst (λ log. In (record { from = a; to = to; message = world.Sync lead.epoch s log }) sw.sent) (first_of lead.streams (s - 1))
        (subst (λ b. In (record { from = b; to = to; message = world.Sync lead.epoch s (slice_index_or (map initial_log_of lead.streams) (s - 1) []) }) sw.sent) own_epoch
        ((leading_ok lead is s in_stream).sync_sent to in_nodes)))
        in_nodes

    accept_again : (s to i : ℕ) → is_node setup.workers s ≡ true → is_node setup.nodes to ≡ true
        → (leading lead s).initial_len ≤ i → i < length (leading lead s).log
        → Again (msg.Accept a to lead.epoch s i (slice_index_or (leading lead s).log i []))
    accept_again s to i in_stream in_nodes low high =
        was_sent (msg.Accept a to lead.epoch s i (slice_index_or (leading lead s).log i [])) _ refl
        (subst (λ b. In (record { from = b; to = to; message = world.Accept lead.epoch s i (slice_index_or (leading lead s).log i []) }) sw.sent) own_epoch
        ((leading_ok lead is s in_stream).accepts_sent i to low high in_nodes))
        in_nodes

    resent : (s to : ℕ) → is_node setup.workers s ≡ true → is_node setup.nodes to ≡ true → (m : Msg) → (fewer : Bool)
        → nat_lt (acked_len (leading lead s) to) (leading lead s).initial_len ≡ fewer
        → In m (if fewer then sync_to a lead s to ∷ [] else accepts_from a lead s (acked_len (leading lead s) to) to) → Again m
    resent s to in_stream in_nodes m true less i = elim i [
      | inl e ↦ subst Again (sym e) (sync_again s to in_stream in_nodes)
      | inr j ↦ absurd j
    ]
    resent s to in_stream in_nodes m false less i =
        let from = acked_len (leading lead s) to in
        let log = (leading lead s).log in
        let k = map_in (λ i. msg.Accept a to lead.epoch s i (slice_index_or log i [])) m (range_with_len from (length log - from)) i in
        let range = in_range from (length log - from) k.0 k.1 in
        subst Again k.2 (accept_again s to k.0 in_stream in_nodes (above from (leading lead s).initial_len k.0 less range.0) (below from (length log) k.0 range.0 range.1))

    known_again : (s : ℕ) (m : Msg) (none : Bool) → In m (if none then [] else to_each setup (known_to a lead s)) → Again m
    known_again s m true i = absurd i
    known_again s m false i =
        let k = map_in (known_to a lead s) m (node_numbers setup) i in
        subst Again k.2 (λ n same. absurd (subst HasSome (sym same) tt), in_numbers setup.nodes k.0 k.1)

    leader_again : (m : Msg) → In m (resends setup a lead) → Again m
    leader_again m i = elim (in_split (flat_map (λ s. flat_map (resends_to a lead s) (node_numbers setup)) (stream_numbers setup)) (flat_map (knowns setup a lead) (stream_numbers setup)) m i) [
      | inl j ↦ (
          let s = flat_in (λ s. flat_map (resends_to a lead s) (node_numbers setup)) (stream_numbers setup) m j in
          let to = flat_in (resends_to a lead s.0) (node_numbers setup) m s.2 in
          resent s.0 to.0 (in_numbers setup.workers s.0 s.1) (in_numbers setup.nodes to.0 to.1) m
          (nat_lt (acked_len (leading lead s.0) to.0) (leading lead s.0).initial_len) refl to.2
          )
      | inr j ↦ (
          let s = flat_in (knowns setup a lead) (stream_numbers setup) m j in
          known_again s.0 m (len_acknowledged (leading lead s.0) == 0) s.2
          )
    ]

  all_again : (part : Part) → here.part ≡ part → (m : Msg) → In m (sends_again setup a part) → Again m
  all_again Follows is m i = absurd i
  all_again (Stands c) is m i = asks_sent c is m i
  all_again (Leads lead) is m i = leader_again lead is m i

  pub ticked : Good (ticks setup a here)
  ticked =
      let again = all_again here.part refl in
      stands_still setup w r a 0 there (sending here (sends_again setup a here.part)) refl (r.tied.term a there)
      (λ n i. let m = envelope_back (sends_again setup a here.part) n i in (again m.0 m.1).0 n m.2)
      (λ m i. (again m i).1)
