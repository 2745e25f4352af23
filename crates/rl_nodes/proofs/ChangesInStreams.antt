-- What a node does by itself is what the same node of the streams does.
use Rattle.std.proofs.Common.{◌≡◌, ℕ, ◌-◌, ◌≤◌, List, [], ◌∷◌, ◌++◌, length, Bool, true, false, ◌&&◌, ◌==◌, nat_lt, nat_le, if◌then◌else◌, Some, Ok, Err, refl, ap, sym, ◌∙◌, subst, arith}
use Rattle.std.proofs.Math.Seq.{map-set_same}
use Rattle.std.proofs.lemmas.List.{take-append-le}
use Rattle.std.specs.Prelude.{slice_set}
use Rattle.rl_base.specs.Epochs.{owner_of, next_epoch_of, IsNextEpoch}
use Rattle.rl_base.specs.Lists.{updated}
use Rattle.rl_base.specs.declared.limit.TheConstants.{SLOTS}
use Rattle.std.proofs.lemmas.Bool.Decides.{nat_tests}
use Rattle.rl_base.proofs.Tests.{lt_true, both, both_true}
use Rattle.rl_base.proofs.Turns.{next_epoch_is}
use Rattle.rl_batch.specs.Encoding.{batch_bytes}
use Rattle.rl_paxos.specs.Acceptors.{prepared}
use Rattle.rl_paxos.specs.Leaders.{Leading, proposed}
use Rattle.rl_paxos.specs.Quorums.{is_node}
use Rattle.rl_election.specs.World as world
use Rattle.rl_election.specs.World.{StreamWorld, is_up, Up, Down, Lost, is_stream}
use Rattle.rl_election.specs.StreamEvents as streams
use Rattle.rl_msg.specs.declared.msg.Msg.TheVariants as msg
use Rattle.rl_nodes.specs.declared.node_error.NodeError.TheVariants.{StreamFull, NoEpoch}
use Rattle.rl_nodes.specs.Answers.{Did, Answer, sending, quiet, to_each}
use Rattle.rl_nodes.specs.Elections.{stands, elects, crashed, returned, lost}
use Rattle.rl_nodes.specs.Laws.{Placed, Follows, NodesChangeAsStreams, LeadersProposeAsStreams}
use Rattle.rl_nodes.specs.Nodes.{Lead, NodeState, Leads, leading, with_leading, initial_log_of}
use Rattle.rl_nodes.specs.Setups.{Setup, cluster_of}
use Rattle.rl_nodes.specs.Streams.{stream_node, streams_after_doing, IsInStreams}
use Rattle.rl_nodes.specs.World.{term_of}
use Rattle.rl_nodes.proofs.InStreams.{IsAnswer, same_terms, to_all_same, if_true}

-- ---- elections ----

true_le : (a b : ℕ) → nat_le a b ≡ true → a ≤ b
true_le a b h = grind (arith, nat_tests)

pub by_node : (nodes a : ℕ) → is_node nodes a ≡ true → (1 ≤ a) × (a ≤ nodes)
by_node nodes a h = let parts = both (nat_le 1 a) (nat_le a nodes) h in (true_le 1 a parts.0, true_le a nodes parts.1)

same_test : (a b : ℕ) → a ≡ b → (a == b) ≡ true
same_test a b e = grind (arith, nat_tests)

may_stand : (setup : Setup) (a e : ℕ) (x : NodeState) → is_node setup.nodes a ≡ true → x.state ≡ Up
    → IsNextEpoch x.acceptor.promised a setup.nodes e → streams.may_stand (cluster_of setup) (stream_node x) a e ≡ true
may_stand setup a e x there up next =
    both_true (is_up x.state) _ (ap is_up up)
    (both_true (is_node setup.nodes a) _ there
    (both_true (owner_of e setup.nodes == a) (nat_lt x.acceptor.promised e) (same_test (owner_of e setup.nodes) a next.own) (lt_true x.acceptor.promised e next.above)))

standing : (setup : Setup) (w : StreamWorld) (a : ℕ) (x : NodeState) → IsInStreams w a x → (e : ℕ)
    → streams.acts w a (record (w.node a) { acceptor = prepared (w.node a).acceptor e; role = world.Stands (streams.candidate_of (cluster_of setup) e) })
    (world.to_all setup.nodes a (world.Prepare e)) ≡ streams_after_doing w a (stands setup a x e)
standing setup w a x h e = λ i. record {
  node = updated w.node a (record (h.node i) { acceptor = prepared (h.node i).acceptor e; role = world.Stands (streams.candidate_of (cluster_of setup) e) });
  terms = w.terms;
  sent = w.sent ++ to_all_same setup.nodes a (world.Prepare e) (λ to. msg.Prepare a to e) (λ to. refl) i;
}

stands_as : (setup : Setup) (t : Placed setup) (e : ℕ) → t.state.state ≡ Up → IsNextEpoch t.state.acceptor.promised t.node setup.nodes e
    → Follows setup t (streams.Elect t.node e) (stands setup t.node t.state e)
stands_as setup t e up next =
    if_true (streams.may_stand (cluster_of setup) (t.streams.node t.node) t.node e) _ t.streams
    (ap (λ n. streams.may_stand (cluster_of setup) n t.node e) t.in_streams.node ∙ may_stand setup t.node e t.state t.in_setup up next)
    ∙ standing setup t.streams t.node t.state t.in_streams e

answer_if : (test : Bool) (did got : Did) (e : Answer) → (IsAnswer e → ⊥) → ◌≡◌ {A = Answer} (if test then Ok did else e) (Ok got) → ◌≡◌ {A = Answer} (Ok did) (Ok got)
answer_if true did got e wrong is = is
answer_if false did got e wrong is = absurd (wrong (subst IsAnswer (sym is) tt))

same_did : (did got : Did) → ◌≡◌ {A = Answer} (Ok did) (Ok got) → did ≡ got
same_did did got e = ap (λ r. got_of r did) e
  where
    got_of : Answer → Did → Did
    got_of (Ok d) other = d
    got_of (Err f) other = other

elects_as : (setup : Setup) (t : Placed setup) (did : Did) → t.state.state ≡ Up → elects setup t.node t.state ≡ Ok did
    → Follows setup t (streams.Elect t.node (next_epoch_of t.state.acceptor.promised t.node setup.nodes)) did
elects_as setup t did up is =
    let e = next_epoch_of t.state.acceptor.promised t.node setup.nodes in
    let range = by_node setup.nodes t.node t.in_setup in
    subst (λ d. Follows setup t (streams.Elect t.node e) d)
    (same_did (stands setup t.node t.state e) did (answer_if (nat_lt e 1048576) (stands setup t.node t.state e) did (Err (NoEpoch t.state.acceptor.promised)) (λ x. x) is))
    (stands_as setup t e up (next_epoch_is t.state.acceptor.promised t.node setup.nodes range.0 range.1).0)

-- ---- crashes and returns ----

-- a node of the streams with another state and role
abbrev in_state : StreamWorld → (a : ℕ) → world.Node → StreamWorld
in_state w a n = streams.acts w a n []

crashes_as : (setup : Setup) (t : Placed setup) → t.state.state ≡ Up → Follows setup t (streams.Crash t.node) (quiet (crashed setup t.state))
crashes_as setup t up =
    ap (λ (n : world.Node). in_state t.streams t.node (record n { state = streams.crashed n.state; role = world.Follows })) t.in_streams.node
    ∙ ap (λ state. in_state t.streams t.node (record { state = streams.crashed state; acceptor = t.state.acceptor; role = world.Follows })) up

loses_as : (setup : Setup) (t : Placed setup) → Follows setup t (streams.Lose t.node) (quiet (lost setup t.state))
loses_as setup t =
    ap (λ (n : world.Node). in_state t.streams t.node (record n { state = Lost; role = world.Follows })) t.in_streams.node

returns_as : (setup : Setup) (t : Placed setup) → t.state.state ≡ Down → Follows setup t (streams.Return t.node) (quiet (returned t.state))
returns_as setup t down =
    ap (λ (n : world.Node). in_state t.streams t.node (record n { state = streams.returned n.state })) t.in_streams.node
    ∙ ap (λ state. in_state t.streams t.node (record (stream_node t.state) { state = streams.returned state })) down
    ∙ (λ i. record {
      node = updated t.streams.node t.node (stream_node (returned t.state));
      terms = sym (same_terms t.streams t.state.part t.in_streams.term) i;
      sent = t.streams.sent ++ [];
    })

pub nodes_change_as_streams : NodesChangeAsStreams
nodes_change_as_streams = record { elects = elects_as; crashes = crashes_as; returns = returns_as; loses = loses_as }

-- ---- proposals ----

pub first_proposed : (stream : Leading) (b : List ℕ) → stream.initial_len ≤ length stream.log → initial_log_of (proposed stream b) ≡ initial_log_of stream
first_proposed stream b short = take-append-le stream.initial_len stream.log (b ∷ []) short

proposing : (setup : Setup) (w : StreamWorld) (a : ℕ) (x : NodeState) (lead : Lead) → IsInStreams w a (record x { part = Leads lead })
    → (s : ℕ) (b : List ℕ) → (leading lead s).initial_len ≤ length (leading lead s).log
    → streams.proposes_in (cluster_of setup) w a lead.epoch s b (Some (term_of lead))
    ≡ streams_after_doing w a (sending (record x { part = Leads (with_leading lead s (proposed (leading lead s) b)) })
    (to_each setup (λ to. msg.Accept a to lead.epoch s (length (leading lead s).log) b)))
proposing setup w a x lead h s b short = λ i. record {
  node = updated w.node a (h.node i);
  terms = updated w.terms lead.epoch (Some (record {
    initial = sym (map-set_same initial_log_of lead.streams (s - 1) (proposed (leading lead s) b) world.no_stream (first_proposed (leading lead s) b short)) i;
    streams = slice_set lead.streams (s - 1) (proposed (leading lead s) b);
  }));
  sent = w.sent ++ to_all_same setup.nodes a (world.Accept lead.epoch s (length (leading lead s).log) b)
      (λ to. msg.Accept a to lead.epoch s (length (leading lead s).log) b) (λ to. refl) i;
}

full_if : (test : Bool) (did got : Did) (e : Answer) → (IsAnswer e → ⊥) → ◌≡◌ {A = Answer} (if test then e else Ok did) (Ok got) → ◌≡◌ {A = Answer} (Ok did) (Ok got)
full_if false did got e wrong is = is
full_if true did got e wrong is = absurd (wrong (subst IsAnswer (sym is) tt))

both_up : (setup : Setup) (w : StreamWorld) (a : ℕ) (x : NodeState) (lead : Lead) → IsInStreams w a (record x { part = Leads lead }) → x.state ≡ Up
    → (s : ℕ) (b : List ℕ) → is_node setup.workers s ≡ true
    → streams.proposes (cluster_of setup) w a s b (w.node a).role
    ≡ streams.proposes_in (cluster_of setup) w a lead.epoch s b (Some (term_of lead))
both_up setup w a x lead h up s b there =
    ap (λ (n : world.Node). streams.proposes (cluster_of setup) w a s b n.role) h.node
    ∙ if_true (is_up (w.node a).state && is_stream (cluster_of setup) s) (streams.proposes_in (cluster_of setup) w a lead.epoch s b (w.terms lead.epoch)) w
    (both_true (is_up (w.node a).state) (is_stream (cluster_of setup) s) (ap (λ (n : world.Node). is_up n.state) h.node ∙ ap is_up up) there)
    ∙ ap (streams.proposes_in (cluster_of setup) w a lead.epoch s b) h.term

pub leaders_propose_as_streams : LeadersProposeAsStreams
leaders_propose_as_streams setup t lead s batch did up leads begun there is =
    let b : List ℕ = batch_bytes batch in
    let x : NodeState = record t.state { part = Leads lead } in
    let h : IsInStreams t.streams t.node x = subst (λ part. IsInStreams t.streams t.node (record t.state { part = part })) leads t.in_streams in
    let does : Did = sending (record t.state { part = Leads (with_leading lead s (proposed (leading lead s) b)) }) (to_each setup (λ to. msg.Accept t.node to lead.epoch s (length (leading lead s).log) b)) in
    subst (λ d. streams.proposes (cluster_of setup) t.streams t.node s b (t.streams.node t.node).role ≡ streams_after_doing t.streams t.node d)
    (same_did does did (full_if (length (leading lead s).log == SLOTS) does did (Err (StreamFull SLOTS)) (λ e. e) is))
    (both_up setup t.streams t.node t.state lead h up s b there ∙ proposing setup t.streams t.node t.state lead h s b begun)
