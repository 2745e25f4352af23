-- What each node knows is part of its log and begins what some epoch chose, and its replica is one over what it knows, as long as
-- the items of leaders' logs have different stamps.
use Rattle.std.proofs.Common.{◌≡◌, ℕ, zero, suc, ◌-◌, ◌≤◌, ◌<◌, min, max, List, [], length, take, map, replicate, Bool, true, false, ◌==◌, if◌then◌else◌, Option, Some, None, refl, ap, sym, ◌∙◌, subst, arith, inl, inr, get_or-set_other}
use Rattle.std.proofs.lemmas.Bool.{cases_eq, cases_lt}
use Rattle.std.proofs.lemmas.List.{length-replicate}
use Rattle.std.specs.Prelude.{slice_index, slice_set}
use Rattle.std.specs.Option.{option_map_or}
use Rattle.rl_base.specs.Lists.{IsPrefix}
use Rattle.rl_base.specs.declared.bound.Bound.TheVariants.{Beyond}
use Rattle.rl_base.proofs.Members.{In}
use Rattle.rl_base.proofs.Prefixes.{prefix_trans, prefix_self}
use Rattle.rl_base.proofs.Tests.{true_same}
use Rattle.rl_paxos.specs.Acceptors.{kept_ballot, kept_log}
use Rattle.rl_paxos.specs.Logs as bytes
use Rattle.rl_paxos.specs.Quorums.{is_node}
use Rattle.rl_txn.specs.declared.batch.Batch.{Batch}
use Rattle.rl_election.specs.World as world
use Rattle.rl_election.specs.World.{Cluster, Term, StreamWorld, is_stream, stream_of}
use Rattle.rl_election.specs.StreamEvents.{streams_after}
use Rattle.rl_election.specs.Chosen.{is_chosen_len}
use Rattle.rl_election.proofs.Inv.{InLeaderLog, KeptOk, kept_at, Inv}
use Rattle.rl_election.proofs.Leaders.{less_chosen}
use Rattle.rl_election.proofs.Stays.{inv_of}
use Rattle.rl_election.proofs.Steps.{some_same}
use Rattle.rl_families.specs.Families.{bound_of}
use Rattle.rl_families.specs.Streams.{IsStreamOf, IsStamped, log_at}
use Rattle.rl_msg.specs.declared.msg.Msg.{Msg}
use Rattle.rl_msg.specs.declared.msg.Msg.TheVariants as msg
use Rattle.rl_replay.specs.Entries.{Entry, entries}
use Rattle.rl_replay.specs.Laws.{new_replica, IsBoundOf, after_play}
use Rattle.rl_replay.specs.OverFamily.{IsReplicaOf}
use Rattle.rl_replay.specs.Replay.{Replaying, next_entry}
use Rattle.rl_replay.proofs.Following.{replicas_begin, replicas_go_on, play_keeps}
use Rattle.rl_nodes.specs.Batches.{batches_of}
use Rattle.rl_nodes.specs.Handles.{knows}
use Rattle.rl_nodes.specs.Nodes.{NodeState, nothing_known, opening_replica, known_len, known_log, known_family}
use Rattle.rl_nodes.specs.Setups.{Setup, cluster_of, stream_numbers}
use Rattle.rl_nodes.specs.Streams.{stream_world}
use Rattle.rl_nodes.specs.Views.{next_bound, played, plays}
use Rattle.rl_nodes.specs.World.{World, node_of}
use Rattle.rl_nodes.proofs.Deliveries.{in_numbers}
use Rattle.rl_nodes.proofs.Runs.{same_in}
use Rattle.rl_nodes.proofs.Tied.{TiedRun}
use Rattle.rl_safe.proofs.KnownLists.{by_set, node_low, node_high, range_length, map_length, map_same, map_inside, front, fronts, front_short, batches_begin}
use Rattle.rl_safe.proofs.KnownGrowth.{ChosenAt, ChosenPart, ChosenBy, chosen_part, LeaderPart, leader_part, Later, by_stays, leader_stays, len_stays}
use Rattle.rl_safe.proofs.KnownMoves.{Holds, Moves, Keeps, Learns, Forgets, Replays}

-- ---- logs of leaders ----

-- the batches of some logs, one for each stream
abbrev pub family_of : Setup → (ℕ → bytes.Log) → List (List Batch)
family_of setup f = map (λ s. batches_of (f s)) (stream_numbers setup)

-- the items of logs that begin leaders' logs have different stamps
abbrev pub AreStamped : Setup → StreamWorld → Type 0
AreStamped setup v = (f : ℕ → bytes.Log) → ((s : ℕ) → is_node setup.workers s ≡ true → LeaderPart v s (f s)) → IsStamped (family_of setup f)

-- and so they had before
pub stamped_before : (setup : Setup) (v after : StreamWorld) → Later (cluster_of setup) v after → AreStamped setup after
    → AreStamped setup v
stamped_before setup v after later h f parts = h f (λ s there. leader_stays (cluster_of setup) v after later s (f s) there (parts s there))

-- a Known that was sent tells what a second quorum acked
abbrev pub TellsChosen : Setup → StreamWorld → Msg → Type 0
TellsChosen setup v (msg.Known from to e s len) =
    (t : Term) × (is_node setup.workers s ≡ true) × (v.terms e ≡ Some t) × (is_chosen_len (cluster_of setup) v e s len ≡ true)
TellsChosen setup v other = Unit {0}

pub telling_stays : (setup : Setup) (v after : StreamWorld) → Later (cluster_of setup) v after → (m : Msg) → TellsChosen setup v m
    → TellsChosen setup after m
telling_stays setup v after later (msg.Known from to e s len) h =
    let u = later.logs e h.0 h.2 s h.1 in (u.0, h.1, u.1, len_stays (cluster_of setup) v after later.sent e s len h.3)
telling_stays setup v after later (msg.Prepare from to e) h = tt
telling_stays setup v after later (msg.Promise from to e ballots logs) h = tt
telling_stays setup v after later (msg.Sync from to e s log) h = tt
telling_stays setup v after later (msg.Accept from to e s slot batch) h = tt
telling_stays setup v after later (msg.Ack from to e s len) h = tt

-- ---- a node ----

pub record NodeOk (setup : Setup) (v : StreamWorld) (x : NodeState) : Type 0 where
  -- what it knows of a stream is part of its log, and chosen at an epoch up to its ballot
  pub within : (s : ℕ) → is_node setup.workers s ≡ true → known_len x s ≤ length (kept_log x.acceptor s)
  pub chosen : (s : ℕ) → is_node setup.workers s ≡ true → ChosenBy (cluster_of setup) v s (kept_ballot x.acceptor s) (known_log x s)
  -- its replica follows that, and never ran out of memory
  pub replica : AreStamped setup v → IsReplicaOf setup.program.rows (known_family setup x) x.replica
  pub working : x.replica.failed ≡ false

-- where an acceptor keeps a log at a ballot above 0, the log begins that epoch's leader's
abbrev pub KeepsLogs : Setup → StreamWorld → NodeState → Type 0
KeepsLogs setup v x = (s e : ℕ) → is_node setup.workers s ≡ true → kept_ballot x.acceptor s ≡ e → (t : Term) → v.terms e ≡ Some t
    → IsPrefix (kept_log x.acceptor s) (stream_of t s).log

-- so it is with each node of a world that goes with streams
pub keeps_logs : (setup : Setup) (w : World) → TiedRun setup w → (a : ℕ) → is_node setup.nodes a ≡ true
    → KeepsLogs setup (stream_world setup w) (node_of setup w a)
keeps_logs setup w r a there s e in_stream ballot t is =
    let v : StreamWorld = streams_after (cluster_of setup) r.events in
    let inv : Inv (cluster_of setup) v = inv_of (cluster_of setup) r.events in
    let term : v.terms e ≡ Some t = ap (λ f. f e) r.tied.terms ∙ is in
    let born : 0 < e = (inv.term_ok e t term).born in
    let ok : KeptOk v (node_of setup w a).acceptor.promised (s - 1) (kept_at (node_of setup w a).acceptor (s - 1)) =
    subst (λ (n : world.Node). KeptOk v n.acceptor.promised (s - 1) (kept_at n.acceptor (s - 1))) (r.tied.node a there)
    ((inv.node_ok a).kept (s - 1)) in
    let led : InLeaderLog v (kept_ballot (node_of setup w a).acceptor s) (s - 1) (kept_log (node_of setup w a).acceptor s) =
    ok.has (omega (arith, ballot, born)) in
    let one : led.term ≡ t = some_same led.term t (v.terms e) (ap v.terms (sym ballot) ∙ led.term_is) term in
    subst (λ z. IsPrefix (kept_log (node_of setup w a).acceptor s) (stream_of z s).log) one led.within

-- ---- over the same world of streams ----

module _ (setup : Setup) (v : StreamWorld) where
  abbrev Good : NodeState → Type 0
  Good x = NodeOk setup v x

  known_stamped : (x : NodeState) → AreStamped setup v
      → ((s : ℕ) → is_node setup.workers s ≡ true → ChosenPart (cluster_of setup) v s (known_log x s)) → IsStamped (known_family setup x)
  known_stamped x stamped chosen =
      stamped (λ s. known_log x s) (λ s there. leader_part (cluster_of setup) v s (known_log x s) (chosen s there))

  known_parts : (x : NodeState) → Good x → (s : ℕ) → is_node setup.workers s ≡ true → ChosenPart (cluster_of setup) v s (known_log x s)
  known_parts x ok s there = chosen_part (cluster_of setup) v s (kept_ballot x.acceptor s) (known_log x s) (ok.chosen s there)

  -- it knows the same
  keeps : (x y : NodeState) → Good x → y.known ≡ x.known → y.replica ≡ x.replica → ((s : ℕ) → is_node setup.workers s ≡ true → Holds x y s)
      → ((s : ℕ) → kept_ballot x.acceptor s ≤ kept_ballot y.acceptor s)
      → Good y
  keeps x y ok known replica holds ballots = record {
    within = λ s there. subst (λ n. n ≤ length (kept_log y.acceptor s)) (len_same s) (holds s there (ok.within s there)).0;
    chosen = λ s there. elim (ok.chosen s there) [
      | inl e ↦ inl (log_same s there ∙ e)
      | inr c ↦ (let low = c.1 in let up = ballots s in
          inr (c.0, omega (arith, low, up), subst (ChosenAt (cluster_of setup) v c.0 s) (sym (log_same s there)) c.2))
    ];
    replica = λ stamped.
        subst (IsReplicaOf setup.program.rows (known_family setup y)) (sym replica)
        (subst (λ family. IsReplicaOf setup.program.rows family x.replica) (sym family_same) (ok.replica stamped));
    working = ap (λ (r : Replaying). r.failed) replica ∙ ok.working;
  }
    where
      len_same : (s : ℕ) → known_len x s ≡ known_len y s
      len_same s = ap (λ k. slice_index k (s - 1)) (sym known)

      log_same : (s : ℕ) → is_node setup.workers s ≡ true → known_log y s ≡ known_log x s
      log_same s there = ap (λ n. take n (kept_log y.acceptor s)) (sym (len_same s)) ∙ (holds s there (ok.within s there)).1

      family_same : known_family setup y ≡ known_family setup x
      family_same = map_same (λ s. batches_of (known_log y s)) (λ s. batches_of (known_log x s)) (stream_numbers setup)
          (λ s i. ap batches_of (log_same s (in_numbers setup.workers s i)))

  -- it has lost all that it knew
  forgets : (y : NodeState) → y.known ≡ nothing_known setup → y.replica ≡ opening_replica setup → Good y
  forgets y known replica = record {
    within = λ s there. let k = none s in omega (arith, k);
    chosen = λ s there. inl (ap (λ n. take n (kept_log y.acceptor s)) (none s));
    replica =
        λ stamped. subst (IsReplicaOf setup.program.rows (known_family setup y)) (sym (replica ∙ fresh))
        (replicas_begin setup.program.rows (known_family setup y));
    working = ap (λ (r : Replaying). r.failed) replica;
  }
    where
      none : (s : ℕ) → known_len y s ≡ 0
      none s = ap (λ k. slice_index k (s - 1)) known ∙ same_in setup.workers 0 (s - 1)

      sizes : length (replicate {A = List Batch} setup.workers []) ≡ length (known_family setup y)
      sizes =
          length-replicate setup.workers []
          ∙ sym (map_length (λ s. batches_of (known_log y s)) (stream_numbers setup) ∙ range_length 1 setup.workers)

      fresh : opening_replica setup ≡ new_replica setup.program.rows (known_family setup y)
      fresh = ap (λ n. record { applied = []; played = replicate n 0; rows = setup.program.rows; failed = false }) sizes

  -- it plays
  played_ok : (family : List (List Batch)) (s : ℕ) → IsStamped family → IsStreamOf family s → (n : ℕ) (r : Replaying)
      → IsReplicaOf setup.program.rows family r → IsReplicaOf setup.program.rows family (played family r s n)
  played_ok family s stamped is zero r ok = ok
  played_ok family s stamped is (suc n) r ok =
      played_ok family s stamped is n (after_play family r s (next_bound family r s))
      (play_keeps setup.program.rows family r stamped ok s is (next_bound family r s) (bound_is (next_entry r s (log_at family s))))
    where
      bound_is : (next : Option Entry) → IsBoundOf family next (option_map_or (λ e. bound_of family e.stamp.epoch) next Beyond)
      bound_is None = tt
      bound_is (Some e) = refl

  played_works : (family : List (List Batch)) (s n : ℕ) (r : Replaying) → r.failed ≡ false → (played family r s n).failed ≡ false
  played_works family s zero r ok = ok
  played_works family s (suc n) r ok = played_works family s n (after_play family r s (next_bound family r s)) ok

  replays : (x : NodeState) (s : ℕ) → is_node setup.workers s ≡ true → Good x → Good (plays setup x s)
  replays x s there ok =
      record {
        within = ok.within;
        chosen = ok.chosen;
        replica =
            λ stamped. played_ok (known_family setup x) s (known_stamped x stamped (known_parts x ok)) (stream_is x s there)
            (length (entries (log_at (known_family setup x) s))) x.replica (ok.replica stamped);
        working = played_works (known_family setup x) s (length (entries (log_at (known_family setup x) s))) x.replica ok.working;
      }
    where
      stream_is : (x : NodeState) (s : ℕ) → is_node setup.workers s ≡ true → IsStreamOf (known_family setup x) s
      stream_is x s there = record {
        low = node_low setup.workers s there;
        high = (let high = node_high setup.workers s there in
            let size =
            map_length (λ s. batches_of (known_log x s)) (stream_numbers setup)
            ∙ range_length 1 setup.workers in omega (arith, high, size));
      }

  -- ---- it learns that more is chosen ----

  module _ (x : NodeState) (ok : Good x) (e s len : ℕ) (there : is_node setup.workers s ≡ true) (t : Term) (is : v.terms e ≡ Some t)
      (ballot : kept_ballot x.acceptor s ≡ e) (acked : is_chosen_len (cluster_of setup) v e s len ≡ true) (kept : IsPrefix (kept_log x.acceptor s) (stream_of t s).log) where
    abbrev more : ℕ
    more = max (known_len x s) (min len (length (kept_log x.acceptor s)))

    abbrev now : NodeState
    now = record x { known = slice_set x.known (s - 1) more }

    -- the new front of the log is chosen
    new_chosen : ChosenBy (cluster_of setup) v s (kept_ballot x.acceptor s) (take more (kept_log x.acceptor s))
    new_chosen = elim (cases_lt (known_len x s) (min len (length (kept_log x.acceptor s)))) [
      | inl above ↦ (
          let m : more ≡ min len (length (kept_log x.acceptor s)) = omega (arith, above) in
          let short = front_short (min len (length (kept_log x.acceptor s))) (kept_log x.acceptor s) in
          subst (λ n. ChosenBy (cluster_of setup) v s (kept_ballot x.acceptor s) (take n (kept_log x.acceptor s))) (sym m)
          (inr (
            e,
            omega (arith, ballot),
            record {
              term = t;
              term_is = is;
              within = prefix_trans _ _ _ (front (min len (length (kept_log x.acceptor s))) (kept_log x.acceptor s)) kept;
              acked =
                  less_chosen (cluster_of setup) v e s len
                  (length (take (min len (length (kept_log x.acceptor s))) (kept_log x.acceptor s))) (omega (arith, short)) acked;
            },
          )))
      | inr below ↦ (
          let m : more ≡ known_len x s = omega (arith, below) in
          subst (λ n. ChosenBy (cluster_of setup) v s (kept_ballot x.acceptor s) (take n (kept_log x.acceptor s))) (sym m) (ok.chosen s there))
    ]

    -- by stream: what is known of this one, and of the others
    by_stream : (P : (r n : ℕ) → Type 0) → P s more → ((r : ℕ) → is_node setup.workers r ≡ true → P r (known_len x r)) → (r : ℕ)
        → is_node setup.workers r ≡ true → P r (known_len now r)
    by_stream P here others r in_stream = elim (cases_eq r s) [
      | inl q ↦ subst (λ z. P z (known_len now z)) (sym q) (by_set (P s) x.known (s - 1) (s - 1) more 0 (λ same. here) (others s there))
      | inr apart ↦ subst (P r) (sym
          (get_or-set_other x.known (s - 1) (r - 1) more 0
          (λ same. apart (no_other r s (node_low setup.workers r in_stream) (node_low setup.workers s there) same)))) (others r in_stream)
    ]
      where
        no_other : (r s : ℕ) → 1 ≤ r → 1 ≤ s → r - 1 ≡ s - 1 → r ≡ s
        no_other r s a b e = omega arith

    all_chosen : (r : ℕ) → is_node setup.workers r ≡ true → ChosenBy (cluster_of setup) v r (kept_ballot x.acceptor r) (known_log now r)
    all_chosen = by_stream (λ r n. ChosenBy (cluster_of setup) v r (kept_ballot x.acceptor r) (take n (kept_log x.acceptor r))) new_chosen ok.chosen

    longer : (r : ℕ) → is_node setup.workers r ≡ true → IsPrefix (known_log x r) (known_log now r)
    longer = by_stream (λ r n. IsPrefix (known_log x r) (take n (kept_log x.acceptor r)))
        (fronts (known_len x s) more (kept_log x.acceptor s) (omega arith)) (λ r in_stream. prefix_self (known_log x r))

    learned : Good now
    learned = record {
      within = by_stream (λ r n. n ≤ length (kept_log x.acceptor r)) (let k = ok.within s there in omega (arith, k)) ok.within;
      chosen = all_chosen;
      replica =
          λ stamped. replicas_go_on setup.program.rows (known_family setup x) x.replica (known_stamped x stamped (known_parts x ok))
          (ok.replica stamped)
          (known_family setup now) (map_inside (λ r. batches_of (known_log x r)) (λ r. batches_of (known_log now r)) (stream_numbers setup)
          (λ r i. batches_begin (known_log x r) (known_log now r) (longer r (in_numbers setup.workers r i))))
          (known_stamped now stamped (λ r in_stream. chosen_part (cluster_of setup) v r (kept_ballot x.acceptor r) (known_log now r) (all_chosen r in_stream)));
      working = ok.working;
    }

  learns : (x : NodeState) → Good x → KeepsLogs setup v x → (from to e s len : ℕ) → TellsChosen setup v (msg.Known from to e s len)
      → Good (knows x e s len)
  learns x ok kept from to e s len k = by_ballot (kept_ballot x.acceptor s == e) refl
    where
      by_ballot : (b : Bool) → (kept_ballot x.acceptor s == e) ≡ b
          → Good (if b then record x {
            known = slice_set x.known (s - 1)
                (max (known_len x s) (min len (length (kept_log x.acceptor s))));
          } else x)
      by_ballot true same = learned x ok e s len k.1 k.0 k.2 (true_same (kept_ballot x.acceptor s) e same) k.3 (kept s e k.1 (true_same (kept_ballot x.acceptor s) e same) k.0 k.2)
      by_ballot false other = ok

  -- ---- any of these ----

  pub moves_ok : (sent : List Msg) (x y : NodeState) → Good x → KeepsLogs setup v x → ((m : Msg) → In m sent → TellsChosen setup v m)
      → Moves setup sent x y → Good y
  moves_ok sent x y ok kept known (Keeps same replica holds ballots) = keeps x y ok same replica holds ballots
  moves_ok sent x y ok kept known (Learns from to e s len i is) =
      subst Good (sym is) (learns x ok kept from to e s len (known (msg.Known from to e s len) i))
  moves_ok sent x y ok kept known (Forgets same replica) = forgets y same replica
  moves_ok sent x y ok kept known (Replays s there is) = subst Good (sym is) (replays x s there ok)

  pub forgotten_ok : (y : NodeState) → y.known ≡ nothing_known setup → y.replica ≡ opening_replica setup → Good y
  forgotten_ok = forgets

-- ---- in a later world ----

pub node_stays : (setup : Setup) (v after : StreamWorld) → Later (cluster_of setup) v after → (x : NodeState) → NodeOk setup v x
    → NodeOk setup after x
node_stays setup v after later x ok = record {
  within = ok.within;
  chosen = λ s there. by_stays (cluster_of setup) v after later s (kept_ballot x.acceptor s) (known_log x s) there (ok.chosen s there);
  replica = λ stamped. ok.replica (stamped_before setup v after later stamped);
  working = ok.working;
}
