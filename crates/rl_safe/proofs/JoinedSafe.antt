-- Where each run is one of leaders as the laws of families ask, every run is safe.
use Rattle.std.proofs.Common.{◌≡◌, ℕ, ◌-◌, ◌<◌, List, [], length, map, Bool, true, false, Some, Ok, All, Contains, IsTrue, refl, ap, sym, ◌∙◌, subst, inl, inr, true≢false, le-leb}
use Rattle.rl_base.specs.Lists.{IsPrefix}
use Rattle.rl_base.proofs.Members.{in_contains, contains_in, all_in}
use Rattle.rl_base.proofs.OrderLemmas.{same_stamp}
use Rattle.rl_base.proofs.Prefixes.{prefix_trans}
use Rattle.rl_base.proofs.Tests.{both_true}
use Rattle.rl_paxos.specs.Acceptors.{kept_ballot}
use Rattle.rl_paxos.specs.Logs as bytes
use Rattle.rl_paxos.specs.Quorums.{is_node}
use Rattle.rl_txn.specs.declared.item.Item.{Item}
use Rattle.rl_events.specs.Fits.{EventFits}
use Rattle.rl_events.specs.declared.event.Event.{Event}
use Rattle.rl_election.specs.World.{Term, StreamWorld, stream_of}
use Rattle.rl_election.specs.StreamEvents.{streams_after}
use Rattle.rl_election.specs.Chosen.{IsLongestChosen}
use Rattle.rl_election.proofs.Agree.{chosen_begins}
use Rattle.rl_election.proofs.Inv.{initial_at}
use Rattle.rl_election.proofs.Stays.{inv_of}
use Rattle.rl_families.specs.Families.{history}
use Rattle.rl_families.specs.Leaders.{initial_log, logs_of_streams, ArePrefixesOfLeaders}
use Rattle.rl_families.specs.LeadersLogs.{LogsOfLeaders, IsSerialHistory}
use Rattle.rl_families.specs.Logs.{IsRising}
use Rattle.rl_families.specs.Streams.{IsStamped}
use Rattle.rl_families.proofs.Leading.{leaders_logs_rise}
use Rattle.rl_families.proofs.Nesting.{history_nests}
use Rattle.rl_families.proofs.SerialHistories.{histories_are_serial}
use Rattle.rl_replay.specs.OverFamily.{IsReplicaOf}
use Rattle.rl_replay.specs.Replay.{HasStamp, HaveSameStamps, IsSameSet}
use Rattle.rl_replay.proofs.Following.{applied_identified, rows_at_watermark}
use Rattle.rl_nodes.specs.Batches.{batches_of}
use Rattle.rl_nodes.specs.Events.{world_after}
use Rattle.rl_nodes.specs.Nodes.{NodeState, known_log, known_family, known_history}
use Rattle.rl_nodes.specs.Safe.{history_of, ReplicaIsSafe, OpeningIsSafe, Safe}
use Rattle.rl_nodes.specs.Setups.{Setup, SetupFits, cluster_of, stream_numbers}
use Rattle.rl_nodes.specs.Streams.{stream_world}
use Rattle.rl_nodes.specs.Views.{is_at_watermark}
use Rattle.rl_nodes.specs.World.{World, Opened, Given, node_of}
use Rattle.rl_nodes.proofs.ChosenInRuns.{runs_have_chosen}
use Rattle.rl_nodes.proofs.Deliveries.{in_numbers}
use Rattle.rl_nodes.proofs.Telling.{tests_tell}
use Rattle.rl_nodes.proofs.Tied.{TiedRun}
use Rattle.rl_safe.specs.Laws.{LedRunsAreSafe}
use Rattle.rl_safe.specs.Led.{IsLed}
use Rattle.rl_safe.proofs.KnownLists.{numbers_in, logs_are, map_same, map_inside, batches_begin}
use Rattle.rl_safe.proofs.KnownGrowth.{ChosenAt, ChosenPart, chosen_part, LeaderPart, leader_part, begins_choice, len_stays}
use Rattle.rl_safe.proofs.KnownNodes.{family_of, AreStamped, NodeOk}
use Rattle.rl_safe.proofs.KnownWorlds.{IsGiven, AllKnown, all_known}

-- ---- the longest chosen logs ----

module _ (setup : Setup) (sized : SetupFits setup) (events : List Event) (fits : All (EventFits setup.nodes setup.workers) events)
    (w : World) (is : world_after setup events ≡ Ok w) where
  picks : (s : ℕ) (b : Bool) → is_node setup.workers s ≡ b
      → (log : bytes.Log) × (b ≡ true → IsLongestChosen (cluster_of setup) (stream_world setup w) s log)
  picks s false other = ([], λ t. absurd (true≢false (sym t)))
  picks s true there =
      let k = runs_have_chosen setup events w sized fits is s (in_contains (stream_numbers setup) s (numbers_in setup.workers s there)) in
      (k.0, λ t. k.1)

  pub chosen_logs : (log : ℕ → bytes.Log)
      × ((s : ℕ) → is_node setup.workers s ≡ true → IsLongestChosen (cluster_of setup) (stream_world setup w) s (log s))
  chosen_logs = (λ s. (picks s (is_node setup.workers s) refl).0, λ s there. (picks s (is_node setup.workers s) refl).1 there)

module _ (setup : Setup) (sized : SetupFits setup) (w : World) (led : IsLed setup w) (tied : TiedRun setup w) (known : AllKnown setup w)
    (chosen : ℕ → bytes.Log)
    (longest : (s : ℕ) → is_node setup.workers s ≡ true → IsLongestChosen (cluster_of setup) (stream_world setup w) s (chosen s)) where
  abbrev v : StreamWorld
  v = stream_world setup w

  -- the number of a stream
  abbrev There : ℕ → Type 0
  There s = is_node setup.workers s ≡ true

  listed : (s : ℕ) → There s → Contains (stream_numbers setup) s
  listed s there = in_contains (stream_numbers setup) s (numbers_in setup.workers s there)

  -- what is chosen begins them
  pub chosen_in : (e s : ℕ) (log : bytes.Log) → There s → ChosenAt (cluster_of setup) v e s log → IsPrefix log (chosen s)
  chosen_in e s log there k =
      let c = begins_choice (cluster_of setup) v e s log k in
      prefix_trans log c.0 (chosen s) c.2 ((longest s there).above e c.0 c.1)

  pub part_in : (s : ℕ) (log : bytes.Log) → There s → ChosenPart (cluster_of setup) v s log → IsPrefix log (chosen s)
  part_in s log there k = elim k [
    | inl e ↦ subst (λ l. IsPrefix l (chosen s)) (sym e) (chosen s, refl)
    | inr c ↦ chosen_in c.0 s log there c.1
  ]

  -- ---- the logs of leaders ----

  pub chosen_parts : (s : ℕ) → There s → LeaderPart v s (chosen s)
  chosen_parts s there = elim (longest s there).from [
    | inl e ↦ inl e
    | inr c ↦ inr (record {
      epoch = c.0;
      term = c.1.is_log.term;
      term_is = c.1.is_log.term_is;
      within = subst (IsPrefix (chosen s)) (sym c.1.is_log.log_is) c.1.within;
    })
  ]

  -- their batches are prefixes of what leaders proposed
  pub are_prefixes : (f : ℕ → bytes.Log) → ((s : ℕ) → There s → LeaderPart v s (f s))
      → ArePrefixesOfLeaders led.leaders setup.workers (λ s. batches_of (f s))
  are_prefixes f parts s low high =
      let there : There s = both_true _ _ (le-leb 1 s low) (le-leb s setup.workers high) in
      elim (parts s there) [
        | inl e ↦ (0, subst (λ log. IsPrefix (batches_of log) []) (sym e) ([], refl))
        | inr c ↦ (
          c.epoch,
          subst (IsPrefix (batches_of (f s)))
              (led.logs c.epoch s (listed s there) (stream_of c.term s).log (record { term = c.term; term_is = c.term_is; log_is = refl }))
              (batches_begin (f s) (stream_of c.term s).log c.within),
        )
      ]

  pub logs_rise : (f : ℕ → bytes.Log) → ((s : ℕ) → There s → LeaderPart v s (f s))
      → LogsOfLeaders led.leaders setup.workers (λ s. batches_of (f s))
  logs_rise f parts = leaders_logs_rise led.leaders setup.workers led.are_leaders (λ s. batches_of (f s)) (are_prefixes f parts)

  pub same_family : (f : ℕ → bytes.Log) → logs_of_streams setup.workers (λ s. batches_of (f s)) ≡ family_of setup f
  same_family f = sym (logs_are setup.workers (λ s. batches_of (f s)))

  stamped : AreStamped setup v
  stamped f parts = subst IsStamped (same_family f) (logs_rise f parts).stamped

  -- where logs begin such logs, so does their history
  pub nests : (f h : ℕ → bytes.Log) → ((s : ℕ) → There s → IsPrefix (f s) (h s)) → ((s : ℕ) → There s → LeaderPart v s (h s))
      → IsPrefix (history (family_of setup f)) (history (family_of setup h))
  nests f h begin parts =
      history_nests (family_of setup f) (family_of setup h)
      (map_inside (λ s. batches_of (f s)) (λ s. batches_of (h s)) (stream_numbers setup)
      (λ s i. batches_begin (f s) (h s) (begin s (in_numbers setup.workers s i))))
      (stamped h parts).rising

  -- ---- the history ----

  abbrev pub whole : List Item
  whole = history_of setup chosen

  serial : IsSerialHistory setup.program.tables setup.program.lists setup.program.rows whole
  serial =
      subst (λ family. IsSerialHistory setup.program.tables setup.program.lists setup.program.rows (history family)) (same_family chosen)
      (histories_are_serial setup.program.tables setup.program.lists setup.program.rows led.leaders setup.workers led.are_leaders
      (λ s. batches_of (chosen s)) (are_prefixes chosen chosen_parts) led.serial)

  pub rising : IsRising (map (λ x. x.stamp) whole)
  rising = subst (λ family. IsRising (map (λ x. x.stamp) (history family))) (same_family chosen) (logs_rise chosen chosen_parts).rising

  pub given_in : (given : Given) → IsGiven setup v given → IsPrefix given.history whole
  given_in given k =
      subst (λ items. IsPrefix items whole) (sym k.is)
      (nests k.log chosen (λ s there. chosen_in given.epoch s (k.log s) there (k.each s there)) chosen_parts)

  pub released : IsPrefix w.released whole
  released = known.released whole rising (λ given i. given_in given (known.given given i))

  -- ---- replicas ----

  module _ (a : ℕ) where
    abbrev x : NodeState
    x = node_of setup w a

    ok : NodeOk setup v x
    ok = known.nodes a

    parts : (s : ℕ) → There s → LeaderPart v s (known_log x s)
    parts s there = leader_part (cluster_of setup) v s (known_log x s) (chosen_part (cluster_of setup) v s (kept_ballot x.acceptor s) (known_log x s) (ok.chosen s there))

    one_family : IsStamped (known_family setup x)
    one_family = stamped (λ s. known_log x s) parts

    replica : IsReplicaOf setup.program.rows (known_family setup x) x.replica
    replica = ok.replica stamped

    -- at the watermark it has applied the whole history
    same_items : IsTrue (is_at_watermark setup x) → IsSameSet (known_history setup x) x.replica.applied
    same_items at =
        let same : HaveSameStamps x.replica.applied (known_history setup x) =
        (tests_tell.same x.replica.applied (known_history setup x)).0 at in (
          λ item c.
              let has : HasStamp x.replica.applied item.stamp =
              all_in (λ (y : Item). HasStamp x.replica.applied y.stamp) (known_history setup x) same.0 item
              (contains_in (known_history setup x) item c) in
              let there : Contains x.replica.applied has.1 = (has.0, has.2, has.3) in
              let one : has.1 ≡ item =
              applied_identified setup.program.rows (known_family setup x) x.replica one_family replica has.1 item there c
              (same_stamp has.1.stamp item.stamp has.4.0 has.4.1) in
              subst (Contains x.replica.applied) one there,
          replica.counted,
        )

    replica_safe : ReplicaIsSafe setup whole x
    replica_safe = record {
      known = nests (λ s. known_log x s) chosen (λ s there. part_in s (known_log x s) there (chosen_part (cluster_of setup) v s (kept_ballot x.acceptor s) (known_log x s) (ok.chosen s there))) chosen_parts;
      applied = replica.counted;
      rows = λ at. rows_at_watermark setup.program.rows (known_family setup x) x.replica one_family replica ok.working (same_items at);
    }

  -- ---- opening lists ----

  -- what was chosen earlier begins the initial logs of a later epoch
  pub begins_initial : (e s : ℕ) (log : bytes.Log) → There s → ChosenAt (cluster_of setup) v e s log → (later : ℕ) → e < later → (t : Term)
      → v.terms later ≡ Some t → IsPrefix log (initial_at t (s - 1))
  begins_initial e s log there k later less t term =
      let at : ChosenAt (cluster_of setup) (streams_after (cluster_of setup) tied.events) e s log = record {
        term = k.term;
        term_is = ap (λ f. f e) tied.tied.terms ∙ k.term_is;
        within = k.within;
        acked = len_stays (cluster_of setup) v (streams_after (cluster_of setup) tied.events) tied.tied.back e s (length log) k.acked;
      } in
      let c = begins_choice (cluster_of setup) (streams_after (cluster_of setup) tied.events) e s log at in
      prefix_trans log c.0 (initial_at t (s - 1)) c.2
      (chosen_begins (cluster_of setup) sized.intersect (streams_after (cluster_of setup) tied.events)
      (inv_of (cluster_of setup) tied.events) e s later c.0 there c.1 less t (ap (λ f. f later) tied.tied.terms ∙ term))

  module _ (o : Opened) (there : Contains w.openings o) where
    abbrev as_given : Given
    as_given = record { epoch = o.epoch; history = o.items }

    opening : IsGiven setup v as_given
    opening = known.given as_given (known.opened o (contains_in w.openings o there))

    first : ChosenAt (cluster_of setup) v o.epoch 1 (opening.log 1)
    first = opening.each 1 (le-leb 1 setup.workers sized.some_workers)

    abbrev initial : ℕ → bytes.Log
    initial s = initial_at first.term (s - 1)

    initial_parts : (s : ℕ) → There s → LeaderPart v s (initial s)
    initial_parts s in_stream =
        inr (record {
          epoch = o.epoch;
          term = first.term;
          term_is = first.term_is;
          within =
              ((inv_of (cluster_of setup) tied.events).term_ok o.epoch first.term
              (ap (λ f. f o.epoch) tied.tied.terms ∙ first.term_is)).begins (s - 1);
        })

    items_are : history (family_of setup initial) ≡ o.items
    items_are =
        ap history (map_same (λ s. batches_of (initial s)) (λ s. initial_log led.leaders o.epoch s) (stream_numbers setup)
        (λ s i. led.initials o.epoch s (in_contains (stream_numbers setup) s i) (initial s)
        (record { term = first.term; term_is = first.term_is; initial_is = refl }))
        ∙ logs_are setup.workers (initial_log led.leaders o.epoch))
        ∙ sym (led.openings o there)

    opening_safe : OpeningIsSafe w.gave whole o
    opening_safe = record {
      begins = given_in as_given opening;
      earlier = λ given c less.
          let k : IsGiven setup v given = known.given given (contains_in w.gave given c) in
          subst (λ items. IsPrefix items o.items) (sym k.is)
          (subst (IsPrefix (history (family_of setup k.log))) items_are
          (nests k.log initial (λ s in_stream. begins_initial given.epoch s (k.log s) in_stream
          (k.each s in_stream) o.epoch less first.term first.term_is) initial_parts));
    }

  -- ---- all of it ----

  pub safe : Safe setup w
  safe = record {
    chosen = chosen;
    are_chosen = λ s c. longest s (in_numbers setup.workers s (contains_in (stream_numbers setup) s c));
    serial = serial;
    released = released;
    replicas = λ a c up. replica_safe a;
    openings = opening_safe;
    refusals = led.refusals;
  }

pub led_runs_are_safe : LedRunsAreSafe
led_runs_are_safe led setup events w sized fits is =
    let k = all_known setup sized events fits w is in
    safe setup sized w (led (record { setup = setup; events = events; world = w; setup_fits = sized; events_fit = fits; ends = is }))
    k.0 k.1 (chosen_logs setup sized events fits w is).0 (chosen_logs setup sized events fits w is).1
