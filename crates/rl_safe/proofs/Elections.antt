-- What several elections leave true of a run.
use Rattle.std.proofs.Common.{◌≡◌, ℕ, suc, ◌-◌, ◌<◌, ◌≤◌, ◌==◌, nat_lt, nat_le, List, [], ◌∷◌, length, map, filter, true, Contains, refl, ap, sym, ◌∙◌, subst, arith, inl, inr}
use Rattle.std.proofs.lemmas.Bool.{cases_lt, or_left}
use Rattle.std.proofs.lemmas.List.{length-map}
use Rattle.std.proofs.lemmas.List.Elements.{filter_map-append}
use Rattle.rl_base.specs.Lists.{IsPrefix, updated}
use Rattle.rl_base.specs.Results.{◌>>=◌}
use Rattle.rl_base.proofs.Members.{In, in_contains, contains_in, map_in}
use Rattle.rl_base.proofs.Prefixes.{prefix_self, prefix_trans, prefix_in}
use Rattle.rl_base.proofs.Tests.{lt_true, true_same}
use Rattle.rl_base.proofs.UpdateLemmas.{by_updated, updated_same}
use Rattle.rl_paxos.specs.Acceptors.{kept_ballot, kept_log}
use Rattle.rl_paxos.specs.Logs as bytes
use Rattle.rl_paxos.specs.Quorums.{is_node}
use Rattle.rl_txn.specs.declared.batch.Batch.{Batch}
use Rattle.rl_txn.specs.declared.item.Item.{Item}
use Rattle.rl_election.specs.World as world
use Rattle.rl_election.specs.World.{Envelope, StreamWorld, stream_of}
use Rattle.rl_election.specs.StreamEvents.{streams_after}
use Rattle.rl_election.specs.Chosen.{IsInitialLog, IsLongestChosen}
use Rattle.rl_election.proofs.Inv.{KeptOk, InLeaderLog, kept_at}
use Rattle.rl_election.proofs.Stays.{inv_of}
use Rattle.rl_families.specs.Families.{IsInside, AllRise, all_reached, least, least_top, watermark, history}
use Rattle.rl_families.specs.Laws.{is_up_to_watermark}
use Rattle.rl_families.specs.Leaders.{logs_of_streams, opening_list}
use Rattle.rl_families.specs.LeadersLogs.{EpochPart}
use Rattle.rl_families.specs.Logs.{items_along, top_epoch, last_seq}
use Rattle.rl_families.proofs.Nesting.{least_from, history_cut}
use Rattle.rl_nodes.specs.Batches.{batches_of}
use Rattle.rl_nodes.specs.Events.{after_events, expanded_events}
use Rattle.rl_nodes.specs.Laws.{Grows}
use Rattle.rl_nodes.specs.Safe.{history_of}
use Rattle.rl_nodes.specs.Setups.{Setup, cluster_of, stream_numbers, node_numbers}
use Rattle.rl_nodes.specs.Streams.{envelope_of, envelopes_of, stream_world}
use Rattle.rl_nodes.specs.World.{World, Opened, Given, node_of}
use Rattle.rl_nodes.proofs.Deliveries.{in_numbers, between_as}
use Rattle.rl_nodes.proofs.Growing.{messages, runs_go_on, runs_only_add}
use Rattle.rl_nodes.proofs.Tied.{TiedRun, between}
use Rattle.rl_safe.specs.Led.{HasOpened, IsLed}
use Rattle.rl_safe.specs.Laws.{RunsAreLed}
use Rattle.rl_safe.specs.Runs.{Run}
use Rattle.rl_safe.specs.Elections.{IsLog, IsKept, IsLeaders, IsChosenAt, RunLog, ChosenLogs, InitialLogs, Stretch, longer_run, LogsHaveWhatIsProposed, ItemsAreOfOpenedEpochs, IsReached, LogsHaveAllUpToTheLast, OpeningListsStand, LaterLogsBegin, LaterLogsBeginOpeningLists, least_last, EpochsDecide, IsPast, EpochsSettle, ReleasedIsNeverCut}
use Rattle.rl_safe.proofs.Epochs.{filter_both, part_at, proposed_at, all_reached_in, epoch_decides}
use Rattle.rl_safe.proofs.JoinedSafe.{chosen_logs, are_prefixes, logs_rise, same_family, nests, part_in, chosen_parts, begins_initial, released}
use Rattle.rl_safe.proofs.KnownGrowth.{ChosenPart, LeaderPart, Later, later, part_stays}
use Rattle.rl_safe.proofs.KnownLists.{node_low, node_high, numbers_in, range_length, map_inside, batches_begin}
use Rattle.rl_safe.proofs.KnownNodes.{family_of}
use Rattle.rl_safe.proofs.KnownWorlds.{IsGiven, AllKnown, all_known}

-- ---- the logs of a run ----

module _ (setup : Setup) (w : World) (r : TiedRun setup w) where
  abbrev v : StreamWorld
  v = stream_world setup w

  abbrev sw : StreamWorld
  sw = streams_after (cluster_of setup) r.events

  -- what a node keeps begins a leader's log
  pub kept_part : (a : ℕ) → is_node setup.nodes a ≡ true → (s : ℕ) → LeaderPart v s (kept_log (node_of setup w a).acceptor s)
  kept_part a there s =
      let x = node_of setup w a in
      let ok : KeptOk sw x.acceptor.promised (s - 1) (kept_at x.acceptor (s - 1)) =
      subst (λ (n : world.Node). KeptOk sw n.acceptor.promised (s - 1) (kept_at n.acceptor (s - 1))) (r.tied.node a there)
      (((inv_of (cluster_of setup) r.events).node_ok a).kept (s - 1)) in
      elim (cases_lt 0 (kept_ballot x.acceptor s)) [
        | inl some ↦ (let k : InLeaderLog sw (kept_ballot x.acceptor s) (s - 1) (kept_log x.acceptor s) = ok.has some in
            inr (record {
              epoch = kept_ballot x.acceptor s;
              term = k.term;
              term_is = ap (λ f. f (kept_ballot x.acceptor s)) (sym r.tied.terms) ∙ k.term_is;
              within = k.within;
            }))
        | inr none ↦ inl (ok.none (omega (arith, none)))
      ]

  -- the initial log of an epoch begins its leader's
  initial_part : (e s : ℕ) (log : bytes.Log) → IsInitialLog v e s log → LeaderPart v s log
  initial_part e s log k = inr (record {
    epoch = e;
    term = k.term;
    term_is = k.term_is;
    within = subst (λ z. IsPrefix z (stream_of k.term s).log) k.initial_is
        (((inv_of (cluster_of setup) r.events).term_ok e k.term (ap (λ f. f e) r.tied.terms ∙ k.term_is)).begins (s - 1));
  })

  longest_part : (s : ℕ) (log : bytes.Log) → IsLongestChosen (cluster_of setup) v s log → ChosenPart (cluster_of setup) v s log
  longest_part s log k = elim k.from [
    | inl e ↦ inl e
    | inr c ↦ inr (
      c.0,
      record {
        term = c.1.is_log.term;
        term_is = c.1.is_log.term_is;
        within = subst (IsPrefix log) (sym c.1.is_log.log_is) c.1.within;
        acked = c.1.acked;
      },
    )
  ]

-- ---- a run and its leaders ----

module _ (run : Run) where
  abbrev S : Setup
  S = run.setup

  abbrev W : World
  W = run.world

  abbrev There : ℕ → Type 0
  There s = is_node run.setup.workers s ≡ true

  facts : TiedRun run.setup run.world × AllKnown run.setup run.world
  facts = all_known run.setup run.setup_fits run.events run.events_fit run.world run.ends

  pub part_of : (x : RunLog run) → LeaderPart (stream_world run.setup run.world) x.stream x.log
  part_of x = by_kind x.is
    where
      by_kind : IsLog run x.stream x.log → LeaderPart (stream_world run.setup run.world) x.stream x.log
      by_kind (IsKept a there is) = subst (LeaderPart (stream_world run.setup run.world) x.stream) is
          (kept_part run.setup run.world facts.0 a (in_numbers run.setup.nodes a (contains_in (node_numbers run.setup) a there)) x.stream)
      by_kind (IsLeaders epoch k) = inr (record { epoch = epoch; term = k.term; term_is = k.term_is; within = subst (IsPrefix x.log) (sym k.log_is) (prefix_self x.log) })
      by_kind (IsChosenAt epoch k) = inr (record {
        epoch = epoch;
        term = k.is_log.term;
        term_is = k.is_log.term_is;
        within = subst (IsPrefix x.log) (sym k.is_log.log_is) k.within;
      })

  in_stream : (s : ℕ) → Contains (stream_numbers run.setup) s → There s
  in_stream s c = in_numbers run.setup.workers s (contains_in (stream_numbers run.setup) s c)

  -- its log alone among empty ones
  abbrev alone : RunLog run → ℕ → bytes.Log
  alone x = updated (λ r. []) x.stream x.log

  alone_parts : (x : RunLog run) (r : ℕ) → There r → LeaderPart (stream_world run.setup run.world) r (alone x r)
  alone_parts x r there = by_updated (LeaderPart (stream_world run.setup run.world) r) (λ r. []) x.stream x.log r
      (λ same. subst (λ z. LeaderPart (stream_world run.setup run.world) z x.log) (sym same) (part_of x)) (λ other. inl refl)

  module _ (led : IsLed run.setup run.world) where
    abbrev longest : (log : ℕ → bytes.Log) × ((s : ℕ) → There s → IsLongestChosen (cluster_of run.setup) (stream_world run.setup run.world) s (log s))
    longest = chosen_logs run.setup run.setup_fits run.events run.events_fit run.world run.ends

    pub has_proposed : (x : RunLog run) (epoch : ℕ) → 0 < epoch → EpochPart led.leaders epoch x.stream (batches_of x.log)
    has_proposed x epoch born =
        let there = in_stream x.stream x.in_setup in
        subst (λ log. EpochPart led.leaders epoch x.stream (batches_of log)) (updated_same (λ r. []) x.stream x.log)
        (part_at led.leaders run.setup.workers led.are_leaders (λ s. batches_of (alone x s))
        (are_prefixes run.setup run.setup_fits run.world led facts.0 facts.1 longest.0 longest.1 (alone x) (alone_parts x))
        epoch x.stream born (node_low run.setup.workers x.stream there) (node_high run.setup.workers x.stream there))

    pub has_all : (x : RunLog run) (item : Item) → IsReached run led.leaders x item → Contains (items_along (batches_of x.log)) item
    has_all x item k =
        let there = in_stream x.stream x.in_setup in
        let same = updated_same (λ r. []) x.stream x.log in
        in_contains (items_along (batches_of x.log)) item
        (subst (λ log. In item (items_along (batches_of log))) same
        (all_reached_in led.leaders run.setup.workers led.are_leaders (λ s. batches_of (alone x s))
        (are_prefixes run.setup run.setup_fits run.world led facts.0 facts.1 longest.0 longest.1 (alone x) (alone_parts x))
        k.epoch x.stream (node_low run.setup.workers x.stream there) (node_high run.setup.workers x.stream there)
        item (contains_in (led.leaders.decided k.epoch) item k.decided) k.worker
        (subst (λ log. item.stamp.seq ≤ last_seq (batches_of log) k.epoch) (sym same) k.reached)))

    pub is_opened : (x : RunLog run) (item : Item) → Contains (items_along (batches_of x.log)) item → HasOpened run.world item.stamp.epoch
    is_opened x item c =
        let there = in_stream x.stream x.in_setup in
        let same = updated_same (λ r. []) x.stream x.log in
        led.opened item.stamp.epoch x.stream item (in_contains (items_along (led.leaders.proposed item.stamp.epoch x.stream)) item
        (proposed_at led.leaders run.setup.workers led.are_leaders (λ s. batches_of (alone x s))
        (are_prefixes run.setup run.setup_fits run.world led facts.0 facts.1 longest.0 longest.1 (alone x) (alone_parts x))
        x.stream (node_low run.setup.workers x.stream there) (node_high run.setup.workers x.stream there) item
        (subst (λ log. In item (items_along (batches_of log))) (sym same) (contains_in (items_along (batches_of x.log)) item c))))

    module _ (chosen : ChosenLogs run) where
      pub all_longest : (s : ℕ) → There s → IsLongestChosen (cluster_of run.setup) (stream_world run.setup run.world) s (chosen.log s)
      all_longest s there = chosen.are s (in_contains (stream_numbers run.setup) s (numbers_in run.setup.workers s there))

      parts : (s : ℕ) → There s → LeaderPart (stream_world run.setup run.world) s (chosen.log s)
      parts = chosen_parts run.setup run.setup_fits run.world led facts.0 facts.1 chosen.log all_longest

      same_logs : logs_of_streams run.setup.workers (λ s. batches_of (chosen.log s)) ≡ family_of run.setup chosen.log
      same_logs = same_family run.setup run.setup_fits run.world led facts.0 facts.1 chosen.log all_longest chosen.log

      pub decides : (epoch : ℕ) → filter (λ (x : Item). x.stamp.epoch == epoch) (history_of run.setup chosen.log)
          ≡ filter (λ (x : Item). nat_le x.stamp.seq (least_last run chosen epoch)) (led.leaders.decided epoch)
      decides epoch = subst
          (λ family. filter (λ (x : Item). x.stamp.epoch == epoch) (history family)
          ≡ filter (λ (x : Item). nat_le x.stamp.seq (all_reached family epoch)) (led.leaders.decided epoch)) same_logs
          (epoch_decides led.leaders run.setup.workers led.are_leaders (λ s. batches_of (chosen.log s))
          (are_prefixes run.setup run.setup_fits run.world led facts.0 facts.1 chosen.log all_longest chosen.log parts) epoch)

    -- ---- the initial logs of a later epoch ----

    module _ (initial : InitialLogs run) where
      initials : (s : ℕ) → There s → LeaderPart (stream_world run.setup run.world) s (initial.log s)
      initials s there = initial_part run.setup run.world facts.0 initial.epoch s (initial.log s)
          (initial.are s (in_contains (stream_numbers run.setup) s (numbers_in run.setup.workers s there)))

      begun : (g : Given) → In g run.world.gave → g.epoch < initial.epoch → IsPrefix g.history (history_of run.setup initial.log)
      begun g i less =
          let k : IsGiven run.setup (stream_world run.setup run.world) g = facts.1.given g i in
          subst (λ items. IsPrefix items (history_of run.setup initial.log)) (sym k.is)
          (nests run.setup run.setup_fits run.world led facts.0 facts.1 longest.0 longest.1 k.log initial.log
          (λ s there. let first = initial.are s (in_contains (stream_numbers run.setup) s (numbers_in run.setup.workers s there)) in
          subst (IsPrefix (k.log s)) first.initial_is
          (begins_initial run.setup run.setup_fits run.world led facts.0 facts.1 longest.0 longest.1 g.epoch s (k.log s) there (k.each s there)
          initial.epoch less first.term first.term_is)) initials)

      pub later_begins : LaterLogsBegin run initial
      later_begins = record {
        opened = λ o c less. begun (record { epoch = o.epoch; history = o.items }) (facts.1.opened o (contains_in run.world.openings o c)) less;
        released = λ g c less. begun g (contains_in run.world.gave g c) less;
      }

-- ---- a run that goes on ----

module _ (s : Stretch) where
  grows : Grows s.run.world s.world
  grows = runs_only_add s.run.setup (expanded_events s.run.setup s.more) s.run.world s.world
      (ap (λ r. r >>= after_events s.run.setup (expanded_events s.run.setup s.more)) (sym s.run.ends)
      ∙ sym (runs_go_on s.run.setup s.run.events s.more) ∙ s.ends)

  sent_on : (n : Envelope) → In n (between s.run.world.sent) → In n (between s.world.sent)
  sent_on n i =
      let p = grows.sent in
      subst (In n) (sym (between_as s.world.sent))
      (prefix_in n (envelopes_of (messages s.run.world.sent)) (envelopes_of (messages s.world.sent))
      (envelopes_of p.0, sym (filter_map-append envelope_of (messages s.run.world.sent) p.0) ∙ ap envelopes_of p.1)
      (subst (In n) (between_as s.run.world.sent) i))

  on : Later (cluster_of s.run.setup) (stream_world s.run.setup s.run.world) (stream_world s.run.setup s.world)
  on = later s.run.setup s.run.setup_fits s.run.world s.world (facts s.run).0 (facts (longer_run s)).0 sent_on

  module _ (led : IsLed s.run.setup s.world) where
    pub stands : (o late : Opened) → Contains s.run.world.openings o → Contains s.world.openings late → late.epoch ≡ o.epoch → late.items ≡ o.items
    stands o late c d same =
        let there = prefix_in o s.run.world.openings s.world.openings grows.openings (contains_in s.run.world.openings o c) in
        led.openings late d ∙ ap (opening_list led.leaders s.run.setup.workers) same ∙ sym (led.openings o (in_contains s.world.openings o there))

    module _ (chosen : ChosenLogs s.run) (late : ChosenLogs (longer_run s)) where
      abbrev now : List (List Batch)
      now = family_of s.run.setup chosen.log

      abbrev then : List (List Batch)
      then = family_of s.run.setup late.log

      longer : (u : ℕ) → is_node s.run.setup.workers u ≡ true → IsPrefix (chosen.log u) (late.log u)
      longer u there =
          part_in s.run.setup s.run.setup_fits s.world led (facts (longer_run s)).0 (facts (longer_run s)).1 late.log (all_longest (longer_run s) led late)
          u (chosen.log u) there
          (part_stays (cluster_of s.run.setup) (stream_world s.run.setup s.run.world) (stream_world s.run.setup s.world) on u (chosen.log u) there
          (longest_part s.run.setup s.run.world (facts s.run).0 u (chosen.log u)
          (chosen.are u (in_contains (stream_numbers s.run.setup) u (numbers_in s.run.setup.workers u there)))))

      inside : IsInside now then
      inside = map_inside (λ u. batches_of (chosen.log u)) (λ u. batches_of (late.log u)) (stream_numbers s.run.setup)
          (λ u i. batches_begin (chosen.log u) (late.log u) (longer u (in_numbers s.run.setup.workers u i)))

      rise : AllRise then
      rise = subst AllRise (same_logs (longer_run s) led late)
          (logs_rise s.run.setup s.run.setup_fits s.world led (facts (longer_run s)).0 (facts (longer_run s)).1 late.log (all_longest (longer_run s) led late)
          late.log (parts (longer_run s) led late)).stamped.rising

      abbrev tops : List ℕ
      tops = map top_epoch now

      least_past : (m : ℕ) (ns : List ℕ) → 1 ≤ length ns → ((k : ℕ) → In k ns → m ≤ k) → m ≤ least ns
      least_past m [] some h = absurd (omega (arith, some))
      least_past m (n ∷ ns) some h = least_from m n ns h

      pub settles : (epoch : ℕ) → IsPast s.run chosen epoch
          → filter (λ (x : Item). x.stamp.epoch == epoch) (history then) ≡ filter (λ (x : Item). x.stamp.epoch == epoch) (history now)
      settles epoch past =
          let size = length-map now top_epoch ∙ length-map (stream_numbers s.run.setup) (λ u. batches_of (chosen.log u)) ∙ range_length 1 s.run.setup.workers in
          let some = s.run.setup_fits.some_workers in
          let top = least_past (suc epoch) tops (omega (arith, size, some)) (λ k i.
          let a = map_in top_epoch k now i in
          let b = map_in (λ u. batches_of (chosen.log u)) a.0 (stream_numbers s.run.setup) a.1 in
          let high = past b.0 (in_contains (stream_numbers s.run.setup) b.0 b.1) in
          let same = ap top_epoch b.2 ∙ a.2 in
          omega (arith, high, same)) in
          sym (ap (filter (λ (x : Item). x.stamp.epoch == epoch)) (history_cut now then inside rise)
          ∙ filter_both (λ (x : Item). x.stamp.epoch == epoch) (λ (x : Item). is_up_to_watermark (watermark now) x.stamp) (history then)
          (λ x t. let same = true_same x.stamp.epoch epoch t in
          or_left (nat_lt x.stamp.epoch (least_top now)) _ (lt_true x.stamp.epoch (least_top now) (omega (arith, top, same)))))

    pub never_cut : (late : ChosenLogs (longer_run s)) → IsPrefix s.run.world.released (history_of s.run.setup late.log)
    never_cut late = prefix_trans s.run.world.released s.world.released (history_of s.run.setup late.log) grows.released
        (released s.run.setup s.run.setup_fits s.world led (facts (longer_run s)).0 (facts (longer_run s)).1 late.log (all_longest (longer_run s) led late))

-- ---- the laws ----

pub logs_have_what_is_proposed : LogsHaveWhatIsProposed
logs_have_what_is_proposed run led = has_proposed run led

pub logs_have_all_up_to_the_last : LogsHaveAllUpToTheLast
logs_have_all_up_to_the_last run led = has_all run led

pub items_are_of_opened_epochs : RunsAreLed → ItemsAreOfOpenedEpochs
items_are_of_opened_epochs led run = is_opened run (led run)

pub epochs_decide : EpochsDecide
epochs_decide run led chosen epoch = decides run led chosen epoch

pub later_logs_begin : RunsAreLed → LaterLogsBeginOpeningLists
later_logs_begin led run initial = later_begins run (led run) initial

pub opening_lists_stand : RunsAreLed → OpeningListsStand
opening_lists_stand led s = stands s (led (longer_run s))

pub epochs_settle : RunsAreLed → EpochsSettle
epochs_settle led s chosen late epoch past = settles s (led (longer_run s)) chosen late epoch past

pub released_is_never_cut : RunsAreLed → ReleasedIsNeverCut
released_is_never_cut led s late = never_cut s (led (longer_run s)) late
