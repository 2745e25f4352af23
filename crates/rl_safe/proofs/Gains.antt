-- The items which a leader's history gained suffice for a release: between any two events each history from which a leader released
-- begins the released list, and an open leader has released from all that it counts as acknowledged.
use Rattle.std.proofs.Common.{◌≡◌, ℕ, suc, ◌-◌, ◌≤◌, List, [], ◌∷◌, ◌++◌, length, get_or, map, take, drop, true, Option, Some, None, option_map, refl, ap, sym, ◌∙◌, subst, arith, inl, inr}
use Rattle.std.specs.List.{range_with_len}
use Rattle.std.proofs.lemmas.Bool.{cases_lt}
use Rattle.std.proofs.lemmas.List.{drop_at, length-set, map-append}
use Rattle.std.proofs.lemmas.List.Elements.{filter-append}
use Rattle.std.specs.Option.{option_map_or}
use Rattle.rl_base.specs.Lists.{IsPrefix}
use Rattle.rl_base.specs.Order.{is_below}
use Rattle.rl_base.proofs.Members.{In, contains_in, in_prefix, in_suffix, in_split}
use Rattle.rl_base.proofs.Prefixes.{prefix_self, prefix_more, prefix_trans, prefix_both, prefix_length}
use Rattle.rl_election.specs.Laws.{InitialLogsHaveOrigins}
use Rattle.rl_election.specs.World as world
use Rattle.rl_election.specs.World.{Envelope, StreamWorld, Term, no_stream, stream_of}
use Rattle.rl_election.specs.StreamEvents.{streams_after}
use Rattle.rl_election.specs.Chosen.{initial_log, IsLongestChosen}
use Rattle.rl_election.proofs.Leaders.{LeadingOk, leading_of}
use Rattle.rl_election.proofs.Steps.{some_same}
use Rattle.rl_families.specs.Families.{history}
use Rattle.rl_families.specs.Logs.{IsRising, last_stamp}
use Rattle.rl_families.proofs.Joining.{prefixes_join}
use Rattle.rl_families.proofs.Rising.{rises_from, from_rises, rises_front}
use Rattle.rl_msg.specs.Parts.{head_of}
use Rattle.rl_paxos.specs.Leaders.{Leading, with_ack}
use Rattle.rl_paxos.specs.Logs as bytes
use Rattle.rl_paxos.specs.Quorums.{is_node}
use Rattle.rl_txn.specs.declared.item.Item.{Item}
use Rattle.rl_nodes.specs.Answers.{Release, Did}
use Rattle.rl_nodes.specs.Batches.{batches_of}
use Rattle.rl_nodes.specs.Nodes.{Lead, NodeState, Leads, new_node, leading, len_acknowledged, acknowledged_log, acknowledged_history}
use Rattle.rl_nodes.specs.Setups.{Setup, SetupFits, cluster_of}
use Rattle.rl_nodes.specs.Streams.{stream_world, HasTerm}
use Rattle.rl_nodes.specs.World.{World, Given, new_world, node_of, term_of, unreleased, released_after}
use Rattle.rl_nodes.proofs.Deliveries.{between_as}
use Rattle.rl_nodes.proofs.Growing.{messages}
use Rattle.rl_nodes.proofs.InStreams.{after_ack}
use Rattle.rl_nodes.proofs.Runs as runs
use Rattle.rl_nodes.proofs.Runs.{Takes, after_step, IsKept, kept_in_runs, new_nodes}
use Rattle.rl_nodes.proofs.Tied.{TiedRun}
use Rattle.rl_safe.specs.Laws.{RunsAreLed, TakenMessage, GainsSuffice}
use Rattle.rl_safe.specs.Led.{IsLed}
use Rattle.rl_safe.specs.Runs.{Run}
use Rattle.rl_safe.proofs.Fair.{AllFair, fair_kept, first_fair}
use Rattle.rl_safe.proofs.Gained.{Counts, counts_from, ack_grows, given_at, open_history, More, Goes, Stays, Gives, goes}
use Rattle.rl_safe.proofs.InRange.{EnvelopeFair, envelopes_fair}
use Rattle.rl_safe.proofs.JoinedSafe.{chosen_logs, whole, rising, given_in, released, nests}
use Rattle.rl_safe.proofs.KnownGrowth.{LeaderPart, all_streams}
use Rattle.rl_safe.proofs.KnownLists.{by_set, map_places, front, fronts}
use Rattle.rl_safe.proofs.KnownNodes.{family_of}
use Rattle.rl_safe.proofs.KnownWorlds.{as_given, given_now, AllBegin, AllKnown, begins_known, known_kept}
use Rattle.rl_safe.proofs.LeadStreams.{ack_log}

-- ---- lists ----

stamps_rise : (xs ys : List Item) → IsPrefix xs ys → IsRising (map (λ (x : Item). x.stamp) ys) → IsRising (map (λ (x : Item). x.stamp) xs)
stamps_rise xs ys p rise =
    from_rises (map (λ (x : Item). x.stamp) xs)
    (rises_front (map (λ (x : Item). x.stamp) xs) (map (λ (x : Item). x.stamp) p.0)
    (rises_from (map (λ (x : Item). x.stamp) xs ++ map (λ (x : Item). x.stamp) p.0)
    (subst IsRising (map-append (λ (x : Item). x.stamp) xs p.0) (subst (λ zs. IsRising (map (λ (x : Item). x.stamp) zs)) (sym p.1) rise))))

nothing_behind : {A : Type 0} (xs ys : List A) → xs ++ ys ≡ xs → ys ≡ []
nothing_behind {A} xs ys e = by_length xs ys e
  where
    empty : (ys : List A) → length ys ≡ 0 → ys ≡ []
    empty [] h = refl
    empty (y ∷ ys) h = absurd (omega (arith, h))

    counts : (xs ys : List A) → length (xs ++ ys) ≡ length xs → length ys ≡ 0
    counts [] ys h = h
    counts (x ∷ xs) ys h = counts xs ys (omega (arith, h))

    by_length : (xs ys : List A) → xs ++ ys ≡ xs → ys ≡ []
    by_length xs ys e = empty ys (counts xs ys (ap length e))

-- of what begins the released list nothing is above its end
none_above : (released before : List Item) → IsRising (map (λ (x : Item). x.stamp) released) → IsPrefix before released → unreleased released before ≡ []
none_above released before rise p =
    nothing_behind released (unreleased released before)
    ((prefixes_join released released before rise (prefix_self released) p).first_is (prefix_length before released p))

-- so what a history has behind it suffices
rest_suffices : (released before items : List Item) → IsRising (map (λ (x : Item). x.stamp) released) → IsPrefix before released → IsPrefix before items
    → unreleased released items ≡ unreleased released (drop (length before) items)
rest_suffices released before items rise p q =
    ap (unreleased released) (sym q.1)
    ∙ filter-append (λ (x : Item). option_map_or (λ last. is_below last x.stamp) (last_stamp (map (λ (y : Item). y.stamp) released)) true) before q.0
    ∙ ap (λ zs. zs ++ unreleased released q.0) (none_above released before rise p)
    ∙ ap (unreleased released) (sym (drop_at before q.0 (length before) refl) ∙ ap (drop (length before)) q.1)

-- the longer of two lists that begin a third begins with each
joined : (all released items : List Item) → IsRising (map (λ (x : Item). x.stamp) all) → IsPrefix released all → IsPrefix items all
    → IsPrefix items (released ++ unreleased released items)
joined all released items rise p q =
    let k = prefixes_join all released items rise p q in
    elim (cases_lt (length released) (length items)) [
      | inl shorter ↦ subst (IsPrefix items) (sym (k.second_is (omega (arith, shorter)))) (prefix_self items)
      | inr longer ↦ subst (IsPrefix items) (sym (k.first_is longer)) (prefix_both items released all q p longer)
    ]

-- ---- what holds of a world ----

pub record AllGained (setup : Setup) (w : World) : Type 0 where
  pub settled : (all : List Item) → IsRising (map (λ (x : Item). x.stamp) all) → AllBegin w.gave all → AllBegin w.gave w.released
  pub given : (a : ℕ) (g : Given) → open_history (node_of setup w a).part ≡ Some g → In g w.gave

abbrev Facts : Setup → World → Type 0
Facts setup w = AllKnown setup w × AllFair setup w × AllGained setup w

first_gained : (setup : Setup) → AllGained setup (new_world setup)
first_gained setup = record {
  settled = λ all rise begin g i. absurd i;
  given = λ a g is.
      absurd (let k : ◌≡◌ {A = Option Given} None (Some g) = sym (ap (λ (x : NodeState). open_history x.part) (new_nodes setup a)) ∙ is in cc);
}

-- ---- what a leader counts ----

module _ (setup : Setup) (sized : SetupFits setup) (w : World) (r : TiedRun setup w) (fair : AllFair setup w) where
  abbrev v : StreamWorld
  v = stream_world setup w

  abbrev sw : StreamWorld
  sw = streams_after (cluster_of setup) r.events

  ack_short : (e s : ℕ) (t : Term) → sw.terms e ≡ Some t → (n : Envelope) → In n sw.sent → (len : ℕ) → n.message ≡ world.Ack e s len
      → len ≤ length (stream_of t s).log
  ack_short e s t is n i len ack =
      let k : (u : Term) × (v.terms e ≡ Some u) × (len ≤ length (stream_of u s).log) =
      subst (EnvelopeFair v) ack
      (envelopes_fair v (messages w.sent) fair.acks n (subst (In n) (between_as w.sent) (r.tied.sent n i))) in
      let one : k.0 ≡ t = some_same k.0 t (sw.terms e) (ap (λ f. f e) r.tied.terms ∙ k.1) is in
      subst (λ u. len ≤ length (stream_of u s).log) one k.2

  term_at : (a : ℕ) → is_node setup.nodes a ≡ true → (lead : Lead) → (node_of setup w a).part ≡ Leads lead → sw.terms lead.epoch ≡ Some (term_of lead)
  term_at a there lead is = subst (HasTerm sw) is (r.tied.term a there)

  sound : (a : ℕ) → is_node setup.nodes a ≡ true → (lead : Lead) → (node_of setup w a).part ≡ Leads lead → (s : ℕ) → is_node setup.workers s ≡ true
      → Counts (leading lead s)
  sound a there lead is s in_stream =
      let term : sw.terms lead.epoch ≡ Some (term_of lead) = term_at a there lead is in
      let ok : LeadingOk (cluster_of setup) sw lead.epoch s (initial_log (term_of lead) s) (leading lead s) =
      leading_of (cluster_of setup) r.events lead.epoch (term_of lead) term s in_stream in
      let quorum = ok.quorum in
      let nodes = ok.sized in
      let second = sized.second in
      let within = sized.second_within in
      counts_from (leading lead s) (omega (arith, quorum, second)) (omega (arith, quorum, nodes, within)) (λ b.
      elim (ok.acks b) [
        | inl none ↦ omega (arith, none)
        | inr acked ↦ (
            let m : Envelope = record { from = suc b; to = acked.sent.0; message = world.Ack lead.epoch s acked.longer } in
            let short = ack_short lead.epoch s (term_of lead) term m acked.sent.1 acked.longer refl in
            let reaches = acked.reaches in
            omega (arith, short, reaches)
            )
      ])

-- ---- what a node does ----

module _ (setup : Setup) (sized : SetupFits setup) (w : World) (r : TiedRun setup w) (k : Facts setup w) (step : runs.Step setup w) where
  abbrev did : Did
  did = step.did

  abbrev now : World
  now = after_step setup w step

  going : Goes setup (node_of setup w step.node) step.did
  going = goes setup (messages w.sent) step.node (node_of setup w step.node) (sound setup sized w r k.1 step.node step.there)
      step.cause step.is_for step.did step.answers

  here : (g : Given) → open_history step.did.node.part ≡ Some g → In g now.gave
  here g is = by_goes going
    where
      by_goes : Goes setup (node_of setup w step.node) step.did → In g now.gave
      by_goes (Stays none part) = in_prefix w.gave (given_now step.did.release) g (k.2.given step.node g (part g is))
      by_goes (Gives release e part gains) =
          in_suffix w.gave (given_now step.did.release) g (subst (λ o. In g (given_now o)) (sym e) (inl (part g is)))

  settled_on : (release : Option Release) (all : List Item) → IsRising (map (λ (x : Item). x.stamp) all) → AllBegin (w.gave ++ given_now release) all
      → AllBegin (w.gave ++ given_now release) (released_after w.released release)
  settled_on None all rise begin g i = elim (in_split w.gave [] g i) [
    | inl j ↦ k.2.settled all rise (λ h l. begin h (in_prefix w.gave [] h l)) g j
    | inr j ↦ absurd j
  ]
  settled_on (Some release) all rise begin g i =
      let old : AllBegin w.gave all = λ h l. begin h (in_prefix w.gave (given_now (Some release)) h l) in
      let p : IsPrefix w.released all = k.0.released all rise old in
      let q : IsPrefix release.history all = begin (as_given release) (in_suffix w.gave (given_now (Some release)) (as_given release) (inl refl)) in
      elim (in_split w.gave (given_now (Some release)) g i) [
        | inl j ↦ prefix_trans g.history w.released (w.released ++ unreleased w.released release.history) (k.2.settled all rise old g j)
            (prefix_more w.released (unreleased w.released release.history))
        | inr j ↦ elim j [
          | inl e ↦ subst (λ (h : Given). IsPrefix h.history (w.released ++ unreleased w.released release.history)) (sym e)
              (joined all w.released release.history rise p q)
          | inr n ↦ absurd n
        ]
      ]

  does_gained : AllGained setup now
  does_gained = record {
    settled = settled_on step.did.release;
    given = λ b. by_set (λ (x : NodeState). (g : Given) → open_history x.part ≡ Some g → In g now.gave) w.nodes (step.node - 1) (b - 1) step.did.node
        (new_node setup) (λ same. here) (λ g is. in_prefix w.gave (given_now step.did.release) g (k.2.given b g is));
  }

-- ---- every run ----

facts_kept : InitialLogsHaveOrigins → (setup : Setup) → SetupFits setup → IsKept setup (Facts setup)
facts_kept origins setup sized =
    let known = known_kept setup sized in
    let fair = fair_kept origins setup sized in
    record {
      marked = λ w sent same k. (
        known.marked w sent same k.0,
        fair.marked w sent same k.1,
        record { settled = k.2.settled; given = k.2.given },
      );
      told = λ w line k. (known.told w line k.0, fair.told w line k.1, record { settled = k.2.settled; given = k.2.given });
      does = λ w r k step q. (known.does w r k.0 step q, fair.does w r k.1 step q, does_gained setup sized w r k step);
    }

module _ (origins : InitialLogsHaveOrigins) (run : Run) (led : IsLed run.setup run.world) where
  abbrev S : Setup
  S = run.setup

  abbrev w : World
  w = run.world

  both : TiedRun run.setup run.world × Facts run.setup run.world
  both = kept_in_runs run.setup (Facts run.setup) (facts_kept origins run.setup run.setup_fits)
      (begins_known run.setup, first_fair run.setup, first_gained run.setup) run.setup_fits run.events run.events_fit run.world run.ends

  tied : TiedRun run.setup run.world
  tied = both.0

  known : AllKnown run.setup run.world
  known = both.1.0

  chosen : (log : ℕ → bytes.Log)
      × ((s : ℕ) → is_node run.setup.workers s ≡ true → IsLongestChosen (cluster_of run.setup) (stream_world run.setup run.world) s (log s))
  chosen = chosen_logs run.setup run.setup_fits run.events run.events_fit run.world run.ends

  abbrev all : List Item
  all = whole run.setup run.setup_fits run.world led tied known chosen.0 chosen.1

  all_rises : IsRising (map (λ (x : Item). x.stamp) all)
  all_rises = rising run.setup run.setup_fits run.world led tied known chosen.0 chosen.1

  begin_released : AllBegin run.world.gave run.world.released
  begin_released = both.1.2.settled all all_rises
      (λ g i. given_in run.setup run.setup_fits run.world led tied known chosen.0 chosen.1 g (known.given g i))

  released_rises : IsRising (map (λ (x : Item). x.stamp) run.world.released)
  released_rises = stamps_rise run.world.released all (released run.setup run.setup_fits run.world led tied known chosen.0 chosen.1) all_rises

  -- the history of a leader grows by an Ack
  module _ (a : ℕ) (there : is_node run.setup.nodes a ≡ true) (lead : Lead) (is : (node_of run.setup run.world a).part ≡ Leads lead)
      (s from len : ℕ) (in_stream : is_node run.setup.workers s ≡ true) where
    abbrev new : Lead
    new = after_ack lead s from len

    counts : Counts (leading lead s)
    counts = sound run.setup run.setup_fits run.world tied both.1.1 a there lead is s in_stream

    term_is : run.world.terms lead.epoch ≡ Some (term_of lead)
    term_is = ap (λ f. f lead.epoch) (sym tied.tied.terms)
        ∙ term_at run.setup run.setup_fits run.world tied both.1.1 a there lead is

    -- each stream has the log that it had, and no less of it is acknowledged
    log_same : (u : ℕ) → (leading (after_ack lead s from len) u).log ≡ (leading lead u).log
    log_same u = by_set (λ (z : Leading). z.log ≡ (leading lead u).log) lead.streams (s - 1) (u - 1) (with_ack (leading lead s) from len) no_stream
        (λ same. ack_log (leading lead s) from len ∙ ap (λ i. (get_or lead.streams i no_stream).log) (sym same)) refl

    more : (u : ℕ) → IsPrefix (acknowledged_log (leading lead u)) (acknowledged_log (leading (after_ack lead s from len) u))
    more u = by_set (λ (z : Leading). IsPrefix (acknowledged_log (leading lead u)) (acknowledged_log z)) lead.streams (s - 1) (u - 1)
        (with_ack (leading lead s) from len) no_stream
        (λ same. subst (λ i. IsPrefix (acknowledged_log (get_or lead.streams i no_stream)) (acknowledged_log (with_ack (leading lead s) from len))) (sym same)
        (subst (λ log. IsPrefix (acknowledged_log (leading lead s)) (take (len_acknowledged (with_ack (leading lead s) from len)) log))
        (sym (ack_log (leading lead s) from len))
        (fronts (len_acknowledged (leading lead s)) (len_acknowledged (with_ack (leading lead s) from len)) (leading lead s).log
        (ack_grows (leading lead s) from len counts))))
        (prefix_self (acknowledged_log (leading lead u)))

    part : (u : ℕ) → LeaderPart (stream_world run.setup run.world) u (acknowledged_log (leading (after_ack lead s from len) u))
    part u = inr (record {
      epoch = lead.epoch;
      term = term_of lead;
      term_is = term_is;
      within = subst (IsPrefix (acknowledged_log (leading (after_ack lead s from len) u))) (log_same u)
          (front (len_acknowledged (leading (after_ack lead s from len) u)) (leading (after_ack lead s from len) u).log);
    })

    -- as a family of streams
    streams_count : length lead.streams ≡ run.setup.workers
    streams_count = all_streams run.setup run.setup_fits run.world tied lead term_is

    as_family : (l : Lead) → length l.streams ≡ run.setup.workers
        → acknowledged_history l ≡ history (family_of run.setup (λ u. acknowledged_log (leading l u)))
    as_family l size =
        ap history
        (map_places (λ stream. batches_of (acknowledged_log stream)) no_stream l.streams 1
        ∙ ap (λ n. map (λ u. batches_of (acknowledged_log (leading l u))) (range_with_len 1 n)) size)

    grows : IsPrefix (acknowledged_history lead) (acknowledged_history (after_ack lead s from len))
    grows =
        subst (λ zs. IsPrefix zs (acknowledged_history (after_ack lead s from len))) (sym (as_family lead streams_count))
        (subst (IsPrefix (history (family_of run.setup (λ u. acknowledged_log (leading lead u)))))
        (sym (as_family (after_ack lead s from len) (length-set lead.streams (s - 1) (with_ack (leading lead s) from len) ∙ streams_count)))
        (nests run.setup run.setup_fits run.world led tied known chosen.0 chosen.1 (λ u. acknowledged_log (leading lead u))
        (λ u. acknowledged_log (leading (after_ack lead s from len) u)) (λ u t. more u) (λ u t. part u)))

  more_suffices : (a : ℕ) → is_node run.setup.nodes a ≡ true → (release : Release) → More run.setup (node_of run.setup run.world a) release
      → unreleased run.world.released release.history ≡ unreleased run.world.released release.gained
  more_suffices a there release m =
      let before = acknowledged_history m.lead in
      let goes_on : open_history (node_of run.setup run.world a).part ≡ Some (record { epoch = m.lead.epoch; history = before }) =
      ap open_history m.is ∙ ap (option_map (given_at m.lead.epoch before)) m.is_open in
      let p : IsPrefix before run.world.released = begin_released _ (both.1.2.given a _ goes_on) in
      let q : IsPrefix before release.history =
      subst (IsPrefix before) (sym m.history) (grows a there m.lead m.is m.stream m.from m.len m.there) in
      rest_suffices run.world.released before release.history released_rises p q ∙ ap (unreleased run.world.released) (sym m.gained)

  goes_suffice : (a : ℕ) → is_node run.setup.nodes a ≡ true → (did : Did) → Goes run.setup (node_of run.setup run.world a) did → (release : Release)
      → did.release ≡ Some release → unreleased run.world.released release.history ≡ unreleased run.world.released release.gained
  goes_suffice a there did (Stays none part) release is = absurd (let k : ◌≡◌ {A = Option Release} None (Some release) = sym none ∙ is in cc)
  goes_suffice a there did (Gives given e part gains) release is =
      let same : given ≡ release = let k : ◌≡◌ {A = Option Release} (Some given) (Some release) = sym e ∙ is in cc in
      subst (λ (z : Release). unreleased run.world.released z.history ≡ unreleased run.world.released z.gained) same
      (elim gains [
        | inl all_of_it ↦ ap (unreleased run.world.released) (sym all_of_it)
        | inr m ↦ more_suffices a there given m
      ])

  suffices : (m : TakenMessage run) (release : Release) → m.did.release ≡ Some release
      → unreleased run.world.released release.history ≡ unreleased run.world.released release.gained
  suffices m release is =
      let to = (head_of m.sent.message).to in
      let sent : In m.sent.message (messages run.world.sent) = contains_in (messages run.world.sent) m.sent.message m.sent.was_sent in
      let there : is_node run.setup.nodes to ≡ true = tied.tied.receivers m.sent.message sent in
      goes_suffice to there m.did
      (goes run.setup (messages run.world.sent) to (node_of run.setup run.world to) (sound run.setup run.setup_fits run.world tied both.1.1 to there)
      (Takes m.sent.message) sent m.did m.takes)
      release is

pub gains_suffice : InitialLogsHaveOrigins → RunsAreLed → GainsSuffice
gains_suffice origins led run m release is = suffices origins run (led run) m release is
