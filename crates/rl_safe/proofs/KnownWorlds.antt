-- What holds of the world in every run: each node knows what is chosen, each Known tells so, each history from which a leader released
-- is one of chosen logs, and the released list begins every list that all of these histories begin.
use Rattle.std.proofs.Common.{◌≡◌, ℕ, ◌-◌, List, [], ◌∷◌, ◌++◌, length, map, true, Option, Some, None, option_to_list, option_map, All, Ok, refl, ap, sym, ◌∙◌, subst, arith, inl, inr}
use Rattle.std.specs.List.{range_with_len}
use Rattle.std.proofs.lemmas.List.{map-append}
use Rattle.std.proofs.lemmas.List.Elements.{filter_map-append}
use Rattle.std.proofs.lemmas.Bool.{cases_lt}
use Rattle.rl_base.specs.Lists.{IsPrefix}
use Rattle.rl_base.proofs.Members.{In, in_prefix, in_suffix, in_split}
use Rattle.rl_base.proofs.Prefixes.{prefix_self}
use Rattle.rl_base.proofs.UpdateLemmas.{updated_same}
use Rattle.rl_paxos.specs.Logs as bytes
use Rattle.rl_paxos.specs.Quorums.{is_node}
use Rattle.rl_txn.specs.declared.item.Item.{Item}
use Rattle.rl_events.specs.Fits.{EventFits}
use Rattle.rl_events.specs.declared.event.Event.{Event}
use Rattle.rl_election.specs.World.{Envelope, StreamWorld, no_stream}
use Rattle.rl_families.specs.Families.{history}
use Rattle.rl_families.specs.Logs.{IsRising}
use Rattle.rl_families.proofs.Joining.{prefixes_join}
use Rattle.rl_msg.specs.declared.msg.Msg.{Msg}
use Rattle.rl_msg.specs.declared.msg.Msg.TheVariants as msg
use Rattle.rl_nodes.specs.Answers.{Opening, Release, Did}
use Rattle.rl_nodes.specs.Batches.{batches_of}
use Rattle.rl_nodes.specs.Events.{world_after}
use Rattle.rl_nodes.specs.Nodes.{Lead, Part, Follows, Stands, Leads, new_node, leading, acknowledged_log}
use Rattle.rl_nodes.specs.Setups.{Setup, SetupFits, cluster_of}
use Rattle.rl_nodes.specs.Streams.{envelope_of, envelopes_of, stream_world}
use Rattle.rl_nodes.specs.World.{World, Sent, Opened, Given, Line, new_world, node_of, new_sent, with_line, term_of, terms_after, unreleased, released_after}
use Rattle.rl_nodes.proofs.Deliveries.{between_as}
use Rattle.rl_nodes.proofs.Growing.{messages}
use Rattle.rl_nodes.proofs.Runs.{new_nodes}
use Rattle.rl_nodes.proofs.Tied.{TiedRun, between}
use Rattle.rl_safe.proofs.KnownLists.{by_set, map_places}
use Rattle.rl_nodes.proofs.Runs.{Step, after_step, IsKept, kept_in_runs}
use Rattle.rl_safe.proofs.KnownGrowth.{ChosenAt, Later, chosen_stays, later, all_streams, counted, acknowledged}
use Rattle.rl_safe.proofs.KnownMoves.{Says, SaysOf, Gives, GivesOf, Opens, OpensWith, Tells, tells}
use Rattle.rl_safe.proofs.KnownNodes.{family_of, TellsChosen, telling_stays, NodeOk, keeps_logs, moves_ok, forgotten_ok, node_stays}

-- a history from which a leader released is that of logs that are chosen at its epoch
pub record IsGiven (setup : Setup) (v : StreamWorld) (given : Given) : Type 0 where
  pub log : ℕ → bytes.Log
  pub each : (s : ℕ) → is_node setup.workers s ≡ true → ChosenAt (cluster_of setup) v given.epoch s (log s)
  pub is : given.history ≡ history (family_of setup log)

-- a history from which a leader releases, and that of an event
abbrev pub as_given : Release → Given
as_given release = record { epoch = release.epoch; history = release.history }

abbrev pub given_now : Option Release → List Given
given_now release = option_to_list (option_map as_given release)

-- all of these histories begin a list
abbrev pub AllBegin : List Given → List Item → Type 0
AllBegin gave whole = (given : Given) → In given gave → IsPrefix given.history whole

pub record AllKnown (setup : Setup) (w : World) : Type 0 where
  pub nodes : (a : ℕ) → NodeOk setup (stream_world setup w) (node_of setup w a)
  pub telling : (m : Msg) → In m (messages w.sent) → TellsChosen setup (stream_world setup w) m
  pub given : (given : Given) → In given w.gave → IsGiven setup (stream_world setup w) given
  -- each opening list is such a history
  pub opened : (o : Opened) → In o w.openings → In (record { epoch = o.epoch; history = o.items }) w.gave
  pub released : (whole : List Item) → IsRising (map (λ x. x.stamp) whole) → AllBegin w.gave whole → IsPrefix w.released whole

-- what was released, and behind it what a history has above, begins what both begin
released_begins : (whole released history : List Item) → IsRising (map (λ x. x.stamp) whole) → IsPrefix released whole
    → IsPrefix history whole
    → IsPrefix (released ++ unreleased released history) whole
released_begins whole released history rising p q =
    let k = prefixes_join whole released history rising p q in
    elim (cases_lt (length released) (length history)) [
      | inl shorter ↦ subst (λ zs. IsPrefix zs whole) (sym (k.second_is (omega (arith, shorter)))) q
      | inr longer ↦ subst (λ zs. IsPrefix zs whole) (sym (k.first_is longer)) p
    ]

-- ---- the first world ----

pub begins_known : (setup : Setup) → AllKnown setup (new_world setup)
begins_known setup = record {
  nodes =
      λ a. subst (NodeOk setup (stream_world setup (new_world setup))) (sym (new_nodes setup a))
      (forgotten_ok setup (stream_world setup (new_world setup)) (new_node setup) refl refl);
  telling = λ m i. absurd i;
  given = λ given i. absurd i;
  opened = λ o i. absurd i;
  released = λ whole rise begin. (whole, refl);
}

-- ---- other marks, and lines ----

given_stays : (setup : Setup) (v after : StreamWorld) → Later (cluster_of setup) v after → (given : Given) → IsGiven setup v given
    → IsGiven setup after given
given_stays setup v after later given k = record {
  log = k.log;
  each = λ s there. chosen_stays (cluster_of setup) v after later given.epoch s (k.log s) there (k.each s there);
  is = k.is;
}

marked_known : (setup : Setup) (w : World) (sent : List Sent) → messages sent ≡ messages w.sent → AllKnown setup w
    → AllKnown setup (record w { sent = sent })
marked_known setup w sent same k =
    let between_same : between w.sent ≡ between sent = between_as w.sent ∙ ap envelopes_of (sym same) ∙ sym (between_as sent) in
    let on : Later (cluster_of setup) (stream_world setup w) (stream_world setup (record w { sent = sent })) = record {
      sent = λ n i. subst (In n) between_same i;
      logs = λ e t is s there. (t, is, prefix_self _);
    } in
    record {
      nodes =
          λ a. node_stays setup (stream_world setup w) (stream_world setup (record w { sent = sent })) on (node_of setup w a) (k.nodes a);
      telling =
          λ m i. telling_stays setup (stream_world setup w) (stream_world setup (record w { sent = sent })) on m
          (k.telling m (subst (In m) same i));
      given =
          λ given i. given_stays setup (stream_world setup w) (stream_world setup (record w { sent = sent })) on given (k.given given i);
      opened = k.opened;
      released = k.released;
    }

told_known : (setup : Setup) (w : World) (line : Line) → AllKnown setup w → AllKnown setup (with_line w line)
told_known setup w line k = record { nodes = k.nodes; telling = k.telling; given = k.given; opened = k.opened; released = k.released }

-- ---- what a node does ----

module _ (setup : Setup) (sized : SetupFits setup) (w : World) (r : TiedRun setup w) (k : AllKnown setup w) (step : Step setup w)
    (q : TiedRun setup (after_step setup w step)) where
  abbrev did : Did
  did = step.did

  abbrev x : World
  x = after_step setup w step

  abbrev v : StreamWorld
  v = stream_world setup w

  abbrev after : StreamWorld
  after = stream_world setup (after_step setup w step)

  now : Tells setup (messages w.sent) (node_of setup w step.node) step.did
  now = tells setup (messages w.sent) step.node (node_of setup w step.node) step.cause step.is_for step.did step.answers

  more : (n : Envelope) → In n (between w.sent) → In n (between x.sent)
  more n i = subst (In n) (sym (filter_map-append (λ (m : Sent). envelope_of m.message) w.sent (map new_sent did.sends)))
      (in_prefix (between w.sent) (between (map new_sent did.sends)) n i)

  on : Later (cluster_of setup) v after
  on = later setup sized w x r q more

  nodes_known : (a : ℕ) → NodeOk setup after (node_of setup x a)
  nodes_known a =
      by_set (NodeOk setup after) w.nodes (step.node - 1) (a - 1) did.node (new_node setup)
      (λ same. node_stays setup v after on did.node
      (moves_ok setup v (messages w.sent) (node_of setup w step.node) did.node (k.nodes step.node)
      (keeps_logs setup w r step.node step.there) k.telling now.moves))
      (node_stays setup v after on (node_of setup w a) (k.nodes a))

  -- the term of an epoch that the node leads is what it has
  led : (lead : Lead) → did.node.part ≡ Leads lead → x.terms lead.epoch ≡ Some (term_of lead)
  led lead is = ap (λ part. terms_after w.terms part lead.epoch) is ∙ updated_same w.terms lead.epoch (Some (term_of lead))

  said_by : (part : Part) → did.node.part ≡ part → (e s len : ℕ) → SaysOf setup part e s len → (from to : ℕ)
      → TellsChosen setup after (msg.Known from to e s len)
  said_by Follows is e s len h from to = absurd h
  said_by (Stands c) is e s len h from to = absurd h
  said_by (Leads lead) is e s len h from to =
      subst (λ f. TellsChosen setup after (msg.Known from to f s len)) (sym h.1)
      (subst (λ n. TellsChosen setup after (msg.Known from to lead.epoch s n)) (sym h.2)
      (term_of lead, h.0, led lead is, counted setup sized x q lead (led lead is) s h.0))

  said : (m : Msg) → Says setup did.node.part m → TellsChosen setup after m
  said (msg.Known from to e s len) h = said_by did.node.part refl e s len h from to
  said (msg.Prepare from to e) h = tt
  said (msg.Promise from to e ballots logs) h = tt
  said (msg.Sync from to e s log) h = tt
  said (msg.Accept from to e s slot batch) h = tt
  said (msg.Ack from to e s len) h = tt

  new_messages : (ms : List Msg) → messages (map new_sent ms) ≡ ms
  new_messages [] = refl
  new_messages (m ∷ ms) = ap (λ xs. m ∷ xs) (new_messages ms)

  all_telling : (m : Msg) → In m (messages x.sent) → TellsChosen setup after m
  all_telling m i =
      elim
      (in_split (messages w.sent) (messages (map new_sent did.sends)) m
      (subst (In m) (map-append (λ (s : Sent). s.message) w.sent (map new_sent did.sends)) i)) [
        | inl j ↦ telling_stays setup v after on m (k.telling m j)
        | inr j ↦ said m (now.says m (subst (In m) (new_messages did.sends) j))
      ]

  -- the history from which it releases
  given_by : (part : Part) → did.node.part ≡ part → (release : Release) → GivesOf part release
      → IsGiven setup after (record { epoch = release.epoch; history = release.history })
  given_by Follows is release h = absurd h
  given_by (Stands c) is release h = absurd h
  given_by (Leads lead) is release h = record {
    log = λ s. acknowledged_log (leading lead s);
    each =
        λ s there. subst (λ e. ChosenAt (cluster_of setup) after e s (acknowledged_log (leading lead s))) (sym h.0)
        (acknowledged setup sized x q lead (led lead is) s there);
    is = h.1 ∙ ap history (map_places (λ stream. batches_of (acknowledged_log stream)) no_stream lead.streams 1
        ∙ ap (λ n. map (λ s. batches_of (acknowledged_log (leading lead s))) (range_with_len 1 n))
        (all_streams setup sized x q lead (led lead is)));
  }

  abbrev as_opened : Opening → Opened
  as_opened o = record { epoch = o.epoch; node = step.node; items = o.items }

  abbrev opened_now : Option Opening → List Opened
  opened_now opened = option_to_list (option_map as_opened opened)

  -- the opening list of a leader as a history
  abbrev list_of : Opened → Given
  list_of o = record { epoch = o.epoch; history = o.items }

  new_given : (release : Option Release) → Gives did.node.part release → (given : Given)
      → In given (given_now release) → IsGiven setup after given
  new_given None h given i = absurd i
  new_given (Some release) h given i = elim i [
    | inl e ↦ subst (IsGiven setup after) (sym e) (given_by did.node.part refl release h)
    | inr j ↦ absurd j
  ]

  all_given : (given : Given) → In given x.gave → IsGiven setup after given
  all_given given i = elim (in_split w.gave (given_now did.release) given i) [
    | inl j ↦ given_stays setup v after on given (k.given given j)
    | inr j ↦ new_given did.release now.gives given j
  ]

  -- an opening list
  opens_with : (o : Opening) (release : Option Release) → OpensWith o release → In (list_of (as_opened o)) (given_now release)
  opens_with o None h = absurd h
  opens_with o (Some release) h = inl (λ i. record { epoch = sym h.0 i; history = sym h.1 i })

  new_opened : (opened : Option Opening) → Opens opened did.release → (o : Opened)
      → In o (opened_now opened) → In (list_of o) (given_now did.release)
  new_opened None h o i = absurd i
  new_opened (Some opening) h o i = elim i [
    | inl e ↦ subst (λ (o : Opened). In (list_of o) (given_now did.release)) (sym e) (opens_with opening did.release h)
    | inr j ↦ absurd j
  ]

  all_opened : (o : Opened) → In o x.openings → In (list_of o) x.gave
  all_opened o i = elim (in_split w.openings (opened_now did.opened) o i) [
    | inl j ↦ in_prefix w.gave (given_now did.release) (list_of o) (k.opened o j)
    | inr j ↦ in_suffix w.gave (given_now did.release) (list_of o) (new_opened did.opened now.opens o j)
  ]

  -- what is released
  released_on : (release : Option Release) (whole : List Item) → IsRising (map (λ x. x.stamp) whole)
      → AllBegin (w.gave ++ given_now release) whole → IsPrefix (released_after w.released release) whole
  released_on None whole rise begin = k.released whole rise (λ given i. begin given (in_prefix w.gave [] given i))
  released_on (Some release) whole rise begin =
      released_begins whole w.released release.history rise
      (k.released whole rise (λ given i. begin given (in_prefix w.gave (given_now (Some release)) given i)))
      (begin (as_given release) (in_suffix w.gave (given_now (Some release)) (as_given release) (inl refl)))

  does_known : AllKnown setup x
  does_known = record {
    nodes = nodes_known;
    telling = all_telling;
    given = all_given;
    opened = all_opened;
    released = released_on did.release;
  }

-- ---- every run ----

pub known_kept : (setup : Setup) → SetupFits setup → IsKept setup (AllKnown setup)
known_kept setup sized =
    record { marked = marked_known setup; told = told_known setup; does = λ w r k step q. does_known setup sized w r k step q }

pub all_known : (setup : Setup) → SetupFits setup → (events : List Event) → All (EventFits setup.nodes setup.workers) events → (w : World)
    → world_after setup events ≡ Ok w
    → TiedRun setup w × AllKnown setup w
all_known setup sized events fits w is =
    kept_in_runs setup (AllKnown setup) (known_kept setup sized) (begins_known setup) sized events fits w is
