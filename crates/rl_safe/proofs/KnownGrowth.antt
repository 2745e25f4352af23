-- What was chosen stays chosen: each batch of a leader's log was sent to each node, so where all that was sent is sent still, the log
-- of each leader has only grown.
use Rattle.std.proofs.Common.{◌≡◌, ◌⊎◌, ℕ, ◌-◌, ◌≤◌, ◌<◌, [], length, get_or, Bool, true, ◌&&◌, ◌==◌, Some, refl, ap, sym, ◌∙◌, subst, arith, inl, inr}
use Rattle.std.proofs.lemmas.Bool.{cases_lt, or_cases, or_left, or_right, leb-true, le-leb}
use Rattle.rl_base.specs.Epochs.{owner_of}
use Rattle.rl_base.specs.Lists.{IsPrefix}
use Rattle.rl_base.proofs.Members.{In, any_true, true_any}
use Rattle.rl_base.proofs.Prefixes.{prefix_get, prefix_length, prefix_trans}
use Rattle.rl_paxos.specs.Logs as bytes
use Rattle.rl_paxos.specs.Quorums.{is_node, count, is_quorum}
use Rattle.rl_paxos.proofs.Acknowledged.{greatest_is_acknowledged}
use Rattle.rl_election.specs.World as world
use Rattle.rl_election.specs.World.{Cluster, Envelope, Term, StreamWorld, is_stream, stream_of}
use Rattle.rl_election.specs.StreamEvents.{streams_after}
use Rattle.rl_election.specs.Chosen.{acks_at_least, has_acked, is_chosen_len, initial_log, IsChosen}
use Rattle.rl_election.proofs.Choices.{some_choice}
use Rattle.rl_election.proofs.Inv.{InLeaderLog, AcceptOk}
use Rattle.rl_election.proofs.Leaders.{LeadingOk, leading_of, acknowledged_chosen, less_chosen}
use Rattle.rl_election.proofs.Stays.{inv_of, more_count}
use Rattle.rl_election.proofs.Steps.{some_same}
use Rattle.rl_nodes.specs.Nodes.{Lead, leading, len_acknowledged, acknowledged_log}
use Rattle.rl_nodes.specs.Setups.{Setup, SetupFits, cluster_of}
use Rattle.rl_nodes.specs.Streams.{stream_world}
use Rattle.rl_nodes.specs.World.{World, term_of}
use Rattle.rl_nodes.proofs.Tied.{TiedRun, between}
use Rattle.rl_safe.proofs.KnownLists.{prefix_from, front, front_short}

-- ---- what is chosen at an epoch ----

-- a log that is chosen at an epoch, or begins one that is
pub record ChosenAt (g : Cluster) (v : StreamWorld) (e s : ℕ) (log : bytes.Log) : Type 0 where
  pub term : Term
  pub term_is : v.terms e ≡ Some term
  pub within : IsPrefix log (stream_of term s).log
  pub acked : is_chosen_len g v e s (length log) ≡ true

-- at some epoch, or it is empty
abbrev pub ChosenPart : Cluster → StreamWorld → (s : ℕ) → bytes.Log → Type 0
ChosenPart g v s log = (log ≡ []) ⊎ ((e : ℕ) × ChosenAt g v e s log)

-- the epoch being at most some ballot
abbrev pub ChosenBy : Cluster → StreamWorld → (s top : ℕ) → bytes.Log → Type 0
ChosenBy g v s top log = (log ≡ []) ⊎ ((e : ℕ) × (e ≤ top) × ChosenAt g v e s log)

pub chosen_part : (g : Cluster) (v : StreamWorld) (s top : ℕ) (log : bytes.Log) → ChosenBy g v s top log → ChosenPart g v s log
chosen_part g v s top log k = elim k [ inl e ↦ inl e | inr c ↦ inr (c.0, c.2) ]

-- a log that begins some leader's
pub record BeginsLeader (v : StreamWorld) (s : ℕ) (log : bytes.Log) : Type 0 where
  pub epoch : ℕ
  pub term : Term
  pub term_is : v.terms epoch ≡ Some term
  pub within : IsPrefix log (stream_of term s).log

-- or is empty
abbrev pub LeaderPart : StreamWorld → (s : ℕ) → bytes.Log → Type 0
LeaderPart v s log = (log ≡ []) ⊎ BeginsLeader v s log

pub leader_part : (g : Cluster) (v : StreamWorld) (s : ℕ) (log : bytes.Log) → ChosenPart g v s log → LeaderPart v s log
leader_part g v s log k =
    elim k [ inl e ↦ inl e | inr c ↦ inr (record { epoch = c.0; term = c.1.term; term_is = c.1.term_is; within = c.1.within }) ]

-- it begins what is chosen at the epoch
pub begins_choice : (g : Cluster) (v : StreamWorld) (e s : ℕ) (log : bytes.Log) → ChosenAt g v e s log
    → (chosen : bytes.Log) × IsChosen g v e s chosen × IsPrefix log chosen
begins_choice g v e s log k =
    let c = some_choice g v e s (stream_of k.term s).log (record { term = k.term; term_is = k.term_is; log_is = refl }) in
    let one : k.term ≡ c.1.is_log.term = some_same k.term c.1.is_log.term (v.terms e) k.term_is c.1.is_log.term_is in
    let same : (stream_of k.term s).log ≡ c.1.log = ap (λ t. (stream_of t s).log) one ∙ c.1.is_log.log_is in
    (c.0, c.1, c.1.longest log (subst (IsPrefix log) same k.within) k.acked)

-- ---- worlds of streams, one later than the other ----

-- all that was sent is sent still, and the log of each leader has only grown
pub record Later (g : Cluster) (v after : StreamWorld) : Type 0 where
  pub sent : (n : Envelope) → In n v.sent → In n after.sent
  pub logs : (e : ℕ) (t : Term) → v.terms e ≡ Some t → (s : ℕ) → is_stream g s ≡ true
      → (u : Term) × (after.terms e ≡ Some u) × IsPrefix (stream_of t s).log (stream_of u s).log

-- what a second quorum acked it has acked still
pub len_stays : (g : Cluster) (v after : StreamWorld) → ((n : Envelope) → In n v.sent → In n after.sent) → (e s len : ℕ)
    → is_chosen_len g v e s len ≡ true → is_chosen_len g after e s len ≡ true
len_stays g v after more e s len h = elim (or_cases (len == 0) (is_quorum g.second_quorum g.nodes (has_acked v.sent e s len)) h) [
  | inl t ↦ or_left (len == 0) (is_quorum g.second_quorum g.nodes (has_acked after.sent e s len)) t
  | inr t ↦ or_right (len == 0) (is_quorum g.second_quorum g.nodes (has_acked after.sent e s len))
      (le-leb g.second_quorum (count (has_acked after.sent e s len) g.nodes)
      (omega (
        arith,
        leb-true g.second_quorum (count (has_acked v.sent e s len) g.nodes) t,
        more_count (has_acked v.sent e s len) (has_acked after.sent e s len) g.nodes (λ a k. acked_on a k),
      )))
]
  where
    acked_on : (a : ℕ) → has_acked v.sent e s len a ≡ true → has_acked after.sent e s len a ≡ true
    acked_on a k =
        let f : Envelope → Bool = λ m. (m.from == a) && acks_at_least e s len m.message in
        let m = true_any f v.sent k in
        any_true f after.sent m.0 (more m.0 m.1) m.2

module _ (g : Cluster) (v after : StreamWorld) (later : Later g v after) where
  pub chosen_stays : (e s : ℕ) (log : bytes.Log) → is_stream g s ≡ true → ChosenAt g v e s log → ChosenAt g after e s log
  chosen_stays e s log there k =
      let u = later.logs e k.term k.term_is s there in
      record {
        term = u.0;
        term_is = u.1;
        within = prefix_trans log (stream_of k.term s).log (stream_of u.0 s).log k.within u.2;
        acked = len_stays g v after later.sent e s (length log) k.acked;
      }

  pub part_stays : (s : ℕ) (log : bytes.Log) → is_stream g s ≡ true → ChosenPart g v s log → ChosenPart g after s log
  part_stays s log there k = elim k [ inl e ↦ inl e | inr c ↦ inr (c.0, chosen_stays c.0 s log there c.1) ]

  pub by_stays : (s top : ℕ) (log : bytes.Log) → is_stream g s ≡ true → ChosenBy g v s top log → ChosenBy g after s top log
  by_stays s top log there k = elim k [ inl e ↦ inl e | inr c ↦ inr (c.0, c.1, chosen_stays c.0 s log there c.2) ]

  pub leader_stays : (s : ℕ) (log : bytes.Log) → is_stream g s ≡ true → LeaderPart v s log → LeaderPart after s log
  leader_stays s log there k = elim k [
    | inl e ↦ inl e
    | inr c ↦ (
        let u = later.logs c.epoch c.term c.term_is s there in
        inr
        (record {
          epoch = c.epoch;
          term = u.0;
          term_is = u.1;
          within = prefix_trans log (stream_of c.term s).log
              (stream_of u.0 s).log c.within u.2;
        })
        )
  ]

-- ---- two worlds of nodes, one later than the other ----

module _ (setup : Setup) (sized : SetupFits setup) (w x : World) (r : TiedRun setup w) (q : TiedRun setup x)
    (more : (n : Envelope) → In n (between w.sent) → In n (between x.sent)) where
  abbrev g : Cluster
  g = cluster_of setup

  abbrev v : StreamWorld
  v = streams_after (cluster_of setup) r.events

  abbrev after : StreamWorld
  after = streams_after (cluster_of setup) q.events

  sent_on : (n : Envelope) → In n v.sent → In n after.sent
  sent_on n i = q.tied.back n (more n (r.tied.sent n i))

  -- what a leader's log has at a slot, a later one has there
  slot_stays : (e s : ℕ) → is_stream (cluster_of setup) s ≡ true → (t : Term) → v.terms e ≡ Some t → (u : Term) → after.terms e ≡ Some u
      → IsPrefix (initial_log t s) (stream_of t s).log → IsPrefix (initial_log t s) (stream_of u s).log
      → (i : ℕ) → i < length (stream_of t s).log
      → (i < length (stream_of u s).log) × (get_or (stream_of u s).log i [] ≡ get_or (stream_of t s).log i [])
  slot_stays e s there t is u is_now begun begins i low = elim (cases_lt i (length (initial_log t s))) [
    | inl first ↦ (
      within (initial_log t s) (stream_of u s).log i begins first,
      prefix_get [] (initial_log t s) (stream_of u s).log i begins first
          ∙ sym (prefix_get [] (initial_log t s) (stream_of t s).log i begun first),
    )
    | inr behind ↦ (
        let ok : LeadingOk (cluster_of setup) v e s (initial_log t s) (stream_of t s) =
        leading_of (cluster_of setup) r.events e t is s there in
        let sent = ok.accepts_sent i 1 (omega (arith, behind, ok.initial_len)) low (first_node setup.nodes sized.some_nodes) in
        let m : Envelope =
        record { from = owner_of e setup.nodes; to = 1; message = world.Accept e s i (get_or (stream_of t s).log i []) } in
        let accept : AcceptOk after e s i (get_or (stream_of t s).log i []) =
        (inv_of (cluster_of setup) q.events).message_ok m (sent_on m sent) in
        let one : accept.term ≡ u = some_same accept.term u (after.terms e) accept.term_is is_now in (
          subst (λ z. i < length (stream_of z s).log) one accept.there,
          subst
              (λ z. get_or (stream_of z s).log i [] ≡ get_or (stream_of t s).log i []) one accept.batch_is,
        ))
  ]
    where
      within : (xs ys : bytes.Log) (i : ℕ) → IsPrefix xs ys → i < length xs → i < length ys
      within xs ys i p h = let k = prefix_length xs ys p in omega (arith, k, h)

      first_node : (n : ℕ) → 1 ≤ n → is_node n 1 ≡ true
      first_node n h = le-leb 1 n h

  logs_stay : (e : ℕ) (t : Term) → v.terms e ≡ Some t → (s : ℕ) → is_stream (cluster_of setup) s ≡ true
      → (u : Term) × (after.terms e ≡ Some u) × IsPrefix (stream_of t s).log (stream_of u s).log
  logs_stay e t is s there =
      let ok : LeadingOk (cluster_of setup) v e s (initial_log t s) (stream_of t s) =
      leading_of (cluster_of setup) r.events e t is s there in
      let sent = ok.sync_sent 1 (le-leb 1 setup.nodes sized.some_nodes) in
      let m : Envelope = record { from = owner_of e setup.nodes; to = 1; message = world.Sync e s (initial_log t s) } in
      let sync : InLeaderLog after e (s - 1) (initial_log t s) = (inv_of (cluster_of setup) q.events).message_ok m (sent_on m sent) in
      let begun = ((inv_of (cluster_of setup) r.events).term_ok e t is).begins (s - 1) in (
        sync.term,
        sync.term_is,
        prefix_from [] (stream_of t s).log (stream_of sync.term s).log
            (slot_stays e s there t is sync.term sync.term_is begun sync.within),
      )

  pub later : Later (cluster_of setup) (stream_world setup w) (stream_world setup x)
  later = record {
    sent = more;
    logs = λ e t is s there.
        let u = logs_stay e t (ap (λ f. f e) r.tied.terms ∙ is) s there in
        (u.0, ap (λ f. f e) (sym q.tied.terms) ∙ u.1, u.2);
  }

-- ---- what a leader counts as acknowledged ----

module _ (setup : Setup) (sized : SetupFits setup) (w : World) (r : TiedRun setup w) (lead : Lead)
    (is : w.terms lead.epoch ≡ Some (term_of lead)) where
  -- it has a log of each stream
  pub all_streams : length lead.streams ≡ setup.workers
  all_streams = ((inv_of (cluster_of setup) r.events).term_ok lead.epoch (term_of lead) (ap (λ f. f lead.epoch) r.tied.terms ∙ is)).sized

  -- and a second quorum acked what it counts
  pub counted : (s : ℕ) → is_node setup.workers s ≡ true
      → is_chosen_len (cluster_of setup) (stream_world setup w) lead.epoch s (len_acknowledged (leading lead s)) ≡ true
  counted s there =
      let v : StreamWorld = streams_after (cluster_of setup) r.events in
      let ok : LeadingOk (cluster_of setup) v lead.epoch s (initial_log (term_of lead) s) (leading lead s) =
      leading_of (cluster_of setup) r.events lead.epoch (term_of lead) (ap (λ f. f lead.epoch) r.tied.terms ∙ is) s there in
      let some : 1 ≤ (leading lead s).quorum = omega (arith, ok.quorum, sized.second) in
      let within : (leading lead s).quorum ≤ length (leading lead s).acked = omega (arith, ok.quorum, ok.sized, sized.second_within) in
      let has = (greatest_is_acknowledged (leading lead s).quorum (leading lead s).acked some within).quorum_has in
      len_stays (cluster_of setup) v (stream_world setup w) r.tied.sent lead.epoch s (len_acknowledged (leading lead s))
      (acknowledged_chosen (cluster_of setup) v lead.epoch s (len_acknowledged (leading lead s)) (initial_log (term_of lead) s)
      (leading lead s) ok has)

  -- so what it has acknowledged is chosen
  pub acknowledged : (s : ℕ) → is_node setup.workers s ≡ true
      → ChosenAt (cluster_of setup) (stream_world setup w) lead.epoch s (acknowledged_log (leading lead s))
  acknowledged s there = record {
    term = term_of lead;
    term_is = is;
    within = front (len_acknowledged (leading lead s)) (leading lead s).log;
    acked =
        less_chosen (cluster_of setup) (stream_world setup w) lead.epoch s (len_acknowledged (leading lead s))
        (length (acknowledged_log (leading lead s)))
        (front_short (len_acknowledged (leading lead s)) (leading lead s).log) (counted s there);
  }
