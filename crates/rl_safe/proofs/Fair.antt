-- What holds of all messages that were sent in a run: their senders, epochs and streams, and the lengths in Acks; and that no log of a
-- leader passes the limit of slots.
use Rattle.std.proofs.Common.{◌≡◌, ◌⊎◌, ℕ, ◌-◌, ◌^◌, ◌<◌, ◌≤◌, List, [], ◌∷◌, length, map, true, false, Option, Some, None, refl, ap, sym, ◌∙◌, subst, arith, inl, inr, unwrap_or, get_or-set_same}
use Rattle.std.proofs.lemmas.List.{map-append, length-append}
use Rattle.std.proofs.lemmas.List.Elements.{filter_map-append}
use Rattle.rl_base.specs.Epochs.{owner_of}
use Rattle.rl_base.specs.declared.limit.TheConstants.{SLOTS}
use Rattle.rl_base.proofs.Members.{In, in_prefix, in_split}
use Rattle.rl_base.proofs.Prefixes.{prefix_length}
use Rattle.rl_base.proofs.UpdateLemmas.{by_updated, updated_other}
use Rattle.rl_paxos.specs.Acceptors.{kept_log}
use Rattle.rl_paxos.specs.Quorums.{is_node}
use Rattle.rl_election.specs.World as world
use Rattle.rl_election.specs.World.{Envelope, StreamWorld, Term, stream_of}
use Rattle.rl_election.specs.StreamEvents.{streams_after}
use Rattle.rl_election.specs.Chosen.{HasOrigin}
use Rattle.rl_election.specs.Laws.{InitialLogsHaveOrigins}
use Rattle.rl_election.proofs.Inv.{AcceptorOk, Inv, RoleOk}
use Rattle.rl_election.proofs.Stays.{inv_of}
use Rattle.rl_msg.specs.declared.msg.Msg.{Msg}
use Rattle.rl_msg.specs.declared.msg.Msg.TheVariants as msg
use Rattle.rl_msg.specs.Parts.{head_of}
use Rattle.rl_nodes.specs.BadMessages.{is_partial, stream_named, proposer_in}
use Rattle.rl_nodes.specs.Nodes.{Lead, NodeState, Part, Follows, Stands, Leads, new_node, leading}
use Rattle.rl_nodes.specs.Setups.{Setup, SetupFits, cluster_of}
use Rattle.rl_nodes.specs.Streams.{envelope_of, stream_node, stream_role, stream_world, HasTerm}
use Rattle.rl_nodes.specs.World.{World, Sent, new_world, node_of, new_sent, with_line, term_of, terms_after}
use Rattle.rl_nodes.proofs.ChangesInStreams.{by_node}
use Rattle.rl_nodes.proofs.Growing.{messages}
use Rattle.rl_nodes.proofs.OwnEvents.{first_of}
use Rattle.rl_nodes.proofs.Runs.{new_nodes}
use Rattle.rl_nodes.proofs.Tied.{TiedRun, between}
use Rattle.rl_safe.proofs.Accounts.{first_at}
use Rattle.rl_safe.proofs.KnownGrowth.{Later, later}
use Rattle.rl_safe.proofs.KnownLists.{by_set}
use Rattle.rl_safe.proofs.KnownMoves.{NamesOne}
use Rattle.rl_nodes.proofs.Runs as runs
use Rattle.rl_nodes.proofs.Runs.{after_step, IsKept}
use Rattle.rl_safe.proofs.LeadStreams.{whole}
use Rattle.rl_safe.proofs.Sent.{Said, Own, Back, AckKept, EpochIn, PartFair, PartFull, Small, PartSmall, Fair, goes}

-- the sender and the stream are there, the epoch is in range and its owner's, and no part is lacking
pub record HeadFair (setup : Setup) (m : Msg) : Type 0 where
  pub from : is_node setup.nodes (head_of m).from ≡ true
  pub low : 1 ≤ (head_of m).epoch
  pub high : (head_of m).epoch < 2 ^ 20
  pub owner : owner_of (head_of m).epoch setup.nodes ≡ proposer_in m
  pub named : NamesOne setup (stream_named m)
  pub whole : is_partial setup m ≡ false

-- an Ack is of no more than the leader's log
abbrev pub AckFair : StreamWorld → Msg → Type 0
AckFair v (msg.Ack from to e s len) = (t : Term) × (v.terms e ≡ Some t) × (len ≤ length (stream_of t s).log)
AckFair v other = Unit {0}

pub record AllFair (setup : Setup) (w : World) : Type 0 where
  pub slots : (e : ℕ) (t : Term) → w.terms e ≡ Some t → (s : ℕ) → is_node setup.workers s ≡ true → length (stream_of t s).log ≤ SLOTS
  pub parts : (a : ℕ) → PartFair (node_of setup w a).part
  pub heads : (m : Msg) → In m (messages w.sent) → HeadFair setup m
  pub acks : (m : Msg) → In m (messages w.sent) → AckFair (stream_world setup w) m

ack_stays : (setup : Setup) (v after : StreamWorld) → Later (cluster_of setup) v after → (m : Msg) → NamesOne setup (stream_named m) → AckFair v m → AckFair after m
ack_stays setup v after on (msg.Ack from to e s len) there k =
    let u = on.logs e k.0 k.1 s there in
    let more = prefix_length (stream_of k.0 s).log (stream_of u.0 s).log u.2 in
    let low = k.2 in
    (u.0, u.1, omega (arith, more, low))
ack_stays setup v after on (msg.Prepare from to e) there k = tt
ack_stays setup v after on (msg.Promise from to e ballots logs) there k = tt
ack_stays setup v after on (msg.Sync from to e s log) there k = tt
ack_stays setup v after on (msg.Accept from to e s slot batch) there k = tt
ack_stays setup v after on (msg.Known from to e s len) there k = tt

-- ---- what a node does ----

module _ (origins : InitialLogsHaveOrigins) (setup : Setup) (sized : SetupFits setup) (w : World) (r : TiedRun setup w) (k : AllFair setup w)
    (step : runs.Step setup w) (q : TiedRun setup (after_step setup w step)) where
  abbrev a : ℕ
  a = step.node

  abbrev x : NodeState
  x = node_of setup w step.node

  abbrev y : NodeState
  y = step.did.node

  abbrev now : World
  now = after_step setup w step

  abbrev sw : StreamWorld
  sw = streams_after (cluster_of setup) q.events

  inv : Inv (cluster_of setup) sw
  inv = inv_of (cluster_of setup) q.events

  here : node_of setup now a ≡ y
  here = let range = by_node setup.nodes a step.there in let size = r.tied.size in
      get_or-set_same w.nodes (a - 1) y (new_node setup) (let low = range.0 in let high = range.1 in omega (arith, size, low, high))

  old_acceptor : AcceptorOk (cluster_of setup) (streams_after (cluster_of setup) r.events) x.acceptor
  old_acceptor = subst (λ (n : world.Node). AcceptorOk (cluster_of setup) (streams_after (cluster_of setup) r.events) n.acceptor) (r.tied.node a step.there)
      ((inv_of (cluster_of setup) r.events).node_ok a)

  new_acceptor : AcceptorOk (cluster_of setup) sw y.acceptor
  new_acceptor = subst (λ (n : world.Node). AcceptorOk (cluster_of setup) sw n.acceptor) (q.tied.node a step.there ∙ ap stream_node here) (inv.node_ok a)

  full : (part : Part) → x.part ≡ part → PartFull setup part
  full Follows is = tt
  full (Stands c) is = tt
  full (Leads lead) is = k.slots lead.epoch (term_of lead) (ap (λ f. f lead.epoch) (sym r.tied.terms) ∙ subst (HasTerm (streams_after (cluster_of setup) r.events)) is (r.tied.term a step.there))

  fair : Fair setup (messages w.sent) a x (k.parts a) (full x.part refl) old_acceptor.sized (λ s. (old_acceptor.kept (s - 1)).below) step.did
  fair = goes setup (messages w.sent) a x (k.parts a) (full x.part refl) old_acceptor.sized (λ s. (old_acceptor.kept (s - 1)).below) step.cause step.is_for step.did step.answers

  -- ---- its epoch ----

  role : RoleOk (cluster_of setup) sw a (stream_role y.part)
  role = subst (λ (n : world.Node). RoleOk (cluster_of setup) sw a n.role) (q.tied.node a step.there ∙ ap stream_node here) (inv.role_ok a)

  term : HasTerm sw y.part
  term = subst (λ (z : NodeState). HasTerm sw z.part) here (q.tied.term a step.there)

  record Mine (e : ℕ) : Type 0 where
    pub low : 1 ≤ e
    pub high : e < 2 ^ 20
    pub owner : owner_of e setup.nodes ≡ a

  mine : (part : Part) → RoleOk (cluster_of setup) sw a (stream_role part) → HasTerm sw part → PartFair part → (e : ℕ) → EpochIn part e → Mine e
  mine Follows role term low e is = absurd is
  mine (Stands c) role term low e is = subst Mine is (record { low = let born = role.born in omega (arith, born); high = low; owner = role.own })
  mine (Leads lead) role term low e is =
      subst Mine is (record { low = let born = (inv.term_ok lead.epoch (term_of lead) term).born in omega (arith, born); high = low; owner = role })

  new_head : (m : Msg) → Said setup a (messages w.sent) y.part m → HeadFair setup m
  new_head m (Own shaped own epoch) =
      let p = mine y.part role term fair.part (head_of m).epoch epoch in
      record {
        from = subst (λ n. is_node setup.nodes n ≡ true) (sym shaped.from) step.there;
        low = p.low;
        high = p.high;
        owner = p.owner ∙ sym own;
        named = shaped.named;
        whole = shaped.whole;
      }
  new_head m (Back shaped from i same epoch) =
      let p = k.heads from i in
      record {
        from = subst (λ n. is_node setup.nodes n ≡ true) (sym shaped.from) step.there;
        low = subst (λ e. 1 ≤ e) (sym epoch) p.low;
        high = subst (λ e. e < 2 ^ 20) (sym epoch) p.high;
        owner = ap (λ e. owner_of e setup.nodes) epoch ∙ p.owner ∙ sym same;
        named = shaped.named;
        whole = shaped.whole;
      }

  -- ---- its Acks ----

  new_ack : (m : Msg) → HeadFair setup m → AckKept setup y m → AckFair (stream_world setup now) m
  new_ack (msg.Ack from to e s len) head kept =
      let ok = (new_acceptor.kept (s - 1)).has (let ballot = kept.1 in let low = head.low in omega (arith, ballot, low)) in
      let more = prefix_length (kept_log y.acceptor s) (stream_of ok.term s).log ok.within in
      let size = kept.2 in
      (ok.term, ap (λ f. f e) (sym q.tied.terms) ∙ ap sw.terms (sym kept.1) ∙ ok.term_is, omega (arith, more, size))
  new_ack (msg.Prepare from to e) head kept = tt
  new_ack (msg.Promise from to e ballots logs) head kept = tt
  new_ack (msg.Sync from to e s log) head kept = tt
  new_ack (msg.Accept from to e s slot batch) head kept = tt
  new_ack (msg.Known from to e s len) head kept = tt

  -- ---- all messages ----

  new_messages : (ms : List Msg) → messages (map new_sent ms) ≡ ms
  new_messages [] = refl
  new_messages (m ∷ ms) = ap (λ xs. m ∷ xs) (new_messages ms)

  old_or_new : (m : Msg) → In m (messages now.sent) → In m (messages w.sent) ⊎ In m step.did.sends
  old_or_new m i = elim (in_split (messages w.sent) (messages (map new_sent step.did.sends)) m
      (subst (In m) (map-append (λ (s : Sent). s.message) w.sent (map new_sent step.did.sends)) i)) [
        | inl j ↦ inl j
        | inr j ↦ inr (subst (In m) (new_messages step.did.sends) j)
      ]

  on : Later (cluster_of setup) (stream_world setup w) (stream_world setup now)
  on = later setup sized w now r q (λ n i. subst (In n) (sym (filter_map-append (λ (m : Sent). envelope_of m.message) w.sent (map new_sent step.did.sends)))
      (in_prefix (between w.sent) (between (map new_sent step.did.sends)) n i))

  all_heads : (m : Msg) → In m (messages now.sent) → HeadFair setup m
  all_heads m i = elim (old_or_new m i) [ inl j ↦ k.heads m j | inr j ↦ new_head m (fair.told m j).0 ]

  all_acks : (m : Msg) → In m (messages now.sent) → AckFair (stream_world setup now) m
  all_acks m i = elim (old_or_new m i) [
    | inl j ↦ ack_stays setup (stream_world setup w) (stream_world setup now) on m (k.heads m j).named (k.acks m j)
    | inr j ↦ new_ack m (new_head m (fair.told m j).0) (fair.told m j).1
  ]

  -- ---- slots ----

  new_slots : (lead : Lead) → y.part ≡ Leads lead → Small setup lead → (s : ℕ) → is_node setup.workers s ≡ true → length (leading lead s).log ≤ SLOTS
  new_slots lead is small s there = elim (small s there) [
    | inl few ↦ few
    | inr new ↦ (
        let term_is : sw.terms lead.epoch ≡ Some (term_of lead) = subst (HasTerm sw) is term in
        let first : first_at (term_of lead).initial s ≡ (leading lead s).log = first_of lead.streams (s - 1) ∙ whole (leading lead s) new.0 in
        let o : HasOrigin (cluster_of setup) sw lead.epoch s (first_at (term_of lead).initial s) =
        origins (record { cluster = cluster_of setup; events = q.events; epoch = lead.epoch; stream = s; in_cluster = there }) (first_at (term_of lead).initial s)
        (record { term = term_of lead; term_is = term_is; initial_is = refl }) in
        let size = ap length (sym first ∙ o.initial_is) ∙ length-append o.carried ((cluster_of setup).open_mark lead.epoch ∷ []) in
        let few : length o.carried ≤ SLOTS = elim o.from [
          | inl none ↦ (let empty = ap length none in omega (arith, empty))
          | inr from ↦ (
              let adopted = from.is_adopted in
              let before : w.terms from.earlier ≡ Some adopted.is_log.term =
              sym (ap (λ part. terms_after w.terms part from.earlier) is
              ∙ updated_other w.terms lead.epoch (Some (term_of lead)) from.earlier (λ same. let less = from.is_earlier in absurd (omega (arith, less, same))))
              ∙ ap (λ f. f from.earlier) (sym q.tied.terms) ∙ adopted.is_log.term_is in
              let old = k.slots from.earlier adopted.is_log.term before s there in
              let within = prefix_length o.carried adopted.log adopted.within in
              let same = ap length adopted.is_log.log_is in
              omega (arith, old, within, same)
              )
        ] in
        let other = new.1 in
        omega (arith, size, few, other)
        )
  ]

  slots_after : (part : Part) → y.part ≡ part → PartSmall setup part → (e : ℕ) (t : Term) → terms_after w.terms part e ≡ Some t
      → (s : ℕ) → is_node setup.workers s ≡ true → length (stream_of t s).log ≤ SLOTS
  slots_after Follows is small e t at s there = k.slots e t at s there
  slots_after (Stands c) is small e t at s there = k.slots e t at s there
  slots_after (Leads lead) is small e t at s there =
      by_updated (λ o. o ≡ Some t → length (stream_of t s).log ≤ SLOTS) w.terms lead.epoch (Some (term_of lead)) e
      (λ same now. subst (λ z. length (stream_of z s).log ≤ SLOTS) (ap (λ o. unwrap_or o t) now) (new_slots lead is small s there))
      (λ other old. k.slots e t old s there) at

  does_fair : AllFair setup now
  does_fair = record {
    slots = slots_after y.part refl fair.small;
    parts = λ b. by_set (λ (z : NodeState). PartFair z.part) w.nodes (a - 1) (b - 1) y (new_node setup) (λ same. fair.part) (k.parts b);
    heads = all_heads;
    acks = all_acks;
  }

-- ---- every run ----

pub fair_kept : InitialLogsHaveOrigins → (setup : Setup) → SetupFits setup → IsKept setup (AllFair setup)
fair_kept origins setup sized = record {
  marked = λ w sent same k. record {
    slots = k.slots;
    parts = k.parts;
    heads = λ m i. k.heads m (subst (In m) same i);
    acks = λ m i. acks_same (stream_world setup w) (stream_world setup (record w { sent = sent })) refl m (k.acks m (subst (In m) same i));
  };
  told = λ w line k. record { slots = k.slots; parts = k.parts; heads = k.heads; acks = λ m i. acks_same (stream_world setup w) (stream_world setup (with_line w line)) refl m (k.acks m i) };
  does = λ w r k step q. does_fair origins setup sized w r k step q;
}
  where
    acks_same : (v after : StreamWorld) → v.terms ≡ after.terms → (m : Msg) → AckFair v m → AckFair after m
    acks_same v after same (msg.Ack from to e s len) k = (k.0, ap (λ f. f e) (sym same) ∙ k.1, k.2)
    acks_same v after same (msg.Prepare from to e) k = tt
    acks_same v after same (msg.Promise from to e ballots logs) k = tt
    acks_same v after same (msg.Sync from to e s log) k = tt
    acks_same v after same (msg.Accept from to e s slot batch) k = tt
    acks_same v after same (msg.Known from to e s len) k = tt

pub first_fair : (setup : Setup) → AllFair setup (new_world setup)
first_fair setup = record {
  slots = λ e t is. absurd (let z : ◌≡◌ {A = Option Term} None (Some t) = is in cc);
  parts = λ a. subst (λ (z : NodeState). PartFair z.part) (sym (new_nodes setup a)) tt;
  heads = λ m i. absurd i;
  acks = λ m i. absurd i;
}
