-- Only a leader that has opened has workers and proposes.
use Rattle.std.proofs.Common.{◌≡◌, ◌⊎◌, ℕ, ◌-◌, ◌*◌, ◌^◌, List, [], ◌++◌, length, get_or, max, min, Bool, true, false, not, ◌==◌, nat_lt, if◌then◌else◌, Option, Some, None, option_to_list, option_map, Ok, Err, refl, ap, sym, ◌∙◌, subst, arith, inl, inr, unwrap_or}
use Rattle.std.proofs.lemmas.List.{drop_all}
use Rattle.std.specs.List.{list_any}
use Rattle.std.specs.Option.{option_map_or}
use Rattle.std.specs.Prelude.{slice_set}
use Rattle.rl_base.specs.Epochs.{next_epoch_of}
use Rattle.rl_base.specs.Results.{◌>>=◌}
use Rattle.rl_base.specs.declared.limit.TheConstants.{SLOTS}
use Rattle.rl_base.proofs.Members.{In, in_contains, in_prefix, in_suffix}
use Rattle.rl_base.proofs.UpdateLemmas.{by_updated}
use Rattle.rl_paxos.specs.declared.refused.Refused.{Refused}
use Rattle.rl_paxos.specs.Acceptors.{kept_ballot, kept_log, refuses, refuses_accept, synced, accepted}
use Rattle.rl_paxos.specs.Leaders.{Leading, with_ack, proposed}
use Rattle.rl_paxos.specs.Quorums.{is_node}
use Rattle.rl_paxos.specs.Recovery.{Promise, Candidate, with_promise, recovered_logs}
use Rattle.rl_txn.specs.declared.batch.Batch.{Batch}
use Rattle.rl_txn.specs.declared.batch.Batch.TheVariants.{Items}
use Rattle.rl_txn.specs.declared.item.Item.{Item}
use Rattle.rl_families.specs.Logs.{items_along}
use Rattle.rl_batch.specs.Encoding.{batch_bytes}
use Rattle.rl_election.specs.World.{Term, no_stream}
use Rattle.rl_msg.specs.declared.msg.Msg.{Msg}
use Rattle.rl_msg.specs.declared.msg.Msg.TheVariants as msg
use Rattle.rl_worker.specs.Acts.{Core, CoreRefusal, Step, Idle, turn, is_done, phase_of}
use Rattle.rl_worker.specs.OneTurn.{newly_refused}
use Rattle.rl_nodes.specs.declared.node_error.NodeError.TheVariants.{StreamFull, NoEpoch}
use Rattle.rl_nodes.specs.Answers.{Opening, Did, Answer, quiet, sending, to_each, unless_denied}
use Rattle.rl_nodes.specs.BadMessages.{is_bad}
use Rattle.rl_nodes.specs.Batches.{batches_of, END_SEQ, idle_mark}
use Rattle.rl_nodes.specs.Elections.{stands, sends_again, returned}
use Rattle.rl_nodes.specs.Handles.{promises, acks, knows, leads, recovers_full, stands_or_leads, takes_promise, opens, releases, advances, counts_ack, takes_ack, takes, known_to}
use Rattle.rl_nodes.specs.Nodes.{Lead, NodeState, Part, Follows, Stands, Leads, new_node, leading, with_leading, with_pending, pending_of, known_len, len_acknowledged, acknowledged_history, has_opened, marks_are_acknowledged}
use Rattle.rl_nodes.specs.Setups.{Setup}
use Rattle.rl_nodes.specs.Views.{plays}
use Rattle.rl_nodes.specs.Works.{may_idle, proposes, proposes_items, proposes_full, stepped, steps_core, idles_core, if_open}
use Rattle.rl_nodes.specs.World.{World, Opened, node_of, new_world, term_of, terms_after}
use Rattle.rl_nodes.proofs.InStreams.{after_ack, taken_of}
use Rattle.rl_nodes.proofs.OwnEvents.{first_of}
use Rattle.rl_nodes.proofs.Runs.{new_nodes}
use Rattle.rl_safe.specs.Led.{HasOpened}
use Rattle.rl_safe.proofs.Accounts.{first_at, log_at, tail_of, proposed_of}
use Rattle.rl_safe.proofs.KnownLists.{by_set}
use Rattle.rl_nodes.proofs.Runs as runs
use Rattle.rl_nodes.proofs.Runs.{Cause, Takes, Steps, Flushes, Idles, Elects, Ticks, Crashes, Returns, Loses, Plays, answer_to, after_step, IsKept}
use Rattle.rl_safe.proofs.LeadStreams.{IsNew, new_at, whole}

-- a leader of an epoch has opened
abbrev pub Began : List Opened → (e : ℕ) → Type 0
Began openings e = (o : Opened) × In o openings × (o.epoch ≡ e)

-- or it has no workers yet, and has proposed nothing
abbrev LeadOpened : List Opened → Lead → Type 0
LeadOpened openings lead = Began openings lead.epoch ⊎ ((lead.core ≡ None) × ((s : ℕ) → IsNew (leading lead s)))

abbrev PartOpened : List Opened → Part → Type 0
PartOpened openings (Leads lead) = LeadOpened openings lead
PartOpened openings other = Unit {0}

-- and so with a term
abbrev pub TermOpened : List Opened → (e : ℕ) → Term → Type 0
TermOpened openings e t = Began openings e ⊎ ((s : ℕ) → tail_of (first_at t.initial s) (log_at t.streams s) ≡ [])

began_more : (xs ys : List Opened) (e : ℕ) → Began xs e → Began (xs ++ ys) e
began_more xs ys e k = (k.0, in_prefix xs ys k.0 k.1, k.2)

part_more : (xs ys : List Opened) (part : Part) → PartOpened xs part → PartOpened (xs ++ ys) part
part_more xs ys Follows h = tt
part_more xs ys (Stands c) h = tt
part_more xs ys (Leads lead) h = elim h [ inl k ↦ inl (began_more xs ys lead.epoch k) | inr k ↦ inr k ]

-- ---- what a node does ----

module _ (setup : Setup) (a : ℕ) (x : NodeState) (openings : List Opened) (h : PartOpened openings x.part) where
  abbrev now : Option Opening → List Opened
  now opened = option_to_list (option_map (λ o. record { epoch = o.epoch; node = a; items = o.items }) opened)

  abbrev Fine : Did → Type 0
  Fine did = PartOpened (openings ++ now did.opened) did.node.part

  abbrev FineTo : Answer → Type 0
  FineTo (Ok did) = Fine did
  FineTo (Err e) = Unit {0}

  fine_if : (b : Bool) (d e : Answer) → FineTo d → FineTo e → FineTo (if b then d else e)
  fine_if true d e p q = p
  fine_if false d e p q = q

  did_if : (b : Bool) (d e : Did) → Fine d → Fine e → Fine (if b then d else e)
  did_if true d e p q = p
  did_if false d e p q = q

  -- its part stays
  still : (did : Did) → did.node.part ≡ x.part → Fine did
  still did is = part_more openings (now did.opened) did.node.part (subst (PartOpened openings) (sym is) h)

  fine_unless : (o : Option Refused) (did : Did) → Fine did → Fine (unless_denied o x did)
  fine_unless None did k = k
  fine_unless (Some refused) did k = still (unless_denied (Some refused) x did) refl

  -- ---- an Ack ----

  ack_new : (stream : Leading) (from len : ℕ) → IsNew stream → IsNew (with_ack stream from len)
  ack_new stream from len new = by_test (is_node (length stream.acked) from)
    where
      by_test : (b : Bool) → IsNew (if b then record stream { acked = slice_set stream.acked (from - 1) (max (get_or stream.acked (from - 1) 0) len) } else stream)
      by_test true = new
      by_test false = new

  ack_fine : (part : Part) → x.part ≡ part → (e s from len : ℕ) → Fine (takes_ack setup a x e s from len part)
  ack_fine Follows is e s from len = still (quiet x) refl
  ack_fine (Stands c) is e s from len = still (quiet x) refl
  ack_fine (Leads lead) is e s from len =
      let new : Lead = after_ack lead s from len in
      let ms : List Msg = to_each setup (known_to a new s) in
      let core = setup.work.opening new.epoch (acknowledged_history new) in
      let before : LeadOpened openings lead = subst (PartOpened openings) is h in
      let after : LeadOpened openings new = elim before [
        | inl k ↦ inl k
        | inr k ↦ inr (k.0, λ u. by_set IsNew lead.streams (s - 1) (u - 1) (with_ack (leading lead s) from len) no_stream (λ same. ack_new (leading lead s) from len (k.1 s)) (k.1 u))
      ] in
      let led : PartOpened (openings ++ []) (Leads new) = part_more openings [] (Leads new) after in
      did_if (lead.epoch == e) (counts_ack setup a x lead s from len) (quiet x)
      (did_if (nat_lt (len_acknowledged (leading lead s)) (len_acknowledged (leading new s))) (advances setup a x lead new s)
      (quiet (record x { part = Leads new }))
      (did_if (has_opened new) (releases x (acknowledged_history lead) new ms)
      (if marks_are_acknowledged new then opens setup x new ms else sending (record x { part = Leads new }) ms)
      led
      (did_if (marks_are_acknowledged new) (opens setup x new ms) (sending (record x { part = Leads new }) ms)
      (inl (_, in_suffix openings (now (opens setup x new ms).opened) _ (inl refl), refl))
      led))
      led)
      (still (quiet x) refl)

  promise_fine : (part : Part) → (e : ℕ) (p : Promise) → FineTo (takes_promise setup a x e p part)
  promise_fine Follows e p = still (quiet x) refl
  promise_fine (Leads lead) e p = still (quiet x) refl
  promise_fine (Stands c) e p =
      let more : Candidate = with_promise c p in
      fine_if (c.epoch == e) (stands_or_leads setup a x more) (Ok (quiet x))
      (fine_if (nat_lt (length more.promises) more.need) (Ok (quiet (record x { part = Stands more })))
      (recovers_full setup more (Ok (leads setup a x more)))
      tt
      (fine_if (list_any (λ log. length log == SLOTS) (recovered_logs more.promises setup.workers)) (Err (StreamFull SLOTS))
      (Ok (leads setup a x more))
      tt (inr (refl, λ s. new_at more.epoch setup.nodes setup.second_quorum _ (s - 1)))))
      (still (quiet x) refl)

  takes_fine : (m : Msg) → FineTo (takes setup a x m)
  takes_fine (msg.Prepare from to e) = fine_unless (refuses x.acceptor e) (promises a x from e) (still (promises a x from e) refl)
  takes_fine (msg.Promise from to e ballots logs) = promise_fine x.part e (record { node = from; ballots = ballots; logs = logs })
  takes_fine (msg.Sync from to e s log) =
      fine_unless (refuses x.acceptor e) (acks a x from e s (synced x.acceptor e s log)) (still (acks a x from e s (synced x.acceptor e s log)) refl)
  takes_fine (msg.Accept from to e s slot batch) =
      fine_unless (refuses_accept x.acceptor e s slot) (acks a x from e s (accepted x.acceptor s slot batch))
      (still (acks a x from e s (accepted x.acceptor s slot batch)) refl)
  takes_fine (msg.Ack from to e s len) = ack_fine x.part refl e s from len
  takes_fine (msg.Known from to e s len) = still (quiet (knows x e s len)) (by_ballot (kept_ballot x.acceptor s == e))
    where
      by_ballot : (b : Bool) → (if b then record x { known = slice_set x.known (s - 1) (max (known_len x s) (min len (length (kept_log x.acceptor s)))) } else x).part ≡ x.part
      by_ballot true = refl
      by_ballot false = refl

  -- ---- an open leader ----

  module _ (lead : Lead) (core : Core) (is : x.part ≡ Leads lead) (has : lead.core ≡ Some core) where
    began : Began openings lead.epoch
    began = elim (subst (PartOpened openings) is h) [
      | inl k ↦ k
      | inr k ↦ absurd (let e = sym has ∙ k.0 in cc)
    ]

    goes_on : (did : Did) (new : Lead) → did.node.part ≡ Leads new → new.epoch ≡ lead.epoch → Fine did
    goes_on did new part same =
        subst (PartOpened (openings ++ now did.opened)) (sym part)
        (inl (began_more openings (now did.opened) new.epoch (subst (Began openings) (sym same) began)))

    proposes_fine : (new : Lead) → new.epoch ≡ lead.epoch → (s : ℕ) (batch : Batch) → FineTo (proposes setup a x new s batch)
    proposes_fine new same s batch =
        let next : Lead = with_leading new s (proposed (leading new s) (batch_bytes batch)) in
        let did : Did = sending (record x { part = Leads next })
        (to_each setup (λ to. msg.Accept a to new.epoch s (length (leading new s).log) (batch_bytes batch))) in
        fine_if (length (leading new s).log == SLOTS) (Err (StreamFull SLOTS)) (Ok did) tt (goes_on did next refl same)

    refusal_fine : (answer : Answer) (f : Option CoreRefusal) → FineTo answer → FineTo (answer >>= λ did. Ok (record did { refusal = f }))
    refusal_fine (Ok did) f k = k
    refusal_fine (Err e) f k = tt

    steps_fine : (s : ℕ) → FineTo (steps_core setup a x lead s core)
    steps_fine s =
        let after = turn (setup.work.setting lead.epoch) core (Step s) in
        let next : Lead = stepped lead core after s in
        refusal_fine (proposes_full setup a x next s) (newly_refused core after)
        (fine_if (nat_lt (length (pending_of next s)) setup.batch) (Ok (quiet (record x { part = Leads next })))
        (proposes_items setup a x next s (pending_of next s))
        (goes_on (quiet (record x { part = Leads next })) next refl refl) (proposes_fine (with_pending next s []) refl s (Items (pending_of next s))))

    flushes_fine : (s : ℕ) → FineTo (if length (pending_of lead s) == 0 then Ok (quiet x) else proposes_items setup a x lead s (pending_of lead s))
    flushes_fine s =
        fine_if (length (pending_of lead s) == 0) (Ok (quiet x)) (proposes_items setup a x lead s (pending_of lead s)) (still (quiet x) refl)
        (proposes_fine (with_pending lead s []) refl s (Items (pending_of lead s)))

    idles_fine : (s : ℕ) → FineTo (idles_core setup a x lead s core)
    idles_fine s =
        let after = turn (setup.work.setting lead.epoch) core (Idle s) in
        let ends : Answer = proposes setup a x lead s (idle_mark lead.epoch END_SEQ) in
        let marks : Answer = proposes setup a x (record lead { core = Some after }) s (idle_mark lead.epoch (core.next - lead.epoch * 2 ^ 40)) in
        let done : Bool = is_done (setup.work.setting lead.epoch) s (phase_of core s) in
        fine_if (not (may_idle lead s core)) (Ok (quiet x)) (if done then ends else marks) (still (quiet x) refl)
        (fine_if done ends marks (proposes_fine lead refl s (idle_mark lead.epoch END_SEQ))
        (proposes_fine (record lead { core = Some after }) refl s (idle_mark lead.epoch (core.next - lead.epoch * 2 ^ 40))))

  open_fine : (does : Lead → Core → Answer) → ((lead : Lead) (core : Core) → x.part ≡ Leads lead → lead.core ≡ Some core → FineTo (does lead core))
      → (part : Part) → x.part ≡ part → FineTo (if_open x part does)
  open_fine does k Follows is = still (quiet x) refl
  open_fine does k (Stands c) is = still (quiet x) refl
  open_fine does k (Leads lead) is = by_core lead.core refl
    where
      by_core : (core : Option Core) → lead.core ≡ core → FineTo (option_map_or (does lead) core (Ok (quiet x)))
      by_core None e = still (quiet x) refl
      by_core (Some core) e = k lead core is e

  pub goes : (cause : Cause) (did : Did) → answer_to setup a x cause ≡ Ok did → Fine did
  goes (Takes m) did is = let parts = taken_of (is_bad setup a x m) (takes setup a x m) did is in subst FineTo parts.1 (takes_fine m)
  goes (Steps s) did is = subst FineTo is (open_fine (λ lead core. steps_core setup a x lead s core) (λ lead core p q. steps_fine lead core p q s) x.part refl)
  goes (Flushes s) did is = subst FineTo is
      (open_fine (λ lead core. if length (pending_of lead s) == 0 then Ok (quiet x) else proposes_items setup a x lead s (pending_of lead s))
      (λ lead core p q. flushes_fine lead core p q s) x.part refl)
  goes (Idles s) did is = subst FineTo is (open_fine (λ lead core. idles_core setup a x lead s core) (λ lead core p q. idles_fine lead core p q s) x.part refl)
  goes Elects did is =
      let e = next_epoch_of x.acceptor.promised a setup.nodes in
      subst FineTo is (fine_if (nat_lt e (2 ^ 20)) (Ok (stands setup a x e)) (Err (NoEpoch x.acceptor.promised)) tt tt)
  goes Ticks did is = subst FineTo is (still (sending x (sends_again setup a x.part)) refl)
  goes Crashes did is = subst FineTo is tt
  goes Returns did is = subst FineTo is (still (quiet (returned x)) refl)
  goes Loses did is = subst FineTo is tt
  goes (Plays s) did is = subst FineTo is (still (quiet (plays setup x s)) refl)

-- ---- every run ----

pub record AllOpened (setup : Setup) (w : World) : Type 0 where
  pub terms : (e : ℕ) (t : Term) → w.terms e ≡ Some t → TermOpened w.openings e t
  pub nodes : (a : ℕ) → PartOpened w.openings (node_of setup w a).part

term_opened : (openings : List Opened) (lead : Lead) → LeadOpened openings lead → TermOpened openings lead.epoch (term_of lead)
term_opened openings lead h = elim h [
  | inl k ↦ inl k
  | inr k ↦ inr (λ s. ap (λ first. tail_of first (log_at lead.streams s)) (first_of lead.streams (s - 1) ∙ whole (leading lead s) (k.1 s)) ∙ drop_all (length (log_at lead.streams s)) (log_at lead.streams s) (omega arith))
]

module _ (setup : Setup) (w : World) (k : AllOpened setup w) (step : runs.Step setup w) where
  abbrev x : World
  x = after_step setup w step

  abbrev more : List Opened
  more = option_to_list (option_map (λ o. record { epoch = o.epoch; node = step.node; items = o.items }) step.did.opened)

  here : PartOpened x.openings step.did.node.part
  here = goes setup step.node (node_of setup w step.node) w.openings (k.nodes step.node) step.cause step.did step.answers

  old_term : (e : ℕ) (t : Term) → w.terms e ≡ Some t → TermOpened x.openings e t
  old_term e t is = elim (k.terms e t is) [ inl b ↦ inl (began_more w.openings more e b) | inr n ↦ inr n ]

  new_terms : (part : Part) → PartOpened x.openings part → (e : ℕ) (t : Term) → terms_after w.terms part e ≡ Some t → TermOpened x.openings e t
  new_terms Follows h e t is = old_term e t is
  new_terms (Stands c) h e t is = old_term e t is
  new_terms (Leads lead) h e t now = by_updated (λ o. o ≡ Some t → TermOpened x.openings e t) w.terms lead.epoch (Some (term_of lead)) e
      (λ same is. subst (λ f. TermOpened x.openings f t) (sym same)
      (subst (TermOpened x.openings lead.epoch) (ap (λ o. unwrap_or o t) is) (term_opened x.openings lead h)))
      (λ other is. old_term e t is) now

  does_opened : AllOpened setup x
  does_opened = record {
    terms = new_terms step.did.node.part here;
    nodes = λ a. by_set (λ (y : NodeState). PartOpened x.openings y.part) w.nodes (step.node - 1) (a - 1) step.did.node (new_node setup) (λ same. here)
        (part_more w.openings more (node_of setup w a).part (k.nodes a));
  }

pub opened_kept : (setup : Setup) → IsKept setup (AllOpened setup)
opened_kept setup = record {
  marked = λ w sent same k. record { terms = k.terms; nodes = k.nodes };
  told = λ w line k. record { terms = k.terms; nodes = k.nodes };
  does = λ w r k step q. does_opened setup w k step;
}

pub first_opened : (setup : Setup) → AllOpened setup (new_world setup)
first_opened setup = record {
  terms = λ e t is. absurd (let z : ◌≡◌ {A = Option Term} None (Some t) = is in cc);
  nodes = λ a. subst (λ (y : NodeState). PartOpened [] y.part) (sym (new_nodes setup a)) tt;
}

-- so only an epoch that has opened has proposed items
pub proposed_opened : (setup : Setup) (w : World) → AllOpened setup w → (e s : ℕ) (x : Item) → In x (items_along (proposed_of setup (w.terms e) s)) → HasOpened w e
proposed_opened setup w k e s x = by_term (w.terms e) refl
  where
    nothing : (c : Bool) → In x (items_along (if c then batches_of [] else [])) → ⊥
    nothing true i = i
    nothing false i = i

    by_term : (o : Option Term) → w.terms e ≡ o → In x (items_along (proposed_of setup o s)) → HasOpened w e
    by_term None is i = absurd i
    by_term (Some t) is i = elim (k.terms e t is) [
      | inl b ↦ (b.0, in_contains w.openings b.0 b.1, b.2)
      | inr none ↦ absurd (nothing (is_node setup.workers s) (subst (λ log. In x (items_along (if is_node setup.workers s then batches_of log else []))) (none s) i))
    ]
