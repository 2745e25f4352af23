-- A node that takes a message does what the same node of the streams does.
use Rattle.std.proofs.Common.{◌≡◌, ℕ, zero, suc, ◌+◌, ◌-◌, List, [], ◌∷◌, ◌++◌, length, map, Bool, true, false, not, ◌&&◌, ◌||◌, ◌==◌, nat_lt, nat_le, if◌then◌else◌, Option, Some, None, Ok, Err, refl, ap, sym, ◌∙◌, subst, arith, append-nil, unwrap_or, true≢false}
use Rattle.std.proofs.Math.Seq.{map-set_same, take-length}
use Rattle.std.proofs.lemmas.Bool.Decides.{nat_tests}
use Rattle.std.proofs.lemmas.Grind.{flat_map-append}
use Rattle.std.proofs.lemmas.List.{map-append}
use Rattle.std.proofs.lemmas.List.Elements.{filter_map-append}
use Rattle.std.specs.Prelude.{slice_set, slice_index_or}
use Rattle.std.specs.Option.{option_map_or}
use Rattle.std.specs.List.{list_any, flat_map, range_with_len, cons_option}
use Rattle.rl_base.specs.Lists.{updated}
use Rattle.rl_base.proofs.Tests.{true_same, neither}
use Rattle.rl_base.proofs.UpdateLemmas.{by_updated}
use Rattle.rl_paxos.specs.declared.refused.Refused.{Refused}
use Rattle.rl_paxos.specs.Acceptors.{Acceptor, refuses, refuses_accept, prepared, synced, accepted}
use Rattle.rl_paxos.specs.Leaders.{Leading, new_leading, with_ack}
use Rattle.rl_paxos.specs.Logs.{Batch, Log}
use Rattle.rl_paxos.specs.Quorums.{is_node}
use Rattle.rl_paxos.specs.Recovery.{Promise, Candidate, with_promise, recovered_logs}
use Rattle.rl_election.specs.World as world
use Rattle.rl_election.specs.World.{StreamWorld, Envelope, Term, is_stream, stream_of, with_stream}
use Rattle.rl_election.specs.StreamEvents as streams
use Rattle.rl_msg.specs.declared.msg.Msg.{Msg}
use Rattle.rl_msg.specs.declared.msg.Msg.TheVariants as msg
use Rattle.rl_nodes.specs.declared.node_error.NodeError.{NodeError}
use Rattle.rl_nodes.specs.declared.node_error.NodeError.TheVariants.{BadMessage, StreamFull}
use Rattle.rl_base.specs.declared.limit.TheConstants.{SLOTS}
use Rattle.rl_msg.specs.Parts.{head_of}
use Rattle.rl_nodes.specs.Answers.{Did, Answer, quiet, unless_denied, to_each}
use Rattle.rl_nodes.specs.BadMessages.{is_bad, is_astray, is_usurped, is_partial, is_wrong, is_untrue, carried, stream_named}
use Rattle.rl_nodes.specs.Handles.{promises, acks, sync_to, new_lead, leads, recovers_full, takes_promise, known_to, advances, counts_ack, takes_ack, takes}
use Rattle.rl_nodes.specs.Nodes.{Lead, NodeState, Part, Follows, Stands, Leads, leading, with_leading, initial_log_of, len_acknowledged, acknowledged_history, has_opened, marks_are_acknowledged}
use Rattle.rl_nodes.specs.Setups.{Setup, cluster_of, node_numbers}
use Rattle.rl_nodes.specs.Laws.{NodesTakeAsStreams}
use Rattle.rl_nodes.specs.Streams.{envelope_of, envelopes_of, stream_role, stream_node, streams_after_doing, HasTerm, IsInStreams}
use Rattle.rl_nodes.specs.World.{term_of, terms_after}

-- ---- what stays ----

pub update_same : {A : Type 0} (f : ℕ → A) (i : ℕ) (x : A) → f i ≡ x → updated f i x ≡ f
update_same f i x e = λ k j. by_updated (λ y. y ≡ f j) f i x j (λ same. sym e ∙ ap f (sym same)) (λ other. refl) k

pub same_terms : (w : StreamWorld) (part : Part) → HasTerm w part → terms_after w.terms part ≡ w.terms
same_terms w Follows h = refl
same_terms w (Stands c) h = refl
same_terms w (Leads lead) h = update_same w.terms lead.epoch (Some (term_of lead)) h

-- a node that does nothing leaves the streams
stays : (w : StreamWorld) (a : ℕ) (x : NodeState) → IsInStreams w a x
    → w ≡ record { node = updated w.node a (stream_node x); terms = terms_after w.terms x.part; sent = w.sent ++ [] }
stays w a x h = sym {A = StreamWorld} (λ i. record {
  node = update_same w.node a (stream_node x) h.node i;
  terms = same_terms w x.part h.term i;
  sent = append-nil w.sent i;
})

-- ---- an acceptor ----

-- a node with another acceptor sends one message
sends_one : (w : StreamWorld) (a : ℕ) (x : NodeState) → IsInStreams w a x → (acceptor : Acceptor) (m : Envelope)
    → streams.acts w a (record (w.node a) { acceptor = acceptor }) (m ∷ [])
    ≡ record { node = updated w.node a (stream_node (record x { acceptor = acceptor })); terms = terms_after w.terms x.part; sent = w.sent ++ m ∷ [] }
sends_one w a x h acceptor m = λ i. record {
  node = updated w.node a (record (h.node i) { acceptor = acceptor });
  terms = sym (same_terms w x.part h.term) i;
  sent = w.sent ++ m ∷ [];
}

-- refused or not
unless : (w : StreamWorld) (a : ℕ) (x : NodeState) → IsInStreams w a x → (o : Option Refused) (y : StreamWorld) (did : Did)
    → y ≡ streams_after_doing w a did → streams.unless_refused o y w ≡ streams_after_doing w a (unless_denied o x did)
unless w a x h None y did e = e
unless w a x h (Some refused) y did e = stays w a x h

-- what the streams do with another acceptor, where the node's is y
abbrev with_acceptor : StreamWorld → (a to : ℕ) → (refusal : Option Refused) → Acceptor → world.Message → StreamWorld
with_acceptor w a to refusal acceptor m =
    streams.unless_refused refusal
    (streams.acts w a (record (w.node a) { acceptor = acceptor }) (record { from = a; to = to; message = m } ∷ [])) w

prepare : (w : StreamWorld) (g : world.Cluster) (a : ℕ) (x : NodeState) → IsInStreams w a x → (from e : ℕ)
    → streams.receives g w a from (world.Prepare e)
    ≡ streams_after_doing w a (unless_denied (refuses x.acceptor e) x (promises a x from e))
prepare w g a x h from e =
    ap (λ (y : Acceptor). with_acceptor w a from (refuses y e) (prepared y e) (streams.promise_message e y)) (ap (λ (n : world.Node). n.acceptor) h.node)
    ∙ unless w a x h (refuses x.acceptor e) _ (promises a x from e)
    (sends_one w a x h (prepared x.acceptor e) (record { from = a; to = from; message = streams.promise_message e x.acceptor }))

pub if_true : {A : Type 0} (b : Bool) (y z : A) → b ≡ true → (if b then y else z) ≡ y
if_true b y z e = ap (λ c. if c then y else z) e

sync : (w : StreamWorld) (g : world.Cluster) (a : ℕ) (x : NodeState) → IsInStreams w a x → (from e s : ℕ) (log : Log)
    → is_stream g s ≡ true
    → streams.receives g w a from (world.Sync e s log)
    ≡ streams_after_doing w a (unless_denied (refuses x.acceptor e) x (acks a x from e s (synced x.acceptor e s log)))
sync w g a x h from e s log there =
    if_true (is_stream g s) _ w there
    ∙ ap (λ (y : Acceptor). with_acceptor w a from (refuses y e) (synced y e s log) (streams.ack_message e s (synced y e s log))) (ap (λ (n : world.Node). n.acceptor) h.node)
    ∙ unless w a x h (refuses x.acceptor e) _ (acks a x from e s (synced x.acceptor e s log))
    (sends_one w a x h (synced x.acceptor e s log) (record { from = a; to = from; message = streams.ack_message e s (synced x.acceptor e s log) }))

accept : (w : StreamWorld) (g : world.Cluster) (a : ℕ) (x : NodeState) → IsInStreams w a x → (from e s slot : ℕ) (batch : Batch)
    → is_stream g s ≡ true
    → streams.receives g w a from (world.Accept e s slot batch)
    ≡ streams_after_doing w a (unless_denied (refuses_accept x.acceptor e s slot) x (acks a x from e s (accepted x.acceptor s slot batch)))
accept w g a x h from e s slot batch there =
    if_true (is_stream g s) _ w there
    ∙ ap (λ (y : Acceptor). with_acceptor w a from (refuses_accept y e s slot) (accepted y s slot batch) (streams.ack_message e s (accepted y s slot batch))) (ap (λ (n : world.Node). n.acceptor) h.node)
    ∙ unless w a x h (refuses_accept x.acceptor e s slot) _ (acks a x from e s (accepted x.acceptor s slot batch))
    (sends_one w a x h (accepted x.acceptor s slot batch) (record { from = a; to = from; message = streams.ack_message e s (accepted x.acceptor s slot batch) }))

-- ---- a leader ----

none_known : (a : ℕ) (lead : Lead) (s : ℕ) (nodes : List ℕ) → envelopes_of (map (known_to a lead s) nodes) ≡ []
none_known a lead s [] = refl
none_known a lead s (n ∷ ns) = none_known a lead s ns

-- a leader whose stream s is another, with the same initial log, sends nothing between streams
leads_on : (w : StreamWorld) (a : ℕ) (x : NodeState) (lead new : Lead) → IsInStreams w a (record x { part = Leads lead })
    → (s : ℕ) (stream : Leading) → initial_log_of stream ≡ initial_log_of (leading lead s) → new ≡ record (with_leading lead s stream) { core = new.core }
    → (messages : List Msg) → envelopes_of messages ≡ []
    → streams.with_term w lead.epoch (with_stream (term_of lead) s stream)
    ≡ record { node = updated w.node a (stream_node (record x { part = Leads new })); terms = updated w.terms new.epoch (Some (term_of new)); sent = w.sent ++ envelopes_of messages }
leads_on w a x lead new h s stream same is messages none =
    sym {A = StreamWorld} (λ i. record {
      node = update_same w.node a (stream_node (record x { part = Leads lead })) h.node i;
      terms = updated w.terms lead.epoch (Some (record {
        initial = map-set_same initial_log_of lead.streams (s - 1) stream world.no_stream same i;
        streams = slice_set lead.streams (s - 1) stream;
      }));
      sent = (ap (λ es. w.sent ++ es) none ∙ append-nil w.sent) i;
    })
    ∙ ap (λ (n : Lead). record {
      node = updated w.node a (stream_node (record x { part = Leads n }));
      terms = updated w.terms n.epoch (Some (term_of n));
      sent = w.sent ++ envelopes_of messages;
    }) (sym is)

ack_keeps : (b : Bool) (stream acked : Leading) → initial_log_of acked ≡ initial_log_of stream → initial_log_of (if b then acked else stream) ≡ initial_log_of stream
ack_keeps true stream acked e = e
ack_keeps false stream acked e = refl

-- what an Ack of stream s comes to
abbrev pub after_ack : Lead → (s from len : ℕ) → Lead
after_ack lead s from len = with_leading lead s (with_ack (leading lead s) from len)

module _ (setup : Setup) (w : StreamWorld) (a : ℕ) (x : NodeState) (lead : Lead) (h : IsInStreams w a (record x { part = Leads lead })) (s from len : ℕ) where
  abbrev acked_world : StreamWorld
  acked_world = streams.with_term w lead.epoch (with_stream (term_of lead) s (with_ack (leading lead s) from len))

  acked_as : (new : Lead) → new ≡ record (after_ack lead s from len) { core = new.core } → (messages : List Msg) → envelopes_of messages ≡ []
      → acked_world ≡ record { node = updated w.node a (stream_node (record x { part = Leads new })); terms = updated w.terms new.epoch (Some (term_of new)); sent = w.sent ++ envelopes_of messages }
  acked_as new is messages none =
      leads_on w a x lead new h s (with_ack (leading lead s) from len)
      (ack_keeps (is_node (length (leading lead s).acked) from) (leading lead s) _ refl) is messages none

  by_if : (b : Bool) (d e : Did) → acked_world ≡ streams_after_doing w a d → acked_world ≡ streams_after_doing w a e
      → acked_world ≡ streams_after_doing w a (if b then d else e)
  by_if true d e p q = p
  by_if false d e p q = q

  ack_advances : acked_world ≡ streams_after_doing w a (advances setup a x lead (after_ack lead s from len) s)
  ack_advances =
      let new : Lead = after_ack lead s from len in
      let sends : List Msg = to_each setup (known_to a new s) in
      let none : envelopes_of sends ≡ [] = none_known a new s (node_numbers setup) in
      by_if (has_opened new) _ _ (acked_as new refl sends none)
      (by_if (marks_are_acknowledged new) _ _ (acked_as (record new { core = Some (setup.work.opening lead.epoch (acknowledged_history new)) }) refl sends none)
      (acked_as new refl sends none))

  ack_counts : acked_world ≡ streams_after_doing w a (counts_ack setup a x lead s from len)
  ack_counts =
      by_if (nat_lt (len_acknowledged (leading lead s)) (len_acknowledged (leading (after_ack lead s from len) s))) _ _ ack_advances
      (acked_as (after_ack lead s from len) refl [] refl)

ack_leads : (setup : Setup) (w : StreamWorld) (a : ℕ) (x : NodeState) (lead : Lead) → IsInStreams w a (record x { part = Leads lead })
    → (e s from len : ℕ) → is_stream (cluster_of setup) s ≡ true → (b : Bool) → (b ≡ true → lead.epoch ≡ e)
    → (if b && is_stream (cluster_of setup) s then streams.counts_ack w e s from len (w.terms e) else w)
    ≡ streams_after_doing w a (if b then counts_ack setup a (record x { part = Leads lead }) lead s from len else quiet (record x { part = Leads lead }))
ack_leads setup w a x lead h e s from len there false same = stays w a (record x { part = Leads lead }) h
ack_leads setup w a x lead h e s from len there true same =
    if_true (is_stream (cluster_of setup) s) (streams.counts_ack w e s from len (w.terms e)) w there
    ∙ ap (λ k. streams.counts_ack w k s from len (w.terms k)) (sym (same refl))
    ∙ ap (streams.counts_ack w lead.epoch s from len) h.term
    ∙ ack_counts setup w a x lead h s from len

ack_part : (setup : Setup) (w : StreamWorld) (a : ℕ) (x : NodeState) (part : Part) → IsInStreams w a (record x { part = part })
    → (e s from len : ℕ) → is_stream (cluster_of setup) s ≡ true
    → streams.receives_ack (cluster_of setup) w e s from len (stream_role part)
    ≡ streams_after_doing w a (takes_ack setup a (record x { part = part }) e s from len part)
ack_part setup w a x Follows h e s from len there = stays w a (record x { part = Follows }) h
ack_part setup w a x (Stands c) h e s from len there = stays w a (record x { part = Stands c }) h
ack_part setup w a x (Leads lead) h e s from len there =
    ack_leads setup w a x lead h e s from len there (lead.epoch == e) (true_same lead.epoch e)

ack : (setup : Setup) (w : StreamWorld) (a : ℕ) (x : NodeState) → IsInStreams w a x → (from e s len : ℕ)
    → is_stream (cluster_of setup) s ≡ true
    → streams.receives (cluster_of setup) w a from (world.Ack e s len)
    ≡ streams_after_doing w a (takes_ack setup a x e s from len x.part)
ack setup w a x h from e s len there =
    ap (λ (n : world.Node). streams.receives_ack (cluster_of setup) w e s from len n.role) h.node
    ∙ ack_part setup w a x x.part h e s from len there

-- ---- a candidate ----

range_end : (a n : ℕ) → range_with_len a (suc n) ≡ range_with_len a n ++ (a + n) ∷ []
range_end a zero = ap (λ k. k ∷ []) (omega arith)
range_end a (suc n) =
    ap (λ ks. a ∷ ks) (range_end (a + 1) n ∙ ap (λ k. range_with_len (a + 1) n ++ k ∷ []) (omega arith))

envelopes_of-append : (xs ys : List Msg) → envelopes_of (xs ++ ys) ≡ envelopes_of xs ++ envelopes_of ys
envelopes_of-append xs ys = filter_map-append envelope_of xs ys

-- the same message to each node
pub to_all_same : (n a : ℕ) (m : world.Message) (f : ℕ → Msg) → ((k : ℕ) → envelope_of (f k) ≡ Some (record { from = a; to = k; message = m }))
    → world.to_all n a m ≡ envelopes_of (map f (range_with_len 1 n))
to_all_same zero a m f is = refl
to_all_same (suc n) a m f is = sym (
    ap (λ ks. envelopes_of (map f ks)) (range_end 1 n)
    ∙ ap envelopes_of (map-append f (range_with_len 1 n) ((1 + n) ∷ []))
    ∙ envelopes_of-append (map f (range_with_len 1 n)) (f (1 + n) ∷ [])
    ∙ ap (λ es. es ++ envelopes_of (f (1 + n) ∷ [])) (sym (to_all_same n a m f is))
    ∙ ap (λ k. world.to_all n a m ++ envelopes_of (f k ∷ [])) one_more
    ∙ ap (λ o. world.to_all n a m ++ cons_option o []) (is (suc n))
    )
  where
    one_more : 1 + n ≡ suc n
    one_more = omega arith

-- the log with which a leader begins is the log that it is made with
first_at : (e nodes quorum : ℕ) (logs : List Log) (i : ℕ)
    → initial_log_of (slice_index_or (map (new_leading e nodes quorum) logs) i world.no_stream) ≡ slice_index_or logs i []
first_at e nodes quorum [] i = refl
first_at e nodes quorum (log ∷ logs) zero = take-length log
first_at e nodes quorum (log ∷ logs) (suc i) = first_at e nodes quorum logs i

first_logs : (e nodes quorum : ℕ) (logs : List Log) → map initial_log_of (map (new_leading e nodes quorum) logs) ≡ logs
first_logs e nodes quorum [] = refl
first_logs e nodes quorum (log ∷ logs) = λ i. take-length log i ∷ first_logs e nodes quorum logs i

module _ (setup : Setup) (a : ℕ) (c : Candidate) where
  abbrev first : List Log
  first = streams.initial_logs (cluster_of setup) c

  abbrev syncs_of : (s : ℕ) → List Msg
  syncs_of s = to_each setup (sync_to a (new_lead setup c) s)

  sync_same : (k : ℕ)
      → world.to_all setup.nodes a (world.Sync c.epoch (suc k) (slice_index_or first k [])) ≡ envelopes_of (syncs_of (suc k))
  sync_same k =
      ap (λ log. world.to_all setup.nodes a (world.Sync c.epoch (suc k) log))
      (sym (ap (λ i. initial_log_of (slice_index_or (map (new_leading c.epoch setup.nodes setup.second_quorum) first) i world.no_stream)) one_less
      ∙ first_at c.epoch setup.nodes setup.second_quorum first k))
      ∙ to_all_same setup.nodes a _ (sync_to a (new_lead setup c) (suc k)) (λ to. refl)
    where
      one_less : suc k - 1 ≡ k
      one_less = omega arith

  syncs_same : (k : ℕ)
      → streams.syncs (cluster_of setup) a c.epoch first k ≡ envelopes_of (flat_map syncs_of (range_with_len 1 k))
  syncs_same zero = refl
  syncs_same (suc k) = sym (
      ap (λ ks. envelopes_of (flat_map syncs_of ks)) (range_end 1 k)
      ∙ ap envelopes_of (flat_map-append syncs_of (range_with_len 1 k) ((1 + k) ∷ []))
      ∙ envelopes_of-append (flat_map syncs_of (range_with_len 1 k)) (syncs_of (1 + k) ++ [])
      ∙ ap (λ ms. envelopes_of (flat_map syncs_of (range_with_len 1 k)) ++ envelopes_of ms) (append-nil (syncs_of (1 + k)))
      ∙ ap (λ n. envelopes_of (flat_map syncs_of (range_with_len 1 k)) ++ envelopes_of (syncs_of n)) one_more
      ∙ ap (λ es. envelopes_of (flat_map syncs_of (range_with_len 1 k)) ++ es) (sym (sync_same k))
      ∙ ap (λ es. es ++ world.to_all setup.nodes a (world.Sync c.epoch (suc k) (slice_index_or first k []))) (sym (syncs_same k))
      )
    where
      one_more : 1 + k ≡ suc k
      one_more = omega arith

-- what the streams come to where a node answers
abbrev ComesTo : StreamWorld → (a : ℕ) → StreamWorld → Answer → Type 0
ComesTo w a y (Ok did) = y ≡ streams_after_doing w a did
ComesTo w a y (Err e) = Unit {0}

begins_to_lead : (setup : Setup) (w : StreamWorld) (a : ℕ) (x : NodeState) → IsInStreams w a x → (c : Candidate)
    → streams.leads (cluster_of setup) w a c ≡ streams_after_doing w a (leads setup a x c)
begins_to_lead setup w a x h c = λ i. record {
  node = updated w.node a (record (h.node i) { role = world.Leads c.epoch });
  terms = updated w.terms c.epoch (Some (record {
    initial = sym (first_logs c.epoch setup.nodes setup.second_quorum (first setup a c)) i;
    streams = map (new_leading c.epoch setup.nodes setup.second_quorum) (first setup a c);
  }));
  sent = w.sent ++ syncs_same setup a c setup.workers i;
}

stands_on : (w : StreamWorld) (a : ℕ) (x : NodeState) → IsInStreams w a x → (c : Candidate)
    → streams.acts w a (record (w.node a) { role = world.Stands c }) [] ≡ streams_after_doing w a (quiet (record x { part = Stands c }))
stands_on w a x h c = λ i. record {
  node = updated w.node a (record (h.node i) { role = world.Stands c });
  terms = w.terms;
  sent = w.sent ++ [];
}

has_few : (a b : ℕ) → nat_lt a b ≡ true → nat_le b a ≡ false
has_few a b h = grind (arith, nat_tests)

has_enough : (a b : ℕ) → nat_lt a b ≡ false → nat_le b a ≡ true
has_enough a b h = grind (arith, nat_tests)

not_full : (setup : Setup) (w : StreamWorld) (a : ℕ) (y : StreamWorld) (full : Bool) (answer : Answer) (e : NodeError)
    → ComesTo w a y answer → ComesTo w a y (if full then Err e else answer)
not_full setup w a y true answer e h = tt
not_full setup w a y false answer e h = h

promised : (setup : Setup) (w : StreamWorld) (a : ℕ) (x : NodeState) → IsInStreams w a x → (c : Candidate)
    → (few : Bool) → nat_lt (length c.promises) c.need ≡ few
    → ComesTo w a (streams.stands_or_leads (cluster_of setup) w a c)
    (if few then Ok (quiet (record x { part = Stands c })) else recovers_full setup c (Ok (leads setup a x c)))
promised setup w a x h c true is =
    ap (λ (b : Bool). if b then streams.leads (cluster_of setup) w a c else streams.acts w a (record (w.node a) { role = world.Stands c }) []) (has_few (length c.promises) c.need is)
    ∙ stands_on w a x h c
promised setup w a x h c false is =
    not_full setup w a (streams.stands_or_leads (cluster_of setup) w a c) (list_any (λ log. length log == SLOTS) (recovered_logs c.promises setup.workers))
    (Ok (leads setup a x c)) (StreamFull SLOTS)
    (if_true (nat_le c.need (length c.promises)) (streams.leads (cluster_of setup) w a c) _ (has_enough (length c.promises) c.need is) ∙ begins_to_lead setup w a x h c)

promise_if : (setup : Setup) (w : StreamWorld) (a : ℕ) (x : NodeState) → IsInStreams w a x → (own : Bool) (y : StreamWorld) (answer : Answer)
    → ComesTo w a y answer → ComesTo w a (if own then y else w) (if own then answer else Ok (quiet x))
promise_if setup w a x h true y answer e = e
promise_if setup w a x h false y answer e = stays w a x h

promise_part : (setup : Setup) (w : StreamWorld) (a : ℕ) (x : NodeState) (part : Part) → IsInStreams w a (record x { part = part }) → (e : ℕ) (p : Promise)
    → ComesTo w a (streams.receives_promise (cluster_of setup) w a e p (stream_role part)) (takes_promise setup a (record x { part = part }) e p part)
promise_part setup w a x Follows h e p = stays w a (record x { part = Follows }) h
promise_part setup w a x (Leads lead) h e p = stays w a (record x { part = Leads lead }) h
promise_part setup w a x (Stands c) h e p =
    let more : Candidate = with_promise c p in
    promise_if setup w a (record x { part = Stands c }) h (c.epoch == e) (streams.stands_or_leads (cluster_of setup) w a more) _
    (promised setup w a (record x { part = Stands c }) h more (nat_lt (length more.promises) more.need) refl)

promise : (setup : Setup) (w : StreamWorld) (a : ℕ) (x : NodeState) → IsInStreams w a x → (e : ℕ) (p : Promise)
    → ComesTo w a (streams.receives_promise (cluster_of setup) w a e p (w.node a).role) (takes_promise setup a x e p x.part)
promise setup w a x h e p =
    subst (λ (n : world.Node). ComesTo w a (streams.receives_promise (cluster_of setup) w a e p n.role) (takes_promise setup a x e p x.part)) (sym h.node)
    (promise_part setup w a x x.part h e p)

-- ---- any message ----

-- an answer that is Ok
abbrev pub IsAnswer : Answer → Type 0
IsAnswer (Ok did) = Unit {0}
IsAnswer (Err e) = ⊥

pub taken_of : (bad : Bool) (answer : Answer) (did : Did) → ◌≡◌ {A = Answer} (if bad then Err BadMessage else answer) (Ok did)
    → (bad ≡ false) × (answer ≡ Ok did)
taken_of true answer did is = absurd (subst IsAnswer (sym is) tt)
taken_of false answer did is = (refl, is)

not_false : (b : Bool) → not b ≡ false → b ≡ true
not_false true h = refl
not_false false h = absurd (true≢false h)

-- the stream that a message names is there
named : (setup : Setup) (a : ℕ) (x : NodeState) (m : Msg) → is_bad setup a x m ≡ false
    → option_map_or (λ s. not (is_node setup.workers s)) (stream_named m) false ≡ false
named setup a x m ok =
    let wrong = list_any (is_wrong setup.program.tables) (carried m) in
    let four = neither (((is_astray setup a m || is_usurped setup m) || is_partial setup m) || wrong) (is_untrue x m) ok in
    let three = neither ((is_astray setup a m || is_usurped setup m) || is_partial setup m) wrong four.0 in
    let two = neither (is_astray setup a m || is_usurped setup m) (is_partial setup m) three.0 in
    let one = neither (is_astray setup a m) (is_usurped setup m) two.0 in
    (neither (not ((head_of m).to == a) || not (is_node setup.nodes (head_of m).from)) (option_map_or (λ s. not (is_node setup.workers s)) (stream_named m) false) one.0).1

pub some_same : {A : Type 0} (x y : A) → Some x ≡ Some y → x ≡ y
some_same x y e = ap (λ o. unwrap_or o x) e

-- an option that has nothing
abbrev HasNothing : Option Envelope → Type 0
HasNothing None = Unit {0}
HasNothing (Some n) = ⊥

module _ (setup : Setup) (w : StreamWorld) (a : ℕ) (x : NodeState) (h : IsInStreams w a x) where
  abbrev Comes : Msg → Envelope → Type 0
  Comes m n = ComesTo w a (streams.receives (cluster_of setup) w a n.from n.message) (takes setup a x m)

  -- of each message that is one between streams
  comes : (m : Msg) (n : Envelope) → is_bad setup a x m ≡ false → envelope_of m ≡ Some n → Comes m n
  comes (msg.Prepare from to e) n ok is =
      subst (Comes (msg.Prepare from to e)) (some_same _ n is) (prepare w (cluster_of setup) a x h from e)
  comes (msg.Promise from to e ballots logs) n ok is =
      subst (Comes (msg.Promise from to e ballots logs)) (some_same _ n is)
      (promise setup w a x h e (record { node = from; ballots = ballots; logs = logs }))
  comes (msg.Sync from to e s log) n ok is =
      subst (Comes (msg.Sync from to e s log)) (some_same _ n is)
      (sync w (cluster_of setup) a x h from e s log (not_false (is_node setup.workers s) (named setup a x (msg.Sync from to e s log) ok)))
  comes (msg.Accept from to e s slot batch) n ok is =
      subst (Comes (msg.Accept from to e s slot batch)) (some_same _ n is)
      (accept w (cluster_of setup) a x h from e s slot batch (not_false (is_node setup.workers s) (named setup a x (msg.Accept from to e s slot batch) ok)))
  comes (msg.Ack from to e s len) n ok is =
      subst (Comes (msg.Ack from to e s len)) (some_same _ n is)
      (ack setup w a x h from e s len (not_false (is_node setup.workers s) (named setup a x (msg.Ack from to e s len) ok)))
  comes (msg.Known from to e s len) n ok is = absurd (subst HasNothing is tt)

pub nodes_take_as_streams : NodesTakeAsStreams
nodes_take_as_streams setup t =
    let parts = taken_of (is_bad setup t.node t.state t.message) (takes setup t.node t.state t.message) t.did t.takes in
    subst (ComesTo t.streams t.node (streams.receives (cluster_of setup) t.streams t.node t.envelope.from t.envelope.message)) parts.1
    (comes setup t.streams t.node t.state t.is_node t.message t.envelope parts.0 t.is_message)
