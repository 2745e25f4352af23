-- A message reaches its receiver.
use Rattle.std.proofs.Common.{◌≡◌, ℕ, ◌≤◌, ◌==◌, Bool, true, false, cond, nat_lt, List, length, if◌then◌else◌, Contains, Option, Some, None, IsSome, Ok, Err, refl, sym, ap, subst, ◌∙◌}
use Rattle.std.specs.Prelude.{IfSome}
use Rattle.std.specs.List.{list_any}
use Rattle.std.specs.Option.{option_map, option_map_or}
use Rattle.std.specs.Result.{result_ok}
use Rattle.rl_base.specs.declared.limit.TheConstants.{BYTES, SLOTS}
use Rattle.rl_base.proofs.Members.{in_contains, contains_in}
use Rattle.rl_election.specs.World.{is_up}
use Rattle.rl_paxos.specs.declared.refused.Refused.{Refused}
use Rattle.rl_paxos.specs.Acceptors.{refuses, refuses_accept, synced, accepted}
use Rattle.rl_paxos.specs.Recovery.{Promise, Candidate, with_promise, recovered_logs}
use Rattle.rl_msg.specs.declared.msg.Msg.{Msg}
use Rattle.rl_msg.specs.declared.msg.Msg.TheVariants as msg
use Rattle.rl_msg.specs.Encoding.{msg_bytes}
use Rattle.rl_msg.specs.Parts.{head_of}
use Rattle.rl_net.specs.Messages as net
use Rattle.rl_net.specs.declared.message.Message.{Message}
use Rattle.rl_nodes.specs.declared.node_error.NodeError.TheVariants.{BadMessage, StreamFull}
use Rattle.rl_nodes.specs.Answers.{Did, Answer, Release, quiet, sending, to_each, unless_denied}
use Rattle.rl_nodes.specs.BadMessages.{is_bad}
use Rattle.rl_nodes.specs.Events.{reaches, delivers}
use Rattle.rl_nodes.specs.Handles.{promises, acks, leads, recovers_full, stands_or_leads, takes_promise, known_to, opens, releases, advances, counts_ack, takes_ack, takes, receives, handles}
use Rattle.rl_nodes.specs.Nodes.{Lead, NodeState, Part, Follows, Stands, Leads, leading, len_acknowledged, acknowledged_history, has_opened, marks_are_acknowledged}
use Rattle.rl_nodes.specs.Setups.{Setup, node_numbers}
use Rattle.rl_nodes.specs.World.{World, Sent, NoMessage, node_of, sent_at, delivered, with_line, after_answer}
use Rattle.rl_nodes.proofs.ChangesInStreams.{by_node}
use Rattle.rl_nodes.proofs.Deliveries.{in_numbers, sent_in}
use Rattle.rl_nodes.proofs.Growing.{messages}
use Rattle.rl_nodes.proofs.InStreams.{after_ack, taken_of}
use Rattle.rl_node.specs.SetupOf.{setup_of}
use Rattle.rl_safe.specs.Laws.{GainsSuffice}
use Rattle.rl_safe.specs.Messages.{MessagesReadBack, MessagesHaveReceivers}
use Rattle.rl_world.specs.Moments.{Moment}
use Rattle.rl_world.specs.Releasing.{GainSuffices}
use Rattle.rl_world.specs.Standing.{IsNumberOf, IsSafe, StandsRun}
use Rattle.rl_world.specs.Telling.{kept}
use Rattle.rl_world.specs.declared.run.Run.{Run}
use Rattle.rl_world.specs.declared.told.Told.{Told}
use Rattle.rl_world.proofs.Answering.{TellsPlainly}
use Rattle.rl_world.proofs.Dropping.{with_told, safe_told}
use Rattle.rl_world.proofs.Marking.{sent_read, same_bytes, same_count, changed_kept, changed_range}
use Rattle.rl_world.proofs.Moments.{as_run}

-- ---- no message makes an attempt be refused ----

module _ (setup : Setup) (a : ℕ) (x : NodeState) where
  abbrev Plain : Did → Type 0
  Plain did = did.refusal ≡ None

  abbrev PlainTo : Answer → Type 0
  PlainTo (Ok did) = Plain did
  PlainTo (Err e) = Unit {0}

  plain_if : (b : Bool) (d e : Answer) → PlainTo d → PlainTo e → PlainTo (if b then d else e)
  plain_if true d e p q = p
  plain_if false d e p q = q

  did_if : (b : Bool) (d e : Did) → Plain d → Plain e → Plain (if b then d else e)
  did_if true d e p q = p
  did_if false d e p q = q

  unless : (o : Option Refused) (did : Did) → Plain did → Plain (unless_denied o x did)
  unless None did h = h
  unless (Some refused) did h = refl

  ack_plain : (part : Part) (e s from len : ℕ) → Plain (takes_ack setup a x e s from len part)
  ack_plain Follows e s from len = refl
  ack_plain (Stands c) e s from len = refl
  ack_plain (Leads lead) e s from len =
      let new : Lead = after_ack lead s from len in
      let ms : List Msg = to_each setup (known_to a new s) in
      did_if (lead.epoch == e) (counts_ack setup a x lead s from len) (quiet x)
      (did_if (nat_lt (len_acknowledged (leading lead s)) (len_acknowledged (leading new s))) (advances setup a x lead new s)
      (quiet (record x { part = Leads new }))
      (did_if (has_opened new) (releases x (acknowledged_history lead) new ms)
      (if marks_are_acknowledged new then opens setup x new ms else sending (record x { part = Leads new }) ms) refl
      (did_if (marks_are_acknowledged new) (opens setup x new ms) (sending (record x { part = Leads new }) ms) refl refl))
      refl)
      refl

  promise_plain : (part : Part) (e : ℕ) (p : Promise) → PlainTo (takes_promise setup a x e p part)
  promise_plain Follows e p = refl
  promise_plain (Leads lead) e p = refl
  promise_plain (Stands c) e p =
      let next : Candidate = with_promise c p in
      plain_if (c.epoch == e) (stands_or_leads setup a x next) (Ok (quiet x))
      (plain_if (nat_lt (length next.promises) next.need) (Ok (quiet (record x { part = Stands next })))
      (recovers_full setup next (Ok (leads setup a x next)))
      refl
      (plain_if (list_any (λ log. length log == SLOTS) (recovered_logs next.promises setup.workers)) (Err (StreamFull SLOTS))
      (Ok (leads setup a x next)) tt refl))
      refl

  takes_plain : (m : Msg) → PlainTo (takes setup a x m)
  takes_plain (msg.Prepare from to e) = unless (refuses x.acceptor e) (promises a x from e) refl
  takes_plain (msg.Promise from to e ballots logs) = promise_plain x.part e (record { node = from; ballots = ballots; logs = logs })
  takes_plain (msg.Sync from to e s log) = unless (refuses x.acceptor e) (acks a x from e s (synced x.acceptor e s log)) refl
  takes_plain (msg.Accept from to e s slot batch) =
      unless (refuses_accept x.acceptor e s slot) (acks a x from e s (accepted x.acceptor s slot batch)) refl
  takes_plain (msg.Ack from to e s len) = ack_plain x.part e s from len
  takes_plain (msg.Known from to e s len) = refl

  pub receives_plain : (m : Msg) (did : Did) → receives setup a x m ≡ Ok did → did.refusal ≡ None
  receives_plain m did is = subst PlainTo (taken_of (is_bad setup a x m) (takes setup a x m) did is).1 (takes_plain m)

-- ---- the message of a number ----

-- of some message what is said of it
pub there : (P : Message → Type 0) (o : Option Message) → IsSome o → IfSome o P → (m : Message) × (o ≡ Some m) × P m
there P None some h = absurd cc
there P (Some m) some h = (m, refl, h)

of_kept : (o : Option Sent) (m : Message) → option_map kept o ≡ Some m → (x : Sent) × (o ≡ Some x) × (kept x ≡ m)
of_kept None m e = absurd (let k : ◌≡◌ {A = Option Message} None (Some m) = e in cc)
of_kept (Some x) m e = (x, refl, (let k : ◌≡◌ {A = Option Message} (Some (kept x)) (Some m) = e in cc))

module _ (r : Run) (w : World) (st : StandsRun r w) (number : ℕ) where
  -- what the network has of it the world has
  pub sent_is : (m : Message) → net.message_at r.told.net number ≡ Some m → (x : Sent) × (sent_at w.sent number ≡ Some x) × (kept x ≡ m)
  sent_is m is = of_kept (sent_at w.sent number) m
      (sym (sent_read w.sent number) ∙ ap (λ ms. net.message_at ms number) (sym st.told.net) ∙ is)

  pub none_is : net.message_at r.told.net number ≡ None → sent_at w.sent number ≡ None
  none_is is = by_option (sent_at w.sent number)
      (sym (sent_read w.sent number) ∙ ap (λ ms. net.message_at ms number) (sym st.told.net) ∙ is)
    where
      by_option : (o : Option Sent) → option_map kept o ≡ None → o ≡ None
      by_option None e = refl
      by_option (Some x) e = absurd (let k : ◌≡◌ {A = Option Message} (Some (kept x)) None = e in cc)

  -- once it is marked as delivered
  abbrev pub marked : Told
  marked = record r.told { net = net.delivered_at r.told.net number }

  pub marked_stands : StandsRun (with_told r marked) (delivered w number)
  marked_stands = record {
    nodes = record { listed = st.nodes.listed; each = st.nodes.each };
    told = record {
      net = ap (λ m. net.delivered_at m number) st.told.net
          ∙ changed_kept (λ (m : Message). record m { delivered = true }) (λ (m : Sent). record m { delivered = true }) (λ m. refl) w.sent number;
      in_range = changed_range (λ (m : Sent). record m { delivered = true }) (λ m. refl) w.sent number st.told.in_range;
      few = subst (λ n. n ≤ BYTES) (sym (same_bytes (λ (m : Message). record m { delivered = true }) (λ m. refl) r.told.net number)) st.told.few;
      count = st.told.count ∙ sym (same_count (λ (m : Message). record m { delivered = true }) r.told.net number);
      released = st.told.released;
      lines = st.told.lines;
      effects = st.told.effects;
    };
  }

pub marked_safe : (r : Run) (number : ℕ) → IsSafe r → IsSafe (with_told r (record r.told { net = net.delivered_at r.told.net number }))
marked_safe r number safe =
    safe_told r (record r.told { net = net.delivered_at r.told.net number }) safe
    (same_bytes (λ (m : Message). record m { delivered = true }) (λ m. refl) r.told.net number)
    (same_count (λ (m : Message). record m { delivered = true }) r.told.net number) refl

-- ---- at a moment of a run ----

module _ (r : Run) (safe : IsSafe r) (m : Moment (setup_of r.setup)) (number : ℕ) (x : Sent) (at : sent_at m.world.sent number ≡ Some x) where
  abbrev to : ℕ
  to = (head_of x.message).to

  was_sent : Contains (messages m.world.sent) x.message
  was_sent = in_contains (messages m.world.sent) x.message (sent_in m.world.sent number x at)

  -- its receiver is there
  pub receiver : MessagesHaveReceivers → IsNumberOf (setup_of r.setup) (head_of x.message).to
  receiver receivers =
      let setup = setup_of r.setup in
      let c : Contains (node_numbers setup) (head_of x.message).to =
      receivers (as_run setup safe.fits m) (record { message = x.message; was_sent = was_sent }) in
      let k = by_node setup.nodes (head_of x.message).to (in_numbers setup.nodes (head_of x.message).to (contains_in (node_numbers setup) (head_of x.message).to c)) in
      record { first = k.0; last = k.1 }

  -- its bytes are read as it
  pub handled : MessagesReadBack → (a : ℕ) (y : NodeState) (bytes : List ℕ) → bytes ≡ msg_bytes x.message
      → handles (setup_of r.setup) a y bytes ≡ receives (setup_of r.setup) a y x.message
  handled reads a y bytes is =
      let setup = setup_of r.setup in
      ap (handles setup a y) is
      ∙ ap (λ read. option_map_or (receives setup a y) (result_ok read) (Err BadMessage))
      (reads (as_run setup safe.fits m) (record { message = x.message; was_sent = was_sent }))

  -- what its receiver does with it is told plainly
  pub received_plainly : GainsSuffice
      → TellsPlainly (delivered m.world number) (receives (setup_of r.setup) (head_of x.message).to (node_of (setup_of r.setup) (delivered m.world number) (head_of x.message).to) x.message)
  received_plainly gains did is =
      let setup = setup_of r.setup in
      let a = (head_of x.message).to in
      (receives_plain setup a (node_of setup (delivered m.world number) a) x.message did is, by_release did.release refl)
    where
      by_release : (o : Option Release) → did.release ≡ o → GainSuffices m.world.released o
      by_release None e = tt
      by_release (Some release) e =
          gains (as_run (setup_of r.setup) safe.fits m)
          (record { sent = record { message = x.message; was_sent = was_sent }; did = did; takes = is }) release e

  -- a delivery, by whether the receiver is up
  pub delivers_up : is_up (node_of (setup_of r.setup) (delivered m.world number) (head_of x.message).to).state ≡ true
      → delivers (setup_of r.setup) number m.world
      ≡ after_answer (delivered m.world number) (head_of x.message).to number
      (receives (setup_of r.setup) (head_of x.message).to (node_of (setup_of r.setup) (delivered m.world number) (head_of x.message).to) x.message)
  delivers_up up =
      let setup = setup_of r.setup in
      let w = delivered m.world number in
      let a = (head_of x.message).to in
      ap (λ o. option_map_or (λ (y : Sent). reaches setup number y.message w) o (Ok (with_line m.world (NoMessage number)))) at
      ∙ ap (λ b. cond b (after_answer w a number (receives setup a (node_of setup w a) x.message)) (Ok w)) up

  pub delivers_away : is_up (node_of (setup_of r.setup) (delivered m.world number) (head_of x.message).to).state ≡ false
      → delivers (setup_of r.setup) number m.world ≡ Ok (delivered m.world number)
  delivers_away away =
      let setup = setup_of r.setup in
      let w = delivered m.world number in
      let a = (head_of x.message).to in
      ap (λ o. option_map_or (λ (y : Sent). reaches setup number y.message w) o (Ok (with_line m.world (NoMessage number)))) at
      ∙ ap (λ b. cond b (after_answer w a number (receives setup a (node_of setup w a) x.message)) (Ok w)) away
