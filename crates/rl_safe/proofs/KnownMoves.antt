-- What a node does, as far as what is known and released goes: which Known it sends, from which history it releases, and what becomes
-- of what it knows, of its logs and of its replica.
use Rattle.std.proofs.Common.{◌≡◌, ◌≤◌, ℕ, ◌-◌, ◌*◌, ◌^◌, List, [], ◌∷◌, ◌++◌, length, take, map, filter, Bool, true, false, not, ◌&&◌, ◌||◌, ◌==◌, nat_lt, is_some, if◌then◌else◌, Option, Some, None, Ok, Err, refl, ap, sym, ◌∙◌, subst, arith, inl, inr}
use Rattle.std.proofs.lemmas.List.{take-append-le, length-append}
use Rattle.std.specs.Prelude.{slice_index, slice_index_or}
use Rattle.std.specs.List.{list_any, flat_map, range_with_len}
use Rattle.std.specs.Option.{option_map_or}
use Rattle.rl_base.specs.Epochs.{next_epoch_of}
use Rattle.rl_base.specs.Lists.{IsPrefix}
use Rattle.rl_base.specs.Results.{◌>>=◌}
use Rattle.rl_base.specs.declared.limit.TheConstants.{SLOTS}
use Rattle.rl_base.proofs.Members.{In, in_split, map_in}
use Rattle.rl_base.proofs.Tests.{neither, true_lt}
use Rattle.rl_paxos.specs.declared.refused.Refused.{Refused}
use Rattle.rl_paxos.specs.Acceptors.{Kept, nothing_kept, kept_ballot, kept_log, refuses, refuses_accept, prepared, with_kept, synced, accepted}
use Rattle.rl_paxos.specs.Leaders.{proposed, acked_len}
use Rattle.rl_paxos.specs.Logs as bytes
use Rattle.rl_paxos.specs.Quorums.{is_node}
use Rattle.rl_paxos.specs.Recovery.{Promise, Candidate, with_promise, has_promised, recovered_logs}
use Rattle.rl_txn.specs.declared.batch.Batch.{Batch}
use Rattle.rl_txn.specs.declared.batch.Batch.TheVariants.{Items}
use Rattle.rl_batch.specs.Encoding.{batch_bytes}
use Rattle.rl_msg.specs.declared.msg.Msg.{Msg}
use Rattle.rl_msg.specs.declared.msg.Msg.TheVariants as msg
use Rattle.rl_msg.specs.Parts.{head_of}
use Rattle.rl_worker.specs.Acts.{Core, CoreRefusal, Step, Idle, turn, is_done, phase_of}
use Rattle.rl_worker.specs.OneTurn.{newly_refused}
use Rattle.rl_nodes.specs.declared.node_error.NodeError.TheVariants.{StreamFull, NoEpoch}
use Rattle.rl_nodes.specs.Answers.{Opening, Release, Did, Answer, quiet, sending, to_each, unless_denied}
use Rattle.rl_nodes.specs.BadMessages.{begins, is_bad, is_astray, is_usurped, is_partial, is_wrong, is_untrue, carried, stream_named, would_adopt}
use Rattle.rl_nodes.specs.Batches.{END_SEQ, idle_mark}
use Rattle.rl_nodes.specs.Elections.{sends_again, resends_to, accepts_from, knowns, stands, elects, crashed, returned, lost}
use Rattle.rl_nodes.specs.Handles.{promises, acks, knows, sync_to, new_lead, leads, recovers_full, stands_or_leads, takes_promise, known_to, opens, releases, advances, counts_ack, takes_ack, takes, receives}
use Rattle.rl_nodes.specs.Nodes.{Lead, NodeState, Part, Follows, Stands, Leads, nothing_known, opening_replica, known_len, known_log, leading, with_leading, with_pending, pending_of, len_acknowledged, acknowledged_history, has_opened, marks_are_acknowledged}
use Rattle.rl_nodes.specs.Setups.{Setup, node_numbers, stream_numbers}
use Rattle.rl_nodes.specs.Views.{plays}
use Rattle.rl_nodes.specs.Works.{may_idle, proposes, proposes_items, proposes_full, stepped, steps_core, idles_core, if_open}
use Rattle.rl_nodes.proofs.Deliveries.{in_numbers, flat_in, not_false}
use Rattle.rl_nodes.proofs.InStreams.{after_ack, taken_of}
use Rattle.rl_nodes.proofs.Telling.{tests_tell}
use Rattle.rl_safe.proofs.KnownLists.{by_set, front_stays}
use Rattle.rl_nodes.proofs.Runs.{Cause, Takes, Steps, Flushes, Idles, Elects, Ticks, Crashes, Returns, Loses, Plays, answer_to, IsFor}

-- ---- what becomes of what it knows ----

-- where what is known of a stream is part of its log, it is so still, and the same
abbrev pub Holds : (x y : NodeState) → (s : ℕ) → Type 0
Holds x y s = known_len x s ≤ length (kept_log x.acceptor s)
    → (known_len x s ≤ length (kept_log y.acceptor s)) × (take (known_len x s) (kept_log y.acceptor s) ≡ known_log x s)

-- a node knows the same; it takes a Known; it loses what it knows; or its replica plays
pub data Moves (setup : Setup) (sent : List Msg) (x y : NodeState) : Type 0 where
  Keeps : y.known ≡ x.known → y.replica ≡ x.replica → ((s : ℕ) → is_node setup.workers s ≡ true → Holds x y s)
      → ((s : ℕ) → kept_ballot x.acceptor s ≤ kept_ballot y.acceptor s) → Moves setup sent x y
  Learns : (from to e s len : ℕ) → In (msg.Known from to e s len) sent → y ≡ knows x e s len → Moves setup sent x y
  Forgets : y.known ≡ nothing_known setup → y.replica ≡ opening_replica setup → Moves setup sent x y
  Replays : (s : ℕ) → is_node setup.workers s ≡ true → y ≡ plays setup x s → Moves setup sent x y

-- ---- what it tells ----

-- a Known tells how much of a stream the leader counts as acknowledged
abbrev pub SaysOf : Setup → Part → (e s len : ℕ) → Type 0
SaysOf setup (Leads lead) e s len = (is_node setup.workers s ≡ true) × (e ≡ lead.epoch) × (len ≡ len_acknowledged (leading lead s))
SaysOf setup other e s len = ⊥

abbrev pub Says : Setup → Part → Msg → Type 0
Says setup part (msg.Known from to e s len) = SaysOf setup part e s len
Says setup part other = Unit {0}

abbrev pub AllSay : Setup → Part → List Msg → Type 0
AllSay setup part ms = (m : Msg) → In m ms → Says setup part m

-- it releases from the history that it counts as acknowledged
abbrev pub GivesOf : Part → Release → Type 0
GivesOf (Leads lead) r = (r.epoch ≡ lead.epoch) × (r.history ≡ acknowledged_history lead)
GivesOf other r = ⊥

abbrev pub Gives : Part → Option Release → Type 0
Gives part None = Unit {0}
Gives part (Some r) = GivesOf part r

-- where it opens, it releases the opening list
abbrev pub OpensWith : Opening → Option Release → Type 0
OpensWith o None = ⊥
OpensWith o (Some r) = (r.epoch ≡ o.epoch) × (r.history ≡ o.items)

abbrev pub Opens : Option Opening → Option Release → Type 0
Opens None release = Unit {0}
Opens (Some o) release = OpensWith o release

-- all of it
pub record Tells (setup : Setup) (sent : List Msg) (x : NodeState) (did : Did) : Type 0 where
  pub says : AllSay setup did.node.part did.sends
  pub gives : Gives did.node.part did.release
  pub opens : Opens did.opened did.release
  pub moves : Moves setup sent x did.node

-- ---- messages that are not bad ----

-- the stream that a message names is there
abbrev pub NamesOne : Setup → Option ℕ → Type 0
NamesOne setup None = Unit {0}
NamesOne setup (Some s) = is_node setup.workers s ≡ true

named : (setup : Setup) (o : Option ℕ) → option_map_or (λ s. not (is_node setup.workers s)) o false ≡ false → NamesOne setup o
named setup None h = tt
named setup (Some s) h = not_false (is_node setup.workers s) h

-- what is not bad names a stream that is there, and is not untrue
pub not_bad : (setup : Setup) (a : ℕ) (x : NodeState) (m : Msg) → is_bad setup a x m ≡ false
    → NamesOne setup (stream_named m) × (is_untrue x m ≡ false)
not_bad setup a x m ok =
    let wrong = list_any (is_wrong setup.program.tables) (carried m) in
    let four = neither (((is_astray setup a m || is_usurped setup m) || is_partial setup m) || wrong) (is_untrue x m) ok in
    let three = neither ((is_astray setup a m || is_usurped setup m) || is_partial setup m) wrong four.0 in
    let two = neither (is_astray setup a m || is_usurped setup m) (is_partial setup m) three.0 in
    let one = neither (is_astray setup a m) (is_usurped setup m) two.0 in
    let both =
    neither (not ((head_of m).to == a) || not (is_node setup.nodes (head_of m).from))
    (option_map_or (λ s. not (is_node setup.workers s)) (stream_named m) false) one.0 in
    (named setup (stream_named m) both.1, four.1)

-- a Sync whose log would be adopted begins with what is known
sync_begins : (x : NodeState) (from to e s : ℕ) (log : bytes.Log) → is_untrue x (msg.Sync from to e s log) ≡ false
    → refuses x.acceptor e ≡ None
    → nat_lt (kept_ballot x.acceptor s) e ≡ true → IsPrefix (known_log x s) log
sync_begins x from to e s log true_of takes higher =
    let adopts : would_adopt x.acceptor e s ≡ true = (λ i. not (is_some (takes i)) && higher i) in
    (tests_tell.begins (known_log x s) log).0
    (not_false (begins (known_log x s) log) (sym (ap (λ b. b && not (begins (known_log x s) log)) adopts) ∙ true_of))

-- ---- one node ----

module _ (setup : Setup) (sent : List Msg) (a : ℕ) (x : NodeState) where
  abbrev Fine : Did → Type 0
  Fine did = Tells setup sent x did

  abbrev pub FineTo : Answer → Type 0
  FineTo (Ok did) = Tells setup sent x did
  FineTo (Err e) = Unit {0}

  -- it knows the same of the same logs
  same : (y : NodeState) → y.known ≡ x.known → y.replica ≡ x.replica → y.acceptor.streams ≡ x.acceptor.streams → Moves setup sent x y
  same y known replica streams = Keeps known replica (λ s there h.
      subst
      (λ (kept : List Kept). (known_len x s ≤ length (slice_index_or kept (s - 1) nothing_kept).log)
      × (take (known_len x s) (slice_index_or kept (s - 1) nothing_kept).log ≡ known_log x s))
      (sym streams) (h, refl))
      (λ s. subst (λ (kept : List Kept). kept_ballot x.acceptor s ≤ (slice_index_or kept (s - 1) nothing_kept).ballot) (sym streams) (omega arith))

  parted : (part : Part) → Moves setup sent x (record x { part = part })
  parted part = same (record x { part = part }) refl refl refl

  say_one : (part : Part) (m : Msg) → Says setup part m → AllSay setup part (m ∷ [])
  say_one part m h y i = elim i [ inl e ↦ subst (Says setup part) (sym e) h | inr j ↦ absurd j ]

  say_each : (part : Part) (f : ℕ → Msg) → ((k : ℕ) → Says setup part (f k)) → AllSay setup part (to_each setup f)
  say_each part f h m i = let k = map_in f m (node_numbers setup) i in subst (Says setup part) k.2 (h k.0)

  -- it sends, and tells nothing
  sends : (y : NodeState) (ms : List Msg) → Moves setup sent x y → AllSay setup y.part ms → Fine (sending y ms)
  sends y ms moves h = record { says = h; gives = tt; opens = tt; moves = moves }

  still : (y : NodeState) → Moves setup sent x y → Fine (quiet y)
  still y moves = sends y [] moves (λ m i. absurd i)

  nothing : Fine (quiet x)
  nothing = still x (same x refl refl refl)

  quiet_part : (part : Part) → Fine (quiet (record x { part = part }))
  quiet_part part = still (record x { part = part }) (parted part)

  fine_if : (b : Bool) (d e : Answer) → FineTo d → FineTo e → FineTo (if b then d else e)
  fine_if true d e p q = p
  fine_if false d e p q = q

  did_if : (b : Bool) (d e : Did) → Fine d → Fine e → Fine (if b then d else e)
  did_if true d e p q = p
  did_if false d e p q = q

  fine_unless : (o : Option Refused) (did : Did) → Fine did → Fine (unless_denied o x did)
  fine_unless None did h = h
  fine_unless (Some refused) did h = record { says = λ m i. absurd i; gives = tt; opens = tt; moves = same x refl refl refl }

  -- ---- messages ----

  ack_fine : (part : Part) (e s from len : ℕ) → is_node setup.workers s ≡ true → Fine (takes_ack setup a x e s from len part)
  ack_fine Follows e s from len there = nothing
  ack_fine (Stands c) e s from len there = nothing
  ack_fine (Leads lead) e s from len there =
      let new : Lead = after_ack lead s from len in
      let ms : List Msg = to_each setup (known_to a new s) in
      let core = setup.work.opening new.epoch (acknowledged_history new) in
      did_if (lead.epoch == e) (counts_ack setup a x lead s from len) (quiet x)
      (did_if (nat_lt (len_acknowledged (leading lead s)) (len_acknowledged (leading new s))) (advances setup a x lead new s)
      (quiet (record x { part = Leads new }))
      (did_if (has_opened new) (releases x (acknowledged_history lead) new ms)
      (if marks_are_acknowledged new then opens setup x new ms else sending (record x { part = Leads new }) ms)
      (record {
        says = say_each (Leads new) (known_to a new s) (λ k. (there, refl, refl));
        gives = (refl, refl);
        opens = tt;
        moves = parted
            (Leads new);
      })
      (did_if (marks_are_acknowledged new) (opens setup x new ms) (sending (record x { part = Leads new }) ms)
      (record {
        says = say_each (Leads (record new { core = Some core })) (known_to a new s) (λ k. (there, refl, refl));
        gives = (refl, refl);
        opens = (refl, refl);
        moves = parted (Leads (record new { core = Some core }));
      })
      (sends (record x { part = Leads new }) ms (parted (Leads new)) (say_each (Leads new) (known_to a new s) (λ k. (there, refl, refl))))))
      (quiet_part (Leads new)))
      nothing

  leads_fine : (c : Candidate) → Fine (leads setup a x c)
  leads_fine c =
      let lead : Lead = new_lead setup c in
      sends (record x { part = Leads lead }) (flat_map (λ s. to_each setup (sync_to a lead s)) (stream_numbers setup))
      (parted (Leads lead)) (λ m i.
      let s = flat_in (λ s. to_each setup (sync_to a lead s)) (stream_numbers setup) m i in
      say_each (Leads lead) (sync_to a lead s.0) (λ k. tt) m s.2)

  promise_fine : (part : Part) (e : ℕ) (p : Promise) → FineTo (takes_promise setup a x e p part)
  promise_fine Follows e p = nothing
  promise_fine (Leads lead) e p = nothing
  promise_fine (Stands c) e p =
      let more : Candidate = with_promise c p in
      fine_if (c.epoch == e) (stands_or_leads setup a x more) (Ok (quiet x))
      (fine_if (nat_lt (length more.promises) more.need) (Ok (quiet (record x { part = Stands more })))
      (recovers_full setup more (Ok (leads setup a x more)))
      (quiet_part (Stands more))
      (fine_if (list_any (λ log. length log == SLOTS) (recovered_logs more.promises setup.workers)) (Err (StreamFull SLOTS))
      (Ok (leads setup a x more))
      tt (leads_fine more)))
      nothing

  -- a log that begins with what is known
  adopted : (e s : ℕ) (log : bytes.Log) → IsPrefix (known_log x s) log → nat_lt (kept_ballot x.acceptor s) e ≡ true
      → Moves setup sent x (record x { acceptor = with_kept (prepared x.acceptor e) s e log })
  adopted e s log begun higher = Keeps refl refl (λ t there.
      by_set
      (λ (k : Kept). known_len x t ≤ length (kept_log x.acceptor t) → (known_len x t ≤ length k.log)
      × (take (known_len x t) k.log ≡ known_log x t))
      x.acceptor.streams (s - 1) (t - 1) (record { ballot = e; log = log }) nothing_kept
      (λ here h. front_stays (known_len x t) (kept_log x.acceptor t) log h
      (subst (λ i. IsPrefix (take (slice_index x.known i) (slice_index_or x.acceptor.streams i nothing_kept).log) log) (sym here) begun))
      (λ h. (h, refl)))
      (λ t. by_set (λ (k : Kept). kept_ballot x.acceptor t ≤ k.ballot) x.acceptor.streams (s - 1) (t - 1) (record { ballot = e; log = log }) nothing_kept
      (λ here. subst (λ i. (slice_index_or x.acceptor.streams i nothing_kept).ballot ≤ e) (sym here)
      (let less = true_lt (kept_ballot x.acceptor s) e higher in omega (arith, less))) (omega arith))

  synced_moves : (from to e s : ℕ) (log : bytes.Log) → is_untrue x (msg.Sync from to e s log) ≡ false → refuses x.acceptor e ≡ None
      → (higher : Bool) → nat_lt (kept_ballot x.acceptor s) e ≡ higher
      → Moves setup sent x (record x { acceptor = if higher then with_kept (prepared x.acceptor e) s e log else prepared x.acceptor e })
  synced_moves from to e s log true_of takes true is = adopted e s log (sync_begins x from to e s log true_of takes is) is
  synced_moves from to e s log true_of takes false is = same (record x { acceptor = prepared x.acceptor e }) refl refl refl

  sync_fine : (from to e s : ℕ) (log : bytes.Log) → is_untrue x (msg.Sync from to e s log) ≡ false → (o : Option Refused)
      → refuses x.acceptor e ≡ o
      → Fine (unless_denied o x (acks a x from e s (synced x.acceptor e s log)))
  sync_fine from to e s log true_of None is =
      let ack : Msg = msg.Ack a from e s (length (kept_log (synced x.acceptor e s log) s)) in
      sends (record x { acceptor = synced x.acceptor e s log }) (ack ∷ [])
      (synced_moves from to e s log true_of is (nat_lt (kept_ballot x.acceptor s) e) refl) (say_one x.part ack tt)
  sync_fine from to e s log true_of (Some refused) is =
      fine_unless (Some refused) (quiet x) nothing

  -- a log with one more batch
  appended : (s : ℕ) (batch : bytes.Batch) (next : Bool)
      → Moves setup sent x (record x {
        acceptor = if next then with_kept x.acceptor s (kept_ballot x.acceptor s)
            (kept_log x.acceptor s ++ batch ∷ []) else x.acceptor;
      })
  appended s batch true = Keeps refl refl (λ t there.
      by_set
      (λ (k : Kept). known_len x t ≤ length (kept_log x.acceptor t) → (known_len x t ≤ length k.log)
      × (take (known_len x t) k.log ≡ known_log x t))
      x.acceptor.streams (s - 1) (t - 1)
      (record { ballot = kept_ballot x.acceptor s; log = kept_log x.acceptor s ++ batch ∷ [] }) nothing_kept
      (λ here h.
      subst (λ i. (known_len x t ≤ length ((slice_index_or x.acceptor.streams i nothing_kept).log ++ batch ∷ []))
      × (take (known_len x t) ((slice_index_or x.acceptor.streams i nothing_kept).log ++ batch ∷ []) ≡ known_log x t)) here (
        omega (arith, h, length-append (kept_log x.acceptor t) (batch ∷ [])),
        take-append-le (known_len x t) (kept_log x.acceptor t)
            (batch ∷ []) h,
      ))
      (λ h. (h, refl)))
      (λ t. by_set (λ (k : Kept). kept_ballot x.acceptor t ≤ k.ballot) x.acceptor.streams (s - 1) (t - 1)
      (record { ballot = kept_ballot x.acceptor s; log = kept_log x.acceptor s ++ batch ∷ [] }) nothing_kept
      (λ here. subst (λ i. (slice_index_or x.acceptor.streams i nothing_kept).ballot ≤ kept_ballot x.acceptor s) (sym here) (omega arith)) (omega arith))
  appended s batch false = same x refl refl refl

  takes_fine : (m : Msg) → In m sent → NamesOne setup (stream_named m) → is_untrue x m ≡ false → FineTo (takes setup a x m)
  takes_fine (msg.Prepare from to e) i there true_of =
      let promise : Msg =
      msg.Promise a from e (map (λ (k : Kept). k.ballot) x.acceptor.streams) (map (λ (k : Kept). k.log) x.acceptor.streams) in
      fine_unless (refuses x.acceptor e) (promises a x from e)
      (sends (record x { acceptor = prepared x.acceptor e }) (promise ∷ [])
      (same (record x { acceptor = prepared x.acceptor e }) refl refl refl) (say_one x.part promise tt))
  takes_fine (msg.Promise from to e ballots logs) i there true_of =
      promise_fine x.part e (record { node = from; ballots = ballots; logs = logs })
  takes_fine (msg.Sync from to e s log) i there true_of = sync_fine from to e s log true_of (refuses x.acceptor e) refl
  takes_fine (msg.Accept from to e s slot batch) i there true_of =
      let ack : Msg = msg.Ack a from e s (length (kept_log (accepted x.acceptor s slot batch) s)) in
      fine_unless (refuses_accept x.acceptor e s slot) (acks a x from e s (accepted x.acceptor s slot batch))
      (sends (record x { acceptor = accepted x.acceptor s slot batch }) (ack ∷ [])
      (appended s batch (slot == length (kept_log x.acceptor s))) (say_one x.part ack tt))
  takes_fine (msg.Ack from to e s len) i there true_of = ack_fine x.part e s from len there
  takes_fine (msg.Known from to e s len) i there true_of = still (knows x e s len) (Learns from to e s len i refl)

  -- ---- a leader's workers ----

  proposes_fine : (lead : Lead) (s : ℕ) (batch : Batch) → FineTo (proposes setup a x lead s batch)
  proposes_fine lead s batch =
      let new : Lead = with_leading lead s (proposed (leading lead s) (batch_bytes batch)) in
      let accept : ℕ → Msg = λ to. msg.Accept a to lead.epoch s (length (leading lead s).log) (batch_bytes batch) in
      fine_if (length (leading lead s).log == SLOTS) (Err (StreamFull SLOTS))
      (Ok (sending (record x { part = Leads new }) (to_each setup accept)))
      tt (sends (record x { part = Leads new }) (to_each setup accept) (parted (Leads new)) (say_each (Leads new) accept (λ k. tt)))

  refusal_fine : (answer : Answer) (f : Option CoreRefusal) → FineTo answer → FineTo (answer >>= λ did. Ok (record did { refusal = f }))
  refusal_fine (Ok did) f h = record { says = h.says; gives = h.gives; opens = h.opens; moves = h.moves }
  refusal_fine (Err e) f h = tt

  open_fine : (does : Lead → Core → Answer) → ((lead : Lead) (core : Core) → FineTo (does lead core)) → (part : Part)
      → FineTo (if_open x part does)
  open_fine does h Follows = nothing
  open_fine does h (Stands c) = nothing
  open_fine does h (Leads lead) = by_core lead.core
    where
      by_core : (core : Option Core) → FineTo (option_map_or (does lead) core (Ok (quiet x)))
      by_core None = nothing
      by_core (Some core) = h lead core

  steps_fine : (s : ℕ) (lead : Lead) (core : Core) → FineTo (steps_core setup a x lead s core)
  steps_fine s lead core =
      let after = turn (setup.work.setting lead.epoch) core (Step s) in
      let next : Lead = stepped lead core after s in
      refusal_fine (proposes_full setup a x next s) (newly_refused core after)
      (fine_if (nat_lt (length (pending_of next s)) setup.batch) (Ok (quiet (record x { part = Leads next })))
      (proposes_items setup a x next s (pending_of next s))
      (quiet_part (Leads next)) (proposes_fine (with_pending next s []) s (Items (pending_of next s))))

  flushes_fine : (s : ℕ) (lead : Lead) (core : Core)
      → FineTo (if length (pending_of lead s) == 0 then Ok (quiet x) else proposes_items setup a x lead s (pending_of lead s))
  flushes_fine s lead core =
      fine_if (length (pending_of lead s) == 0) (Ok (quiet x)) (proposes_items setup a x lead s (pending_of lead s)) nothing
      (proposes_fine (with_pending lead s []) s (Items (pending_of lead s)))

  idles_fine : (s : ℕ) (lead : Lead) (core : Core) → FineTo (idles_core setup a x lead s core)
  idles_fine s lead core =
      let after = turn (setup.work.setting lead.epoch) core (Idle s) in
      let ends : Answer = proposes setup a x lead s (idle_mark lead.epoch END_SEQ) in
      let marks : Answer =
      proposes setup a x (record lead { core = Some after }) s (idle_mark lead.epoch (core.next - lead.epoch * 2 ^ 40)) in
      let done : Bool = is_done (setup.work.setting lead.epoch) s (phase_of core s) in
      fine_if (not (may_idle lead s core)) (Ok (quiet x)) (if done then ends else marks) nothing
      (fine_if done ends marks (proposes_fine lead s (idle_mark lead.epoch END_SEQ))
      (proposes_fine (record lead { core = Some after }) s (idle_mark lead.epoch (core.next - lead.epoch * 2 ^ 40))))

  -- ---- elections and sending again ----

  elects_fine : FineTo (elects setup a x)
  elects_fine =
      let e = next_epoch_of x.acceptor.promised a setup.nodes in
      let did : Did = stands setup a x e in
      fine_if (nat_lt e (2 ^ 20)) (Ok did) (Err (NoEpoch x.acceptor.promised))
      (record {
        says = say_each did.node.part (λ to. msg.Prepare a to e)
            (λ k. tt);
        gives = tt;
        opens = tt;
        moves = same did.node refl refl refl;
      }) tt

  resent : (lead : Lead) (s to : ℕ) (m : Msg) (fewer : Bool)
      → In m (if fewer then sync_to a lead s to ∷ [] else accepts_from a lead s (acked_len (leading lead s) to) to)
      → Says setup (Leads lead) m
  resent lead s to m true i = say_one (Leads lead) (sync_to a lead s to) tt m i
  resent lead s to m false i =
      let from = acked_len (leading lead s) to in
      let log = (leading lead s).log in
      let k = map_in (λ i. msg.Accept a to lead.epoch s i (slice_index_or log i [])) m (range_with_len from (length log - from)) i in
      subst (Says setup (Leads lead)) k.2 tt

  known_again : (lead : Lead) (s : ℕ) → is_node setup.workers s ≡ true → (m : Msg) (none : Bool)
      → In m (if none then [] else to_each setup (known_to a lead s)) → Says setup (Leads lead) m
  known_again lead s there m true i = absurd i
  known_again lead s there m false i = say_each (Leads lead) (known_to a lead s) (λ k. (there, refl, refl)) m i

  again : (part : Part) → AllSay setup part (sends_again setup a part)
  again Follows m i = absurd i
  again (Stands c) m i =
      let k = map_in (λ to. msg.Prepare a to c.epoch) m (filter (λ to. not (has_promised c.promises to)) (node_numbers setup)) i in
      subst (Says setup (Stands c)) k.2 tt
  again (Leads lead) m i =
      elim
      (in_split (flat_map (λ s. flat_map (resends_to a lead s) (node_numbers setup)) (stream_numbers setup))
      (flat_map (knowns setup a lead) (stream_numbers setup)) m i) [
        | inl j ↦ (
            let s = flat_in (λ s. flat_map (resends_to a lead s) (node_numbers setup)) (stream_numbers setup) m j in
            let to = flat_in (resends_to a lead s.0) (node_numbers setup) m s.2 in
            resent lead s.0 to.0 m (nat_lt (acked_len (leading lead s.0) to.0) (leading lead s.0).initial_len) to.2
            )
        | inr j ↦ (
            let s = flat_in (knowns setup a lead) (stream_numbers setup) m j in
            known_again lead s.0 (in_numbers setup.workers s.0 s.1) m (len_acknowledged (leading lead s.0) == 0) s.2
            )
      ]

  -- ---- anything ----

  receives_fine : (m : Msg) → In m sent → (did : Did) → receives setup a x m ≡ Ok did → Fine did
  receives_fine m i did is =
      let parts = taken_of (is_bad setup a x m) (takes setup a x m) did is in
      let good = not_bad setup a x m parts.0 in
      subst FineTo parts.1 (takes_fine m i good.0 good.1)

  pub tells : (cause : Cause) → IsFor setup sent cause → (did : Did) → answer_to setup a x cause ≡ Ok did → Tells setup sent x did
  tells (Takes m) is_for did is = receives_fine m is_for did is
  tells (Steps s) is_for did is = subst FineTo is (open_fine (λ lead core. steps_core setup a x lead s core) (steps_fine s) x.part)
  tells (Flushes s) is_for did is =
      subst FineTo is
      (open_fine (λ lead core. if length (pending_of lead s) == 0 then Ok (quiet x) else proposes_items setup a x lead s
      (pending_of lead s)) (flushes_fine s) x.part)
  tells (Idles s) is_for did is = subst FineTo is (open_fine (λ lead core. idles_core setup a x lead s core) (idles_fine s) x.part)
  tells Elects is_for did is = subst FineTo is elects_fine
  tells Ticks is_for did is = subst FineTo is (sends x (sends_again setup a x.part) (same x refl refl refl) (again x.part))
  tells Crashes is_for did is = subst FineTo is (still (crashed setup x) (Forgets refl refl))
  tells Returns is_for did is = subst FineTo is (still (returned x) (same (returned x) refl refl refl))
  tells Loses is_for did is = subst FineTo is (still (lost setup x) (Forgets refl refl))
  tells (Plays s) is_for did is = subst FineTo is (still (plays setup x s) (Replays s is_for refl))
