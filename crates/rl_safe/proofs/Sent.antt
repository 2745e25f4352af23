-- What a node sends: each message is its own as the candidate or leader of an epoch, or answers one that was sent to it; an Ack tells
-- the length of a log that the node keeps; and no log of a leader passes the limit of slots.
use Rattle.std.proofs.Common.{◌≡◌, ◌≢◌, ◌⊎◌, ℕ, zero, suc, ◌-◌, ◌*◌, ◌^◌, ◌<◌, ◌≤◌, List, [], ◌∷◌, ◌++◌, length, map, filter, get_or, Bool, true, false, max, min, not, ◌&&◌, ◌==◌, nat_lt, if◌then◌else◌, Option, Some, None, Ok, Err, refl, ap, sym, ◌∙◌, subst, arith, inl, inr, eq-eqb, length-append}
use Rattle.std.proofs.lemmas.List.{length-map}
use Rattle.std.proofs.lemmas.Bool.Decides.{nat_tests}
use Rattle.std.specs.List.{list_any, flat_map, range_with_len}
use Rattle.std.specs.Option.{option_map_or}
use Rattle.std.specs.Prelude.{slice_index_or, slice_set}
use Rattle.rl_base.specs.Epochs.{next_epoch_of}
use Rattle.rl_base.specs.Results.{◌>>=◌}
use Rattle.rl_base.specs.declared.limit.TheConstants.{SLOTS}
use Rattle.rl_base.proofs.Members.{In, in_split, map_in}
use Rattle.rl_base.proofs.Tests.{or_false, neither, true_lt, true_same}
use Rattle.rl_paxos.specs.declared.refused.Refused.{Refused}
use Rattle.rl_paxos.specs.declared.refused.Refused.TheVariants.{Promised, OtherBallot}
use Rattle.rl_paxos.specs.Acceptors.{Kept, Acceptor, kept_ballot, kept_log, refuses, refuses_accept, prepared, with_kept, synced, accepted}
use Rattle.rl_paxos.specs.Leaders.{Leading, new_leading, proposed, with_ack, acked_len}
use Rattle.rl_paxos.specs.Logs.{Batch as Bytes, Log}
use Rattle.rl_paxos.specs.Quorums.{is_node}
use Rattle.rl_paxos.specs.Recovery.{Promise, Candidate, with_promise, has_promised, recovered_logs}
use Rattle.rl_txn.specs.declared.batch.Batch.{Batch}
use Rattle.rl_txn.specs.declared.batch.Batch.TheVariants.{Items}
use Rattle.rl_txn.specs.declared.item.Item.{Item}
use Rattle.rl_batch.specs.Encoding.{batch_bytes}
use Rattle.rl_election.specs.World.{no_stream}
use Rattle.rl_election.proofs.Updates.{with_kept_here}
use Rattle.rl_msg.specs.declared.msg.Msg.{Msg}
use Rattle.rl_msg.specs.declared.msg.Msg.TheVariants as msg
use Rattle.rl_msg.specs.Parts.{head_of}
use Rattle.rl_worker.specs.Acts.{Core, CoreRefusal, Step, Idle, turn, is_done, phase_of}
use Rattle.rl_worker.specs.OneTurn.{newly_refused}
use Rattle.rl_nodes.specs.declared.node_error.NodeError.TheVariants.{StreamFull, NoEpoch}
use Rattle.rl_nodes.specs.Answers.{Did, Answer, quiet, sending, to_each, unless_denied}
use Rattle.rl_nodes.specs.BadMessages.{is_bad, is_partial, stream_named, proposer_in}
use Rattle.rl_nodes.specs.Batches.{END_SEQ, idle_mark}
use Rattle.rl_nodes.specs.Elections.{sends_again, resends_to, accepts_from, knowns, stands, crashed, returned, lost}
use Rattle.rl_nodes.specs.Handles.{promises, acks, knows, sync_to, new_lead, leads, recovers_full, stands_or_leads, takes_promise, known_to, opens, releases, advances, counts_ack, takes_ack, takes}
use Rattle.rl_nodes.specs.Nodes.{Lead, NodeState, known_len, Part, Follows, Stands, Leads, leading, with_leading, with_pending, pending_of, len_acknowledged, acknowledged_history, has_opened, marks_are_acknowledged}
use Rattle.rl_nodes.specs.Setups.{Setup, node_numbers, stream_numbers}
use Rattle.rl_nodes.specs.Views.{plays}
use Rattle.rl_nodes.specs.Works.{may_idle, proposes, proposes_items, proposes_full, stepped, steps_core, idles_core, if_open}
use Rattle.rl_nodes.proofs.ChangesInStreams.{by_node}
use Rattle.rl_nodes.proofs.Deliveries.{in_numbers, flat_in}
use Rattle.rl_nodes.proofs.InStreams.{after_ack, taken_of}
use Rattle.rl_safe.proofs.KnownLists.{by_set}
use Rattle.rl_safe.proofs.KnownMoves.{NamesOne, not_bad}
use Rattle.rl_nodes.proofs.Runs.{Cause, Takes, Steps, Flushes, Idles, Elects, Ticks, Crashes, Returns, Loses, Plays, answer_to, IsFor}
use Rattle.rl_safe.proofs.LeadStreams.{IsNew, new_at, ack_log}

-- ---- what is sent ----

-- the epoch of a part
abbrev pub EpochIn : Part → ℕ → Type 0
EpochIn Follows e = ⊥
EpochIn (Stands c) e = c.epoch ≡ e
EpochIn (Leads lead) e = lead.epoch ≡ e

-- it is from the node, its stream is there, and it has all parts
pub record Shaped (setup : Setup) (a : ℕ) (m : Msg) : Type 0 where
  pub from : (head_of m).from ≡ a
  pub named : NamesOne setup (stream_named m)
  pub whole : is_partial setup m ≡ false

pub data Said (setup : Setup) (a : ℕ) (sent : List Msg) (part : Part) (m : Msg) : Type 0 where
  Own : Shaped setup a m → proposer_in m ≡ a → EpochIn part (head_of m).epoch → Said setup a sent part m
  Back : Shaped setup a m → (q : Msg) → In q sent → proposer_in m ≡ proposer_in q → (head_of m).epoch ≡ (head_of q).epoch → Said setup a sent part m

-- an Ack has the length of the log that the node keeps at its epoch
abbrev pub AckKept : Setup → NodeState → Msg → Type 0
AckKept setup y (msg.Ack from to e s len) = (is_node setup.workers s ≡ true) × (kept_ballot y.acceptor s ≡ e) × (len ≡ length (kept_log y.acceptor s))
AckKept setup y other = Unit {0}

-- ---- parts ----

abbrev pub PartFair : Part → Type 0
PartFair Follows = Unit {0}
PartFair (Stands c) = c.epoch < 2 ^ 20
PartFair (Leads lead) = lead.epoch < 2 ^ 20

-- no log of a leader passes the limit of slots
abbrev pub Full : Setup → Lead → Type 0
Full setup lead = (s : ℕ) → is_node setup.workers s ≡ true → length (leading lead s).log ≤ SLOTS

abbrev pub PartFull : Setup → Part → Type 0
PartFull setup (Leads lead) = Full setup lead
PartFull setup other = Unit {0}

-- or it has just begun, and what was recovered did not fill it
abbrev pub Small : Setup → Lead → Type 0
Small setup lead = (s : ℕ) → is_node setup.workers s ≡ true
    → (length (leading lead s).log ≤ SLOTS) ⊎ (IsNew (leading lead s) × (length (leading lead s).log ≢ suc SLOTS))

abbrev pub PartSmall : Setup → Part → Type 0
PartSmall setup (Leads lead) = Small setup lead
PartSmall setup other = Unit {0}

full_small : (setup : Setup) (part : Part) → PartFull setup part → PartSmall setup part
full_small setup Follows h = tt
full_small setup (Stands c) h = tt
full_small setup (Leads lead) h = λ s there. inl (h s there)

not_full : (e n q : ℕ) (mark : Bytes) (logs : List Log) → list_any (λ log. length log == SLOTS) logs ≡ false → (i : ℕ)
    → length (get_or (map (new_leading e n q) (map (λ log. log ++ mark ∷ []) logs)) i no_stream).log ≢ suc SLOTS
not_full e n q mark [] h i same = absurd (omega (arith, same))
not_full e n q mark (log ∷ logs) h zero same =
    let k = neither (length log == SLOTS) (list_any (λ log. length log == SLOTS) logs) h in
    let size = length-append log (mark ∷ []) in
    let full : length log ≡ SLOTS = omega (arith, same, size) in
    absurd (let z : true ≡ false = sym (eq-eqb (length log) SLOTS full) ∙ k.0 in cc)
not_full e n q mark (log ∷ logs) h (suc i) same =
    not_full e n q mark logs (neither (length log == SLOTS) (list_any (λ log. length log == SLOTS) logs) h).1 i same

-- ---- what an acceptor allows ----

not_less : (a b : ℕ) → nat_lt a b ≡ false → b ≤ a
not_less a b h = grind (arith, nat_tests)

pub allowed : (x : Acceptor) (e : ℕ) → refuses x e ≡ None → x.promised ≤ e
allowed x e = by_test (nat_lt e x.promised) refl
  where
    by_test : (b : Bool) → nat_lt e x.promised ≡ b → ◌≡◌ {A = Option Refused} (if b then Some (Promised x.promised) else None) None → x.promised ≤ e
    by_test true t h = absurd (let z : ◌≡◌ {A = Option Refused} (Some (Promised x.promised)) None = h in cc)
    by_test false t h = not_less e x.promised t

pub allowed_accept : (x : Acceptor) (e s slot : ℕ) → refuses_accept x e s slot ≡ None → kept_ballot x s ≡ e
allowed_accept x e s slot = by_tests (nat_lt e x.promised) (kept_ballot x s == e) _ refl
  where
    by_tests : (b c : Bool) (o : Option Refused) → (kept_ballot x s == e) ≡ c
        → ◌≡◌ {A = Option Refused} (if b then Some (Promised x.promised) else if c then o else Some (OtherBallot (kept_ballot x s))) None → kept_ballot x s ≡ e
    by_tests true c o t h = absurd (let z : ◌≡◌ {A = Option Refused} (Some (Promised x.promised)) None = h in cc)
    by_tests false true o t h = true_same (kept_ballot x s) e t
    by_tests false false o t h = absurd (let z : ◌≡◌ {A = Option Refused} (Some (OtherBallot (kept_ballot x s))) None = h in cc)

module _ (setup : Setup) (sent : List Msg) (a : ℕ) (x : NodeState) (fair : PartFair x.part) (full : PartFull setup x.part)
    (sized : length x.acceptor.streams ≡ setup.workers) (below : (s : ℕ) → kept_ballot x.acceptor s ≤ x.acceptor.promised) where
  abbrev pub Told : NodeState → Msg → Type 0
  Told y m = Said setup a sent y.part m × AckKept setup y m

  abbrev pub AllTold : NodeState → List Msg → Type 0
  AllTold y ms = (m : Msg) → In m ms → Told y m

  pub record Fair (did : Did) : Type 0 where
    pub part : PartFair did.node.part
    pub small : PartSmall setup did.node.part
    pub told : AllTold did.node did.sends

  abbrev FairTo : Answer → Type 0
  FairTo (Ok did) = Fair did
  FairTo (Err e) = Unit {0}

  fair_if : (b : Bool) (d e : Answer) → FairTo d → FairTo e → FairTo (if b then d else e)
  fair_if true d e p q = p
  fair_if false d e p q = q

  did_if : (b : Bool) (d e : Did) → Fair d → Fair e → Fair (if b then d else e)
  did_if true d e p q = p
  did_if false d e p q = q

  none_told : (y : NodeState) → AllTold y []
  none_told y m i = absurd i

  one_told : (y : NodeState) (m : Msg) → Told y m → AllTold y (m ∷ [])
  one_told y m h n i = elim i [ inl e ↦ subst (Told y) (sym e) h | inr j ↦ absurd j ]

  each_told : (y : NodeState) (f : ℕ → Msg) → ((k : ℕ) → Told y (f k)) → AllTold y (to_each setup f)
  each_told y f h m i = let k = map_in f m (node_numbers setup) i in subst (Told y) k.2 (h k.0)

  -- its part stays
  stays : (y : NodeState) (ms : List Msg) → y.part ≡ x.part → AllTold y ms → Fair (sending y ms)
  stays y ms same told = record {
    part = subst PartFair (sym same) fair;
    small = full_small setup y.part (subst (PartFull setup) (sym same) full);
    told = told;
  }

  nothing : Fair (quiet x)
  nothing = stays x [] refl (none_told x)

  fair_unless : (o : Option Refused) (did : Did) → (o ≡ None → Fair did) → Fair (unless_denied o x did)
  fair_unless None did h = h refl
  fair_unless (Some refused) did h = let k = nothing in record { part = k.part; small = k.small; told = none_told x }

  -- ---- an Ack ----

  ack_fair : (part : Part) → x.part ≡ part → (e s from len : ℕ) → is_node setup.workers s ≡ true → Fair (takes_ack setup a x e s from len part)
  ack_fair Follows is e s from len there = nothing
  ack_fair (Stands c) is e s from len there = nothing
  ack_fair (Leads lead) is e s from len there =
      let new : Lead = after_ack lead s from len in
      let ms : List Msg = to_each setup (known_to a new s) in
      let core = setup.work.opening new.epoch (acknowledged_history new) in
      let all_full : Full setup lead = subst (PartFull setup) is full in
      let small : Small setup new = λ u in_stream. inl (by_set (λ (z : Leading). length z.log ≤ SLOTS) lead.streams (s - 1) (u - 1) (with_ack (leading lead s) from len) no_stream
      (λ same. subst (λ log. length log ≤ SLOTS) (sym (ack_log (leading lead s) from len)) (all_full s there)) (all_full u in_stream)) in
      let low : lead.epoch < 2 ^ 20 = subst PartFair is fair in
      did_if (lead.epoch == e) (counts_ack setup a x lead s from len) (quiet x)
      (did_if (nat_lt (len_acknowledged (leading lead s)) (len_acknowledged (leading new s))) (advances setup a x lead new s)
      (quiet (record x { part = Leads new }))
      (did_if (has_opened new) (releases x (acknowledged_history lead) new ms)
      (if marks_are_acknowledged new then opens setup x new ms else sending (record x { part = Leads new }) ms)
      (record { part = low; small = small; told = each_told (record x { part = Leads new }) (known_to a new s) (λ k. (Own (record { from = refl; named = there; whole = refl }) refl refl, tt)) })
      (did_if (marks_are_acknowledged new) (opens setup x new ms) (sending (record x { part = Leads new }) ms)
      (record {
        part = low;
        small = small;
        told = each_told (record x { part = Leads (record new { core = Some core }) }) (known_to a new s) (λ k. (Own (record { from = refl; named = there; whole = refl }) refl refl, tt));
      })
      (record { part = low; small = small; told = each_told (record x { part = Leads new }) (known_to a new s) (λ k. (Own (record { from = refl; named = there; whole = refl }) refl refl, tt)) })))
      (record { part = low; small = small; told = none_told (record x { part = Leads new }) }))
      nothing

  -- ---- a Promise ----

  leads_fair : (c : Candidate) → c.epoch < 2 ^ 20 → list_any (λ log. length log == SLOTS) (recovered_logs c.promises setup.workers) ≡ false → Fair (leads setup a x c)
  leads_fair c low room =
      let lead : Lead = new_lead setup c in
      record {
        part = low;
        small = λ s there. inr (new_at c.epoch setup.nodes setup.second_quorum _ (s - 1), not_full c.epoch setup.nodes setup.second_quorum _ (recovered_logs c.promises setup.workers) room (s - 1));
        told = λ m i.
            let s = flat_in (λ s. to_each setup (sync_to a lead s)) (stream_numbers setup) m i in
            each_told (record x { part = Leads lead }) (sync_to a lead s.0)
            (λ k. (Own (record { from = refl; named = in_numbers setup.workers s.0 s.1; whole = refl }) refl refl, tt)) m s.2;
      }

  more_epoch : (c : Candidate) (p : Promise) → (with_promise c p).epoch ≡ c.epoch
  more_epoch c p = by_test (is_node c.nodes p.node && not (has_promised c.promises p.node))
    where
      by_test : (b : Bool) → (if b then record c { promises = c.promises ++ p ∷ [] } else c).epoch ≡ c.epoch
      by_test true = refl
      by_test false = refl

  full_if : (b : Bool) (d e : Answer) → (b ≡ true → FairTo d) → (b ≡ false → FairTo e) → FairTo (if b then d else e)
  full_if true d e p q = p refl
  full_if false d e p q = q refl

  promise_fair : (part : Part) → x.part ≡ part → (e : ℕ) (p : Promise) → FairTo (takes_promise setup a x e p part)
  promise_fair Follows is e p = nothing
  promise_fair (Leads lead) is e p = nothing
  promise_fair (Stands c) is e p =
      let more : Candidate = with_promise c p in
      let low : more.epoch < 2 ^ 20 = subst (λ n. n < 2 ^ 20) (sym (more_epoch c p)) (subst PartFair is fair) in
      fair_if (c.epoch == e) (stands_or_leads setup a x more) (Ok (quiet x))
      (fair_if (nat_lt (length more.promises) more.need) (Ok (quiet (record x { part = Stands more })))
      (recovers_full setup more (Ok (leads setup a x more)))
      (record { part = low; small = tt; told = none_told (record x { part = Stands more }) })
      (full_if (list_any (λ log. length log == SLOTS) (recovered_logs more.promises setup.workers)) (Err (StreamFull SLOTS))
      (Ok (leads setup a x more))
      (λ t. tt) (λ t. leads_fair more low t)))
      nothing

  -- ---- a Sync and an Accept ----

  synced_ballot : (e s : ℕ) (log : Log) → is_node setup.workers s ≡ true → x.acceptor.promised ≤ e → kept_ballot (synced x.acceptor e s log) s ≡ e
  synced_ballot e s log there promised = by_test (nat_lt (kept_ballot x.acceptor s) e) refl
    where
      by_test : (b : Bool) → nat_lt (kept_ballot x.acceptor s) e ≡ b
          → kept_ballot (if b then with_kept (prepared x.acceptor e) s e log else prepared x.acceptor e) s ≡ e
      by_test true t =
          let range = by_node setup.workers s there in
          ap (λ (k : Kept). k.ballot) (with_kept_here (prepared x.acceptor e) s e log (let low = range.0 in let high = range.1 in omega (arith, sized, low, high)))
      by_test false t = let k = below s in let l = not_less (kept_ballot x.acceptor s) e t in omega (arith, k, l, promised)

  accepted_ballot : (e s slot : ℕ) (batch : Bytes) → is_node setup.workers s ≡ true → kept_ballot x.acceptor s ≡ e → kept_ballot (accepted x.acceptor s slot batch) s ≡ e
  accepted_ballot e s slot batch there same = by_test (slot == length (kept_log x.acceptor s))
    where
      by_test : (b : Bool) → kept_ballot (if b then with_kept x.acceptor s (kept_ballot x.acceptor s) (kept_log x.acceptor s ++ batch ∷ []) else x.acceptor) s ≡ e
      by_test true =
          let range = by_node setup.workers s there in
          ap (λ (k : Kept). k.ballot) (with_kept_here x.acceptor s (kept_ballot x.acceptor s) (kept_log x.acceptor s ++ batch ∷ [])
          (let low = range.0 in let high = range.1 in omega (arith, sized, low, high))) ∙ same
      by_test false = same

  takes_fair : (m : Msg) → In m sent → NamesOne setup (stream_named m) → FairTo (takes setup a x m)
  takes_fair (msg.Prepare from to e) i there =
      let y : NodeState = record x { acceptor = prepared x.acceptor e } in
      let whole_part : (n : ℕ) → n ≡ setup.workers → not (n == setup.workers) ≡ false = λ n same. ap not (eq-eqb n setup.workers same) in
      fair_unless (refuses x.acceptor e) (promises a x from e) (λ none.
      stays y (msg.Promise a from e (map (λ (k : Kept). k.ballot) x.acceptor.streams) (map (λ (k : Kept). k.log) x.acceptor.streams) ∷ []) refl (one_told y _ (
        Back (record {
          from = refl;
          named = tt;
          whole = or_false _ _ (whole_part _ (length-map x.acceptor.streams (λ (k : Kept). k.ballot) ∙ sized))
              (whole_part _ (length-map x.acceptor.streams (λ (k : Kept). k.log) ∙ sized));
        }) (msg.Prepare from to e) i refl refl,
        tt,
      )))
  takes_fair (msg.Promise from to e ballots logs) i there = promise_fair x.part refl e (record { node = from; ballots = ballots; logs = logs })
  takes_fair (msg.Sync from to e s log) i there =
      let y : NodeState = record x { acceptor = synced x.acceptor e s log } in
      fair_unless (refuses x.acceptor e) (acks a x from e s (synced x.acceptor e s log)) (λ none.
      stays y (msg.Ack a from e s (length (kept_log (synced x.acceptor e s log) s)) ∷ []) refl (one_told y _ (
        Back (record { from = refl; named = there; whole = refl }) (msg.Sync from to e s log) i refl refl,
        (there, synced_ballot e s log there (allowed x.acceptor e none), refl),
      )))
  takes_fair (msg.Accept from to e s slot batch) i there =
      let y : NodeState = record x { acceptor = accepted x.acceptor s slot batch } in
      fair_unless (refuses_accept x.acceptor e s slot) (acks a x from e s (accepted x.acceptor s slot batch)) (λ none.
      stays y (msg.Ack a from e s (length (kept_log (accepted x.acceptor s slot batch) s)) ∷ []) refl (one_told y _ (
        Back (record { from = refl; named = there; whole = refl }) (msg.Accept from to e s slot batch) i refl refl,
        (there, accepted_ballot e s slot batch there (allowed_accept x.acceptor e s slot none), refl),
      )))
  takes_fair (msg.Ack from to e s len) i there = ack_fair x.part refl e s from len there
  takes_fair (msg.Known from to e s len) i there = stays (knows x e s len) [] (by_ballot (kept_ballot x.acceptor s == e)) (none_told (knows x e s len))
    where
      by_ballot : (b : Bool) → (if b then record x { known = slice_set x.known (s - 1) (max (known_len x s) (min len (length (kept_log x.acceptor s)))) } else x).part ≡ x.part
      by_ballot true = refl
      by_ballot false = refl

  -- ---- an open leader ----

  module _ (lead : Lead) (low : lead.epoch < 2 ^ 20) (filled : Full setup lead) (s : ℕ) (there : is_node setup.workers s ≡ true) where
    proposes_fair : (core : Option Core) (pending : List (List Item)) (batch : Batch) → FairTo (proposes setup a x (record lead { core = core; pending = pending }) s batch)
    proposes_fair core pending batch =
        let stream : Leading = proposed (leading lead s) (batch_bytes batch) in
        let next : Lead = with_leading (record lead { core = core; pending = pending }) s stream in
        let y : NodeState = record x { part = Leads next } in
        let accept : ℕ → Msg = λ to. msg.Accept a to lead.epoch s (length (leading lead s).log) (batch_bytes batch) in
        full_if (length (leading lead s).log == SLOTS) (Err (StreamFull SLOTS)) (Ok (sending y (to_each setup accept))) (λ t. tt) (λ t. record {
          part = low;
          small = λ u in_stream. inl (by_set (λ (z : Leading). length z.log ≤ SLOTS) lead.streams (s - 1) (u - 1) stream no_stream
              (λ same. let size = length-append (leading lead s).log (batch_bytes batch ∷ []) in let few = filled s there in let other = other_than (length (leading lead s).log) SLOTS t in omega (arith, size, few, other))
              (filled u in_stream));
          told = each_told y accept (λ k. (Own (record { from = refl; named = there; whole = refl }) refl refl, tt));
        })
      where
        other_than : (n m : ℕ) → (n == m) ≡ false → n ≢ m
        other_than n m h same = let z : true ≡ false = sym (eq-eqb n m same) ∙ h in cc

    goes_on : (core : Option Core) (pending : List (List Item)) → Fair (quiet (record x { part = Leads (record lead { core = core; pending = pending }) }))
    goes_on core pending = record { part = low; small = λ u in_stream. inl (filled u in_stream); told = none_told (record x { part = Leads (record lead { core = core; pending = pending }) }) }

    refusal_fair : (answer : Answer) (f : Option CoreRefusal) → FairTo answer → FairTo (answer >>= λ did. Ok (record did { refusal = f }))
    refusal_fair (Ok did) f k = record { part = k.part; small = k.small; told = k.told }
    refusal_fair (Err e) f k = tt

    steps_fair : (core : Core) → FairTo (steps_core setup a x lead s core)
    steps_fair core =
        let after = turn (setup.work.setting lead.epoch) core (Step s) in
        let next : Lead = stepped lead core after s in
        refusal_fair (proposes_full setup a x next s) (newly_refused core after)
        (fair_if (nat_lt (length (pending_of next s)) setup.batch) (Ok (quiet (record x { part = Leads next })))
        (proposes_items setup a x next s (pending_of next s))
        (goes_on (Some after) next.pending) (proposes_fair (Some after) (with_pending next s []).pending (Items (pending_of next s))))

    flushes_fair : FairTo (if length (pending_of lead s) == 0 then Ok (quiet x) else proposes_items setup a x lead s (pending_of lead s))
    flushes_fair = fair_if (length (pending_of lead s) == 0) (Ok (quiet x)) (proposes_items setup a x lead s (pending_of lead s)) nothing
        (proposes_fair lead.core (with_pending lead s []).pending (Items (pending_of lead s)))

    idles_fair : (core : Core) → FairTo (idles_core setup a x lead s core)
    idles_fair core =
        let after = turn (setup.work.setting lead.epoch) core (Idle s) in
        let ends : Answer = proposes setup a x lead s (idle_mark lead.epoch END_SEQ) in
        let marks : Answer = proposes setup a x (record lead { core = Some after }) s (idle_mark lead.epoch (core.next - lead.epoch * 2 ^ 40)) in
        let done : Bool = is_done (setup.work.setting lead.epoch) s (phase_of core s) in
        fair_if (not (may_idle lead s core)) (Ok (quiet x)) (if done then ends else marks) nothing
        (fair_if done ends marks (proposes_fair lead.core lead.pending (idle_mark lead.epoch END_SEQ))
        (proposes_fair (Some after) lead.pending (idle_mark lead.epoch (core.next - lead.epoch * 2 ^ 40))))

  open_fair : (does : Lead → Core → Answer) → ((lead : Lead) (core : Core) → lead.epoch < 2 ^ 20 → Full setup lead → FairTo (does lead core))
      → (part : Part) → x.part ≡ part → FairTo (if_open x part does)
  open_fair does k Follows is = nothing
  open_fair does k (Stands c) is = nothing
  open_fair does k (Leads lead) is = by_core lead.core
    where
      by_core : (core : Option Core) → FairTo (option_map_or (does lead) core (Ok (quiet x)))
      by_core None = nothing
      by_core (Some core) = k lead core (subst PartFair is fair) (subst (PartFull setup) is full)

  -- ---- sending again ----

  module _ (lead : Lead) (is : x.part ≡ Leads lead) where
    mine : (m : Msg) → Shaped setup a m → proposer_in m ≡ a → lead.epoch ≡ (head_of m).epoch → AckKept setup x m → Told x m
    mine m shaped own epoch kept = (Own shaped own (subst (λ part. EpochIn part (head_of m).epoch) (sym is) epoch), kept)

    resent : (s to : ℕ) → is_node setup.workers s ≡ true → (m : Msg) (fewer : Bool)
        → In m (if fewer then sync_to a lead s to ∷ [] else accepts_from a lead s (acked_len (leading lead s) to) to) → Told x m
    resent s to there m true i = one_told x (sync_to a lead s to) (mine (sync_to a lead s to) (record { from = refl; named = there; whole = refl }) refl refl tt) m i
    resent s to there m false i =
        let from = acked_len (leading lead s) to in
        let log = (leading lead s).log in
        let k = map_in (λ i. msg.Accept a to lead.epoch s i (slice_index_or log i [])) m (range_with_len from (length log - from)) i in
        subst (Told x) k.2 (mine _ (record { from = refl; named = there; whole = refl }) refl refl tt)

    known_again : (s : ℕ) → is_node setup.workers s ≡ true → (m : Msg) (none : Bool) → In m (if none then [] else to_each setup (known_to a lead s)) → Told x m
    known_again s there m true i = absurd i
    known_again s there m false i = each_told x (known_to a lead s) (λ k. mine (known_to a lead s k) (record { from = refl; named = there; whole = refl }) refl refl tt) m i

  again : (part : Part) → x.part ≡ part → AllTold x (sends_again setup a part)
  again Follows is m i = absurd i
  again (Stands c) is m i =
      let k = map_in (λ to. msg.Prepare a to c.epoch) m (filter (λ to. not (has_promised c.promises to)) (node_numbers setup)) i in
      subst (Told x) k.2 (Own (record { from = refl; named = tt; whole = refl }) refl (subst (λ part. EpochIn part c.epoch) (sym is) refl), tt)
  again (Leads lead) is m i =
      elim
      (in_split (flat_map (λ s. flat_map (resends_to a lead s) (node_numbers setup)) (stream_numbers setup))
      (flat_map (knowns setup a lead) (stream_numbers setup)) m i) [
        | inl j ↦ (
            let s = flat_in (λ s. flat_map (resends_to a lead s) (node_numbers setup)) (stream_numbers setup) m j in
            let to = flat_in (resends_to a lead s.0) (node_numbers setup) m s.2 in
            resent lead is s.0 to.0 (in_numbers setup.workers s.0 s.1) m (nat_lt (acked_len (leading lead s.0) to.0) (leading lead s.0).initial_len) to.2
            )
        | inr j ↦ (
            let s = flat_in (knowns setup a lead) (stream_numbers setup) m j in
            known_again lead is s.0 (in_numbers setup.workers s.0 s.1) m (len_acknowledged (leading lead s.0) == 0) s.2
            )
      ]

  -- ---- anything ----

  pub goes : (cause : Cause) → IsFor setup sent cause → (did : Did) → answer_to setup a x cause ≡ Ok did → Fair did
  goes (Takes m) is_for did is =
      let parts = taken_of (is_bad setup a x m) (takes setup a x m) did is in
      subst FairTo parts.1 (takes_fair m is_for (not_bad setup a x m parts.0).0)
  goes (Steps s) is_for did is = subst FairTo is (open_fair (λ lead core. steps_core setup a x lead s core) (λ lead core low filled. steps_fair lead low filled s is_for core) x.part refl)
  goes (Flushes s) is_for did is = subst FairTo is
      (open_fair (λ lead core. if length (pending_of lead s) == 0 then Ok (quiet x) else proposes_items setup a x lead s (pending_of lead s))
      (λ lead core low filled. flushes_fair lead low filled s is_for) x.part refl)
  goes (Idles s) is_for did is = subst FairTo is (open_fair (λ lead core. idles_core setup a x lead s core) (λ lead core low filled. idles_fair lead low filled s is_for core) x.part refl)
  goes Elects is_for did is =
      let e = next_epoch_of x.acceptor.promised a setup.nodes in
      subst FairTo is (full_if (nat_lt e (2 ^ 20)) (Ok (stands setup a x e)) (Err (NoEpoch x.acceptor.promised)) (λ t. record {
        part = true_lt e (2 ^ 20) t;
        small = tt;
        told = each_told (stands setup a x e).node (λ to. msg.Prepare a to e) (λ k. (Own (record { from = refl; named = tt; whole = refl }) refl refl, tt));
      }) (λ t. tt))
  goes Ticks is_for did is = subst FairTo is (stays x (sends_again setup a x.part) refl (again x.part refl))
  goes Crashes is_for did is = subst FairTo is (record { part = tt; small = tt; told = none_told (crashed setup x) })
  goes Returns is_for did is = subst FairTo is (stays (returned x) [] refl (none_told (returned x)))
  goes Loses is_for did is = subst FairTo is (record { part = tt; small = tt; told = none_told (lost setup x) })
  goes (Plays s) is_for did is = subst FairTo is (stays (plays setup x s) [] refl (none_told (plays setup x s)))
