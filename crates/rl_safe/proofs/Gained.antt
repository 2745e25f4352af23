-- What a node does, as far as an open leader goes: it goes on with the history that it counts as acknowledged, it opens, or an Ack lets
-- that history gain some items, and it releases.
use Rattle.std.proofs.Common.{◌≡◌, ◌⊎◌, ℕ, zero, suc, ◌-◌, ◌*◌, ◌^◌, ◌+◌, ◌<◌, ◌≤◌, max, List, [], ◌∷◌, length, get_or, set, take, drop, map, Bool, true, false, not, ◌==◌, cond, nat_lt, nat_le, min, is_some, if◌then◌else◌, Option, Some, None, option_map, Ok, Err, refl, ap, sym, ◌∙◌, subst, arith, inl, inr, true≢false, get_or-set_same}
use Rattle.std.specs.List.{list_any}
use Rattle.std.specs.Option.{option_map_or}
use Rattle.std.specs.Prelude.{slice_index, slice_set}
use Rattle.std.proofs.lemmas.Bool.{cond_both, cases_lt}
use Rattle.std.proofs.lemmas.Bool.Decides.{nat_tests}
use Rattle.std.proofs.lemmas.List.{take-append-le}
use Rattle.std.proofs.lemmas.List.Sums.{sum_by-cons}
use Rattle.rl_base.specs.Epochs.{next_epoch_of}
use Rattle.rl_base.specs.Results.{◌>>=◌}
use Rattle.rl_base.specs.declared.limit.TheConstants.{SLOTS}
use Rattle.rl_election.specs.World.{no_stream}
use Rattle.rl_families.specs.Families.{history}
use Rattle.rl_paxos.specs.declared.refused.Refused.{Refused}
use Rattle.rl_paxos.specs.Acceptors.{kept_ballot, kept_log, refuses, refuses_accept, synced, accepted}
use Rattle.rl_paxos.specs.Leaders.{Leading, proposed, with_ack, acked_count, greatest_acked}
use Rattle.rl_paxos.specs.Quorums.{is_node}
use Rattle.rl_paxos.specs.Recovery.{Promise, Candidate, with_promise, recovered_logs}
use Rattle.rl_paxos.proofs.Acknowledged.{greatest_is_acknowledged}
use Rattle.rl_txn.specs.declared.batch.Batch.{Batch}
use Rattle.rl_txn.specs.declared.batch.Batch.TheVariants.{Items}
use Rattle.rl_txn.specs.declared.item.Item.{Item}
use Rattle.rl_batch.specs.Encoding.{batch_bytes}
use Rattle.rl_msg.specs.declared.msg.Msg.{Msg}
use Rattle.rl_msg.specs.declared.msg.Msg.TheVariants as msg
use Rattle.rl_worker.specs.Acts.{Core, CoreRefusal, Step, Idle, turn, is_done, phase_of}
use Rattle.rl_worker.specs.OneTurn.{newly_refused}
use Rattle.rl_nodes.specs.declared.node_error.NodeError.TheVariants.{StreamFull, NoEpoch}
use Rattle.rl_nodes.specs.Answers.{Release, Did, Answer, quiet, sending, to_each, unless_denied}
use Rattle.rl_nodes.specs.BadMessages.{is_bad}
use Rattle.rl_nodes.specs.Batches.{END_SEQ, idle_mark, batches_of}
use Rattle.rl_nodes.specs.Elections.{sends_again, stands, elects, crashed, returned, lost}
use Rattle.rl_nodes.specs.Handles.{promises, acks, knows, leads, recovers_full, stands_or_leads, takes_promise, known_to, opens, releases, advances, counts_ack, takes_ack, takes}
use Rattle.rl_nodes.specs.Nodes.{Lead, NodeState, Part, Follows, Stands, Leads, known_len, leading, with_leading, with_pending, pending_of, len_acknowledged, acknowledged_log, acknowledged_history, has_opened, marks_are_acknowledged}
use Rattle.rl_nodes.specs.Setups.{Setup}
use Rattle.rl_nodes.specs.Views.{plays}
use Rattle.rl_nodes.specs.Works.{may_idle, proposes, proposes_items, proposes_full, stepped, steps_core, idles_core, if_open}
use Rattle.rl_nodes.specs.World.{Given}
use Rattle.rl_nodes.proofs.InStreams.{after_ack, taken_of}
use Rattle.rl_nodes.proofs.Runs.{Cause, Takes, Steps, Flushes, Idles, Elects, Ticks, Crashes, Returns, Loses, Plays, answer_to, IsFor}
use Rattle.rl_safe.proofs.CoreTurns.{by_if}
use Rattle.rl_safe.proofs.KnownMoves.{not_bad}
use Rattle.rl_safe.proofs.KnownWorlds.{as_given}
use Rattle.rl_safe.proofs.LeadStreams.{ack_log}

-- ---- the acknowledged length of a stream ----

-- none of some lengths passes a bound
greatest_within : (quorum bound : ℕ) (acked lens : List ℕ) → ((i : ℕ) → get_or lens i 0 ≤ bound) → greatest_acked quorum acked lens ≤ bound
greatest_within quorum bound acked [] h = omega arith
greatest_within quorum bound acked (len ∷ lens) h =
    let rest : ℕ = greatest_acked quorum acked lens in
    let low : rest ≤ bound = greatest_within quorum bound acked lens (λ i. h (suc i)) in
    let first : len ≤ bound = h 0 in
    cond_both (nat_le quorum (acked_count acked len)) (max len rest) rest (λ z. z ≤ bound) (λ t. omega (arith, low, first)) (λ t. low)

-- what is counted of a stream: enough nodes, and no more than its log
pub record Counts (x : Leading) : Type 0 where
  pub some : 1 ≤ x.quorum
  pub within : x.quorum ≤ length x.acked
  pub short : len_acknowledged x ≤ length x.log

pub counts_from : (x : Leading) → 1 ≤ x.quorum → x.quorum ≤ length x.acked → ((i : ℕ) → get_or x.acked i 0 ≤ length x.log) → Counts x
counts_from x some within each =
    record { some = some; within = within; short = greatest_within x.quorum (length x.log) x.acked x.acked each }

more_counts : (len x m : ℕ) → cond (nat_le len x) 1 0 ≤ cond (nat_le len (max x m)) 1 0
more_counts len x m = grind (arith, nat_tests)

counted_first : (len x : ℕ) (xs : List ℕ) → acked_count (x ∷ xs) len ≡ cond (nat_le len x) 1 0 + acked_count xs len
counted_first len x xs = sum_by-cons (λ a. cond (nat_le len a) 1 0) x xs

more_of : (len x y : ℕ) (xs ys : List ℕ) → cond (nat_le len x) 1 0 ≤ cond (nat_le len y) 1 0 → acked_count xs len ≤ acked_count ys len
    → acked_count (x ∷ xs) len ≤ acked_count (y ∷ ys) len
more_of len x y xs ys h k = let a = counted_first len x xs in let b = counted_first len y ys in omega (arith, a, b, h, k)

count_more : (len m : ℕ) (acked : List ℕ) (i : ℕ) → acked_count acked len ≤ acked_count (set acked i (max (get_or acked i 0) m)) len
count_more len m [] i = omega arith
count_more len m (x ∷ xs) zero = more_of len x (max x m) xs xs (more_counts len x m) (omega arith)
count_more len m (x ∷ xs) (suc i) = more_of len x x xs (set xs i (max (get_or xs i 0) m)) (omega arith) (count_more len m xs i)

set_count : (xs : List ℕ) (i y : ℕ) → length (set xs i y) ≡ length xs
set_count [] i y = refl
set_count (x ∷ xs) zero y = refl
set_count (x ∷ xs) (suc i) y = ap suc (set_count xs i y)

-- an Ack lets it grow
pub ack_grows : (x : Leading) (node len : ℕ) → Counts x → len_acknowledged x ≤ len_acknowledged (with_ack x node len)
ack_grows x node len h =
    let acked : List ℕ = slice_set x.acked (node - 1) (max (slice_index x.acked (node - 1)) len) in
    let before = greatest_is_acknowledged x.quorum x.acked h.some h.within in
    by_if (λ (z : Leading). len_acknowledged x ≤ len_acknowledged z) (is_node (length x.acked) node) (record x { acked = acked }) x
    (λ t.
    let size = set_count x.acked (node - 1) (max (slice_index x.acked (node - 1)) len) in
    let within = h.within in
    let after = greatest_is_acknowledged x.quorum acked h.some (omega (arith, size, within)) in
    let has = before.quorum_has in
    let more = count_more (len_acknowledged x) len x.acked (node - 1) in
    after.greatest (len_acknowledged x) (omega (arith, has, more)))
    (λ f. omega arith)

-- ---- the history of a leader, where one stream changes ----

map_set_same : {A B : Type 0} (f : A → B) (d : A) (xs : List A) (i : ℕ) (y : A) → f y ≡ f (get_or xs i d) → map f (set xs i y) ≡ map f xs
map_set_same f d [] i y e = refl
map_set_same f d (x ∷ xs) zero y e = ap (λ z. z ∷ map f xs) e
map_set_same f d (x ∷ xs) (suc i) y e = ap (λ zs. f x ∷ zs) (map_set_same f d xs i y e)

-- nothing is set behind the end
set_none : (xs : List Leading) (i : ℕ) (y : Leading) → length xs ≤ i → set xs i y ≡ xs
set_none [] i y h = refl
set_none (x ∷ xs) zero y h = absurd (omega (arith, h))
set_none (x ∷ xs) (suc i) y h = ap (λ zs. x ∷ zs) (set_none xs i y (omega (arith, h)))

same_history : (lead : Lead) (s : ℕ) (y : Leading) → acknowledged_log y ≡ acknowledged_log (leading lead s)
    → acknowledged_history (with_leading lead s y) ≡ acknowledged_history lead
same_history lead s y e =
    ap history (map_set_same (λ stream. batches_of (acknowledged_log stream)) no_stream lead.streams (s - 1) y (ap batches_of e))

proposed_same : (x : Leading) (batch : List ℕ) → Counts x → acknowledged_log (proposed x batch) ≡ acknowledged_log x
proposed_same x batch h = take-append-le (len_acknowledged x) x.log (batch ∷ []) h.short

ack_same : (x : Leading) (node len : ℕ) → Counts x → nat_lt (len_acknowledged x) (len_acknowledged (with_ack x node len)) ≡ false
    → acknowledged_log (with_ack x node len) ≡ acknowledged_log x
ack_same x node len h none =
    let grows = ack_grows x node len h in
    let same : len_acknowledged (with_ack x node len) ≡ len_acknowledged x = elim (cases_lt (len_acknowledged x) (len_acknowledged (with_ack x node len))) [
      | inl less ↦ absurd (true≢false (sym (lt_is (len_acknowledged x) (len_acknowledged (with_ack x node len)) less) ∙ none))
      | inr most ↦ omega (arith, grows, most)
    ] in
    ap (λ n. take n (with_ack x node len).log) same ∙ ap (take (len_acknowledged x)) (ack_log x node len)
  where
    lt_is : (m n : ℕ) → m < n → nat_lt m n ≡ true
    lt_is m n h = grind (arith, nat_tests)

-- ---- what an open leader goes on from ----

abbrev pub given_at : (epoch : ℕ) → List Item → Core → Given
given_at epoch items core = record { epoch = epoch; history = items }

-- the history that an open leader counts as acknowledged
abbrev pub open_history : Part → Option Given
open_history (Leads lead) = option_map (given_at lead.epoch (acknowledged_history lead)) lead.core
open_history other = None

given_is : (epoch : ℕ) (items : List Item) (core : Option Core) (g : Given) → option_map (given_at epoch items) core ≡ Some g
    → g ≡ record { epoch = epoch; history = items }
given_is epoch items None g e = absurd (let k : ◌≡◌ {A = Option Given} None (Some g) = e in cc)
given_is epoch items (Some core) g e = let k : ◌≡◌ {A = Option Given} (Some (record { epoch = epoch; history = items })) (Some g) = e in cc

-- an open leader's history grows by an Ack, and gains what it did not have
pub record More (setup : Setup) (x : NodeState) (release : Release) : Type 0 where
  pub lead : Lead
  pub core : Core
  pub stream : ℕ
  pub from : ℕ
  pub len : ℕ
  pub is : x.part ≡ Leads lead
  pub is_open : lead.core ≡ Some core
  pub there : is_node setup.workers stream ≡ true
  pub history : release.history ≡ acknowledged_history (after_ack lead stream from len)
  pub gained : release.gained ≡ drop (length (acknowledged_history lead)) release.history

-- a node goes on with what it released from, or releases
pub data Goes (setup : Setup) (x : NodeState) (did : Did) : Type 0 where
  Stays : did.release ≡ None → ((g : Given) → open_history did.node.part ≡ Some g → open_history x.part ≡ Some g) → Goes setup x did
  Gives : (release : Release) → did.release ≡ Some release → ((g : Given) → open_history did.node.part ≡ Some g → g ≡ as_given release)
      → (release.gained ≡ release.history) ⊎ More setup x release → Goes setup x did

module _ (setup : Setup) (sent : List Msg) (a : ℕ) (x : NodeState)
    (sound : (lead : Lead) → x.part ≡ Leads lead → (s : ℕ) → is_node setup.workers s ≡ true → Counts (leading lead s)) where
  abbrev GoesTo : Answer → Type 0
  GoesTo (Ok did) = Goes setup x did
  GoesTo (Err e) = Unit {0}

  alike : (did : Did) → did.release ≡ None → open_history did.node.part ≡ open_history x.part → Goes setup x did
  alike did none e = Stays none (λ g is. sym e ∙ is)

  same : (did : Did) → did.release ≡ None → did.node.part ≡ x.part → Goes setup x did
  same did none e = alike did none (ap open_history e)

  closed : (did : Did) → did.release ≡ None → open_history did.node.part ≡ None → Goes setup x did
  closed did none e = Stays none (λ g is. absurd (let k : ◌≡◌ {A = Option Given} None (Some g) = sym e ∙ is in cc))

  go_if : (b : Bool) (d e : Answer) → GoesTo d → GoesTo e → GoesTo (if b then d else e)
  go_if true d e p q = p
  go_if false d e p q = q

  did_if : (b : Bool) (d e : Did) → Goes setup x d → Goes setup x e → Goes setup x (if b then d else e)
  did_if true d e p q = p
  did_if false d e p q = q

  unless : (o : Option Refused) (did : Did) → Goes setup x did → Goes setup x (unless_denied o x did)
  unless None did h = h
  unless (Some refused) did h = same (record (quiet x) { denied = Some refused }) refl refl

  -- ---- an Ack ----

  module _ (lead : Lead) (is : x.part ≡ Leads lead) (s from len : ℕ) (there : is_node setup.workers s ≡ true) where
    abbrev new : Lead
    new = after_ack lead s from len

    abbrev ms : List Msg
    ms = to_each setup (known_to a (after_ack lead s from len) s)

    -- its core tells whether it has opened
    opened : (o : Option Core) → lead.core ≡ o → is_some o ≡ true → (core : Core) × (lead.core ≡ Some core)
    opened None e t = absurd (true≢false (sym t))
    opened (Some core) e t = (core, e)

    not_opened : (o : Option Core) → lead.core ≡ o → is_some o ≡ false → lead.core ≡ None
    not_opened None e f = e
    not_opened (Some core) e f = absurd (true≢false f)

    releases_more : has_opened (after_ack lead s from len) ≡ true → Goes setup x (releases x (acknowledged_history lead) (after_ack lead s from len) ms)
    releases_more t =
        let core = opened lead.core refl t in
        let items = acknowledged_history (after_ack lead s from len) in
        let release : Release = record { epoch = lead.epoch; history = items; gained = drop (length (acknowledged_history lead)) items } in
        Gives release refl (λ g e. given_is lead.epoch items lead.core g e)
        (inr (record {
          lead = lead;
          core = core.0;
          stream = s;
          from = from;
          len = len;
          is = is;
          is_open = core.1;
          there = there;
          history = refl;
          gained = refl;
        }))

    opens_first : Goes setup x (opens setup x (after_ack lead s from len) ms)
    opens_first =
        let items = acknowledged_history (after_ack lead s from len) in
        let release : Release = record { epoch = lead.epoch; history = items; gained = items } in
        Gives release refl (λ g e. given_is lead.epoch items (Some (setup.work.opening lead.epoch items)) g e) (inl refl)

    waits : has_opened (after_ack lead s from len) ≡ false → Goes setup x (sending (record x { part = Leads (after_ack lead s from len) }) ms)
    waits f =
        closed (sending (record x { part = Leads (after_ack lead s from len) }) ms) refl
        (ap (option_map (given_at lead.epoch (acknowledged_history (after_ack lead s from len)))) (not_opened lead.core refl f))

    advances_goes : Goes setup x (advances setup a x lead (after_ack lead s from len) s)
    advances_goes =
        by_if (Goes setup x) (has_opened (after_ack lead s from len)) (releases x (acknowledged_history lead) (after_ack lead s from len) ms)
        (if marks_are_acknowledged (after_ack lead s from len) then opens setup x (after_ack lead s from len) ms else sending (record x { part = Leads (after_ack lead s from len) }) ms)
        releases_more
        (λ f. did_if (marks_are_acknowledged (after_ack lead s from len)) (opens setup x (after_ack lead s from len) ms)
        (sending (record x { part = Leads (after_ack lead s from len) }) ms) opens_first (waits f))

    counted : Goes setup x (counts_ack setup a x lead s from len)
    counted =
        by_if (Goes setup x) (nat_lt (len_acknowledged (leading lead s)) (len_acknowledged (leading (after_ack lead s from len) s)))
        (advances setup a x lead (after_ack lead s from len) s) (quiet (record x { part = Leads (after_ack lead s from len) }))
        (λ t. advances_goes)
        (λ f. alike (quiet (record x { part = Leads (after_ack lead s from len) })) refl
        (ap (λ items. option_map (given_at lead.epoch items) lead.core)
        (as_before f)
        ∙ sym (ap open_history is)))
      where
        as_before : nat_lt (len_acknowledged (leading lead s)) (len_acknowledged (leading (after_ack lead s from len) s)) ≡ false
            → acknowledged_history (after_ack lead s from len) ≡ acknowledged_history lead
        as_before f = by_place (cases_lt (s - 1) (length lead.streams))
          where
            by_place : ((s - 1 < length lead.streams) ⊎ (length lead.streams ≤ s - 1)) → acknowledged_history (after_ack lead s from len) ≡ acknowledged_history lead
            by_place (inl inside) =
                same_history lead s (with_ack (leading lead s) from len)
                (ack_same (leading lead s) from len (sound lead is s there)
                (subst (λ (z : Leading). nat_lt (len_acknowledged (leading lead s)) (len_acknowledged z) ≡ false)
                (get_or-set_same lead.streams (s - 1) (with_ack (leading lead s) from len) no_stream inside) f))
            by_place (inr outside) = ap (λ streams. acknowledged_history (record lead { streams = streams })) (set_none lead.streams (s - 1) (with_ack (leading lead s) from len) outside)

  ack_goes : (part : Part) → x.part ≡ part → (e s from len : ℕ) → is_node setup.workers s ≡ true → Goes setup x (takes_ack setup a x e s from len part)
  ack_goes Follows is e s from len there = same (quiet x) refl refl
  ack_goes (Stands c) is e s from len there = same (quiet x) refl refl
  ack_goes (Leads lead) is e s from len there =
      did_if (lead.epoch == e) (counts_ack setup a x lead s from len) (quiet x) (counted lead is s from len there) (same (quiet x) refl refl)

  -- ---- other messages ----

  promise_goes : (part : Part) (e : ℕ) (p : Promise) → GoesTo (takes_promise setup a x e p part)
  promise_goes Follows e p = same (quiet x) refl refl
  promise_goes (Leads lead) e p = same (quiet x) refl refl
  promise_goes (Stands c) e p =
      let more : Candidate = with_promise c p in
      go_if (c.epoch == e) (stands_or_leads setup a x more) (Ok (quiet x))
      (go_if (nat_lt (length more.promises) more.need) (Ok (quiet (record x { part = Stands more })))
      (recovers_full setup more (Ok (leads setup a x more)))
      (closed (quiet (record x { part = Stands more })) refl refl)
      (go_if (list_any (λ log. length log == SLOTS) (recovered_logs more.promises setup.workers)) (Err (StreamFull SLOTS))
      (Ok (leads setup a x more))
      tt (closed (leads setup a x more) refl refl)))
      (same (quiet x) refl refl)

  knows_part : (e s len : ℕ) → (knows x e s len).part ≡ x.part
  knows_part e s len = by_test (kept_ballot x.acceptor s == e)
    where
      more : ℕ
      more = max (known_len x s) (min len (length (kept_log x.acceptor s)))

      by_test : (b : Bool) → (if b then record x { known = slice_set x.known (s - 1) more } else x).part ≡ x.part
      by_test true = refl
      by_test false = refl

  takes_goes : (m : Msg) → is_bad setup a x m ≡ false → GoesTo (takes setup a x m)
  takes_goes (msg.Prepare from to e) good = unless (refuses x.acceptor e) (promises a x from e) (same (promises a x from e) refl refl)
  takes_goes (msg.Promise from to e ballots logs) good = promise_goes x.part e (record { node = from; ballots = ballots; logs = logs })
  takes_goes (msg.Sync from to e s log) good =
      unless (refuses x.acceptor e) (acks a x from e s (synced x.acceptor e s log)) (same (acks a x from e s (synced x.acceptor e s log)) refl refl)
  takes_goes (msg.Accept from to e s slot batch) good =
      unless (refuses_accept x.acceptor e s slot) (acks a x from e s (accepted x.acceptor s slot batch))
      (same (acks a x from e s (accepted x.acceptor s slot batch)) refl refl)
  takes_goes (msg.Ack from to e s len) good = ack_goes x.part refl e s from len (not_bad setup a x (msg.Ack from to e s len) good).0
  takes_goes (msg.Known from to e s len) good = same (quiet (knows x e s len)) refl (knows_part e s len)

  -- ---- a leader's workers ----

  proposes_goes : (lead : Lead) (s : ℕ) (batch : Batch) → open_history (Leads lead) ≡ open_history x.part → Counts (leading lead s)
      → GoesTo (proposes setup a x lead s batch)
  proposes_goes lead s batch e counts =
      let new : Lead = with_leading lead s (proposed (leading lead s) (batch_bytes batch)) in
      let did : Did = sending (record x { part = Leads new }) (to_each setup (λ to. msg.Accept a to lead.epoch s (length (leading lead s).log) (batch_bytes batch))) in
      go_if (length (leading lead s).log == SLOTS) (Err (StreamFull SLOTS)) (Ok did) tt
      (alike did refl
      (ap (λ items. option_map (given_at lead.epoch items) lead.core)
      (same_history lead s (proposed (leading lead s) (batch_bytes batch)) (proposed_same (leading lead s) (batch_bytes batch) counts)) ∙ e))

  refused_goes : (answer : Answer) (f : Option CoreRefusal) → GoesTo answer → GoesTo (answer >>= λ did. Ok (record did { refusal = f }))
  refused_goes (Ok did) f (Stays none e) = Stays none e
  refused_goes (Ok did) f (Gives release is e k) = Gives release is e k
  refused_goes (Err e) f h = tt

  open_goes : (does : Lead → Core → Answer) → ((lead : Lead) → x.part ≡ Leads lead → (core : Core) → lead.core ≡ Some core → GoesTo (does lead core))
      → (part : Part) → x.part ≡ part → GoesTo (if_open x part does)
  open_goes does h Follows is = same (quiet x) refl refl
  open_goes does h (Stands c) is = same (quiet x) refl refl
  open_goes does h (Leads lead) is = by_core lead.core refl
    where
      by_core : (o : Option Core) → lead.core ≡ o → GoesTo (option_map_or (does lead) o (Ok (quiet x)))
      by_core None e = same (quiet x) refl refl
      by_core (Some core) e = h lead is core e

  -- another core of an open leader
  other_core : (lead : Lead) → x.part ≡ Leads lead → (core : Core) → lead.core ≡ Some core
      → option_map (given_at lead.epoch (acknowledged_history lead)) (Some core) ≡ open_history x.part
  other_core lead is core has_core = sym (ap open_history is ∙ ap (option_map (given_at lead.epoch (acknowledged_history lead))) has_core)

  steps_goes : (s : ℕ) → is_node setup.workers s ≡ true → (lead : Lead) → x.part ≡ Leads lead → (core : Core) → lead.core ≡ Some core
      → GoesTo (steps_core setup a x lead s core)
  steps_goes s there lead is core has_core =
      let after = turn (setup.work.setting lead.epoch) core (Step s) in
      let next : Lead = stepped lead core after s in
      refused_goes (proposes_full setup a x next s) (newly_refused core after)
      (go_if (nat_lt (length (pending_of next s)) setup.batch) (Ok (quiet (record x { part = Leads next })))
      (proposes_items setup a x next s (pending_of next s))
      (alike (quiet (record x { part = Leads next })) refl (other_core lead is core has_core))
      (proposes_goes (with_pending next s []) s (Items (pending_of next s)) (other_core lead is core has_core) (sound lead is s there)))

  flushes_goes : (s : ℕ) → is_node setup.workers s ≡ true → (lead : Lead) → x.part ≡ Leads lead → (core : Core) → lead.core ≡ Some core
      → GoesTo (if length (pending_of lead s) == 0 then Ok (quiet x) else proposes_items setup a x lead s (pending_of lead s))
  flushes_goes s there lead is core has_core =
      go_if (length (pending_of lead s) == 0) (Ok (quiet x)) (proposes_items setup a x lead s (pending_of lead s)) (same (quiet x) refl refl)
      (proposes_goes (with_pending lead s []) s (Items (pending_of lead s)) (sym (ap open_history is)) (sound lead is s there))

  idles_goes : (s : ℕ) → is_node setup.workers s ≡ true → (lead : Lead) → x.part ≡ Leads lead → (core : Core) → lead.core ≡ Some core
      → GoesTo (idles_core setup a x lead s core)
  idles_goes s there lead is core has_core =
      let after = turn (setup.work.setting lead.epoch) core (Idle s) in
      let ends : Answer = proposes setup a x lead s (idle_mark lead.epoch END_SEQ) in
      let marks : Answer =
      proposes setup a x (record lead { core = Some after }) s (idle_mark lead.epoch (core.next - lead.epoch * 2 ^ 40)) in
      let done : Bool = is_done (setup.work.setting lead.epoch) s (phase_of core s) in
      go_if (not (may_idle lead s core)) (Ok (quiet x)) (if done then ends else marks) (same (quiet x) refl refl)
      (go_if done ends marks
      (proposes_goes lead s (idle_mark lead.epoch END_SEQ) (sym (ap open_history is)) (sound lead is s there))
      (proposes_goes (record lead { core = Some after }) s (idle_mark lead.epoch (core.next - lead.epoch * 2 ^ 40)) (other_core lead is core has_core) (sound lead is s there)))

  -- ---- anything ----

  elects_goes : GoesTo (elects setup a x)
  elects_goes =
      let did : Did = stands setup a x (next_epoch_of x.acceptor.promised a setup.nodes) in
      go_if (nat_lt (next_epoch_of x.acceptor.promised a setup.nodes) (2 ^ 20)) (Ok did) (Err (NoEpoch x.acceptor.promised)) (closed did refl refl) tt

  pub goes : (cause : Cause) → IsFor setup sent cause → (did : Did) → answer_to setup a x cause ≡ Ok did → Goes setup x did
  goes (Takes m) is_for did is =
      let parts = taken_of (is_bad setup a x m) (takes setup a x m) did is in
      subst GoesTo parts.1 (takes_goes m parts.0)
  goes (Steps s) is_for did is = subst GoesTo is (open_goes (λ lead core. steps_core setup a x lead s core) (steps_goes s is_for) x.part refl)
  goes (Flushes s) is_for did is =
      subst GoesTo is
      (open_goes (λ lead core. if length (pending_of lead s) == 0 then Ok (quiet x) else proposes_items setup a x lead s (pending_of lead s))
      (flushes_goes s is_for) x.part refl)
  goes (Idles s) is_for did is = subst GoesTo is (open_goes (λ lead core. idles_core setup a x lead s core) (idles_goes s is_for) x.part refl)
  goes Elects is_for did is = subst GoesTo is elects_goes
  goes Ticks is_for did is = subst GoesTo is (same (sending x (sends_again setup a x.part)) refl refl)
  goes Crashes is_for did is = subst GoesTo is (closed (quiet (crashed setup x)) refl refl)
  goes Returns is_for did is = subst GoesTo is (same (quiet (returned x)) refl refl)
  goes Loses is_for did is = subst GoesTo is (closed (quiet (lost setup x)) refl refl)
  goes (Plays s) is_for did is = subst GoesTo is (same (quiet (plays setup x s)) refl refl)
