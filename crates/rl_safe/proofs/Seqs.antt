-- An open leader has drawn no more seqs than its run has events.
use Rattle.std.proofs.Common.{◌≡◌, ℕ, suc, ◌+◌, ◌-◌, ◌*◌, ◌^◌, ◌≤◌, List, [], ◌∷◌, length, replicate, Bool, true, false, not, ◌==◌, nat_lt, if◌then◌else◌, Option, Some, None, Ok, Err, refl, sym, subst, arith}
use Rattle.std.specs.Prelude.{sum_by, min, max, slice_set}
use Rattle.std.specs.List.{list_any}
use Rattle.std.specs.Option.{option_map_or}
use Rattle.std.proofs.lemmas.List.{length-replicate}
use Rattle.std.proofs.lemmas.List.Sums.{sum_by-cons}
use Rattle.rl_base.specs.Epochs.{next_epoch_of}
use Rattle.rl_base.specs.Results.{◌>>=◌}
use Rattle.rl_base.specs.declared.limit.LimitName.TheVariants.{Bytes}
use Rattle.rl_base.specs.declared.limit.TheConstants.{BYTES, SLOTS}
use Rattle.rl_election.specs.World.{State, is_up}
use Rattle.rl_events.specs.Fits.{count_of}
use Rattle.rl_events.specs.declared.event.Event.{Event}
use Rattle.rl_events.specs.declared.event.Event.TheVariants as event
use Rattle.rl_events.proofs.Kept.{expanded_count}
use Rattle.rl_paxos.specs.declared.refused.Refused.{Refused}
use Rattle.rl_paxos.specs.Acceptors.{kept_ballot, kept_log, refuses, refuses_accept, synced, accepted}
use Rattle.rl_paxos.specs.Recovery.{Promise, Candidate, with_promise, recovered_logs}
use Rattle.rl_msg.specs.declared.msg.Msg.{Msg}
use Rattle.rl_msg.specs.declared.msg.Msg.TheVariants as msg
use Rattle.rl_msg.specs.Parts.{head_of}
use Rattle.rl_txn.specs.declared.batch.Batch.{Batch}
use Rattle.rl_txn.specs.declared.batch.Batch.TheVariants.{Items}
use Rattle.rl_worker.specs.Acts.{Core, CoreRefusal, Step, Idle, turn, step, idle, resting, may, is_done, phase_of}
use Rattle.rl_worker.specs.Laws.{StepsAreOne}
use Rattle.rl_worker.specs.OneTurn.{newly_refused}
use Rattle.rl_worker.specs.Phases.{Setting}
use Rattle.rl_nodes.specs.declared.node_error.NodeError.TheVariants.{BadMessage, StreamFull, NoEpoch, Memory}
use Rattle.rl_nodes.specs.Answers.{Did, Answer, quiet, sending, to_each, unless_denied}
use Rattle.rl_nodes.specs.BadMessages.{is_bad}
use Rattle.rl_nodes.specs.Batches.{END_SEQ, idle_mark}
use Rattle.rl_nodes.specs.Elections.{stands, elects, ticks, crashed, returned, lost}
use Rattle.rl_nodes.specs.Events.{is_down, is_lost, for_each, does_where, does_up, changes_up, reaches, delivers, drops, after_event, after_events, expanded_events}
use Rattle.rl_nodes.specs.Handles.{promises, acks, knows, leads, recovers_full, stands_or_leads, takes_promise, known_to, opens, releases, advances, counts_ack, takes_ack, takes, receives}
use Rattle.rl_nodes.specs.Nodes.{Lead, NodeState, Part, Follows, Stands, Leads, new_node, known_len, leading, with_pending, pending_of, len_acknowledged, acknowledged_history, has_opened, marks_are_acknowledged}
use Rattle.rl_nodes.specs.Setups.{Setup, SetupFits, stream_numbers}
use Rattle.rl_nodes.specs.Views.{plays}
use Rattle.rl_nodes.specs.Works.{next_seq, may_idle, proposes, proposes_items, proposes_full, stepped, steps_core, idles_core, if_open, steps, flushes, idles}
use Rattle.rl_nodes.specs.World.{World, Sent, NoMessage, NodeShown, Ran, new_world, node_of, block_of, with_line, sent_at, delivered, dropped, pending_from, bytes_sent, after_doing, after_answer}
use Rattle.rl_nodes.proofs.InStreams.{after_ack}
use Rattle.rl_nodes.proofs.Runs.{new_nodes}
use Rattle.rl_safe.specs.Laws.{SeqsAreFew}
use Rattle.rl_safe.proofs.CoreTurns.{by_if, may_tells}
use Rattle.rl_safe.proofs.KnownLists.{by_set}

-- ---- one turn ----

turned : StepsAreOne → (S : Setting) (c : Core) (w : ℕ) → (turn S c (Step w)).next ≤ suc c.next
turned one S c w =
    by_if (λ (z : Core). z.next ≤ suc c.next) (may S c w) (step S c w) c (λ t. (one S c w (may_tells S c w t).0).next_high) (λ f. omega arith)

idled : (S : Setting) (c : Core) (w : ℕ) → (turn S c (Idle w)).next ≤ suc c.next
idled S c w = by_if (λ (z : Core). z.next ≤ suc c.next) (may S c w) (idle c w) c
    (λ t. by_if (λ (z : Core). z.next ≤ suc c.next) (resting (phase_of c w)) (record c { next = suc c.next; made = (w, c.next) ∷ c.made }) c
    (λ r. omega arith) (λ r. omega arith))
    (λ f. omega arith)

-- ---- one node ----

-- the next seq of what a node becomes
abbrev To : (m : ℕ) → Did → Type 0
To m did = next_seq did.node.part ≤ m

abbrev AnswerTo : (m : ℕ) → Answer → Type 0
AnswerTo m (Ok did) = To m did
AnswerTo m (Err e) = Unit {0}

to_if : (m : ℕ) (b : Bool) (d e : Answer) → AnswerTo m d → AnswerTo m e → AnswerTo m (if b then d else e)
to_if m true d e p q = p
to_if m false d e p q = q

abbrev seq_of : (epoch : ℕ) → Core → ℕ
seq_of epoch core = core.next - epoch * 2 ^ 40

one_more : (epoch n : ℕ) (c d : Core) → seq_of epoch c ≤ n → d.next ≤ suc c.next → seq_of epoch d ≤ n + 1
one_more epoch n c d low h = less (epoch * 2 ^ 40) c.next d.next low h
  where
    less : (k a b : ℕ) → a - k ≤ n → b ≤ suc a → b - k ≤ n + 1
    less k a b low h = omega (arith, low, h)

module _ (one : StepsAreOne) (setup : Setup) (sized : SetupFits setup) (a n : ℕ) (two : 2 ≤ n) (x : NodeState) (low : next_seq x.part ≤ n) where
  did_if : (b : Bool) (d e : Did) → To n d → To n e → To n (if b then d else e)
  did_if true d e p q = p
  did_if false d e p q = q

  unless : (o : Option Refused) (did : Did) → To n did → To n (unless_denied o x did)
  unless None did h = h
  unless (Some refused) did h = low

  more : (m : ℕ) → n ≤ m → AnswerTo m (Ok (quiet x))
  more m h = omega (arith, low, h)

  -- ---- messages ----

  opening_low : (lead : Lead) (items : List _) → next_seq (Leads (record lead { core = Some (setup.work.opening lead.epoch items) })) ≤ n
  opening_low lead items =
      subst (λ work. seq_of lead.epoch (work.opening lead.epoch items) ≤ n) (sym sized.work_is) (begins (lead.epoch * 2 ^ 40))
    where
      begins : (k : ℕ) → k + 2 - k ≤ n
      begins k = omega (arith, two)

  ack_low : (part : Part) → x.part ≡ part → (e s from len : ℕ) → To n (takes_ack setup a x e s from len part)
  ack_low Follows is e s from len = low
  ack_low (Stands c) is e s from len = low
  ack_low (Leads lead) is e s from len =
      let new : Lead = after_ack lead s from len in
      let ms : List Msg = to_each setup (known_to a new s) in
      let as_was : next_seq (Leads lead) ≤ n = subst (λ p. next_seq p ≤ n) is low in
      did_if (lead.epoch == e) (counts_ack setup a x lead s from len) (quiet x)
      (did_if (nat_lt (len_acknowledged (leading lead s)) (len_acknowledged (leading new s))) (advances setup a x lead new s)
      (quiet (record x { part = Leads new }))
      (did_if (has_opened new) (releases x (acknowledged_history lead) new ms)
      (if marks_are_acknowledged new then opens setup x new ms else sending (record x { part = Leads new }) ms)
      as_was
      (did_if (marks_are_acknowledged new) (opens setup x new ms) (sending (record x { part = Leads new }) ms)
      (opening_low new (acknowledged_history new)) as_was))
      as_was)
      low

  promise_low : (part : Part) (e : ℕ) (p : Promise) → AnswerTo n (takes_promise setup a x e p part)
  promise_low Follows e p = low
  promise_low (Leads lead) e p = low
  promise_low (Stands c) e p =
      let next : Candidate = with_promise c p in
      to_if n (c.epoch == e) (stands_or_leads setup a x next) (Ok (quiet x))
      (to_if n (nat_lt (length next.promises) next.need) (Ok (quiet (record x { part = Stands next })))
      (recovers_full setup next (Ok (leads setup a x next)))
      two
      (to_if n (list_any (λ log. length log == SLOTS) (recovered_logs next.promises setup.workers)) (Err (StreamFull SLOTS))
      (Ok (leads setup a x next)) tt two))
      low

  knows_low : (e s len : ℕ) → To n (quiet (knows x e s len))
  knows_low e s len = by_test (kept_ballot x.acceptor s == e)
    where
      more_known : List ℕ
      more_known = slice_set x.known (s - 1) (max (known_len x s) (min len (length (kept_log x.acceptor s))))

      by_test : (b : Bool) → next_seq (if b then record x { known = more_known } else x).part ≤ n
      by_test true = low
      by_test false = low

  takes_low : (m : Msg) → AnswerTo n (takes setup a x m)
  takes_low (msg.Prepare from to e) = unless (refuses x.acceptor e) (promises a x from e) low
  takes_low (msg.Promise from to e ballots logs) = promise_low x.part e (record { node = from; ballots = ballots; logs = logs })
  takes_low (msg.Sync from to e s log) = unless (refuses x.acceptor e) (acks a x from e s (synced x.acceptor e s log)) low
  takes_low (msg.Accept from to e s slot batch) =
      unless (refuses_accept x.acceptor e s slot) (acks a x from e s (accepted x.acceptor s slot batch)) low
  takes_low (msg.Ack from to e s len) = ack_low x.part refl e s from len
  takes_low (msg.Known from to e s len) = knows_low e s len

  pub receives_low : (m : Msg) → AnswerTo n (receives setup a x m)
  receives_low m = to_if n (is_bad setup a x m) (Err BadMessage) (takes setup a x m) tt (takes_low m)

  -- ---- a leader's workers ----

  proposes_low : (m : ℕ) (lead : Lead) (s : ℕ) (batch : Batch) → next_seq (Leads lead) ≤ m → AnswerTo m (proposes setup a x lead s batch)
  proposes_low m lead s batch h = to_if m (length (leading lead s).log == SLOTS) (Err (StreamFull SLOTS)) (Ok _) tt h

  refused_low : (m : ℕ) (answer : Answer) (f : Option CoreRefusal) → AnswerTo m answer
      → AnswerTo m (answer >>= λ did. Ok (record did { refusal = f }))
  refused_low m (Ok did) f h = h
  refused_low m (Err e) f h = tt

  open_low : (m : ℕ) → n ≤ m → (does : Lead → Core → Answer)
      → ((lead : Lead) (core : Core) → seq_of lead.epoch core ≤ n → next_seq (Leads lead) ≤ n → AnswerTo m (does lead core))
      → (part : Part) → next_seq part ≤ n → AnswerTo m (if_open x part does)
  open_low m more_of does h Follows at = more m more_of
  open_low m more_of does h (Stands c) at = more m more_of
  open_low m more_of does h (Leads lead) at = by_core lead.core at
    where
      by_core : (o : Option Core) → option_map_or (λ (core : Core). core.next - lead.epoch * 2 ^ 40) o 2 ≤ n
          → AnswerTo m (option_map_or (does lead) o (Ok (quiet x)))
      by_core None at = more m more_of
      by_core (Some core) here = h lead core here at

  pub steps_low : (s : ℕ) → AnswerTo (n + 1) (steps setup a x s)
  steps_low s = open_low (n + 1) (omega arith) (λ lead core. steps_core setup a x lead s core) (λ lead core at was.
      let after = turn (setup.work.setting lead.epoch) core (Step s) in
      let next : Lead = stepped lead core after s in
      let up : seq_of lead.epoch after ≤ n + 1 = one_more lead.epoch n core after at (turned one (setup.work.setting lead.epoch) core s) in
      refused_low (n + 1) (proposes_full setup a x next s) (newly_refused core after)
      (to_if (n + 1) (nat_lt (length (pending_of next s)) setup.batch) (Ok (quiet (record x { part = Leads next })))
      (proposes_items setup a x next s (pending_of next s)) up
      (proposes_low (n + 1) (with_pending next s []) s (Items (pending_of next s)) up)))
      x.part low

  pub flushes_low : (s : ℕ) → AnswerTo n (flushes setup a x s)
  flushes_low s = open_low n (omega arith)
      (λ lead core. if length (pending_of lead s) == 0 then Ok (quiet x) else proposes_items setup a x lead s (pending_of lead s))
      (λ lead core at was.
      to_if n (length (pending_of lead s) == 0) (Ok (quiet x)) (proposes_items setup a x lead s (pending_of lead s)) low
      (proposes_low n (with_pending lead s []) s (Items (pending_of lead s)) was))
      x.part low

  pub idles_low : (s : ℕ) → AnswerTo (n + 1) (idles setup a x s)
  idles_low s = open_low (n + 1) (omega arith) (λ lead core. idles_core setup a x lead s core) (λ lead core at was.
      let after = turn (setup.work.setting lead.epoch) core (Idle s) in
      let ends : Answer = proposes setup a x lead s (idle_mark lead.epoch END_SEQ) in
      let marks : Answer =
      proposes setup a x (record lead { core = Some after }) s (idle_mark lead.epoch (core.next - lead.epoch * 2 ^ 40)) in
      let done : Bool = is_done (setup.work.setting lead.epoch) s (phase_of core s) in
      let up : seq_of lead.epoch after ≤ n + 1 = one_more lead.epoch n core after at (idled (setup.work.setting lead.epoch) core s) in
      to_if (n + 1) (not (may_idle lead s core)) (Ok (quiet x)) (if done then ends else marks) (more (n + 1) (omega arith))
      (to_if (n + 1) done ends marks (proposes_low (n + 1) lead s (idle_mark lead.epoch END_SEQ) (omega (arith, was)))
      (proposes_low (n + 1) (record lead { core = Some after }) s (idle_mark lead.epoch (core.next - lead.epoch * 2 ^ 40)) up)))
      x.part low

  pub elects_low : AnswerTo n (elects setup a x)
  elects_low =
      let e = next_epoch_of x.acceptor.promised a setup.nodes in
      to_if n (nat_lt e (2 ^ 20)) (Ok (stands setup a x e)) (Err (NoEpoch x.acceptor.promised)) two tt

-- ---- the world ----

abbrev Low : Setup → (n : ℕ) → World → Type 0
Low setup n w = (a : ℕ) → next_seq (node_of setup w a).part ≤ n

abbrev LowTo : Setup → (n : ℕ) → Ran → Type 0
LowTo setup n (Ok w) = Low setup n w
LowTo setup n (Err e) = Unit {0}

raised : (answer : Answer) (n : ℕ) → AnswerTo n answer → AnswerTo (n + 1) answer
raised (Ok did) n h = omega (arith, h)
raised (Err e) n h = tt

module _ (one : StepsAreOne) (setup : Setup) (sized : SetupFits setup) where
  lifted : (n : ℕ) (r : Ran) → LowTo setup n r → LowTo setup (n + 1) r
  lifted n (Ok w) h = λ a. let k = h a in omega (arith, k)
  lifted n (Err e) h = tt

  within_low : (n : ℕ) (w : World) (many : Bool) → Low setup n w → LowTo setup n (if many then Err Bytes else Ok w)
  within_low n w true h = tt
  within_low n w false h = h

  kept_low : (n m : ℕ) (w : World) → n ≤ m → Low setup n w → Low setup m w
  kept_low n m w more h a = let k = h a in omega (arith, k, more)

  answer_low : (n m a number : ℕ) (w : World) → n ≤ m → Low setup n w → (answer : Answer) → AnswerTo m answer
      → LowTo setup m (after_answer w a number answer)
  answer_low n m a number w more h (Ok did) k =
      within_low m (after_doing w a number did) (nat_lt BYTES (bytes_sent (after_doing w a number did).sent))
      (λ b. by_set (λ (z : NodeState). next_seq z.part ≤ m) w.nodes (a - 1) (b - 1) did.node (new_node setup) (λ same. k) (kept_low n m w more h b))
  answer_low n m a number w more h (Err BadMessage) k = kept_low n m w more h
  answer_low n m a number w more h (Err (StreamFull slots)) k = tt
  answer_low n m a number w more h (Err (NoEpoch promised)) k = kept_low n m w more h
  answer_low n m a number w more h (Err Memory) k = kept_low n m w more h

  -- a node does something where it passes a test
  where_low : (n m a number : ℕ) (w : World) → n ≤ m → Low setup n w → (b : Bool) (answer : Answer) → AnswerTo m answer
      → LowTo setup m (if b then after_answer w a number answer else Ok w)
  where_low n m a number w more h true answer k = answer_low n m a number w more h answer k
  where_low n m a number w more h false answer k = kept_low n m w more h

  then_low : (n m : ℕ) (r : Ran) (f : World → Ran) → LowTo setup n r → ((w : World) → Low setup n w → LowTo setup m (f w)) → LowTo setup m (r >>= f)
  then_low n m (Ok w) f h g = g w h
  then_low n m (Err e) f h g = tt

  -- something is done for each of some numbers, which adds one or nothing
  each_adds : (ks : List ℕ) (does : ℕ → World → Ran) → ((k n : ℕ) (w : World) → 2 ≤ n → Low setup n w → LowTo setup (n + 1) (does k w))
      → (n : ℕ) (w : World) → 2 ≤ n → Low setup n w → LowTo setup (n + length ks) (for_each ks does w)
  each_adds [] does h n w two low = kept_low n (n + 0) w (omega arith) low
  each_adds (k ∷ ks) does h n w two low =
      let at : n + 1 + length ks ≡ n + suc (length ks) = omega arith in
      then_low (n + 1) (n + suc (length ks)) (does k w) (for_each ks does) (h k n w two low)
      (λ x was. subst (λ m. LowTo setup m (for_each ks does x)) at (each_adds ks does h (n + 1) x (omega (arith, two)) was))

  each_stays : (ks : List ℕ) (does : ℕ → World → Ran) (n : ℕ) → ((k : ℕ) (w : World) → Low setup n w → LowTo setup n (does k w))
      → (w : World) → Low setup n w → LowTo setup n (for_each ks does w)
  each_stays [] does n h w low = low
  each_stays (k ∷ ks) does n h w low = then_low n n (does k w) (for_each ks does) (h k w low) (λ x was. each_stays ks does n h x was)

  -- ---- events ----

  delivers_low : (n number : ℕ) (w : World) → 2 ≤ n → Low setup n w → LowTo setup n (delivers setup number w)
  delivers_low n number w two h = by_sent (sent_at w.sent number)
    where
      by_sent : (o : Option Sent) → LowTo setup n (option_map_or (λ (m : Sent). reaches setup number m.message (delivered w number)) o (Ok (with_line w (NoMessage number))))
      by_sent None = h
      by_sent (Some m) =
          let a = (head_of m.message).to in
          where_low n n a number (delivered w number) (omega arith) h (is_up (node_of setup w a).state) (receives setup a (node_of setup w a) m.message)
          (receives_low one setup sized a n two (node_of setup w a) (h a) m.message)

  drops_low : (n : ℕ) (w : World) (number : ℕ) → Low setup n w → (o : Option Sent)
      → LowTo setup n (option_map_or (λ (m : Sent). Ok (dropped w number)) o (Ok (with_line w (NoMessage number))))
  drops_low n w number h None = h
  drops_low n w number h (Some m) = h

  -- what a node does without another message
  stays_low : (n a : ℕ) (test : State → Bool) (change : NodeState → NodeState) (w : World) → Low setup n w → next_seq (change (node_of setup w a)).part ≤ n
      → LowTo setup n (does_where test setup a (λ x. Ok (quiet (change x))) w)
  stays_low n a test change w h k =
      where_low n n a 0 w (omega arith) h (test (node_of setup w a).state) (Ok (quiet (change (node_of setup w a)))) k

  event_low : (e : Event) (n : ℕ) (w : World) → 2 ≤ n → Low setup n w → LowTo setup (n + count_of e) (after_event setup e w)
  event_low (event.Step a s count) n w two h =
      subst (λ m. LowTo setup (n + m) (for_each (replicate count s) (λ s. does_up setup a (λ x. steps setup a x s)) w)) (length-replicate count s)
      (each_adds (replicate count s) (λ s. does_up setup a (λ x. steps setup a x s)) (λ k m v two_m low.
      where_low m (m + 1) a 0 v (omega arith) low (is_up (node_of setup v a).state) (steps setup a (node_of setup v a) k)
      (steps_low one setup sized a m two_m (node_of setup v a) (low a) k)) n w two h)
  event_low (event.Flush a s) n w two h =
      where_low n (n + 1) a 0 w (omega arith) h (is_up (node_of setup w a).state) (flushes setup a (node_of setup w a) s)
      (raised (flushes setup a (node_of setup w a) s) n (flushes_low one setup sized a n two (node_of setup w a) (h a) s))
  event_low (event.Idle a s) n w two h =
      where_low n (n + 1) a 0 w (omega arith) h (is_up (node_of setup w a).state) (idles setup a (node_of setup w a) s)
      (idles_low one setup sized a n two (node_of setup w a) (h a) s)
  event_low (event.Dlv number) n w two h = lifted n (delivers setup number w) (delivers_low n number w two h)
  event_low (event.Discard number) n w two h = lifted n (drops number w) (drops_low n w number h (sent_at w.sent number))
  event_low event.All n w two h =
      lifted n (for_each (pending_from 1 w.sent) (delivers setup) w)
      (each_stays (pending_from 1 w.sent) (delivers setup) n (λ k v low. delivers_low n k v two low) w h)
  event_low (event.Elect a) n w two h =
      lifted n (does_up setup a (elects setup a) w)
      (where_low n n a 0 w (omega arith) h (is_up (node_of setup w a).state) (elects setup a (node_of setup w a))
      (elects_low one setup sized a n two (node_of setup w a) (h a)))
  event_low (event.Tick a) n w two h =
      lifted n (does_up setup a (ticks setup a) w)
      (where_low n n a 0 w (omega arith) h (is_up (node_of setup w a).state) (ticks setup a (node_of setup w a)) (h a))
  event_low (event.Crash a) n w two h = lifted n (changes_up setup a (crashed setup) w) (stays_low n a is_up (crashed setup) w h two)
  event_low (event.Back a) n w two h =
      lifted n (does_where is_down setup a (λ x. Ok (quiet (returned x))) w) (stays_low n a is_down returned w h (h a))
  event_low (event.Lose a) n w two h =
      lifted n (does_where (λ state. not (is_lost state)) setup a (λ x. Ok (quiet (lost setup x))) w)
      (stays_low n a (λ state. not (is_lost state)) (lost setup) w h two)
  event_low (event.Play a s) n w two h =
      lifted n (changes_up setup a (λ x. plays setup x s) w) (stays_low n a is_up (λ x. plays setup x s) w h (h a))
  event_low (event.PlayAll a) n w two h =
      lifted n (for_each (stream_numbers setup) (λ s. changes_up setup a (λ x. plays setup x s)) w)
      (each_stays (stream_numbers setup) (λ s. changes_up setup a (λ x. plays setup x s)) n
      (λ k v low. stays_low n a is_up (λ x. plays setup x k) v low (low a)) w h)
  event_low (event.Show a) n w two h = lifted n (Ok (with_line w (NodeShown (block_of setup w a)))) h
  event_low (event.Random seed count) n w two h = kept_low n (n + count) w (omega arith) h

  events_low : (events : List Event) (n : ℕ) (w : World) → 2 ≤ n → Low setup n w → LowTo setup (n + sum_by count_of events) (after_events setup events w)
  events_low [] n w two h = kept_low n (n + 0) w (omega arith) h
  events_low (e ∷ es) n w two h =
      let sum : sum_by count_of (e ∷ es) ≡ count_of e + sum_by count_of es = sum_by-cons count_of e es in
      let at : n + count_of e + sum_by count_of es ≡ n + sum_by count_of (e ∷ es) = omega (arith, sum) in
      then_low (n + count_of e) (n + sum_by count_of (e ∷ es)) (after_event setup e w) (after_events setup es) (event_low e n w two h)
      (λ x was. subst (λ m. LowTo setup m (after_events setup es x)) at (events_low es (n + count_of e) x (omega (arith, two)) was))

pub seqs_are_few : StepsAreOne → SeqsAreFew
seqs_are_few one run a =
    let setup = run.setup in
    let first : Low setup 2 (new_world setup) = λ b. subst (λ (x : NodeState). next_seq x.part ≤ 2) (sym (new_nodes setup b)) (omega arith) in
    let counted : sum_by count_of (expanded_events setup run.events) ≡ sum_by count_of run.events = expanded_count setup.nodes setup.workers run.events in
    let at_end = events_low one setup run.setup_fits (expanded_events setup run.events) 2 (new_world setup) (omega arith) first in
    subst (λ n. Low setup (2 + n) run.world) counted (subst (LowTo setup (2 + sum_by count_of (expanded_events setup run.events))) run.ends at_end) a
