-- Each message of a run is in range of its encoding.
use Rattle.std.proofs.Common.{◌≡◌, ℕ, zero, suc, ◌-◌, ◌+◌, ◌<◌, ◌≤◌, List, [], ◌∷◌, length, get_or, Bool, true, false, not, ◌==◌, if◌then◌else◌, Some, refl, ap, sym, ◌∙◌, subst, arith, inl, inr}
use Rattle.std.proofs.lemmas.Bool.{cases_Bool, cases_lt, or_cases, leb-true}
use Rattle.rl_base.specs.Lists.{IsPrefix}
use Rattle.rl_base.specs.declared.limit.TheConstants.{SLOTS}
use Rattle.rl_base.proofs.Members.{In, in_contains, all_in}
use Rattle.rl_base.proofs.Prefixes.{prefix_length, prefix_in}
use Rattle.rl_base.proofs.Tests.{neither, true_same}
use Rattle.rl_paxos.specs.Logs as bytes
use Rattle.rl_paxos.specs.Quorums.{is_node, count, is_quorum}
use Rattle.rl_election.specs.World as world
use Rattle.rl_election.specs.World.{Envelope, StreamWorld, Term, no_stream, stream_of}
use Rattle.rl_election.specs.StreamEvents.{streams_after}
use Rattle.rl_election.specs.Chosen.{has_acked, is_chosen_len}
use Rattle.rl_election.proofs.Agree.{acked_in}
use Rattle.rl_election.proofs.Inv.{InLeaderLog, MessageOk, PromiseOk, AcceptOk}
use Rattle.rl_election.proofs.Stays.{inv_of}
use Rattle.rl_msg.specs.declared.msg.Msg.{Msg}
use Rattle.rl_msg.specs.declared.msg.Msg.TheVariants as msg
use Rattle.rl_msg.specs.Parts.{head_of}
use Rattle.rl_msg.specs.Ranges.{HeadInRange, EmbeddedBatchInRange, LogInRange, StreamInRange, StreamsInRange, MsgInRange}
use Rattle.rl_nodes.specs.Setups.{Setup, cluster_of, stream_numbers}
use Rattle.rl_nodes.specs.Streams.{envelope_of, envelopes_of, stream_world}
use Rattle.rl_paxos.proofs.Counting.{node_is}
use Rattle.rl_nodes.proofs.ChangesInStreams.{by_node}
use Rattle.rl_nodes.proofs.Deliveries.{between_as, envelope_in, not_false}
use Rattle.rl_nodes.proofs.Growing.{messages}
use Rattle.rl_nodes.proofs.Tied.{TiedRun}
use Rattle.rl_safe.specs.Led.{IsLed}
use Rattle.rl_safe.specs.Runs.{Run}
use Rattle.rl_safe.proofs.Fair.{AckFair, AllFair}
use Rattle.rl_safe.proofs.KnownGrowth.{LeaderPart}
use Rattle.rl_safe.proofs.KnownLists.{numbers_in}
use Rattle.rl_safe.proofs.KnownWorlds.{AllKnown}
use Rattle.rl_safe.proofs.Listed.{all_from, in_at}

-- ---- lists and counts ----

pub same_at : {A : Type 0} (xs : List A) (k : ℕ) (c d : A) → k < length xs → get_or xs k c ≡ get_or xs k d
same_at [] k c d l = absurd (omega (arith, l))
same_at (x ∷ xs) zero c d l = refl
same_at (x ∷ xs) (suc k) c d l = same_at xs k c d (omega (arith, l))

some_of : (f : ℕ → Bool) (n : ℕ) → 1 ≤ count f n → (a : ℕ) × (f a ≡ true)
some_of f zero h = absurd (omega (arith, h))
some_of f (suc n) h = elim (cases_Bool (f (suc n))) [
  | inl t ↦ (suc n, t)
  | inr t ↦ (let k : 1 ≤ 0 + count f n = subst (λ b. 1 ≤ (if b then 1 else 0) + count f n) t h in some_of f n (omega (arith, k)))
]

-- ---- Acks between streams ----

abbrev pub EnvelopeFair : StreamWorld → world.Message → Type 0
EnvelopeFair v (world.Ack e s len) = (t : Term) × (v.terms e ≡ Some t) × (len ≤ length (stream_of t s).log)
EnvelopeFair v other = Unit {0}

pub envelopes_fair : (v : StreamWorld) (ms : List Msg) → ((m : Msg) → In m ms → AckFair v m) → (n : Envelope) → In n (envelopes_of ms) → EnvelopeFair v n.message
envelopes_fair v [] h n i = absurd i
envelopes_fair v (msg.Prepare from to e ∷ ms) h n i =
    elim i [ inl same ↦ subst (λ (z : Envelope). EnvelopeFair v z.message) (sym same) tt | inr j ↦ envelopes_fair v ms (λ m k. h m (inr k)) n j ]
envelopes_fair v (msg.Promise from to e ballots logs ∷ ms) h n i =
    elim i [ inl same ↦ subst (λ (z : Envelope). EnvelopeFair v z.message) (sym same) tt | inr j ↦ envelopes_fair v ms (λ m k. h m (inr k)) n j ]
envelopes_fair v (msg.Sync from to e s log ∷ ms) h n i =
    elim i [ inl same ↦ subst (λ (z : Envelope). EnvelopeFair v z.message) (sym same) tt | inr j ↦ envelopes_fair v ms (λ m k. h m (inr k)) n j ]
envelopes_fair v (msg.Accept from to e s slot batch ∷ ms) h n i =
    elim i [ inl same ↦ subst (λ (z : Envelope). EnvelopeFair v z.message) (sym same) tt | inr j ↦ envelopes_fair v ms (λ m k. h m (inr k)) n j ]
envelopes_fair v (msg.Ack from to e s len ∷ ms) h n i =
    elim i [
      | inl same ↦ subst (λ (z : Envelope). EnvelopeFair v z.message) (sym same) (h (msg.Ack from to e s len) (inl refl))
      | inr j ↦ envelopes_fair v ms (λ m k. h m (inr k)) n j
    ]
envelopes_fair v (msg.Known from to e s len ∷ ms) h n i = envelopes_fair v ms (λ m k. h m (inr k)) n i

module _ (run : Run) (led : IsLed run.setup run.world) (r : TiedRun run.setup run.world) (known : AllKnown run.setup run.world)
    (fair : AllFair run.setup run.world) where
  abbrev S : Setup
  S = run.setup

  abbrev v : StreamWorld
  v = stream_world run.setup run.world

  abbrev sw : StreamWorld
  sw = streams_after (cluster_of run.setup) r.events

  pub in_between : (m : Msg) → In m (messages run.world.sent) → (n : Envelope) → envelope_of m ≡ Some n → MessageOk sw n.from n.message
  in_between m i n is = (inv_of (cluster_of run.setup) r.events).message_ok n
      (r.tied.back n (subst (In n) (sym (between_as run.world.sent)) (envelope_in (messages run.world.sent) m n i is)))

  -- the log of a leader
  batch_at : (s : ℕ) → is_node run.setup.workers s ≡ true → (e : ℕ) (t : Term) → v.terms e ≡ Some t → (b : bytes.Batch) → In b (stream_of t s).log → EmbeddedBatchInRange b
  batch_at s there e t is b i =
      all_in EmbeddedBatchInRange (stream_of t s).log
      (led.short e s (in_contains (stream_numbers run.setup) s (numbers_in run.setup.workers s there)) (stream_of t s).log (record { term = t; term_is = is; log_is = refl })) b i

  log_in_range : (s : ℕ) → is_node run.setup.workers s ≡ true → (log : bytes.Log) → LeaderPart v s log → LogInRange log
  log_in_range s there log part = elim part [
    | inl none ↦ subst LogInRange (sym none) (record { few = omega arith; each = λ k d l. absurd (omega (arith, l)) })
    | inr c ↦ record {
      few = (let size = prefix_length log (stream_of c.term s).log c.within in let few = fair.slots c.epoch c.term c.term_is s there in omega (arith, size, few));
      each = all_from EmbeddedBatchInRange log (λ b i. batch_at s there c.epoch c.term c.term_is b (prefix_in b log (stream_of c.term s).log c.within i));
    }
  ]

  -- a log between an initial log and its leader's
  pub led_part : (e i : ℕ) (log : bytes.Log) → InLeaderLog sw e i log → (s : ℕ) → s - 1 ≡ i → LeaderPart v s log
  led_part e i log k s same = inr (record {
    epoch = e;
    term = k.term;
    term_is = ap (λ f. f e) (sym r.tied.terms) ∙ k.term_is;
    within = subst (λ j. IsPrefix log (get_or k.term.streams j no_stream).log) (sym same) k.within;
  })

  head : (m : Msg) → In m (messages run.world.sent) → HeadInRange (head_of m).from (head_of m).to (head_of m).epoch
  head m i =
      let h = fair.heads m i in
      let from = by_node run.setup.nodes (head_of m).from h.from in
      let to = by_node run.setup.nodes (head_of m).to (r.tied.receivers m i) in
      let nodes = run.setup_fits.few_nodes in
      let high = h.high in
      record {
        from_low = from.0;
        from_high = (let k = from.1 in omega (arith, k, nodes));
        to_low = to.0;
        to_high = (let k = to.1 in omega (arith, k, nodes));
        epoch_low = h.low;
        epoch_high = omega (arith, high);
      }

  stream_in_range : (s : ℕ) → is_node run.setup.workers s ≡ true → StreamInRange s
  stream_in_range s there =
      let range = by_node run.setup.workers s there in
      let high = range.1 in
      let workers = run.setup_fits.few_workers in
      (range.0, omega (arith, high, workers))

  -- ---- a Promise ----

  module _ (from to e : ℕ) (ballots : List ℕ) (logs : List bytes.Log) (i : In (msg.Promise from to e ballots logs) (messages run.world.sent)) where
    ok : PromiseOk sw from e ballots logs
    ok = in_between (msg.Promise from to e ballots logs) i _ refl

    not_not : (n m : ℕ) → not (n == m) ≡ false → n ≡ m
    not_not n m h = true_same n m (not_false (n == m) h)

    pub sizes : (length ballots ≡ run.setup.workers) × (length logs ≡ run.setup.workers)
    sizes =
        let k = neither (not (length ballots == run.setup.workers)) (not (length logs == run.setup.workers)) (fair.heads (msg.Promise from to e ballots logs) i).whole in
        (not_not (length ballots) run.setup.workers k.0, not_not (length logs) run.setup.workers k.1)

    pub shown_part : (j s : ℕ) → s - 1 ≡ j → LeaderPart v s (get_or logs j [])
    shown_part j s same = elim (cases_lt 0 (get_or ballots j 0)) [
      | inl some ↦ led_part (get_or ballots j 0) j (get_or logs j []) ((ok.each j).has some) s same
      | inr none ↦ inl ((ok.each j).none (omega (arith, none)))
    ]

    index_there : (j : ℕ) → j < run.setup.workers → is_node run.setup.workers (suc j) ≡ true
    index_there j l = numbered (suc j) (omega arith) (omega (arith, l))
      where
        numbered : (s : ℕ) → 1 ≤ s → s ≤ run.setup.workers → is_node run.setup.workers s ≡ true
        numbered s low high = node_is run.setup.workers s low high

    one_back : (j : ℕ) → suc j - 1 ≡ j
    one_back j = omega arith

    streams : StreamsInRange ballots logs
    streams =
        let high = (fair.heads (msg.Promise from to e ballots logs) i).high in
        let size = sizes.0 in
        let some = run.setup_fits.some_workers in
        let few = run.setup_fits.few_workers in
        record {
          some = omega (arith, size, some);
          few = omega (arith, size, few);
          as_many = sizes.1 ∙ sym sizes.0;
          each_ballot = λ k d l. let low = (ok.each k).below in let same = same_at ballots k 0 d l in omega (arith, low, high, same);
          each_log = λ k d l. subst LogInRange (same_at logs k [] d l)
              (log_in_range (suc k) (index_there k (let many = sizes.1 in omega (arith, l, many))) (get_or logs k []) (shown_part k (suc k) (one_back k)));
        }

  -- ---- a Known ----

  known_short : (e s len : ℕ) → is_node run.setup.workers s ≡ true → is_chosen_len (cluster_of run.setup) v e s len ≡ true → len ≤ SLOTS
  known_short e s len there h = elim (or_cases (len == 0) (is_quorum run.setup.second_quorum run.setup.nodes (has_acked v.sent e s len)) h) [
    | inl none ↦ (let zero_len = true_same len 0 none in omega (arith, zero_len))
    | inr quorum ↦ (
        let many = leb-true run.setup.second_quorum (count (has_acked v.sent e s len) run.setup.nodes) quorum in
        let least = run.setup_fits.second in
        let one = some_of (has_acked v.sent e s len) run.setup.nodes (omega (arith, many, least)) in
        let acked = acked_in v.sent e s len one.0 one.1 in
        let k = envelopes_fair v (messages run.world.sent) fair.acks _ (subst (In _) (between_as run.world.sent) acked.2) in
        let low = acked.3 in
        let within = k.2 in
        let few = fair.slots e k.0 k.1 s there in
        omega (arith, low, within, few)
        )
  ]

  -- ---- any message ----

  pub in_range : (m : Msg) → In m (messages run.world.sent) → MsgInRange m
  in_range (msg.Prepare from to e) i = head (msg.Prepare from to e) i
  in_range (msg.Promise from to e ballots logs) i = (head (msg.Promise from to e ballots logs) i, streams from to e ballots logs i)
  in_range (msg.Sync from to e s log) i =
      let there : is_node run.setup.workers s ≡ true = (fair.heads (msg.Sync from to e s log) i).named in
      let k : InLeaderLog sw e (s - 1) log = in_between (msg.Sync from to e s log) i _ refl in
      (head (msg.Sync from to e s log) i, stream_in_range s there, log_in_range s there log (led_part e (s - 1) log k s refl))
  in_range (msg.Accept from to e s slot batch) i =
      let there : is_node run.setup.workers s ≡ true = (fair.heads (msg.Accept from to e s slot batch) i).named in
      let k : AcceptOk sw e s slot batch = in_between (msg.Accept from to e s slot batch) i _ refl in
      let is : v.terms e ≡ Some k.term = ap (λ f. f e) (sym r.tied.terms) ∙ k.term_is in
      let few = fair.slots e k.term is s there in
      let within = k.there in (
        head (msg.Accept from to e s slot batch) i,
        stream_in_range s there,
        omega (arith, few, within),
        batch_at s there e k.term is batch (subst (λ b. In b (stream_of k.term s).log) k.batch_is (in_at (stream_of k.term s).log slot [] k.there)),
      )
  in_range (msg.Ack from to e s len) i =
      let there : is_node run.setup.workers s ≡ true = (fair.heads (msg.Ack from to e s len) i).named in
      let k = fair.acks (msg.Ack from to e s len) i in
      let few = fair.slots e k.0 k.1 s there in
      let within = k.2 in
      (head (msg.Ack from to e s len) i, stream_in_range s there, omega (arith, few, within))
  in_range (msg.Known from to e s len) i =
      let k = known.telling (msg.Known from to e s len) i in
      (head (msg.Known from to e s len) i, stream_in_range s k.1, known_short e s len k.1 k.3)
