-- The logs of a run's leaders are those of its accounts, which are as the laws of families ask.
use Rattle.std.proofs.Common.{◌≡◌, ◌≢◌, ◌⊎◌, ℕ, zero, suc, ◌+◌, ◌-◌, ◌^◌, ◌<◌, ◌≤◌, List, [], ◌∷◌, ◌++◌, length, map, get_or, take, drop, Bool, true, false, if◌then◌else◌, Option, Some, None, refl, sym, ap, ◌∙◌, subst, arith, inl, inr, append_assoc}
use Rattle.std.proofs.lemmas.Bool.{cases_lt}
use Rattle.std.proofs.lemmas.Bool.Decides.{nat_tests, eqb_tells}
use Rattle.std.proofs.lemmas.List.{take_at, drop_at, length-append}
use Rattle.std.specs.List.{range_with_len}
use Rattle.std.specs.List.Sorted.{IsStrictlyIncreasing}
use Rattle.rl_base.specs.Lists.{IsPrefix}
use Rattle.rl_base.specs.Order.{IsBelow}
use Rattle.rl_base.specs.Stamps.{packed}
use Rattle.rl_base.specs.declared.stamp.Stamp.{Stamp}
use Rattle.rl_base.proofs.Members.{In, in_prefix, map_in, in_contains, contains_in}
use Rattle.rl_base.proofs.OrderLemmas.{below_packed}
use Rattle.rl_txn.specs.declared.batch.Batch.{Batch}
use Rattle.rl_txn.specs.Fits.{ItemWritesFit}
use Rattle.rl_txn.specs.declared.item.Item.{Item}
use Rattle.rl_txn.specs.Serial.{rows_after, Runs, indexes_of}
use Rattle.rl_batch.specs.Encoding.{batch_bytes}
use Rattle.rl_paxos.specs.Logs.{Log}
use Rattle.rl_paxos.specs.Quorums.{is_node}
use Rattle.rl_election.specs.World.{StreamWorld, Term}
use Rattle.rl_election.specs.StreamEvents.{StreamEvent, streams_after}
use Rattle.rl_election.specs.Chosen.{HasOrigin, IsFromEarlier}
use Rattle.rl_families.specs.Leaders.{Leaders, AreLeaders, leader_log, open_mark, own_stamps}
use Rattle.rl_families.specs.LeadersLogs.{AreSerialLeaders, FollowOn}
use Rattle.rl_families.specs.Logs.{stamps_along, items_along}
use Rattle.rl_families.proofs.Rising.{Rises, from_rises, above_append}
use Rattle.rl_worker.specs.Opening.{OpenLeader, first_of, item_seen}
use Rattle.rl_nodes.specs.Batches.{batches_of, END_SEQ}
use Rattle.rl_nodes.specs.Openings.{next_request}
use Rattle.rl_nodes.specs.Setups.{Setup, SetupFits, cluster_of}
use Rattle.rl_safe.proofs.Below.{Below}
use Rattle.rl_safe.proofs.Accounts.{Account, first_at, carried_at, log_at, tail_of, carried_in, recovered_of, proposed_of, opening_of, leader_of, core_of, open_items, decided_of, waiting_of, leaders_of, TermOk, EpochOk}
use Rattle.rl_safe.proofs.CoreTurns.{was_made, made_between, strictly_rest}
use Rattle.rl_safe.proofs.Encodings.{AllEncode, none_encoded, batches-append, batches_more, encoded-append, encoded_one, encoded_front, mark_read}
use Rattle.rl_safe.proofs.Fits.{Good, good, decided_ok}
use Rattle.rl_safe.proofs.LeadStreams.{firsts_size}
use Rattle.rl_safe.proofs.Origins.{Recovers, stamp_from}
use Rattle.rl_safe.proofs.Sayings.{said_own, said_rise, item_decided, decided_item}

-- ---- the stamps of one list ----

-- strictly rising numbers of stamps are rising stamps
packed_above : (x : Item) (xs : List Item) → IsStrictlyIncreasing (map (λ (i : Item). packed i.stamp) (x ∷ xs)) → (y : Item) → In y xs → packed x.stamp < packed y.stamp
packed_above x [] h y i = absurd i
packed_above x (z ∷ zs) h y i = elim i [
  | inl e ↦ subst (λ (k : Item). packed x.stamp < packed k.stamp) (sym e) (h 0 (omega arith))
  | inr j ↦ (let first = h 0 (omega arith) in
      let more = packed_above z zs (strictly_rest (packed x.stamp) (map (λ (i : Item). packed i.stamp) (z ∷ zs)) h) y j in
      chain (packed x.stamp) (packed z.stamp) (packed y.stamp) first more)
]
  where
    chain : (a b c : ℕ) → a < b → b < c → a < c
    chain a b c p q = omega (arith, p, q)

packed_rise : (xs : List Item) → ((x : Item) → In x xs → x.stamp.seq < 2 ^ 40) → IsStrictlyIncreasing (map (λ (i : Item). packed i.stamp) xs)
    → Rises (map (λ (x : Item). x.stamp) xs)
packed_rise [] small h = tt
packed_rise (x ∷ xs) small h = (
  above_append x.stamp [] (map (λ (z : Item). z.stamp) xs) tt
      (λ u i. let m = map_in (λ (z : Item). z.stamp) u xs i in
      subst (IsBelow x.stamp) m.2 (below_packed x.stamp m.0.stamp (small x (inl refl)) (small m.0 (inr m.1)) (packed_above x xs h m.0 m.1))),
  packed_rise xs (λ y i. small y (inr i)) (strictly_rest (packed x.stamp) (map (λ (i : Item). packed i.stamp) xs) h),
)

-- ---- one epoch ----

module _ (b : Below) (setup : Setup) (sized : SetupFits setup) (e : ℕ) (account : Account) where
  in_range : (s : ℕ) → 1 ≤ s → s ≤ setup.workers → is_node setup.workers s ≡ true
  in_range s low high = grind (arith, nat_tests)

  -- what is proposed is decided, and the worker's
  pub proposed_decided : (o : Option Term) → EpochOk setup e o account → (s : ℕ) (x : Item) → In x (items_along (proposed_of setup o s))
      → In x (decided_of setup e o account) × (x.worker ≡ s)
  proposed_decided None ok s x i = absurd i
  proposed_decided (Some t) ok s x i = by_stream (is_node setup.workers s) refl i
    where
      by_stream : (c : Bool) → is_node setup.workers s ≡ c → In x (items_along (if c then batches_of (tail_of (first_at t.initial s) (log_at t.streams s)) else []))
          → In x (decided_of setup e (Some t) account) × (x.worker ≡ s)
      by_stream false out j = absurd j
      by_stream true there j = item_decided b (leader_of setup e (carried_in setup t.initial)) account.turns s (batches_of (tail_of (first_at t.initial s) (log_at t.streams s)))
          (account.pending s) (ok.each s there).says x (in_prefix _ (account.pending s) x j)

  -- each decided item is proposed, or waits
  pub decided_proposed : (o : Option Term) → EpochOk setup e o account → (x : Item) → In x (decided_of setup e o account)
      → (1 ≤ x.worker) × (x.worker ≤ setup.workers) × In x (items_along (proposed_of setup o x.worker) ++ waiting_of setup e o account x.worker)
  decided_proposed None ok x i = absurd i
  decided_proposed (Some t) ok x i =
      let l : OpenLeader = leader_of setup e (carried_in setup t.initial) in
      let k = map_in (item_seen e) x (core_of setup e (carried_in setup t.initial) account.turns).decided i in
      let made = made_between b l account.turns k.0.worker k.0.stamp (was_made b l account.turns k.0 k.1) in
      let size = firsts_size setup sized e (carried_in setup t.initial) in
      let last : k.0.worker ≤ setup.workers = (let high = made.there in omega (arith, high, size)) in
      let there = in_range k.0.worker made.first last in
      subst (λ (y : Item). (1 ≤ y.worker) × (y.worker ≤ setup.workers) × In y (items_along (proposed_of setup (Some t) y.worker) ++ waiting_of setup e (Some t) account y.worker)) k.2 (
        made.first,
        last,
        subst (λ c. In (item_seen e k.0) (items_along (if c then batches_of (tail_of (first_at t.initial k.0.worker) (log_at t.streams k.0.worker)) else [])
            ++ (if c then account.pending k.0.worker ++ open_items setup e k.0.worker (core_of setup e (carried_in setup t.initial) account.turns) else []))) (sym there)
            (decided_item b l account.turns k.0.worker (batches_of (tail_of (first_at t.initial k.0.worker) (log_at t.streams k.0.worker)))
            (account.pending k.0.worker) (ok.each k.0.worker there).says k.0 k.1 refl),
      )

  abbrev stamps_of_stream : Option Term → ℕ → List Stamp
  stamps_of_stream o s = stamps_along (open_mark e ∷ proposed_of setup o s) ++ map (λ (x : Item). x.stamp) (waiting_of setup e o account s)

  abbrev mark_stamp : Stamp
  mark_stamp = record { epoch = e; seq = 1 }

  -- the stamps of a stream rise from the open mark on, and are of the epoch
  pub stream_rises : (o : Option Term) → EpochOk setup e o account → (s : ℕ) → Rises (stamps_of_stream o s)
  stream_rises None ok s = (tt, tt)
  stream_rises (Some t) ok s = by_stream (is_node setup.workers s) refl
    where
      by_stream : (c : Bool) → is_node setup.workers s ≡ c
          → Rises (stamps_along (open_mark e ∷ (if c then batches_of (tail_of (first_at t.initial s) (log_at t.streams s)) else []))
          ++ map (λ (x : Item). x.stamp) (if c then account.pending s ++ open_items setup e s (core_of setup e (carried_in setup t.initial) account.turns) else []))
      by_stream false out = (tt, tt)
      by_stream true there =
          let l : OpenLeader = leader_of setup e (carried_in setup t.initial) in
          let told = batches_of (tail_of (first_at t.initial s) (log_at t.streams s)) in
          let says = (ok.each s there).says in (
            above_append mark_stamp [] _ tt (λ u i. let own = said_own b l account.turns s told (account.pending s) says u i in inr (sym own.epoch, (let low = own.low in omega (arith, low)))),
            said_rise b l account.turns s told (account.pending s) says,
          )

  pub stream_own : (o : Option Term) → EpochOk setup e o account → (s : ℕ) (u : Stamp) → In u (stamps_of_stream o s) → (u.epoch ≡ e) × (u.seq ≤ END_SEQ)
  stream_own None ok s u i = elim i [ inl same ↦ (ap (λ (v : Stamp). v.epoch) same, (let q = ap (λ (v : Stamp). v.seq) same in omega (arith, q))) | inr j ↦ absurd j ]
  stream_own (Some t) ok s u i = by_stream (is_node setup.workers s) refl i
    where
      by_stream : (c : Bool) → is_node setup.workers s ≡ c
          → In u (stamps_along (open_mark e ∷ (if c then batches_of (tail_of (first_at t.initial s) (log_at t.streams s)) else []))
          ++ map (λ (x : Item). x.stamp) (if c then account.pending s ++ open_items setup e s (core_of setup e (carried_in setup t.initial) account.turns) else []))
          → (u.epoch ≡ e) × (u.seq ≤ END_SEQ)
      by_stream false out j = elim j [ inl same ↦ (ap (λ (v : Stamp). v.epoch) same, (let q = ap (λ (v : Stamp). v.seq) same in omega (arith, q))) | inr k ↦ absurd k ]
      by_stream true there j = elim j [
        | inl same ↦ (ap (λ (v : Stamp). v.epoch) same, (let q = ap (λ (v : Stamp). v.seq) same in omega (arith, q)))
        | inr k ↦ (
            let own = said_own b (leader_of setup e (carried_in setup t.initial)) account.turns s (batches_of (tail_of (first_at t.initial s) (log_at t.streams s)))
            (account.pending s) (ok.each s there).says u k in
            (own.epoch, own.high)
            )
      ]

  -- ---- what is decided is serial behind the opening list ----

  pub decided_small : (o : Option Term) → Good setup e (recovered_of setup o) → (x : Item) → In x (decided_of setup e o account) → x.stamp.seq < 2 ^ 40
  decided_small o g x i = (decided_ok b setup sized e o account g x i).seq

  pub decided_rises : (o : Option Term) → Good setup e (recovered_of setup o) → Rises (map (λ (x : Item). x.stamp) (decided_of setup e o account))
  decided_rises None g = tt
  decided_rises (Some t) g = packed_rise (decided_of setup e (Some t) account) (decided_small (Some t) g)
      (b.serially (leader_of setup e (carried_in setup t.initial)) account.turns g.fits).rising

  pub decided_runs : (o : Option Term) → Good setup e (recovered_of setup o)
      → Runs setup.program.tables setup.program.lists (rows_after setup.program.rows (opening_of setup e (recovered_of setup o))) (decided_of setup e o account)
  decided_runs None g = tt
  decided_runs (Some t) g = (b.serially (leader_of setup e (carried_in setup t.initial)) account.turns g.fits).runs

  -- each worker's items follow on from those of the opening list
  none_of : (w : ℕ) (xs : List Item) → ((x : Item) → In x xs → x.worker ≢ w) → indexes_of w xs ≡ []
  none_of w [] h = refl
  none_of w (x ∷ xs) h = elim (eqb_tells x.worker w) [
    | inl k ↦ absurd (h x (inl refl) k.1)
    | inr k ↦ rw k.0 (none_of w xs (λ y i. h y (inr i)))
  ]

  first_request : (items : List Item) (n w : ℕ) → 1 ≤ w → w ≤ n → first_of (map (next_request items) (range_with_len 1 n)) w ≡ next_request items w
  first_request items n zero low high = absurd (omega (arith, low))
  first_request items n (suc w) low high = at_range 1 n w (omega (arith, high)) ∙ ap (next_request items) one_more
    where
      one_more : 1 + w ≡ suc w
      one_more = omega arith

      at_range : (a n w : ℕ) → w < n → get_or (map (next_request items) (range_with_len a n)) w 0 ≡ next_request items (a + w)
      at_range a zero w l = absurd (omega (arith, l))
      at_range a (suc n) zero l = ap (next_request items) (let same : a ≡ a + 0 = omega arith in same)
      at_range a (suc n) (suc w) l = at_range (a + 1) n w (omega (arith, l)) ∙ ap (next_request items) (let same : a + 1 + w ≡ a + suc w = omega arith in same)

  module _ (t : Term) (ok : EpochOk setup e (Some t) account) (g : Good setup e (carried_in setup t.initial)) (w : ℕ) where
    abbrev items : List Item
    items = decided_of setup e (Some t) account

    abbrev opening : List Item
    opening = opening_of setup e (carried_in setup t.initial)

    abbrev GoOn : Type 0
    GoOn = indexes_of w items ≡ range_with_len (1 + length (indexes_of w opening)) (length (indexes_of w items))

    nothing : indexes_of w items ≡ [] → GoOn
    nothing empty = empty ∙ ap (λ ks. range_with_len (1 + length (indexes_of w opening)) (length ks)) (sym empty)

    term_follows : GoOn
    term_follows = elim (cases_lt 0 w) [
      | inl low ↦ elim (cases_lt setup.workers w) [
        | inl past ↦ nothing (none_of w items (λ x i same. let d = decided_proposed (Some t) ok x i in (let high = d.1 in omega (arith, past, high, same))))
        | inr high ↦ b.follow_on (leader_of setup e (carried_in setup t.initial)) account.turns g.fits w
            ∙ ap (λ k. range_with_len k (length (indexes_of w items))) (first_request opening (length setup.program.lists) w (omega (arith, low)) (let one = sized.one_list_each in omega (arith, one, high)))
      ]
      | inr none ↦ nothing (none_of w items (λ x i same. let d = decided_proposed (Some t) ok x i in (let low = d.0 in omega (arith, none, low, same))))
    ]

  pub decided_follows : (o : Option Term) → EpochOk setup e o account → Good setup e (recovered_of setup o)
      → FollowOn (opening_of setup e (recovered_of setup o)) (decided_of setup e o account)
  decided_follows None ok g w = refl
  decided_follows (Some t) ok g w = term_follows t ok g w

-- ---- all epochs ----

module _ (b : Below) (setup : Setup) (sized : SetupFits setup) (events : List StreamEvent) (terms : ℕ → Option Term)
    (same : (streams_after (cluster_of setup) events).terms ≡ terms) (accounts : ℕ → Account) (epochs : (e : ℕ) → EpochOk setup e (terms e) (accounts e)) where
  abbrev all : Leaders
  all = leaders_of setup terms accounts

  abbrev sw : StreamWorld
  sw = streams_after (cluster_of setup) events

  term_at : (e : ℕ) (t : Term) → terms e ≡ Some t → TermOk setup e t.initial t.streams (accounts e)
  term_at e t is = subst (λ o. EpochOk setup e o (accounts e)) is (epochs e)

  origin : (e : ℕ) (t : Term) → terms e ≡ Some t → (s : ℕ) → is_node setup.workers s ≡ true → HasOrigin (cluster_of setup) sw e s (first_at t.initial s)
  origin e t is s there = b.origins (record { cluster = cluster_of setup; events = events; epoch = e; stream = s; in_cluster = there }) (first_at t.initial s)
      (record { term = t; term_is = ap (λ f. f e) same ∙ is; initial_is = refl })

  carried_is : (e : ℕ) (t : Term) (is : terms e ≡ Some t) (s : ℕ) (there : is_node setup.workers s ≡ true) → carried_at t.initial s ≡ (origin e t is s there).carried
  carried_is e t is s there =
      let o = origin e t is s there in
      ap (λ log. take (length log - 1) log) o.initial_is
      ∙ take_at o.carried (batch_bytes (open_mark e) ∷ []) _ (let n = length-append o.carried (batch_bytes (open_mark e) ∷ []) in omega (arith, n))

  -- an initial log ends with the open mark
  pub mark_ends : (e : ℕ) (t : Term) → terms e ≡ Some t → (s : ℕ) → is_node setup.workers s ≡ true
      → first_at t.initial s ≡ carried_at t.initial s ++ batch_bytes (open_mark e) ∷ []
  mark_ends e t is s there = (origin e t is s there).initial_is ∙ ap (λ z. z ++ batch_bytes (open_mark e) ∷ []) (sym (carried_is e t is s there))

  pub initial_is : (e : ℕ) (t : Term) → terms e ≡ Some t → (s : ℕ) → is_node setup.workers s ≡ true
      → batches_of (first_at t.initial s) ≡ all.recovered e s ++ open_mark e ∷ []
  initial_is e t is s there =
      let ok = term_at e t is in
      ap batches_of (mark_ends e t is s there)
      ∙ batches_more (carried_at t.initial s) (batch_bytes (open_mark e)) (open_mark e) (mark_read b e ok.low ok.high).0
      ∙ ap (λ c. (if c then batches_of (carried_at t.initial s) else []) ++ open_mark e ∷ []) (sym there)
      ∙ ap (λ o. recovered_of setup o s ++ open_mark e ∷ []) (sym is)

  -- a log is its initial log and what stands behind
  joined : (first log : Log) → IsPrefix first log → log ≡ first ++ tail_of first log
  joined first log p = sym p.1 ∙ ap (λ z. first ++ z) (sym (drop_at first p.0 (length first) refl) ∙ ap (drop (length first)) p.1)

  pub log_told : (e : ℕ) (t : Term) → terms e ≡ Some t → (s : ℕ) → is_node setup.workers s ≡ true
      → batches_of (log_at t.streams s) ≡ all.recovered e s ++ (open_mark e ∷ batches_of (tail_of (first_at t.initial s) (log_at t.streams s)))
  log_told e t is s there =
      let first = first_at t.initial s in
      let log = log_at t.streams s in
      ap batches_of (joined first log ((term_at e t is).each s there).begins)
      ∙ batches-append first (tail_of first log)
      ∙ ap (λ z. z ++ batches_of (tail_of first log)) (initial_is e t is s there)
      ∙ append_assoc (all.recovered e s) (open_mark e ∷ []) (batches_of (tail_of first log))

  log_parts : (e : ℕ) (t : Term) → terms e ≡ Some t → (s : ℕ) → is_node setup.workers s ≡ true
      → batches_of (log_at t.streams s) ≡ all.recovered e s ++ (open_mark e ∷ all.proposed e s)
  log_parts e t is s there =
      let first = first_at t.initial s in
      let log = log_at t.streams s in
      log_told e t is s there
      ∙ ap (λ c. all.recovered e s ++ (open_mark e ∷ (if c then batches_of (tail_of first log) else []))) (sym there)
      ∙ ap (λ o. all.recovered e s ++ (open_mark e ∷ proposed_of setup o s)) (sym is)

  pub log_is : (e : ℕ) (t : Term) → terms e ≡ Some t → (s : ℕ) → is_node setup.workers s ≡ true → batches_of (log_at t.streams s) ≡ leader_log all e s
  log_is zero t is s there = absurd (let low = (term_at zero t is).low in omega (arith, low))
  log_is (suc e) t is s there = log_parts (suc e) t is s there

  -- a log that begins the log of an earlier epoch
  abbrev From : (e s : ℕ) → List Batch → Type 0
  From e s log = (before : ℕ) × (before < e) × IsPrefix log (leader_log all before s)

  nothing_from : (e s : ℕ) → 0 < e → From e s []
  nothing_from e s born = (0, born, ([], refl))

  carried_from : (e : ℕ) → 0 < e → (t : Term) (is : terms e ≡ Some t) (s : ℕ) (there : is_node setup.workers s ≡ true)
      → ((origin e t is s there).carried ≡ []) ⊎ IsFromEarlier sw e s (origin e t is s there).carried → From e s (batches_of (carried_at t.initial s))
  carried_from e born t is s there (inl none) = subst (From e s) (sym (ap batches_of (carried_is e t is s there ∙ none))) (nothing_from e s born)
  carried_from e born t is s there (inr k) =
      let adopted = k.is_adopted in
      let u = adopted.is_log.term in
      let u_is : terms k.earlier ≡ Some u = ap (λ f. f k.earlier) (sym same) ∙ adopted.is_log.term_is in
      let within = adopted.within in (
        k.earlier,
        k.is_earlier,
        (
          batches_of within.0,
          ap (λ z. batches_of z ++ batches_of within.0) (carried_is e t is s there)
              ∙ sym (batches-append (origin e t is s there).carried within.0)
              ∙ ap batches_of (within.1 ∙ sym adopted.is_log.log_is)
              ∙ log_is k.earlier u u_is s there,
        ),
      )

  stream_from : (e : ℕ) → 0 < e → (t : Term) → terms e ≡ Some t → (s : ℕ) (c : Bool) → is_node setup.workers s ≡ c
      → From e s (if c then batches_of (carried_at t.initial s) else [])
  stream_from e born t is s false out = nothing_from e s born
  stream_from e born t is s true there = carried_from e born t is s there (origin e t is s there).from

  term_from : (e : ℕ) → 0 < e → (s : ℕ) (o : Option Term) → terms e ≡ o → From e s (recovered_of setup o s)
  term_from e born s None is = nothing_from e s born
  term_from e born s (Some t) is = stream_from e born t is s (is_node setup.workers s) refl

  pub recovers : Recovers all
  recovers e s born = term_from e born s (terms e) refl

  proposes : (e s : ℕ) (x : Item) → In x (items_along (all.proposed e s)) → In x (all.decided e)
  proposes e s x i = (proposed_decided b setup sized e (accounts e) (terms e) (epochs e) s x i).0

  pub good_at : (e : ℕ) → 0 < e → Good setup e (recovered_of setup (terms e))
  good_at e born = good b setup sized terms accounts recovers proposes e born

  -- an epoch with a term is above 0
  pub good_term : (e : ℕ) (t : Term) → terms e ≡ Some t → Good setup e (carried_in setup t.initial)
  good_term e t is = subst (λ o. Good setup e (recovered_of setup o)) is (good_at e (let low = (term_at e t is).low in omega (arith, low)))

  -- all stamps along a log end at the end mark's
  pub seqs_end : (e : ℕ) (t : Term) → terms e ≡ Some t → (s : ℕ) → (u : Stamp) → In u (stamps_along (all.recovered e s)) → u.seq ≤ END_SEQ
  seqs_end e t is s u i =
      let k = stamp_from all recovers e s (let low = (term_at e t is).low in omega (arith, low)) u i in
      (stream_own b setup sized k.0 (accounts k.0) (terms k.0) (epochs k.0) s u (in_prefix (stamps_along (open_mark k.0 ∷ all.proposed k.0 s)) _ u k.3)).1

  by_epoch : (e : ℕ) (P : Option Term → Type 0) → P None → ((t : Term) → terms e ≡ Some t → P (Some t)) → P (terms e)
  by_epoch e P none some = by_term (terms e) refl
    where
      by_term : (o : Option Term) → terms e ≡ o → P o
      by_term None is = none
      by_term (Some t) is = some t is

  rising_at : (e : ℕ) → Rises (map (λ (x : Item). x.stamp) (all.decided e))
  rising_at e = by_epoch e (λ o. Rises (map (λ (x : Item). x.stamp) (decided_of setup e o (accounts e)))) tt
      (λ t is. decided_rises b setup sized e (accounts e) (Some t) (good_term e t is))

  pub are_leaders : AreLeaders all setup.workers
  are_leaders = record {
    recovers = recovers;
    rising = λ e s. from_rises (own_stamps all e s) (stream_rises b setup sized e (accounts e) (terms e) (epochs e) s);
    own = λ e s u c. (stream_own b setup sized e (accounts e) (terms e) (epochs e) s u (contains_in (own_stamps all e s) u c)).0;
    proposes = λ e s x c. let k = proposed_decided b setup sized e (accounts e) (terms e) (epochs e) s x (contains_in _ x c) in (in_contains _ x k.0, k.1);
    decides = λ e x c. let k = decided_proposed b setup sized e (accounts e) (terms e) (epochs e) x (contains_in _ x c) in (k.0, k.1, in_contains _ x k.2);
    serial = λ e. from_rises (map (λ (x : Item). x.stamp) (all.decided e)) (rising_at e);
  }

  small_at : (e : ℕ) (x : Item) → In x (all.decided e) → x.stamp.seq < 2 ^ 40
  small_at e x = by_epoch e (λ o. In x (decided_of setup e o (accounts e)) → x.stamp.seq < 2 ^ 40) (λ i. absurd i)
      (λ t is i. decided_small b setup sized e (accounts e) (Some t) (good_term e t is) x i)

  pub are_serial : AreSerialLeaders setup.program.tables setup.program.lists setup.program.rows all setup.workers
  are_serial = record {
    small = λ e x c. small_at e x (contains_in _ x c);
    runs = λ e born. decided_runs b setup sized e (accounts e) (terms e) (good_at e born);
    follow = λ e born. decided_follows b setup sized e (accounts e) (terms e) (epochs e) (good_at e born);
  }

  -- each element of a log encodes a batch
  encoded_up : (bound e : ℕ) → e < bound → (t : Term) → terms e ≡ Some t → (s : ℕ) → is_node setup.workers s ≡ true → AllEncode (log_at t.streams s)
  encoded_up zero e less t is s there = absurd (omega (arith, less))
  encoded_up (suc bound) e less t is s there =
      let ok = term_at e t is in
      let o = origin e t is s there in
      let first = first_at t.initial s in
      let log = log_at t.streams s in
      let carried : AllEncode o.carried = elim o.from [
        | inl none ↦ subst AllEncode (sym none) none_encoded
        | inr k ↦ (
            let adopted = k.is_adopted in
            let u = adopted.is_log.term in
            let u_is : terms k.earlier ≡ Some u = ap (λ f. f k.earlier) (sym same) ∙ adopted.is_log.term_is in
            encoded_front o.carried adopted.within.0
            (subst AllEncode (sym (adopted.within.1 ∙ sym adopted.is_log.log_is))
            (encoded_up bound k.earlier (let low = k.is_earlier in omega (arith, less, low)) u u_is s there))
            )
      ] in
      subst AllEncode (sym (joined first log (ok.each s there).begins))
      (encoded-append first (tail_of first log)
      (subst AllEncode (sym o.initial_is) (encoded-append o.carried (batch_bytes (open_mark e) ∷ []) carried
      (encoded_one (batch_bytes (open_mark e)) (open_mark e) (mark_read b e ok.low ok.high))))
      (ok.each s there).encoded)

  pub encoded_at : (e : ℕ) (t : Term) → terms e ≡ Some t → (s : ℕ) → is_node setup.workers s ≡ true → AllEncode (log_at t.streams s)
  encoded_at e t is s there = encoded_up (suc e) e (omega arith) t is s there

  -- what is decided fits the tables
  pub fits_at : (e : ℕ) (x : Item) → In x (all.decided e) → ItemWritesFit setup.program.tables x
  fits_at e x = by_epoch e (λ o. In x (decided_of setup e o (accounts e)) → ItemWritesFit setup.program.tables x) (λ i. absurd i)
      (λ t is i. (decided_ok b setup sized e (Some t) (accounts e) (good_term e t is) x i).fits)
