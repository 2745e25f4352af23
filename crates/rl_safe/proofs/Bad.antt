-- No message of a run is bad at its receiver.
use Rattle.std.proofs.Common.{◌≡◌, ℕ, zero, suc, ◌-◌, ◌+◌, ◌<◌, ◌≤◌, List, [], ◌∷◌, ◌++◌, length, get_or, take, Bool, true, false, not, ◌==◌, ◌||◌, ◌&&◌, nat_lt, nat_le, is_some, Contains, Option, Some, None, refl, ap, sym, ◌∙◌, subst, arith, inl, inr, eq-eqb}
use Rattle.std.proofs.lemmas.Bool.{cases_Bool, cases_lt, leb-true}
use Rattle.std.proofs.lemmas.List.{length-take-le}
use Rattle.std.specs.List.{list_all, list_any}
use Rattle.std.specs.Option.{option_map_or}
use Rattle.rl_base.specs.Epochs.{owner_of}
use Rattle.rl_base.specs.Lists.{IsPrefix, updated}
use Rattle.rl_base.specs.Order.{is_below}
use Rattle.rl_base.specs.declared.stamp.Stamp.{Stamp}
use Rattle.rl_base.proofs.Members.{In, in_contains, all_in, in_suffix, any_false}
use Rattle.rl_base.proofs.OrderLemmas.{is_below_from}
use Rattle.rl_base.proofs.Prefixes.{prefix_trans, prefix_next}
use Rattle.rl_base.proofs.Tests.{both, both_true, or_false, lt_false, true_lt, true_same}
use Rattle.rl_base.proofs.UpdateLemmas.{by_updated, updated_same}
use Rattle.rl_paxos.specs.Acceptors.{kept_ballot, kept_log, refuses, refuses_accept}
use Rattle.rl_paxos.specs.Logs as bytes
use Rattle.rl_paxos.specs.Quorums.{is_node}
use Rattle.rl_paxos.proofs.Counting.{node_is}
use Rattle.rl_txn.specs.declared.item.Item.{Item}
use Rattle.rl_txn.specs.Fits.{WriteFits}
use Rattle.rl_election.specs.World as world
use Rattle.rl_election.specs.World.{StreamWorld, Term, no_stream, stream_of}
use Rattle.rl_election.specs.StreamEvents.{streams_after}
use Rattle.rl_election.specs.Chosen.{IsLeaderLog, IsLongestChosen}
use Rattle.rl_election.proofs.Inv.{InLeaderLog, PromiseOk, AcceptOk, StandsOk, RoleOk, initial_at}
use Rattle.rl_election.proofs.Stays.{inv_of}
use Rattle.rl_election.proofs.Steps.{some_same, some_none}
use Rattle.rl_families.specs.Leaders.{Leaders, AreLeaders, ArePrefixesOfLeaders, leader_log, open_mark}
use Rattle.rl_families.specs.Logs.{stamps_along, items_along, first_stamp}
use Rattle.rl_families.proofs.Extending.{own_epoch, told_own, recovered_ok, f_rises, f_item}
use Rattle.rl_families.proofs.Logs.{stamps_along-append, items_along-append, split_stamps, stamps_pre}
use Rattle.rl_families.proofs.Rising.{Rises, from_rises, rises_back, behind, last_is}
use Rattle.rl_msg.specs.declared.msg.Msg.{Msg}
use Rattle.rl_msg.specs.declared.msg.Msg.TheVariants as msg
use Rattle.rl_msg.specs.Parts.{head_of}
use Rattle.rl_nodes.specs.BadMessages.{Carried, carried_from, carried, stream_named, proposer_in, has_no_batch, has_other_worker, has_later_epoch, has_disorder, has_misfit, write_fits, is_wrong, is_astray, is_usurped, is_partial, begins, goes_on, would_append, would_adopt, is_early, is_past_end, is_untrue, is_bad}
use Rattle.rl_nodes.specs.Batches.{batch_of, batches_of, are_batches, are_rising}
use Rattle.rl_nodes.specs.Nodes.{NodeState, Part, Follows, Stands, Leads, leading, known_log}
use Rattle.rl_nodes.specs.Setups.{cluster_of, stream_numbers}
use Rattle.rl_nodes.specs.Streams.{stream_role, stream_world, HasTerm}
use Rattle.rl_nodes.specs.World.{node_of, term_of}
use Rattle.rl_nodes.proofs.ChangesInStreams.{by_node}
use Rattle.rl_nodes.proofs.Growing.{messages}
use Rattle.rl_nodes.proofs.Telling.{tests_tell}
use Rattle.rl_nodes.proofs.Tied.{TiedRun}
use Rattle.rl_safe.specs.Led.{IsLed}
use Rattle.rl_safe.specs.Runs.{Run}
use Rattle.rl_safe.proofs.Encodings.{batches-append}
use Rattle.rl_safe.proofs.Fair.{AllFair}
use Rattle.rl_safe.proofs.InRange.{in_between, sizes, same_at}
use Rattle.rl_safe.proofs.JoinedSafe.{chosen_logs, are_prefixes, begins_initial}
use Rattle.rl_safe.proofs.KnownGrowth.{LeaderPart}
use Rattle.rl_safe.proofs.KnownLists.{numbers_in, batches_begin, front}
use Rattle.rl_safe.proofs.KnownMoves.{NamesOne}
use Rattle.rl_safe.proofs.KnownNodes.{keeps_logs}
use Rattle.rl_safe.proofs.KnownWorlds.{AllKnown}
use Rattle.rl_safe.proofs.Sent.{allowed_accept}

-- ---- tests ----

all_true : {A : Type 0} (f : A → Bool) (xs : List A) → ((x : A) → In x xs → f x ≡ true) → list_all f xs ≡ true
all_true f [] h = refl
all_true f (x ∷ xs) h = both_true (f x) (list_all f xs) (h x (inl refl)) (all_true f xs (λ y i. h y (inr i)))

pub not_true : (b : Bool) → b ≡ true → not b ≡ false
not_true b h = ap not h

-- stamps that rise go on where they are parted
pub goes_on_true : (before after : List Stamp) → Rises (before ++ after) → goes_on before after ≡ true
goes_on_true [] after r = refl
goes_on_true (b ∷ bs) [] r =
    let t = last_is b bs in
    ap (λ o. option_map_or (λ last. option_map_or (is_below last) (first_stamp []) true) o true) t.2
goes_on_true (b ∷ bs) (c ∷ cs) r =
    let t = last_is b bs in
    ap (λ o. option_map_or (λ last. option_map_or (is_below last) (first_stamp (c ∷ cs)) true) o true) t.2
    ∙ is_below_from t.0 c (behind (b ∷ bs) (c ∷ cs) r t.0 t.1 c (inl refl))

-- ---- stamps along a leader's log ----

pub up_to : (l : Leaders) (n : ℕ) → AreLeaders l n → (e s : ℕ) (t : Stamp) → In t (stamps_along (leader_log l e s)) → t.epoch ≤ e
up_to l n g zero s t i = absurd i
up_to l n g (suc e) s t i = elim (split_stamps t (l.recovered (suc e) s) (open_mark (suc e) ∷ l.proposed (suc e) s) i) [
  | inl j ↦ (let k = (recovered_ok l n g (suc e) s (omega arith) t j).1 in omega (arith, k))
  | inr j ↦ (let k = own_epoch l n g (suc e) s t (told_own l n g (suc e) s t j) in omega (arith, k))
]

-- ---- logs in messages ----

are_back : (xs ys : bytes.Log) → are_batches (xs ++ ys) ≡ true → are_batches ys ≡ true
are_back [] ys h = h
are_back (x ∷ xs) ys h = are_back xs ys (both (is_some (batch_of x)) (are_batches (xs ++ ys)) h).1

are_front : (xs ys : bytes.Log) → are_batches (xs ++ ys) ≡ true → are_batches xs ≡ true
are_front [] ys h = refl
are_front (x ∷ xs) ys h =
    let k = both (is_some (batch_of x)) (are_batches (xs ++ ys)) h in
    both_true (is_some (batch_of x)) (are_batches xs) k.0 (are_front xs ys k.1)

module _ (run : Run) (led : IsLed run.setup run.world) (r : TiedRun run.setup run.world) (known : AllKnown run.setup run.world)
    (fair : AllFair run.setup run.world) where
  abbrev v : StreamWorld
  v = stream_world run.setup run.world

  abbrev sw : StreamWorld
  sw = streams_after (cluster_of run.setup) r.events

  abbrev There : ℕ → Type 0
  There s = is_node run.setup.workers s ≡ true

  abbrev longest : (log : ℕ → bytes.Log) × ((s : ℕ) → There s → IsLongestChosen (cluster_of run.setup) (stream_world run.setup run.world) s (log s))
  longest = chosen_logs run.setup run.setup_fits run.events run.events_fit run.world run.ends

  -- a log stands in the log of a leader of an epoch up to some
  record StandsIn (s top : ℕ) (log : bytes.Log) : Type 0 where
    pub before : bytes.Log
    pub epoch : ℕ
    pub low : epoch ≤ top
    pub term : Term
    pub term_is : v.terms epoch ≡ Some term
    pub within : IsPrefix (before ++ log) (stream_of term s).log

  module _ (s top : ℕ) (log : bytes.Log) (there : There s) (k : StandsIn s top log) where
    abbrev all : bytes.Log
    all = k.before ++ log

    abbrev alone : ℕ → bytes.Log
    alone = updated (λ u. []) s (k.before ++ log)

    part : LeaderPart v s (k.before ++ log)
    part = inr (record { epoch = k.epoch; term = k.term; term_is = k.term_is; within = k.within })

    told : ArePrefixesOfLeaders led.leaders run.setup.workers (λ u. batches_of (alone u))
    told = are_prefixes run.setup run.setup_fits run.world led r known longest.0 longest.1 alone
        (λ u in_stream. by_updated (LeaderPart v u) (λ z. []) s (k.before ++ log) u (λ same. subst (λ z. LeaderPart v z (k.before ++ log)) (sym same) part) (λ other. inl refl))

    here : alone s ≡ k.before ++ log
    here = updated_same (λ u. []) s (k.before ++ log)

    range : (1 ≤ s) × (s ≤ run.setup.workers)
    range = by_node run.setup.workers s there

    parted : batches_of all ≡ batches_of k.before ++ batches_of log
    parted = batches-append k.before log

    rise : Rises (stamps_along (batches_of k.before) ++ stamps_along (batches_of log))
    rise = subst Rises (ap stamps_along (ap batches_of here ∙ parted) ∙ stamps_along-append (batches_of k.before) (batches_of log))
        (f_rises led.leaders run.setup.workers led.are_leaders (λ u. batches_of (alone u)) told s range.0 range.1)

    item : (x : Item) → In x (items_along (batches_of log)) → In x (led.leaders.decided x.stamp.epoch) × (x.worker ≡ s)
    item x i = f_item led.leaders run.setup.workers led.are_leaders (λ u. batches_of (alone u)) told s range.0 range.1 x
        (subst (λ z. In x (items_along z)) (sym (ap batches_of here ∙ parted))
        (subst (In x) (sym (items_along-append (batches_of k.before) (batches_of log))) (in_suffix (items_along (batches_of k.before)) (items_along (batches_of log)) x i)))

    is_led : IsLeaderLog v k.epoch s (stream_of k.term s).log
    is_led = record { term = k.term; term_is = k.term_is; log_is = refl }

    listed : Contains (stream_numbers run.setup) s
    listed = in_contains (stream_numbers run.setup) s (numbers_in run.setup.workers s there)

    stamp : (t : Stamp) → In t (stamps_along (batches_of log)) → t.epoch ≤ k.epoch
    stamp t i = up_to led.leaders run.setup.workers led.are_leaders k.epoch s t
        (subst (λ z. In t (stamps_along z)) (led.logs k.epoch s listed (stream_of k.term s).log is_led)
        (stamps_pre t (batches_of all) (batches_of (stream_of k.term s).log) (batches_begin all (stream_of k.term s).log k.within)
        (subst (λ z. In t (stamps_along z)) (sym parted)
        (subst (In t) (sym (stamps_along-append (batches_of k.before) (batches_of log))) (in_suffix (stamps_along (batches_of k.before)) (stamps_along (batches_of log)) t i)))))

    encoded : are_batches log ≡ true
    encoded = are_back k.before log (are_front all k.within.0 (subst (λ z. are_batches z ≡ true) (sym k.within.1) (led.encoded k.epoch s listed (stream_of k.term s).log is_led)))

    right : is_wrong run.setup.program.tables (record { stream = s; epoch = top; log = log }) ≡ false
    right =
        let tables = run.setup.program.tables in
        let c : Carried = record { stream = s; epoch = top; log = log } in
        or_false (((has_no_batch c || has_other_worker c) || has_later_epoch c) || has_disorder c) (has_misfit tables c)
        (or_false ((has_no_batch c || has_other_worker c) || has_later_epoch c) (has_disorder c)
        (or_false (has_no_batch c || has_other_worker c) (has_later_epoch c)
        (or_false (has_no_batch c) (has_other_worker c)
        (not_true (are_batches log) encoded)
        (any_false (λ (x : Item). not (x.worker == s)) (items_along (batches_of log)) (λ x i. not_true (x.worker == s) (eq-eqb x.worker s (item x i).1))))
        (any_false (λ (t : Stamp). nat_lt top t.epoch) (stamps_along (batches_of log))
        (λ t i. lt_false top t.epoch (let low = k.low in let high = stamp t i in omega (arith, low, high)))))
        (not_true (are_rising (stamps_along (batches_of log)))
        ((tests_tell.rising (stamps_along (batches_of log))).1 (from_rises (stamps_along (batches_of log)) (rises_back (stamps_along (batches_of k.before)) (stamps_along (batches_of log)) rise)))))
        (any_false (λ (x : Item). not (list_all (write_fits tables) x.writes)) (items_along (batches_of log)) (λ x i.
        not_true (list_all (write_fits tables) x.writes)
        (all_true (write_fits tables) x.writes (λ w j. (tests_tell.fits tables w).1
        (all_in (WriteFits tables) x.writes (led.fit x.stamp.epoch x (in_contains (led.leaders.decided x.stamp.epoch) x (item x i).0)) w j)))))

  -- an empty log is right
  right_empty : (s top : ℕ) (log : bytes.Log) → log ≡ [] → is_wrong run.setup.program.tables (record { stream = s; epoch = top; log = log }) ≡ false
  right_empty s top log none = subst (λ z. is_wrong run.setup.program.tables (record { stream = s; epoch = top; log = z }) ≡ false) (sym none) refl

  -- one that lies between an initial log and its leader's
  right_led : (e i s : ℕ) (log : bytes.Log) → There s → s - 1 ≡ i → InLeaderLog sw e i log → is_wrong run.setup.program.tables (record { stream = s; epoch = e; log = log }) ≡ false
  right_led e i s log there same k = right s e log there (record {
    before = [];
    epoch = e;
    low = omega arith;
    term = k.term;
    term_is = ap (λ f. f e) (sym r.tied.terms) ∙ k.term_is;
    within = subst (λ j. IsPrefix log (get_or k.term.streams j no_stream).log) (sym same) k.within;
  })

  -- ---- the logs that a message carries ----

  -- a batch behind some of a leader's log
  next_stands : (e s : ℕ) (before : bytes.Log) (batch : bytes.Batch) (t : Term) → v.terms e ≡ Some t → IsPrefix before (stream_of t s).log
      → length before < length (stream_of t s).log → get_or (stream_of t s).log (length before) [] ≡ batch → StandsIn s e (batch ∷ [])
  next_stands e s before batch t is p less same = record {
    before = before;
    epoch = e;
    low = omega arith;
    term = t;
    term_is = is;
    within = subst (λ b. IsPrefix (before ++ b ∷ []) (stream_of t s).log) same (prefix_next [] before (stream_of t s).log p less);
  }

  record Place (a : ℕ) (ballots : List ℕ) (logs : List bytes.Log) (c : Carried) : Type 0 where
    pub index : ℕ
    pub stream : c.stream ≡ a + index
    pub epoch : c.epoch ≡ get_or ballots index 0
    pub log : c.log ≡ get_or logs index []
    pub there : index < length logs

  place_of : (a : ℕ) (ballots : List ℕ) (logs : List bytes.Log) (c : Carried) → In c (carried_from a ballots logs) → Place a ballots logs c
  place_of a [] logs c i = absurd i
  place_of a (b ∷ bs) [] c i = absurd i
  place_of a (b ∷ bs) (log ∷ logs) c i = elim i [
    | inl e ↦ record {
      index = 0;
      stream = (let same = ap (λ (z : Carried). z.stream) e in omega (arith, same));
      epoch = ap (λ (z : Carried). z.epoch) e;
      log = ap (λ (z : Carried). z.log) e;
      there = omega arith;
    }
    | inr j ↦ (let k = place_of (suc a) bs logs c j in
        let same = k.stream in
        let within = k.there in
        record { index = suc k.index; stream = omega (arith, same); epoch = k.epoch; log = k.log; there = omega (arith, within) })
  ]

  promise_right : (from to e : ℕ) (ballots : List ℕ) (logs : List bytes.Log) → In (msg.Promise from to e ballots logs) (messages run.world.sent)
      → (c : Carried) → Place 1 ballots logs c → is_wrong run.setup.program.tables c ≡ false
  promise_right from to e ballots logs i c p =
      let ok : PromiseOk sw from e ballots logs = in_between run led r known fair (msg.Promise from to e ballots logs) i _ refl in
      let size = (sizes run led r known fair from to e ballots logs i).1 in
      let number = p.stream in
      let within = p.there in
      let there : There c.stream = node_is run.setup.workers c.stream (omega (arith, number)) (omega (arith, number, within, size)) in
      elim (cases_lt 0 (get_or ballots p.index 0)) [
        | inl some ↦ right_led c.epoch p.index c.stream c.log there (omega (arith, number))
            (subst (λ n. InLeaderLog sw n p.index c.log) (sym p.epoch) (subst (InLeaderLog sw (get_or ballots p.index 0) p.index) (sym p.log) ((ok.each p.index).has some)))
        | inr none ↦ right_empty c.stream c.epoch c.log (p.log ∙ (ok.each p.index).none (omega (arith, none)))
      ]

  carried_right : (m : Msg) → In m (messages run.world.sent) → (c : Carried) → In c (carried m) → is_wrong run.setup.program.tables c ≡ false
  carried_right (msg.Prepare from to e) i c j = absurd j
  carried_right (msg.Promise from to e ballots logs) i c j = promise_right from to e ballots logs i c (place_of 1 ballots logs c j)
  carried_right (msg.Sync from to e s log) i c j = elim j [
    | inl same ↦ subst (λ z. is_wrong run.setup.program.tables z ≡ false) (sym same)
        (right_led e (s - 1) s log (fair.heads (msg.Sync from to e s log) i).named refl (in_between run led r known fair (msg.Sync from to e s log) i _ refl))
    | inr none ↦ absurd none
  ]
  carried_right (msg.Accept from to e s slot batch) i c j = elim j [
    | inl same ↦ (
        let k : AcceptOk sw e s slot batch = in_between run led r known fair (msg.Accept from to e s slot batch) i _ refl in
        let log : bytes.Log = (stream_of k.term s).log in
        let less = k.there in
        let size = length-take-le slot log (omega (arith, less)) in
        subst (λ z. is_wrong run.setup.program.tables z ≡ false) (sym same)
        (right s e (batch ∷ []) (fair.heads (msg.Accept from to e s slot batch) i).named
        (next_stands e s (take slot log) batch k.term (ap (λ f. f e) (sym r.tied.terms) ∙ k.term_is) (front slot log) (omega (arith, less, size))
        (ap (λ n. get_or log n []) size ∙ k.batch_is)))
        )
    | inr none ↦ absurd none
  ]
  carried_right (msg.Ack from to e s len) i c j = absurd j
  carried_right (msg.Known from to e s len) i c j = absurd j

  -- ---- the receiver ----

  and_no : (a b : Bool) → (a ≡ true → b ≡ false) → (a && b) ≡ false
  and_no true b h = h refl
  and_no false b h = refl

  none_of : {A : Type 0} (o : Option A) → not (is_some o) ≡ true → o ≡ None
  none_of None h = refl
  none_of (Some x) h = absurd (let z : false ≡ true = h in cc)

  module _ (a : ℕ) (there : is_node run.setup.nodes a ≡ true) where
    abbrev x : NodeState
    x = node_of run.setup run.world a

    stands_not : (from e : ℕ) (ballots : List ℕ) (logs : List bytes.Log) → PromiseOk sw from e ballots logs → 1 ≤ e
        → (part : Part) → x.part ≡ part → is_early part e ballots ≡ false
    stands_not from e ballots logs ok low Follows is = refl
    stands_not from e ballots logs ok low (Leads lead) is = refl
    stands_not from e ballots logs ok low (Stands c) is = and_no (c.epoch == e) (list_any (nat_le e) ballots) (λ t. any_false (nat_le e) ballots (λ b j.
        elim (cases_Bool (nat_le e b)) [
          | inl high ↦ (
              let role : StandsOk (cluster_of run.setup) sw a c = subst (RoleOk (cluster_of run.setup) sw a)
              (ap (λ (n : world.Node). n.role) (r.tied.node a there) ∙ ap stream_role is) ((inv_of (cluster_of run.setup) r.events).role_ok a) in
              let k = in_contains ballots b j in
              let shown : get_or ballots k.0 0 ≡ b = same_at ballots k.0 0 b k.1 ∙ k.2 in
              let below = (ok.each k.0).below in
              let above = leb-true e b high in
              let led_log = (ok.each k.0).has (omega (arith, shown, above, low)) in
              let same : get_or ballots k.0 0 ≡ c.epoch = (let one = true_same c.epoch e t in omega (arith, shown, above, below, one)) in
              absurd (some_none led_log.term (sw.terms c.epoch) (ap sw.terms (sym same) ∙ led_log.term_is) role.unborn)
              )
          | inr low_one ↦ low_one
        ]))

    ends_not : (e s len : ℕ) → (t : Term) → v.terms e ≡ Some t → len ≤ length (stream_of t s).log → (part : Part) → x.part ≡ part → is_past_end part e s len ≡ false
    ends_not e s len t is few Follows part = refl
    ends_not e s len t is few (Stands c) part = refl
    ends_not e s len t is few (Leads lead) part = and_no (lead.epoch == e) (nat_lt (length (leading lead s).log) len) (λ same.
        let term : sw.terms lead.epoch ≡ Some (term_of lead) = subst (HasTerm sw) part (r.tied.term a there) in
        let one : t ≡ term_of lead = some_same t (term_of lead) (v.terms e) is
        (ap v.terms (sym (true_same lead.epoch e same)) ∙ ap (λ f. f lead.epoch) (sym r.tied.terms) ∙ term) in
        let size = ap (λ z. length (stream_of z s).log) one in
        lt_false (length (leading lead s).log) len (omega (arith, few, size)))

    sync_begins : (e s : ℕ) (log : bytes.Log) → There s → InLeaderLog sw e (s - 1) log → (would_adopt x.acceptor e s && not (begins (known_log x s) log)) ≡ false
    sync_begins e s log in_stream k = and_no (would_adopt x.acceptor e s) (not (begins (known_log x s) log)) (λ t.
        let less = true_lt (kept_ballot x.acceptor s) e (both (not (is_some (refuses x.acceptor e))) (nat_lt (kept_ballot x.acceptor s) e) t).1 in
        not_true (begins (known_log x s) log) ((tests_tell.begins (known_log x s) log).1 (elim ((known.nodes a).chosen s in_stream) [
          | inl none ↦ subst (λ z. IsPrefix z log) (sym none) (log, refl)
          | inr c ↦ (
              let low = c.1 in
              prefix_trans (known_log x s) (initial_at k.term (s - 1)) log
              (begins_initial run.setup run.setup_fits run.world led r known longest.0 longest.1 c.0 s (known_log x s) in_stream c.2 e (omega (arith, low, less)) k.term
              (ap (λ f. f e) (sym r.tied.terms) ∙ k.term_is)) k.begins
              )
        ])))

    accept_goes_on : (e s slot : ℕ) (batch : bytes.Batch) → There s → AcceptOk sw e s slot batch
        → (would_append x.acceptor e s slot && not (goes_on (stamps_along (batches_of (kept_log x.acceptor s))) (stamps_along (batches_of (batch ∷ []))))) ≡ false
    unfolding next_stands
    accept_goes_on e s slot batch in_stream k = and_no (would_append x.acceptor e s slot) _ (λ t.
        let parts = both (not (is_some (refuses_accept x.acceptor e s slot))) (slot == length (kept_log x.acceptor s)) t in
        let ballot = allowed_accept x.acceptor e s slot (none_of (refuses_accept x.acceptor e s slot) parts.0) in
        let size = true_same slot (length (kept_log x.acceptor s)) parts.1 in
        let is : v.terms e ≡ Some k.term = ap (λ f. f e) (sym r.tied.terms) ∙ k.term_is in
        let kept = keeps_logs run.setup run.world r a there s e in_stream ballot k.term is in
        let less = k.there in
        let log : bytes.Log = (stream_of k.term s).log in
        not_true (goes_on (stamps_along (batches_of (kept_log x.acceptor s))) (stamps_along (batches_of (batch ∷ []))))
        (goes_on_true (stamps_along (batches_of (kept_log x.acceptor s))) (stamps_along (batches_of (batch ∷ [])))
        (rise s e (batch ∷ []) in_stream (next_stands e s (kept_log x.acceptor s) batch k.term is kept (omega (arith, less, size))
        (ap (λ n. get_or log n []) (sym size) ∙ k.batch_is)))))

  true_at : (m : Msg) → In m (messages run.world.sent) → is_untrue (node_of run.setup run.world (head_of m).to) m ≡ false
  true_at (msg.Prepare from to e) i = refl
  true_at (msg.Promise from to e ballots logs) i =
      stands_not to (r.tied.receivers (msg.Promise from to e ballots logs) i) from e ballots logs (in_between run led r known fair (msg.Promise from to e ballots logs) i _ refl)
      (fair.heads (msg.Promise from to e ballots logs) i).low (node_of run.setup run.world to).part refl
  true_at (msg.Sync from to e s log) i =
      sync_begins to (r.tied.receivers (msg.Sync from to e s log) i) e s log (fair.heads (msg.Sync from to e s log) i).named (in_between run led r known fair (msg.Sync from to e s log) i _ refl)
  true_at (msg.Accept from to e s slot batch) i =
      accept_goes_on to (r.tied.receivers (msg.Accept from to e s slot batch) i) e s slot batch (fair.heads (msg.Accept from to e s slot batch) i).named
      (in_between run led r known fair (msg.Accept from to e s slot batch) i _ refl)
  true_at (msg.Ack from to e s len) i =
      let k = fair.acks (msg.Ack from to e s len) i in
      ends_not to (r.tied.receivers (msg.Ack from to e s len) i) e s len k.0 k.1 k.2 (node_of run.setup run.world to).part refl
  true_at (msg.Known from to e s len) i = refl

  -- ---- all of it ----

  named_there : (o : Option ℕ) → NamesOne run.setup o → option_map_or (λ s. not (is_node run.setup.workers s)) o false ≡ false
  named_there None h = refl
  named_there (Some s) h = not_true (is_node run.setup.workers s) h

  pub not_bad : (m : Msg) → In m (messages run.world.sent) → is_bad run.setup (head_of m).to (node_of run.setup run.world (head_of m).to) m ≡ false
  not_bad m i =
      let a = (head_of m).to in
      let x : NodeState = node_of run.setup run.world a in
      let h = fair.heads m i in
      let wrong = list_any (is_wrong run.setup.program.tables) (carried m) in
      or_false (((is_astray run.setup a m || is_usurped run.setup m) || is_partial run.setup m) || wrong) (is_untrue x m)
      (or_false ((is_astray run.setup a m || is_usurped run.setup m) || is_partial run.setup m) wrong
      (or_false (is_astray run.setup a m || is_usurped run.setup m) (is_partial run.setup m)
      (or_false (is_astray run.setup a m) (is_usurped run.setup m)
      (or_false (not (a == a) || not (is_node run.setup.nodes (head_of m).from)) (option_map_or (λ s. not (is_node run.setup.workers s)) (stream_named m) false)
      (or_false (not (a == a)) (not (is_node run.setup.nodes (head_of m).from)) (not_true (a == a) (eq-eqb a a refl)) (not_true (is_node run.setup.nodes (head_of m).from) h.from))
      (named_there (stream_named m) h.named))
      (not_true (owner_of (head_of m).epoch run.setup.nodes == proposer_in m) (eq-eqb (owner_of (head_of m).epoch run.setup.nodes) (proposer_in m) h.owner)))
      h.whole)
      (any_false (is_wrong run.setup.program.tables) (carried m) (carried_right m i)))
      (true_at m i)
