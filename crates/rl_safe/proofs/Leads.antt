-- What a leader does keeps what holds of it: it opens, its workers make turns, and it proposes.
use Rattle.std.proofs.Common.{◌≡◌, ℕ, zero, suc, ◌+◌, ◌-◌, ◌*◌, ◌^◌, ◌<◌, ◌≤◌, List, [], ◌∷◌, ◌++◌, length, map, get_or, take, true, false, nat_le, if◌then◌else◌, Option, Some, None, option_to_list, option_map, refl, sym, ap, ◌∙◌, subst, arith, inl}
use Rattle.std.proofs.lemmas.List.{map-append, set-get_or, take_all, take_more, length-append}
use Rattle.std.specs.List.{list_all}
use Rattle.std.proofs.lemmas.Bool.Decides.{nat_tests}
use Rattle.rl_base.specs.Lists.{updated}
use Rattle.rl_base.proofs.Members.{in_suffix}
use Rattle.rl_base.proofs.Tests.{both}
use Rattle.rl_txn.specs.declared.batch.Batch.{Batch}
use Rattle.rl_txn.specs.declared.batch.Batch.TheVariants.{Items}
use Rattle.rl_txn.specs.declared.item.Item.{Item}
use Rattle.rl_batch.specs.declared.item.TheConstants.{BATCH_ITEMS}
use Rattle.rl_batch.specs.Encoding.{batch_bytes}
use Rattle.rl_paxos.specs.Leaders.{Leading, proposed}
use Rattle.rl_paxos.specs.Logs as bytes
use Rattle.rl_paxos.specs.Logs.{Log}
use Rattle.rl_paxos.specs.Quorums.{is_node}
use Rattle.rl_election.specs.World.{no_stream}
use Rattle.rl_families.specs.Families.{history}
use Rattle.rl_families.specs.Leaders.{logs_of_streams, open_mark}
use Rattle.rl_families.specs.Logs.{stamps_along}
use Rattle.rl_families.proofs.Rising.{Rises, rises_front, rises_back}
use Rattle.rl_worker.specs.Acts.{Core, Turn, Step, Idle, phase_of, resting, is_done, turn}
use Rattle.rl_worker.specs.Items.{CoreItem}
use Rattle.rl_worker.specs.OneTurn.{newly_ended, newly_refused}
use Rattle.rl_worker.specs.Opening.{OpenLeader, core_after, item_seen, items_seen}
use Rattle.rl_nodes.specs.Batches.{batches_of, END_SEQ, idle_mark}
use Rattle.rl_nodes.specs.Nodes.{Lead, leading, with_leading, pending_of, with_pending, len_acknowledged, acknowledged_log, acknowledged_history, marks_are_acknowledged}
use Rattle.rl_nodes.specs.Setups.{Setup, SetupFits}
use Rattle.rl_nodes.specs.Works.{stepped}
use Rattle.rl_nodes.proofs.OwnEvents.{first_of}
use Rattle.rl_nodes.proofs.ChangesInStreams.{by_node, first_proposed}
use Rattle.rl_safe.proofs.Below.{Below}
use Rattle.rl_safe.proofs.CoreTurns.{core_more, own_setting, Turned, IsStuck, turn_of, ended_is}
use Rattle.rl_safe.proofs.Accounts.{Account, first_at, carried_at, log_at, carried_in, opening_of, leader_of, core_of, Says, StreamOk, LeadOk, CoreOk}
use Rattle.rl_safe.proofs.Encodings.{Encodes, ArePending, batches_more, mark_read, idle_read, items_read}
use Rattle.rl_safe.proofs.Fits.{Good, seen_at, words_at}
use Rattle.rl_safe.proofs.Sayings.{says_items, says_end, says_others, says_own, says_idle, says_idle_others, said_rise, item_decided}
use Rattle.rl_safe.proofs.LeadStreams.{firsts_size, stream_more, along, changes, IsNew, whole}

-- ---- a leader opens ----

logs_are : {A : Type 0} (f : A → List Batch) (d : A) (xs : List A) (n : ℕ) (log : ℕ → List Batch) → n ≤ length xs
    → ((s : ℕ) → 1 ≤ s → s ≤ n → f (get_or xs (s - 1) d) ≡ log s) → map f (take n xs) ≡ logs_of_streams n log
logs_are f d xs zero log within same = refl
logs_are f d xs (suc n) log within same =
    ap (λ k. map f (take k xs)) one_more
    ∙ ap (map f) (take_more xs n d (omega (arith, within)))
    ∙ map-append f (take n xs) (get_or xs n d ∷ [])
    ∙ ap (λ z. z ++ f (get_or xs n d) ∷ []) (logs_are f d xs n log (omega (arith, within)) (λ s a l. same s a (omega (arith, l))))
    ∙ ap (λ z. logs_of_streams n log ++ z ∷ []) (ap (λ k. f (get_or xs k d)) less ∙ same (suc n) (omega arith) (omega arith))
  where
    one_more : suc n ≡ n + 1
    one_more = omega arith

    less : n ≡ suc n - 1
    less = omega arith

module _ (b : Below) (setup : Setup) (sized : SetupFits setup) (initial : List Log) (lead : Lead) (account : Account) (h : LeadOk setup initial lead account) where
  -- its logs are those with which it began, each of which ends with the open mark
  module _ (none : lead.core ≡ None) (marks : marks_are_acknowledged lead ≡ true)
      (ends : (s : ℕ) → is_node setup.workers s ≡ true → first_at initial s ≡ carried_at initial s ++ batch_bytes (open_mark lead.epoch) ∷ []) where
    unopened : CoreOk setup initial lead account None
    unopened = subst (CoreOk setup initial lead account) none h.core

    marked : (xs : List Leading) → list_all (λ stream. nat_le stream.initial_len (len_acknowledged stream)) xs ≡ true → (i : ℕ) → i < length xs
        → (get_or xs i no_stream).initial_len ≤ len_acknowledged (get_or xs i no_stream)
    marked [] t i l = absurd (omega (arith, l))
    marked (x ∷ xs) t zero l = le_of x.initial_len (len_acknowledged x) (both (nat_le x.initial_len (len_acknowledged x)) (list_all (λ stream. nat_le stream.initial_len (len_acknowledged stream)) xs) t).0
      where
        le_of : (a b : ℕ) → nat_le a b ≡ true → a ≤ b
        le_of a b t = grind (arith, nat_tests)
    marked (x ∷ xs) t (suc i) l =
        marked xs (both (nat_le x.initial_len (len_acknowledged x)) (list_all (λ stream. nat_le stream.initial_len (len_acknowledged stream)) xs) t).1 i (omega (arith, l))

    in_streams : (s : ℕ) → 1 ≤ s → s ≤ setup.workers → is_node setup.workers s ≡ true
    in_streams s low high = grind (arith, nat_tests)

    acknowledged : (s : ℕ) → 1 ≤ s → s ≤ setup.workers → batches_of (acknowledged_log (leading lead s)) ≡ carried_in setup initial s ++ open_mark lead.epoch ∷ []
    acknowledged s low high =
        let there = in_streams s low high in
        let x : Leading = leading lead s in
        let new : IsNew x = unopened.1 s there in
        let size = h.sized in
        let mark = marked lead.streams marks (s - 1) (omega (arith, low, high, size)) in
        ap batches_of (take_all (len_acknowledged x) x.log (omega (arith, new, mark)))
        ∙ ap batches_of (sym (whole x new) ∙ sym (first_of lead.streams (s - 1)) ∙ ap (λ logs. first_at logs s) h.firsts ∙ ends s there)
        ∙ batches_more (carried_at initial s) (batch_bytes (open_mark lead.epoch)) (open_mark lead.epoch) (mark_read b lead.epoch h.term.low h.term.high).0
        ∙ ap (λ t. (if t then batches_of (carried_at initial s) else []) ++ open_mark lead.epoch ∷ []) (sym there)

    pub opens_with : acknowledged_history lead ≡ opening_of setup lead.epoch (carried_in setup initial)
    opens_with = ap history (
        ap (map (λ stream. batches_of (acknowledged_log stream))) (sym (take_all setup.workers lead.streams (let size = h.sized in omega (arith, size))))
        ∙ logs_are (λ stream. batches_of (acknowledged_log stream)) no_stream lead.streams setup.workers (λ s. carried_in setup initial s ++ open_mark lead.epoch ∷ [])
        (let size = h.sized in omega (arith, size)) acknowledged
        )

    pub opened : LeadOk setup initial (record lead { core = Some (setup.work.opening lead.epoch (acknowledged_history lead)) }) account
    opened = record {
      firsts = h.firsts;
      term = h.term;
      sized = h.sized;
      room = h.room;
      begun = h.begun;
      pending = h.pending;
      core = (λ i. (sized.work_is i).opening lead.epoch (opens_with i))
          ∙ ap (core_of setup lead.epoch (carried_in setup initial)) (sym unopened.0);
    }

  -- ---- a turn ----

  module _ (good : Good setup lead.epoch (carried_in setup initial)) (core : Core) (has : lead.core ≡ Some core) (w : ℕ) (there : is_node setup.workers w ≡ true) where
    abbrev l : OpenLeader
    l = leader_of setup lead.epoch (carried_in setup initial)

    pub core_is : core ≡ core_after l account.turns
    core_is = subst (CoreOk setup initial lead account) has h.core

    abbrev turned : Core
    turned = turn (setup.work.setting lead.epoch) core (Step w)

    turned_is : turned ≡ core_after l (account.turns ++ Step w ∷ [])
    turned_is = (λ i. turn ((sized.work_is i).setting lead.epoch) (core_is i) (Step w)) ∙ sym (core_more l account.turns (Step w))

    abbrev T : Turned w (core_after l account.turns) (core_after l (account.turns ++ Step w ∷ []))
    T = turn_of b l good.fits account.turns w

    over_is : newly_ended core turned ≡ T.over
    over_is = (λ i. newly_ended (core_is i) (turned_is i)) ∙ ended_is b l good.fits account.turns w

    pub refusal_is : newly_refused core turned ≡ newly_refused (core_after l account.turns) (core_after l (account.turns ++ Step w ∷ []))
    refusal_is = λ i. newly_refused (core_is i) (turned_is i)

    abbrev pending_now : List Item
    pending_now = pending_of lead w ++ option_to_list (option_map (item_seen lead.epoch) (newly_ended core turned))

    list_of : (o : Option CoreItem) → option_to_list (option_map (item_seen lead.epoch) o) ≡ items_seen lead.epoch (option_to_list o)
    list_of None = refl
    list_of (Some x) = refl

    now_is : pending_now ≡ account.pending w ++ items_seen lead.epoch (option_to_list T.over)
    now_is = (λ i. h.pending w there i ++ option_to_list (option_map (item_seen lead.epoch) (over_is i)))
        ∙ ap (λ z. account.pending w ++ z) (list_of T.over)

    abbrev pub turned_account : Account
    turned_account = record { turns = account.turns ++ Step w ∷ []; pending = updated account.pending w pending_now }

    pub steps : LeadOk setup initial (stepped lead core turned w) turned_account
    steps =
        let old = h.term.each w there in
        changes setup initial lead account h w there (leading lead w) turned (account.turns ++ Step w ∷ []) pending_now (h.begun w there) refl turned_is
        (record {
          begins = old.begins;
          encoded = old.encoded;
          says = subst (Says (own_setting l) lead.epoch w (along setup initial lead account h w there w) (core_after l (account.turns ++ Step w ∷ []))) (sym now_is)
              (says_own b l good.fits account.turns w (along setup initial lead account h w there w) (account.pending w) old.says);
        })
        (λ u in_stream n. says_others b l good.fits account.turns w u n (along setup initial lead account h w there u) (account.pending u) (h.term.each u in_stream).says)
        lead.streams (Some turned) (stepped lead core turned w).pending (set-get_or lead.streams (w - 1) no_stream) refl refl

  -- ---- proposals ----

  module _ (good : Good setup lead.epoch (carried_in setup initial)) (core : Core) (has : lead.core ≡ Some core) (w : ℕ) (there : is_node setup.workers w ≡ true) where
    abbrev m : OpenLeader
    m = leader_of setup lead.epoch (carried_in setup initial)

    abbrev told : List Batch
    told = along setup initial lead account h w there w

    has_is : core ≡ core_after m account.turns
    has_is = subst (CoreOk setup initial lead account) has h.core

    range_of : (1 ≤ w) × (w ≤ setup.workers)
    range_of = by_node setup.workers w there

    long_more : (bytes : bytes.Batch) → (leading lead w).initial_len ≤ length ((leading lead w).log ++ bytes ∷ [])
    long_more bytes = let k = h.begun w there in let n = length-append (leading lead w).log (bytes ∷ []) in omega (arith, k, n)

    -- all that is pending
    abbrev all_pending : List Item
    all_pending = pending_of lead w

    are_pending : 1 ≤ length all_pending → length all_pending ≤ BATCH_ITEMS → ArePending m w all_pending
    are_pending some few =
        let says = (h.term.each w there).says in
        let same : account.pending w ≡ all_pending = sym (h.pending w there) in
        subst (ArePending m w) same (record {
          some = subst (λ z. 1 ≤ length z) (sym same) some;
          few = subst (λ z. length z ≤ BATCH_ITEMS) (sym same) few;
          seen = λ x i. let k = item_decided b m account.turns w told (account.pending w) says x (in_suffix _ (account.pending w) x i) in
              (seen_at b setup sized lead.epoch (carried_in setup initial) good account.turns x k.0, words_at b setup sized lead.epoch (carried_in setup initial) good account.turns x k.0, k.1);
          rise = rises_front (map (λ (x : Item). x.stamp) (account.pending w)) _
              (subst Rises (map-append (λ (x : Item). x.stamp) (account.pending w) _) (rises_back (stamps_along told) _ (said_rise b m account.turns w told (account.pending w) says)));
        })

    abbrev pub flushed_account : Account
    flushed_account = record { turns = account.turns; pending = updated account.pending w [] }

    pub proposes_pending : 1 ≤ length all_pending → length all_pending ≤ BATCH_ITEMS
        → LeadOk setup initial (with_leading (with_pending lead w []) w (proposed (leading lead w) (batch_bytes (Items all_pending)))) flushed_account
    proposes_pending some few =
        let old = h.term.each w there in
        let read : Encodes (batch_bytes (Items all_pending)) (Items all_pending) =
        items_read b m good.fits h.term.low h.term.high w range_of.0 (let last = sized.few_workers in omega (arith, last, range_of.1)) all_pending (are_pending some few) in
        changes setup initial lead account h w there (proposed (leading lead w) (batch_bytes (Items all_pending))) core account.turns []
        (long_more (batch_bytes (Items all_pending))) (first_proposed (leading lead w) (batch_bytes (Items all_pending)) (h.begun w there)) has_is
        (stream_more (own_setting m) lead.epoch w (first_at initial w) (log_at lead.streams w) (core_after m account.turns) (core_after m account.turns) (account.pending w) []
        (batch_bytes (Items all_pending)) (Items all_pending) old read
        (says_items (own_setting m) lead.epoch w told (core_after m account.turns) all_pending
        (subst (Says (own_setting m) lead.epoch w told (core_after m account.turns)) (sym (h.pending w there)) old.says)))
        (λ u in_stream n. (h.term.each u in_stream).says)
        _ lead.core _ refl (sym has) refl

    -- ---- marks ----

    module _ (empty : pending_of lead w ≡ []) (rest : resting (phase_of core w) ≡ true) where
      pub says_none : Says (own_setting m) lead.epoch w told (core_after m account.turns) []
      says_none = subst (Says (own_setting m) lead.epoch w told (core_after m account.turns)) (sym (h.pending w there) ∙ empty) (h.term.each w there).says

      rest_now : resting (phase_of (core_after m account.turns) w) ≡ true
      rest_now = subst (λ c. resting (phase_of c w) ≡ true) has_is rest

      abbrev same_account : List Turn → Account
      same_account turns = record { turns = turns; pending = updated account.pending w (pending_of lead w) }

      -- the end mark
      pub proposes_end : says_none.ends ≡ false → is_done (setup.work.setting lead.epoch) w (phase_of core w) ≡ true
          → LeadOk setup initial (with_leading lead w (proposed (leading lead w) (batch_bytes (idle_mark lead.epoch END_SEQ)))) (same_account account.turns)
      proposes_end unended done =
          let bytes = batch_bytes (idle_mark lead.epoch END_SEQ) in
          let stuck : IsStuck (own_setting m) w (core_after m account.turns) =
          (rest_now, inl (subst (λ c. is_done (own_setting m) w (phase_of c w) ≡ true) has_is (subst (λ S. is_done S w (phase_of core w) ≡ true) (λ i. (sized.work_is i).setting lead.epoch) done))) in
          changes setup initial lead account h w there (proposed (leading lead w) bytes) core account.turns (pending_of lead w)
          (long_more bytes) (first_proposed (leading lead w) bytes (h.begun w there)) has_is
          (subst (StreamOk (own_setting m) lead.epoch w (first_at initial w) ((leading lead w).log ++ bytes ∷ []) (core_after m account.turns)) (sym empty)
          (stream_more (own_setting m) lead.epoch w (first_at initial w) (log_at lead.streams w) (core_after m account.turns) (core_after m account.turns) (account.pending w) []
          bytes (idle_mark lead.epoch END_SEQ) (h.term.each w there) (idle_read b lead.epoch END_SEQ h.term.low h.term.high (omega arith) (omega arith))
          (says_end (own_setting m) lead.epoch w told (core_after m account.turns) says_none unended stuck)))
          (λ u in_stream n. (h.term.each u in_stream).says)
          _ lead.core lead.pending refl (sym has) (set-get_or lead.pending (w - 1) [])

      abbrev idled : Core
      idled = turn (setup.work.setting lead.epoch) core (Idle w)

      idled_is : idled ≡ core_after m (account.turns ++ Idle w ∷ [])
      idled_is = (λ i. turn ((sized.work_is i).setting lead.epoch) (has_is i) (Idle w)) ∙ sym (core_more m account.turns (Idle w))

      last_there : w ≤ length m.firsts
      last_there = let size = firsts_size setup sized lead.epoch (carried_in setup initial) in omega (arith, size, range_of.1)

      -- an idle mark
      pub proposes_idle : says_none.ends ≡ false
          → LeadOk setup initial (with_leading (record lead { core = Some idled }) w (proposed (leading lead w) (batch_bytes (idle_mark lead.epoch (core.next - lead.epoch * 2 ^ 40)))))
          (same_account (account.turns ++ Idle w ∷ []))
      proposes_idle unended =
          let now : Core = core_after m account.turns in
          let moved : Core = core_after m (account.turns ++ Idle w ∷ []) in
          let q : ℕ = core.next - lead.epoch * 2 ^ 40 in
          let r : ℕ = now.next - lead.epoch * 2 ^ 40 in
          let same : q ≡ r = ap (λ (c : Core). c.next - lead.epoch * 2 ^ 40) has_is in
          let bytes = batch_bytes (idle_mark lead.epoch q) in
          let range = b.in_range m account.turns in
          let low = range.low in
          let high = range.high in
          changes setup initial lead account h w there (proposed (leading lead w) bytes) idled (account.turns ++ Idle w ∷ []) (pending_of lead w)
          (long_more bytes) (first_proposed (leading lead w) bytes (h.begun w there)) idled_is
          (subst (StreamOk (own_setting m) lead.epoch w (first_at initial w) ((leading lead w).log ++ bytes ∷ []) moved) (sym empty)
          (stream_more (own_setting m) lead.epoch w (first_at initial w) (log_at lead.streams w) now moved (account.pending w) []
          bytes (idle_mark lead.epoch q) (h.term.each w there)
          (idle_read b lead.epoch q h.term.low h.term.high (omega (arith, low, same)) (omega (arith, high, same)))
          (subst (λ n. Says (own_setting m) lead.epoch w (told ++ idle_mark lead.epoch n ∷ []) moved []) (sym same)
          (says_idle b m account.turns w range_of.0 last_there told says_none unended rest_now))))
          (λ u in_stream n. says_idle_others b m account.turns w range_of.0 last_there u n (along setup initial lead account h w there u) (account.pending u) rest_now (h.term.each u in_stream).says)
          _ (Some idled) lead.pending refl refl (set-get_or lead.pending (w - 1) [])
