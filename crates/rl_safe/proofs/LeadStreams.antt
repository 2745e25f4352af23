-- The streams of a leader: one of them changes, an Ack counts, and those with which it begins.
use Rattle.std.proofs.Common.{◌≡◌, ◌≢◌, ℕ, zero, suc, ◌-◌, ◌^◌, ◌<◌, ◌≤◌, max, List, [], ◌∷◌, ◌++◌, length, map, get_or, set, take, Bool, true, false, if◌then◌else◌, Option, Some, None, refl, sym, ap, ◌∙◌, subst, arith, inl, inr, append-nil, length-set, get_or-set_same, get_or-set_other}
use Rattle.std.proofs.Math.Seq.{map-set_same}
use Rattle.std.proofs.lemmas.Bool.{cases_eq}
use Rattle.std.proofs.lemmas.List.{take_all, drop-append-le, drop_all, length-map, length-replicate}
use Rattle.std.specs.Prelude.{slice_set}
use Rattle.std.specs.List.{range_with_len}
use Rattle.std.proofs.lemmas.List.FromFn.{length-range_with_len}
use Rattle.rl_base.specs.Lists.{updated}
use Rattle.rl_base.proofs.Prefixes.{prefix_trans, prefix_more, prefix_length}
use Rattle.rl_base.proofs.UpdateLemmas.{updated_same, updated_other}
use Rattle.rl_txn.specs.declared.batch.Batch.{Batch}
use Rattle.rl_txn.specs.declared.item.Item.{Item}
use Rattle.rl_paxos.specs.Leaders.{Leading, new_leading, with_ack}
use Rattle.rl_paxos.specs.Logs as bytes
use Rattle.rl_paxos.specs.Logs.{Log}
use Rattle.rl_paxos.specs.Quorums.{is_node}
use Rattle.rl_paxos.specs.Recovery.{Candidate, recovered_logs}
use Rattle.rl_election.specs.World.{no_stream}
use Rattle.rl_worker.specs.Acts.{Core, Turn}
use Rattle.rl_worker.specs.Opening.{OpenLeader}
use Rattle.rl_worker.specs.Phases.{Setting}
use Rattle.rl_nodes.specs.Batches.{batches_of}
use Rattle.rl_nodes.specs.Handles.{new_lead}
use Rattle.rl_nodes.specs.Nodes.{Lead, leading, with_leading, pending_of, initial_log_of}
use Rattle.rl_nodes.specs.Openings.{next_request}
use Rattle.rl_nodes.specs.Setups.{Setup, SetupFits}
use Rattle.rl_election.proofs.Updates.{length-recovered}
use Rattle.rl_nodes.proofs.OwnEvents.{first_of}
use Rattle.rl_nodes.proofs.Runs.{same_in}
use Rattle.rl_nodes.proofs.Tied.{other_place}
use Rattle.rl_nodes.proofs.ChangesInStreams.{by_node}
use Rattle.rl_safe.proofs.CoreTurns.{own_setting}
use Rattle.rl_safe.proofs.Accounts.{Account, no_account, first_at, log_at, tail_of, carried_in, opening_of, leader_of, core_of, Says, StreamOk, LeadOk, CoreOk, AllFew, first_logs}
use Rattle.rl_safe.proofs.Encodings.{Encodes, AllEncode, none_encoded, batches_more, encoded-append, encoded_one}
use Rattle.rl_safe.proofs.Sayings.{says_first}

-- ---- lists ----

get_set : {A B : Type 0} (f : A → B) (xs : List A) (i j : ℕ) (x d : A) → f x ≡ f (get_or xs i d) → f (get_or (set xs i x) j d) ≡ f (get_or xs j d)
get_set f [] i j x d e = refl
get_set f (y ∷ ys) zero zero x d e = e
get_set f (y ∷ ys) zero (suc j) x d e = refl
get_set f (y ∷ ys) (suc i) zero x d e = refl
get_set f (y ∷ ys) (suc i) (suc j) x d e = get_set f ys i j x d e

pub at_set : {A : Type 0} (P : A → Type 0) (xs : List A) (i j : ℕ) (x d : A) → i < length xs → P x → P (get_or xs j d) → P (get_or (set xs i x) j d)
at_set P xs i j x d l here there = elim (cases_eq j i) [
  | inl e ↦ subst (λ k. P (get_or (set xs i x) k d)) (sym e) (subst P (sym (get_or-set_same xs i x d l)) here)
  | inr n ↦ subst P (sym (get_or-set_other xs i j x d n)) there
]

-- each worker has a first request
pub firsts_size : (setup : Setup) → SetupFits setup → (e : ℕ) (recovered : ℕ → List Batch) → length (leader_of setup e recovered).firsts ≡ setup.workers
firsts_size setup sized e recovered =
    length-map (range_with_len 1 (length setup.program.lists)) (next_request (opening_of setup e recovered))
    ∙ length-range_with_len 1 (length setup.program.lists) ∙ sized.one_list_each

-- ---- one stream ----

-- a batch that is read back is proposed
pub stream_more : (S : Setting) (e s : ℕ) (first log : Log) (c d : Core) (xs ys : List Item) (b : bytes.Batch) (batch : Batch)
    → StreamOk S e s first log c xs → Encodes b batch → Says S e s (batches_of (tail_of first log) ++ batch ∷ []) d ys
    → StreamOk S e s first (log ++ b ∷ []) d ys
stream_more S e s first log c d xs ys b batch h is says = record {
  begins = prefix_trans first log (log ++ b ∷ []) h.begins (prefix_more log (b ∷ []));
  encoded = subst AllEncode (sym tail_more) (encoded-append (tail_of first log) (b ∷ []) h.encoded (encoded_one b batch is));
  says = subst (λ z. Says S e s z d ys) (sym (ap batches_of tail_more ∙ batches_more (tail_of first log) b batch is.0)) says;
}
  where
    tail_more : tail_of first (log ++ b ∷ []) ≡ tail_of first log ++ b ∷ []
    tail_more = drop-append-le (length first) log (b ∷ []) (prefix_length first log h.begins)

-- ---- a leader one stream of which changes, with its core and what is pending ----

module _ (setup : Setup) (initial : List Log) (lead : Lead) (account : Account) (h : LeadOk setup initial lead account) (s : ℕ) (there : is_node setup.workers s ≡ true) where
  abbrev recovered : ℕ → List Batch
  recovered = carried_in setup initial

  abbrev own : OpenLeader
  own = leader_of setup lead.epoch recovered

  abbrev S : Setting
  S = own_setting own

  range : (1 ≤ s) × (s ≤ setup.workers)
  range = by_node setup.workers s there

  inside : s - 1 < length lead.streams
  inside = let size = h.sized in omega (arith, range.0, range.1, size)

  within : s - 1 < length lead.pending
  within = let size = h.room in omega (arith, range.0, range.1, size)

  -- what a stream of the leader says
  abbrev pub along : ℕ → List Batch
  along u = batches_of (tail_of (first_at initial u) (log_at lead.streams u))

  module _ (stream : Leading) (core : Core) (turns : List Turn) (pending : List Item)
      (long : stream.initial_len ≤ length stream.log) (first : initial_log_of stream ≡ initial_log_of (leading lead s))
      (core_is : core ≡ core_of setup lead.epoch recovered turns)
      (here : StreamOk S lead.epoch s (first_at initial s) stream.log (core_of setup lead.epoch recovered turns) pending)
      (others : (u : ℕ) → is_node setup.workers u ≡ true → u ≢ s → Says S lead.epoch u (along u) (core_of setup lead.epoch recovered turns) (account.pending u)) where
    abbrev next : Lead
    next = record lead { streams = slice_set lead.streams (s - 1) stream; core = Some core; pending = slice_set lead.pending (s - 1) pending }

    abbrev later : Account
    later = record { turns = turns; pending = updated account.pending s pending }

    apart : (u : ℕ) → is_node setup.workers u ≡ true → u ≢ s → u - 1 ≢ s - 1
    apart u in_stream n e = n (other_place s u range.0 (by_node setup.workers u in_stream).0 e)

    abbrev Each : ℕ → Log → List Item → Type 0
    Each u log ps = StreamOk S lead.epoch u (first_at initial u) log (core_of setup lead.epoch recovered turns) ps

    each : (u : ℕ) → is_node setup.workers u ≡ true → Each u (log_at next.streams u) (later.pending u)
    each u in_stream = elim (cases_eq u s) [
      | inl same ↦ subst (λ v. Each v (log_at next.streams v) (later.pending v)) (sym same)
          (subst (λ (x : Leading). Each s x.log (later.pending s)) (sym (get_or-set_same lead.streams (s - 1) stream no_stream inside))
          (subst (Each s stream.log) (sym (updated_same account.pending s pending)) here))
      | inr n ↦ subst (λ (x : Leading). Each u x.log (later.pending u)) (sym (get_or-set_other lead.streams (s - 1) (u - 1) stream no_stream (apart u in_stream n)))
          (subst (Each u (log_at lead.streams u)) (sym (updated_other account.pending s pending u n))
          (let old = h.term.each u in_stream in record { begins = old.begins; encoded = old.encoded; says = others u in_stream n }))
    ]

    pending_is : (u : ℕ) → is_node setup.workers u ≡ true → pending_of next u ≡ later.pending u
    pending_is u in_stream = elim (cases_eq u s) [
      | inl same ↦ subst (λ v. pending_of next v ≡ later.pending v) (sym same)
          (get_or-set_same lead.pending (s - 1) pending [] within ∙ sym (updated_same account.pending s pending))
      | inr n ↦ get_or-set_other lead.pending (s - 1) (u - 1) pending [] (apart u in_stream n) ∙ h.pending u in_stream ∙ sym (updated_other account.pending s pending u n)
    ]

    changed : LeadOk setup initial next later
    changed = record {
      firsts = map-set_same initial_log_of lead.streams (s - 1) stream no_stream first ∙ h.firsts;
      term = record { low = h.term.low; high = h.term.high; each = each };
      sized = length-set lead.streams (s - 1) stream ∙ h.sized;
      room = length-set lead.pending (s - 1) pending ∙ h.room;
      begun = λ u in_stream. at_set (λ (x : Leading). x.initial_len ≤ length x.log) lead.streams (s - 1) (u - 1) stream no_stream inside long (h.begun u in_stream);
      pending = pending_is;
      core = core_is;
    }

    -- the same where the leader has those streams, core and pending items
    pub changes : (lists : List Leading) (c : Option Core) (ps : List (List Item)) → slice_set lead.streams (s - 1) stream ≡ lists → Some core ≡ c
        → slice_set lead.pending (s - 1) pending ≡ ps → LeadOk setup initial (record lead { streams = lists; core = c; pending = ps }) later
    changes lists c ps p q r =
        subst (λ lists. LeadOk setup initial (record lead { streams = lists; core = c; pending = ps }) later) p
        (subst (λ c. LeadOk setup initial (record next { core = c; pending = ps }) later) q
        (subst (λ ps. LeadOk setup initial (record next { pending = ps }) later) r changed))

-- ---- an Ack ----

pub ack_log : (x : Leading) (node len : ℕ) → (with_ack x node len).log ≡ x.log
ack_log x node len = by_test (is_node (length x.acked) node)
  where
    by_test : (b : Bool) → (if b then record x { acked = slice_set x.acked (node - 1) (max (get_or x.acked (node - 1) 0) len) } else x).log ≡ x.log
    by_test true = refl
    by_test false = refl

pub ack_initial : (x : Leading) (node len : ℕ) → (with_ack x node len).initial_len ≡ x.initial_len
ack_initial x node len = by_test (is_node (length x.acked) node)
  where
    by_test : (b : Bool) → (if b then record x { acked = slice_set x.acked (node - 1) (max (get_or x.acked (node - 1) 0) len) } else x).initial_len ≡ x.initial_len
    by_test true = refl
    by_test false = refl

module _ (setup : Setup) (initial : List Log) (lead : Lead) (account : Account) (h : LeadOk setup initial lead account) (s from len : ℕ) where
  abbrev acked : Leading
  acked = with_ack (leading lead s) from len

  abbrev counted : Lead
  counted = with_leading lead s acked

  log_same : (u : ℕ) → log_at counted.streams u ≡ log_at lead.streams u
  log_same u = get_set (λ (x : Leading). x.log) lead.streams (s - 1) (u - 1) acked no_stream (ack_log (leading lead s) from len)

  len_same : (u : ℕ) → (leading counted u).initial_len ≡ (leading lead u).initial_len
  len_same u = get_set (λ (x : Leading). x.initial_len) lead.streams (s - 1) (u - 1) acked no_stream (ack_initial (leading lead s) from len)

  initial_same : initial_log_of acked ≡ initial_log_of (leading lead s)
  initial_same = λ i. take (ack_initial (leading lead s) from len i) (ack_log (leading lead s) from len i)

  core_counted : (core : Option Core) → CoreOk setup initial lead account core → CoreOk setup initial counted account core
  core_counted None k = (k.0, λ u in_stream. len_same u ∙ k.1 u in_stream ∙ ap length (sym (log_same u)))
  core_counted (Some core) k = k

  pub counts : LeadOk setup initial counted account
  counts = record {
    firsts = map-set_same initial_log_of lead.streams (s - 1) acked no_stream initial_same ∙ h.firsts;
    term = record {
      low = h.term.low;
      high = h.term.high;
      each = λ u in_stream. subst (λ log. StreamOk (own_setting (leader_of setup lead.epoch (carried_in setup initial))) lead.epoch u (first_at initial u) log
          (core_of setup lead.epoch (carried_in setup initial) account.turns) (account.pending u)) (sym (log_same u)) (h.term.each u in_stream);
    };
    sized = length-set lead.streams (s - 1) acked ∙ h.sized;
    room = h.room;
    begun = λ u in_stream. let same = len_same u in let logs = ap length (log_same u) in let k = h.begun u in_stream in omega (arith, same, logs, k);
    pending = h.pending;
    core = core_counted lead.core h.core;
  }

-- ---- the streams of a new leader ----

-- a stream on which nothing was proposed yet
abbrev pub IsNew : Leading → Type 0
IsNew x = x.initial_len ≡ length x.log

pub new_at : (e nodes quorum : ℕ) (logs : List Log) (i : ℕ) → IsNew (get_or (map (new_leading e nodes quorum) logs) i no_stream)
new_at e nodes quorum [] i = refl
new_at e nodes quorum (log ∷ logs) zero = refl
new_at e nodes quorum (log ∷ logs) (suc i) = new_at e nodes quorum logs i

-- its initial log is its log
pub whole : (x : Leading) → IsNew x → initial_log_of x ≡ x.log
whole x new = take_all x.initial_len x.log (omega (arith, new))

module _ (setup : Setup) (sized : SetupFits setup) (c : Candidate) (low : 1 ≤ c.epoch) (high : c.epoch < 2 ^ 20) where
  abbrev fresh : Lead
  fresh = new_lead setup c

  is_new : (s : ℕ) → IsNew (leading fresh s)
  is_new s = new_at c.epoch setup.nodes setup.second_quorum _ (s - 1)

  first_whole : (s : ℕ) → first_at (first_logs setup fresh) s ≡ log_at fresh.streams s
  first_whole s = first_of fresh.streams (s - 1) ∙ whole (leading fresh s) (is_new s)

  fresh_each : (s : ℕ) → StreamOk (own_setting (leader_of setup c.epoch (carried_in setup (first_logs setup fresh)))) c.epoch s
      (first_at (first_logs setup fresh) s) (log_at fresh.streams s) (core_of setup c.epoch (carried_in setup (first_logs setup fresh)) []) []
  fresh_each s = record {
    begins = ([], append-nil (first_at (first_logs setup fresh) s) ∙ first_whole s);
    encoded = subst AllEncode (sym no_tail) none_encoded;
    says = subst (λ log. Says (own_setting (leader_of setup c.epoch (carried_in setup (first_logs setup fresh)))) c.epoch s (batches_of log)
        (core_of setup c.epoch (carried_in setup (first_logs setup fresh)) []) []) (sym no_tail) (says_first (leader_of setup c.epoch (carried_in setup (first_logs setup fresh))) s);
  }
    where
      no_tail : tail_of (first_at (first_logs setup fresh) s) (log_at fresh.streams s) ≡ []
      no_tail = drop_all (length (first_at (first_logs setup fresh) s)) (log_at fresh.streams s) (let k = ap length (first_whole s) in omega (arith, k))

  pub begins_to_lead : LeadOk setup (first_logs setup fresh) fresh no_account × AllFew setup fresh
  begins_to_lead = (
    record {
      firsts = refl;
      term = record { low = low; high = high; each = λ s in_stream. fresh_each s };
      sized = length-map _ (new_leading c.epoch setup.nodes setup.second_quorum) ∙ length-map (recovered_logs c.promises setup.workers) _ ∙ length-recovered c.promises setup.workers;
      room = length-replicate setup.workers [];
      begun = λ s in_stream. let k = is_new s in omega (arith, k);
      pending = λ s in_stream. same_in setup.workers [] (s - 1);
      core = (refl, λ s in_stream. is_new s);
    },
    λ s in_stream. let none = ap length (same_in {A = List Item} setup.workers [] (s - 1)) in let some = sized.some_items in omega (arith, none, some),
  )
