-- A candidate that counts a promise, and leads.
use Rattle.std.proofs.Common.{◌≡◌, ℕ, zero, suc, ◌+◌, ◌-◌, ◌<◌, ◌≤◌, max, List, [], ◌∷◌, ◌++◌, length, map, replicate, take, get_or, Bool, true, false, true≢false, not, ◌&&◌, ◌==◌, nat_le, cond, Some, None, All, refl, sym, ap, ◌∙◌, subst, arith, inl, inr, length-append, Ok, Err, append-nil}
use Rattle.std.specs.List.{list_any, flat_map}
use Rattle.std.specs.Result.{result_ok}
use Rattle.std.proofs.lemmas.Bool.{or_left, or_right}
use Rattle.std.proofs.lemmas.Bool.Decides.{nat_tests}
use Rattle.std.proofs.lemmas.List.{length-replicate, length-map}
use Rattle.rl_base.specs.Order.{IsBelow}
use Rattle.rl_base.specs.declared.limit.TheConstants.{SLOTS}
use Rattle.rl_base.specs.declared.stamp.Stamp.{Stamp}
use Rattle.rl_base.proofs.Members.{In, contains_in, in_split, in_suffix, all_in, false_any}
use Rattle.rl_base.proofs.Tests.{by_bool, neither, or_false, lt_true, lt_false, true_same}
use Rattle.rl_batch.specs.Encoding.{batch_bytes}
use Rattle.rl_batch.specs.Laws.{BatchesReadBack, EncodingsAreShort}
use Rattle.rl_batch.specs.Ranges.{BatchInRange}
use Rattle.rl_election.specs.World.{no_stream}
use Rattle.rl_election.proofs.Rule.{each_is_recovered}
use Rattle.rl_election.proofs.Updates.{length-recovered}
use Rattle.rl_families.specs.Leaders.{open_mark}
use Rattle.rl_families.specs.Logs.{stamps_in_batch, stamps_along}
use Rattle.rl_families.specs.Streams.{log_at}
use Rattle.rl_families.proofs.Logs.{item_stamp}
use Rattle.rl_families.proofs.Rising.{Rises, rises_append}
use Rattle.rl_msg.specs.Ranges.{MsgInRange, EmbeddedBatchInRange}
use Rattle.rl_msg.specs.declared.msg.Msg.TheVariants as msg
use Rattle.rl_paxos.specs.Leaders.{Leading, new_leading, acked_count, greatest_acked}
use Rattle.rl_paxos.specs.Logs as bytes
use Rattle.rl_paxos.specs.Quorums.{is_node}
use Rattle.rl_paxos.specs.Recovery.{Promise, Candidate, has_promised, with_promise, promised_ballot, recovered_logs}
use Rattle.rl_txn.specs.declared.item.Item.{Item}
use Rattle.rl_nodes.specs.Answers.{quiet, to_each}
use Rattle.rl_nodes.specs.BadMessages.{is_wrong, carried_from, is_early}
use Rattle.rl_nodes.specs.Batches.{batch_of, batches_of}
use Rattle.rl_nodes.specs.Handles.{sync_to, new_lead, leads, recovers_full, stands_or_leads}
use Rattle.rl_nodes.specs.Nodes.{NodeState, Stands as StandsFor, Leads, len_acknowledged, acknowledged_log}
use Rattle.rl_nodes.specs.Setups.{Setup, SetupFits, stream_numbers}
use Rattle.rl_nodes.specs.declared.node_error.NodeError.{NodeError}
use Rattle.rl_nodes.specs.declared.node_error.NodeError.TheVariants.{BadMessage, StreamFull, NoEpoch, Memory}
use Rattle.rl_node.specs.Fits.{IsStream, IsEpoch, LogFits, PromiseFits, CandidateFits, LeadingFits, LeadFits}
use Rattle.rl_node.specs.Keeping.{IsEarly, HasBegun}
use Rattle.rl_node.specs.Leading.{stream_of}
use Rattle.rl_node.specs.Outs.{Adds}
use Rattle.rl_node.specs.Recovering.{IsNewLead, HasBecome, syncs_of, is_full, some_full, RefusesLog, RefusesLogs}
use Rattle.rl_node.specs.Standing.{log_of, HasNotOpened, HasWorksOf, lead_with, StandsLead}
use Rattle.rl_node.specs.declared.answer.Sent.{Sent}
use Rattle.rl_node.specs.declared.part.Lead as code
use Rattle.rl_node.specs.declared.part.Part.TheVariants as part
use Rattle.rl_node.proofs.Learning.{none_sent}
use Rattle.rl_node.proofs.Good.{IsGood, not_false}
use Rattle.rl_node.proofs.Keeps.{all_from, all_append, stamps_more, items_more, right_more}
use Rattle.rl_node.proofs.Ranges.{in_at}
use Rattle.rl_node.proofs.Logs.{IsRight, is_right, right_is, right_later, stamps_of, items_of}

-- ---- lists ----

pub got_map : {X Y : Type 0} (f : X → Y) (xs : List X) (i : ℕ) (d : Y) (e : X) → i < length xs → get_or (map f xs) i d ≡ f (get_or xs i e)
got_map f [] i d e l = absurd (omega (arith, l))
got_map f (x ∷ xs) zero d e l = refl
got_map f (x ∷ xs) (suc i) d e l = got_map f xs i d e (omega (arith, l))

many_same : {X : Type 0} (n i : ℕ) (x : X) → get_or (replicate n x) i x ≡ x
many_same zero i x = refl
many_same (suc n) zero x = refl
many_same (suc n) (suc i) x = many_same n i x

same_numbers : (a b : ℕ) → a ≡ b → (a == b) ≡ true
same_numbers a b e = grind (arith, nat_tests)

-- a log among others
pub full_middle : (before rest : List bytes.Log) (log : bytes.Log) (logs : List bytes.Log) → before ++ (log ∷ rest) ≡ logs → is_full log ≡ true → some_full logs ≡ true
full_middle before rest log logs all full = subst (λ xs. some_full xs ≡ true) all (there before)
  where
    there : (xs : List bytes.Log) → some_full (xs ++ (log ∷ rest)) ≡ true
    there [] = or_left (is_full log) (some_full rest) full
    there (x ∷ xs) = or_right (is_full x) (some_full (xs ++ (log ∷ rest))) (there xs)

pub refuses_middle : (before rest : List bytes.Log) (log : bytes.Log) (logs : List bytes.Log) → before ++ (log ∷ rest) ≡ logs → (e : NodeError) → RefusesLog log e → RefusesLogs logs e
refuses_middle before rest log logs all (StreamFull slots) h = (full_middle before rest log logs all h.0, h.1)
refuses_middle before rest log logs all Memory h = tt
refuses_middle before rest log logs all BadMessage h = h
refuses_middle before rest log logs all (NoEpoch promised) h = h

-- one more that has room
pub room_more : (before : List bytes.Log) (log : bytes.Log) → some_full before ≡ false → is_full log ≡ false → some_full (before ++ log ∷ []) ≡ false
room_more [] log h k = or_false (is_full log) false k refl
room_more (x ∷ xs) log h k =
    let parts = neither (is_full x) (some_full xs) h in
    or_false (is_full x) (some_full (xs ++ log ∷ [])) parts.0 (room_more xs log parts.1 k)

pub all_middle : {X : Type 0} (P : X → Type 0) (before rest : List X) (x : X) → All P (before ++ (x ∷ rest)) → P x
all_middle P before rest x h = all_in P (before ++ (x ∷ rest)) h x (in_suffix before (x ∷ rest) x (inl refl))

pub one_more : {X : Type 0} (n : ℕ) (x : X) → replicate (n + 1) x ≡ replicate n x ++ x ∷ []
one_more n x = let same : n + 1 ≡ suc n = omega arith in ap (λ k. replicate k x) same ∙ push n
  where
    push : (n : ℕ) → replicate (suc n) x ≡ replicate n x ++ x ∷ []
    push zero = refl
    push (suc n) = ap (λ xs. x ∷ xs) (push n)

-- nothing is acknowledged of a stream of which no node has acked anything
none_acked : (q : ℕ) (acked : List ℕ) (n : ℕ) → greatest_acked q acked (replicate n 0) ≡ 0
none_acked q acked zero = refl
none_acked q acked (suc n) =
    let more = none_acked q acked n in
    by_bool (λ b. cond b (max 0 (greatest_acked q acked (replicate n 0))) (greatest_acked q acked (replicate n 0)) ≡ 0) (nat_le q (acked_count acked 0))
    (λ t. omega (arith, more)) (λ t. more)

none_acknowledged : (e nodes q : ℕ) (log : bytes.Log) → len_acknowledged (new_leading e nodes q log) ≡ 0
none_acknowledged e nodes q log = none_acked q (replicate nodes 0) nodes

-- ---- what is due ----

module _ (setup : Setup) (a : ℕ) (c : Candidate) where
  -- it stands on
  pub stands_due : length c.promises < c.need → (x : NodeState) → stands_or_leads setup a x c ≡ Ok (quiet (record x { part = StandsFor c }))
  stands_due few x = ap (λ b. cond b (Ok (quiet (record x { part = StandsFor c }))) (recovers_full setup c (Ok (leads setup a x c))))
      (lt_true (length c.promises) c.need few)

  recovers : c.need ≤ length c.promises → (x : NodeState) → stands_or_leads setup a x c ≡ recovers_full setup c (Ok (leads setup a x c))
  recovers enough x = ap (λ b. cond b (Ok (quiet (record x { part = StandsFor c }))) (recovers_full setup c (Ok (leads setup a x c))))
      (lt_false (length c.promises) c.need enough)

  -- it leads
  pub leads_due : c.need ≤ length c.promises → some_full (recovered_logs c.promises setup.workers) ≡ false
      → (x : NodeState) → stands_or_leads setup a x c ≡ Ok (leads setup a x c)
  leads_due enough room x = recovers enough x ∙ ap (λ b. cond b (Err (StreamFull SLOTS)) (Ok (leads setup a x c))) room

  -- or a log is full
  pub full_due : c.need ≤ length c.promises → some_full (recovered_logs c.promises setup.workers) ≡ true
      → (x : NodeState) → stands_or_leads setup a x c ≡ Err (StreamFull SLOTS)
  full_due enough full x = recovers enough x ∙ ap (λ b. cond b (Err (StreamFull SLOTS)) (Ok (leads setup a x c))) full

-- ---- a leader that begins ----

module _ (setup : Setup) (fits : SetupFits setup) (c : Candidate) (f : CandidateFits setup c) (some : 1 ≤ length c.promises)
    (read : BatchesReadBack) (short : EncodingsAreShort) where
  abbrev mark : bytes.Batch
  mark = batch_bytes (open_mark c.epoch)

  mark_in_range : BatchInRange (open_mark c.epoch)
  mark_in_range = record { epoch_low = f.epoch.low; epoch_high = f.epoch.high; seq_low = omega arith; seq_high = omega arith }

  mark_reads : batch_of (batch_bytes (open_mark c.epoch)) ≡ Some (open_mark c.epoch)
  mark_reads = ap result_ok (read (open_mark c.epoch) mark_in_range tt)

  -- a log of earlier epochs
  record IsOld (s : ℕ) (log : bytes.Log) : Type 0 where
    ballot : ℕ
    below : ballot < c.epoch
    log_fits : LogFits setup.program.tables s ballot log

  -- as each recovered one is
  is_old : (s : ℕ) → IsStream setup s → IsOld s (get_or (recovered_logs c.promises setup.workers) (s - 1) [])
  is_old s is =
      let r = each_is_recovered c.promises setup.workers s some is.0 is.1 in
      let p = all_in (PromiseFits setup c.epoch) c.promises f.promises r.from (contains_in c.promises r.from r.promised) in
      record {
        ballot = promised_ballot s r.from;
        below = p.ballot s is;
        log_fits = subst (LogFits setup.program.tables s (promised_ballot s r.from)) r.log_is (p.log s is);
      }

  module _ (s : ℕ) (log : bytes.Log) (old : IsOld s log) (room : length log < SLOTS) where
    right : IsRight setup.program.tables s old.ballot log
    right = is_right setup.program.tables s old.ballot log old.log_fits.right

    early : (t : Stamp) → In t (stamps_of log) → t.epoch < c.epoch
    early t i = let e = right.epochs t i in let b = old.below in omega (arith, e, b)

    mark_right : IsRight setup.program.tables s c.epoch (log ++ batch_bytes (open_mark c.epoch) ∷ [])
    mark_right = right_more setup.program.tables s c.epoch log (batch_bytes (open_mark c.epoch)) (open_mark c.epoch)
        (right_later setup.program.tables s old.ballot c.epoch log (let b = old.below in omega (arith, b)) right) mark_reads
        (λ x i. absurd i) (λ t i. elim i [ inl e ↦ subst (λ (u : Stamp). u.epoch ≤ c.epoch) (sym e) (omega arith) | inr j ↦ absurd j ]) rises
      where
        rises : Rises (stamps_along (batches_of log) ++ stamps_in_batch (open_mark c.epoch))
        rises = rises_append (stamps_of log) (stamps_in_batch (open_mark c.epoch)) right.rising (tt, tt)
            (λ t u i j. elim j [ inl e ↦ subst (λ (v : Stamp). IsBelow t v) (sym e) (inl (early t i)) | inr k ↦ absurd k ])

    mark_fits : LogFits setup.program.tables s c.epoch (log ++ batch_bytes (open_mark c.epoch) ∷ [])
    mark_fits = record {
      in_range = record {
        few = omega (arith, room, length-append log (batch_bytes (open_mark c.epoch) ∷ []));
        each = all_append EmbeddedBatchInRange log (batch_bytes (open_mark c.epoch) ∷ []) old.log_fits.in_range.each (λ k d less. one k d less);
      };
      right = right_is setup.program.tables s c.epoch (log ++ batch_bytes (open_mark c.epoch) ∷ []) mark_right;
    }
      where
        one : (k : ℕ) (d : bytes.Batch) → k < 1 → EmbeddedBatchInRange (get_or (batch_bytes (open_mark c.epoch) ∷ []) k d)
        one zero d less = short (open_mark c.epoch) mark_in_range
        one (suc k) d less = absurd (omega (arith, less))

    begun : HasBegun c.epoch (log ++ batch_bytes (open_mark c.epoch) ∷ [])
    begun = record {
      stamps = all_from (IsEarly c.epoch) (stamps_of (log ++ batch_bytes (open_mark c.epoch) ∷ [])) (λ t i.
          elim (in_split (stamps_of log) (stamps_in_batch (open_mark c.epoch)) t
          (subst (In t) (stamps_more log (batch_bytes (open_mark c.epoch)) (open_mark c.epoch) mark_reads) i)) [
            | inl j ↦ inl (early t j)
            | inr j ↦ elim j [ inl e ↦ subst (IsEarly c.epoch) (sym e) (inr (refl, refl)) | inr k ↦ absurd k ]
          ]);
      items = all_from (λ (x : Item). x.stamp.epoch < c.epoch) (items_of (log ++ batch_bytes (open_mark c.epoch) ∷ [])) (λ x i.
          early x.stamp (item_stamp (batches_of log) x (subst (In x) (items_more log (batch_bytes (open_mark c.epoch)) (open_mark c.epoch) mark_reads ∙ append-nil (items_of log)) i)));
    }

    leading_fits : LeadingFits setup c.epoch s (new_leading c.epoch setup.nodes setup.second_quorum (log ++ batch_bytes (open_mark c.epoch) ∷ []))
    leading_fits =
        let len = length-append log (batch_bytes (open_mark c.epoch) ∷ []) in
        let none = none_acknowledged c.epoch setup.nodes setup.second_quorum (log ++ batch_bytes (open_mark c.epoch) ∷ []) in
        record {
          epoch = refl;
          quorum = refl;
          nodes = length-replicate setup.nodes 0;
          some = omega (arith, len);
          began = omega arith;
          within = omega (arith, none);
          log = mark_fits;
        }

  -- ---- the leader ----

  module _ (logs : List bytes.Log)
      (logs_by : logs ≡ map (λ (log : bytes.Log). log ++ batch_bytes (open_mark c.epoch) ∷ []) (recovered_logs c.promises c.streams))
      (room_by : some_full (recovered_logs c.promises c.streams) ≡ false) where
    logs_are : logs ≡ map (λ (log : bytes.Log). log ++ batch_bytes (open_mark c.epoch) ∷ []) (recovered_logs c.promises setup.workers)
    logs_are = logs_by ∙ ap (λ k. map (λ (log : bytes.Log). log ++ batch_bytes (open_mark c.epoch) ∷ []) (recovered_logs c.promises k)) f.streams

    room : some_full (recovered_logs c.promises setup.workers) ≡ false
    room = subst (λ k. some_full (recovered_logs c.promises k) ≡ false) f.streams room_by

    count : length (recovered_logs c.promises setup.workers) ≡ setup.workers
    count = length-recovered c.promises setup.workers

    place : (s : ℕ) → IsStream setup s → s - 1 < length (recovered_logs c.promises setup.workers)
    place s is = let size = count in omega (arith, size, is.0, is.1)

    abbrev old_log : (s : ℕ) → bytes.Log
    old_log s = get_or (recovered_logs c.promises setup.workers) (s - 1) []

    abbrev marked : bytes.Log → bytes.Log
    marked log = log ++ batch_bytes (open_mark c.epoch) ∷ []

    abbrev leading_of : bytes.Log → Leading
    leading_of log = new_leading c.epoch setup.nodes setup.second_quorum log

    has_room : (s : ℕ) → IsStream setup s → length (old_log s) < SLOTS
    has_room s is = not_full (length (old_log s)) (is_old s is).log_fits.in_range.few
        (false_any (λ (log : bytes.Log). length log == SLOTS) (recovered_logs c.promises setup.workers) room (old_log s) (in_at (recovered_logs c.promises setup.workers) (s - 1) [] (place s is)))
      where
        not_full : (n : ℕ) → n ≤ SLOTS → (n == SLOTS) ≡ false → n < SLOTS
        not_full n few h = grind (arith, nat_tests)

    pub logs_many : length logs ≡ setup.workers
    logs_many = ap length logs_are ∙ length-map (recovered_logs c.promises setup.workers) marked ∙ count

    pub logs_short : All (λ (log : bytes.Log). length log ≤ SLOTS) logs
    logs_short k d l =
        let many = logs_many in
        let at : get_or logs k d ≡ marked (get_or (recovered_logs c.promises setup.workers) k []) =
        ap (λ xs. get_or xs k d) logs_are ∙ got_map marked (recovered_logs c.promises setup.workers) k d [] (let size = count in omega (arith, l, many, size)) in
        let same : k + 1 - 1 ≡ k = omega arith in
        let free : length (get_or (recovered_logs c.promises setup.workers) k []) < SLOTS =
        subst (λ i. length (get_or (recovered_logs c.promises setup.workers) i []) < SLOTS) same (has_room (k + 1) (omega arith, omega (arith, l, many))) in
        let len = length-append (get_or (recovered_logs c.promises setup.workers) k []) (batch_bytes (open_mark c.epoch) ∷ []) in
        subst (λ (log : bytes.Log). length log ≤ SLOTS) (sym at) (omega (arith, free, len))

    module _ (l : code.Lead) (new : IsNewLead setup c.epoch logs l) where
      -- each stream begins with the recovered log and the mark
      stream_at : (s : ℕ) → IsStream setup s → stream_of l s ≡ leading_of (marked (old_log s))
      stream_at s is =
          ap (λ xs. get_or xs (s - 1) no_stream) (new.streams ∙ ap (map leading_of) logs_are)
          ∙ got_map leading_of (map marked (recovered_logs c.promises setup.workers)) (s - 1) no_stream [] (let size = length-map (recovered_logs c.promises setup.workers) marked in let here = place s is in omega (arith, size, here))
          ∙ ap leading_of (got_map marked (recovered_logs c.promises setup.workers) (s - 1) [] [] (place s is))

      acknowledged_of : (s : ℕ) → IsStream setup s → log_at l.acknowledged s ≡ batches_of (acknowledged_log (stream_of l s))
      acknowledged_of s is =
          ap (λ family. log_at family s) new.acknowledged ∙ many_same setup.workers (s - 1) []
          ∙ sym (ap (λ x. batches_of (acknowledged_log x)) (stream_at s is)
          ∙ ap (λ n. batches_of (take n (marked (old_log s)))) (none_acknowledged c.epoch setup.nodes setup.second_quorum (marked (old_log s))))

      pub lead_fits : LeadFits setup l
      lead_fits = record {
        epoch = subst IsEpoch (sym new.epoch) f.epoch;
        streams = ap length (new.streams ∙ ap (map leading_of) logs_are) ∙ length-map (map marked (recovered_logs c.promises setup.workers)) leading_of
            ∙ length-map (recovered_logs c.promises setup.workers) marked ∙ count;
        each = λ s is. subst (λ e. LeadingFits setup e s (stream_of l s)) (sym new.epoch)
            (subst (LeadingFits setup c.epoch s) (sym (stream_at s is)) (leading_fits s (old_log s) (is_old s is) (has_room s is)));
        acknowledged_streams = ap length new.acknowledged ∙ length-replicate setup.workers [];
        acknowledged = acknowledged_of;
        pending = ap length new.pending ∙ length-replicate setup.workers [];
      }

      not_opened : HasNotOpened setup l
      not_opened = record {
        begun = λ s is. subst (λ e. HasBegun e (log_of l s)) (sym new.epoch)
            (subst (λ (x : Leading). HasBegun c.epoch x.log) (sym (stream_at s is)) (begun s (old_log s) (is_old s is) (has_room s is)));
        pending = λ s is. ap (λ (xs : List (List Item)). get_or xs (s - 1) []) new.pending ∙ many_same setup.workers (s - 1) [];
      }

      lead_is : Leads (new_lead setup c) ≡ Leads (lead_with l None)
      lead_is = λ i. Leads (record {
        epoch = sym new.epoch i;
        streams = sym (new.streams ∙ ap (map leading_of) logs_are) i;
        core = None;
        pending = sym new.pending i;
      })

      pub stands_lead : StandsLead setup l (Leads (new_lead setup c))
      stands_lead = record {
        core = None;
        is = lead_is;
        works = subst (λ works. HasWorksOf setup l works None) (sym new.works) not_opened;
        fits = lead_fits;
      }

      same_lead : new_lead setup c ≡ lead_with l None
      same_lead = λ i. record {
        epoch = sym new.epoch i;
        streams = sym (new.streams ∙ ap (map leading_of) logs_are) i;
        core = None;
        pending = sym new.pending i;
      }

      -- it has become that leader
      pub becomes_leader : (a : ℕ) → c.need ≤ length c.promises → (sends : List Sent)
          → Adds [] sends (flat_map (λ s. syncs_of a l.epoch s (get_or l.streams.items (s - 1) no_stream) setup.nodes) (stream_numbers setup))
          → HasBecome setup a c (record { part = part.Leads l; sends = sends })
      becomes_leader a enough sends added = record {
        part = Leads (new_lead setup c);
        stands = stands_lead;
        messages = flat_map (λ s. to_each setup (sync_to a (new_lead setup c) s)) (stream_numbers setup);
        sends = subst (λ z. Adds [] sends (flat_map (λ s. to_each setup (sync_to a z s)) (stream_numbers setup))) (sym same_lead) added;
        due = leads_due setup a c enough room;
      }

-- ---- a promise that is not bad ----

module _ (setup : Setup) (a from to e : ℕ) (x : NodeState) (ballots : List ℕ) (logs : List bytes.Log)
    (good : IsGood setup a x (msg.Promise from to e ballots logs)) (range : MsgInRange (msg.Promise from to e ballots logs)) where
  sizes : (length ballots ≡ setup.workers) × (length logs ≡ setup.workers)
  sizes =
      let parts = neither (not (length ballots == setup.workers)) (not (length logs == setup.workers)) good.partial in (
        true_same (length ballots) setup.workers (not_false (length ballots == setup.workers) parts.0),
        true_same (length logs) setup.workers (not_false (length logs == setup.workers) parts.1),
      )

  pub promise_ballots : length ballots ≡ setup.workers
  promise_ballots = sizes.0

  pub promise_logs : length logs ≡ setup.workers
  promise_logs = sizes.1

  right_from : (s k : ℕ) (ballots : List ℕ) (logs : List bytes.Log) → list_any (is_wrong setup.program.tables) (carried_from s ballots logs) ≡ false
      → k < length ballots → k < length logs
      → is_wrong setup.program.tables (record { stream = s + k; epoch = get_or ballots k 0; log = get_or logs k [] }) ≡ false
  right_from s k [] logs h l m = absurd (omega (arith, l))
  right_from s k (b ∷ bs) [] h l m = absurd (omega (arith, m))
  right_from s zero (b ∷ bs) (g ∷ gs) h l m =
      let first = (neither (is_wrong setup.program.tables (record { stream = s; epoch = b; log = g })) (list_any (is_wrong setup.program.tables) (carried_from (suc s) bs gs)) h).0 in
      let same : s + 0 ≡ s = omega arith in
      subst (λ t. is_wrong setup.program.tables (record { stream = t; epoch = b; log = g }) ≡ false) (sym same) first
  right_from s (suc k) (b ∷ bs) (g ∷ gs) h l m =
      let rest = (neither (is_wrong setup.program.tables (record { stream = s; epoch = b; log = g })) (list_any (is_wrong setup.program.tables) (carried_from (suc s) bs gs)) h).1 in
      let same : suc s + k ≡ s + suc k = omega arith in
      subst (λ t. is_wrong setup.program.tables (record { stream = t; epoch = get_or bs k 0; log = get_or gs k [] }) ≡ false) same
      (right_from (suc s) k bs gs rest (omega (arith, l)) (omega (arith, m)))

  -- it fits the candidate that takes it
  pub promise_fits : (c : Candidate) → x.part ≡ StandsFor c → c.epoch ≡ e
      → PromiseFits setup c.epoch (record { node = from; ballots = ballots; logs = logs })
  promise_fits c part epoch = record {
    ballot = λ s is. below (get_or ballots (s - 1) 0)
        (false_any (nat_le e) ballots late (get_or ballots (s - 1) 0) (in_at ballots (s - 1) 0 (omega (arith, sizes.0, is.0, is.1))));
    log = λ s is. record {
      in_range = range.1.each_log (s - 1) [] (omega (arith, sizes.1, is.0, is.1));
      right =
          let same : 1 + (s - 1) ≡ s = omega (arith, is.0) in
          subst (λ t. is_wrong setup.program.tables (record { stream = t; epoch = get_or ballots (s - 1) 0; log = get_or logs (s - 1) [] }) ≡ false) same
          (right_from 1 (s - 1) ballots logs good.wrong (omega (arith, sizes.0, is.0, is.1)) (omega (arith, sizes.1, is.0, is.1)));
    };
  }
    where
      early : is_early (StandsFor c) e ballots ≡ false
      early = subst (λ p. is_early p e ballots ≡ false) part good.untrue

      late : list_any (nat_le e) ballots ≡ false
      late = second (c.epoch == e) (list_any (nat_le e) ballots) (same_numbers c.epoch e epoch) early
        where
          second : (p q : Bool) → p ≡ true → (p && q) ≡ false → q ≡ false
          second true q h k = k
          second false q h k = absurd (true≢false (sym h))

      below : (b : ℕ) → nat_le e b ≡ false → b < c.epoch
      below b h = grind (arith, nat_tests)

-- another promise is counted
pub counted_fits : (setup : Setup) (c : Candidate) (p : Promise) → CandidateFits setup c → PromiseFits setup c.epoch p → CandidateFits setup (with_promise c p)
counted_fits setup c p f fits =
    by_bool (λ b. CandidateFits setup (cond b (record c { promises = c.promises ++ p ∷ [] }) c)) (is_node c.nodes p.node && not (has_promised c.promises p.node))
    (λ t. record {
      epoch = f.epoch;
      nodes = f.nodes;
      streams = f.streams;
      need = f.need;
      promises = all_append (PromiseFits setup c.epoch) c.promises (p ∷ []) f.promises (λ k d less. one k d less);
    })
    (λ t. f)
  where
    one : (k : ℕ) (d : Promise) → k < 1 → PromiseFits setup c.epoch (get_or (p ∷ []) k d)
    one zero d less = fits
    one (suc k) d less = absurd (omega (arith, less))

-- it stands on
pub becomes_candidate : (setup : Setup) (a : ℕ) (c : Candidate) → CandidateFits setup c → length c.promises < c.need → (sends : List Sent) → sends ≡ []
    → HasBecome setup a c (record { part = part.Stands c; sends = sends })
becomes_candidate setup a c f few sends none = record {
  part = StandsFor c;
  stands = (refl, f);
  messages = [];
  sends = none_sent sends none;
  due = stands_due setup a c few;
}
