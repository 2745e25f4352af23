-- A leader one of whose streams changes.
use Rattle.std.proofs.Common.{◌≡◌, ◌≢◌, ℕ, zero, suc, ◌+◌, ◌-◌, ◌<◌, ◌≤◌, max, List, [], ◌∷◌, ◌++◌, length, take, get_or, set, Bool, true, false, cond, nat_le, if◌then◌else◌, refl, sym, ap, ◌∙◌, subst, arith, inl, inr, length-set, length-append, get_or-set_same, get_or-set_other}
use Rattle.std.specs.Prelude.{slice_set, slice_index_or, slice_index}
use Rattle.std.proofs.lemmas.Bool.{cases_eq}
use Rattle.std.proofs.lemmas.Bool.Decides.{nat_tests}
use Rattle.std.proofs.lemmas.List.{take-append-le}
use Rattle.std.proofs.lemmas.List.Sums.{sum_by-cons}
use Rattle.rl_base.specs.declared.limit.TheConstants.{SLOTS}
use Rattle.rl_election.specs.World.{no_stream}
use Rattle.rl_families.specs.Streams.{log_at}
use Rattle.rl_msg.specs.Ranges.{EmbeddedBatchInRange}
use Rattle.rl_paxos.specs.Leaders.{Leading, proposed, with_ack, acked_count, IsAcknowledged}
use Rattle.rl_paxos.specs.Logs as bytes
use Rattle.rl_paxos.specs.Quorums.{is_node}
use Rattle.rl_txn.specs.declared.batch.Batch.{Batch}
use Rattle.rl_nodes.specs.Batches.{batches_of, are_batches}
use Rattle.rl_nodes.specs.Nodes.{len_acknowledged, acknowledged_log}
use Rattle.rl_nodes.specs.Setups.{Setup}
use Rattle.rl_node.specs.Fits.{IsStream, IsEpoch, LeadingFits, LeadFits}
use Rattle.rl_node.specs.declared.part.Lead as leads
use Rattle.rl_node.proofs.Keeps.{all_append}
use Rattle.rl_node.proofs.Logs.{IsRight, is_right, right_is}
use Rattle.rl_families.specs.Logs.{stamps_along, IsRising}
use Rattle.rl_families.proofs.Rising.{from_rises}
use Rattle.rl_node.specs.Behind.{IsBehind}
use Rattle.rl_node.specs.Counting.{HasCounted}
use Rattle.rl_node.specs.Leading.{stream_of}
use Rattle.rl_node.proofs.Streams.{set_self}

-- ---- one stream ----

-- a batch is proposed
pub proposed_fits : (setup : Setup) (e s : ℕ) (x : Leading) (b : bytes.Batch) → LeadingFits setup e s x → length x.log < SLOTS → EmbeddedBatchInRange b
    → IsRight setup.program.tables s e (x.log ++ b ∷ []) → LeadingFits setup e s (proposed x b)
proposed_fits setup e s x b h free short right = record {
  epoch = h.epoch;
  quorum = h.quorum;
  nodes = h.nodes;
  some = h.some;
  began = let began = h.began in omega (arith, began, longer);
  within = let within = h.within in omega (arith, within, longer);
  log = record {
    in_range = record {
      few = omega (arith, free, longer);
      each = all_append EmbeddedBatchInRange x.log (b ∷ []) h.log.in_range.each (λ k d less. one k d less);
    };
    right = right_is setup.program.tables s e (x.log ++ b ∷ []) right;
  };
}
  where
    longer : length (x.log ++ b ∷ []) ≡ length x.log + 1
    longer = length-append x.log (b ∷ [])

    one : (k : ℕ) (d : bytes.Batch) → k < 1 → EmbeddedBatchInRange (get_or (b ∷ []) k d)
    one zero d less = short
    one (suc k) d less = absurd (omega (arith, less))

pub proposed_acknowledged : (x : Leading) (b : bytes.Batch) → len_acknowledged x ≤ length x.log → acknowledged_log (proposed x b) ≡ acknowledged_log x
proposed_acknowledged x b within = take-append-le (len_acknowledged x) x.log (b ∷ []) within

by_if : {A : Type 0} (P : A → Type 0) (b : Bool) (x y : A) → P x → P y → P (if b then x else y)
by_if P true x y t f = t
by_if P false x y t f = f

abbrev counted : Leading → (node len : ℕ) → Leading
counted x node len = record x { acked = slice_set x.acked (node - 1) (max (slice_index x.acked (node - 1)) len) }

-- an Ack is counted
pub acked_fits : (setup : Setup) (e s : ℕ) (x : Leading) (node len : ℕ) → LeadingFits setup e s x
    → len_acknowledged (with_ack x node len) ≤ length (with_ack x node len).log → LeadingFits setup e s (with_ack x node len)
acked_fits setup e s x node len h =
    by_if (λ (z : Leading). len_acknowledged z ≤ length z.log → LeadingFits setup e s z) (is_node (length x.acked) node) (counted x node len) x
    (λ within. record {
      epoch = h.epoch;
      quorum = h.quorum;
      nodes = length-set x.acked (node - 1) (max (slice_index x.acked (node - 1)) len) ∙ h.nodes;
      some = h.some;
      began = h.began;
      within = within;
      log = h.log;
    })
    (λ within. h)

pub acked_log : (x : Leading) (node len : ℕ) → (with_ack x node len).log ≡ x.log
acked_log x node len = by_if (λ (z : Leading). z.log ≡ x.log) (is_node (length x.acked) node)
    (counted x node len) x refl refl

-- what is acknowledged grows
more_counts : (len x m : ℕ) → cond (nat_le len x) 1 0 ≤ cond (nat_le len (max x m)) 1 0
more_counts len x m = grind (arith, nat_tests)

counted_first : (len x : ℕ) (xs : List ℕ) → acked_count (x ∷ xs) len ≡ cond (nat_le len x) 1 0 + acked_count xs len
counted_first len x xs = sum_by-cons (λ a. cond (nat_le len a) 1 0) x xs

more_of : (len x y : ℕ) (xs ys : List ℕ) → cond (nat_le len x) 1 0 ≤ cond (nat_le len y) 1 0 → acked_count xs len ≤ acked_count ys len
    → acked_count (x ∷ xs) len ≤ acked_count (y ∷ ys) len
more_of len x y xs ys h k = let a = counted_first len x xs in let b = counted_first len y ys in omega (arith, a, b, h, k)

count_more : (len m : ℕ) (acked : List ℕ) (i : ℕ) → acked_count acked len ≤ acked_count (set acked i (max (get_or acked i 0) m)) len
count_more len m [] i = omega arith
count_more len m (x ∷ xs) zero = more_of len x (max x m) xs xs (more_counts len x m) (omega arith)
count_more len m (x ∷ xs) (suc i) = more_of len x x xs (set xs i (max (get_or xs i 0) m)) (omega arith) (count_more len m xs i)

pub acknowledged_grows : (x : Leading) (node len before after : ℕ) → IsAcknowledged x.quorum x.acked before → (y : Leading) → y ≡ with_ack x node len
    → IsAcknowledged y.quorum y.acked after → before ≤ after
acknowledged_grows x node len before after h y is k =
    by_if (λ (z : Leading). IsAcknowledged z.quorum z.acked after → before ≤ after) (is_node (length x.acked) node) (counted x node len) x
    (λ g. g.greatest before (let q = h.quorum_has in let m = count_more before len x.acked (node - 1) in omega (arith, q, m)))
    (λ g. g.greatest before h.quorum_has)
    (subst (λ (z : Leading). IsAcknowledged z.quorum z.acked after) is k)

-- ---- a leader ----

module _ (setup : Setup) (l : leads.Lead) (fits : LeadFits setup l) (s : ℕ) (there : IsStream setup s) (x : Leading) where
  inside : s - 1 < length l.streams.items
  inside = let size = fits.streams in omega (arith, there.0, there.1, size)

  within : s - 1 < length l.acknowledged
  within = let size = fits.acknowledged_streams in omega (arith, there.0, there.1, size)

  apart : (u : ℕ) → IsStream setup u → u ≢ s → u - 1 ≢ s - 1
  apart u is n e = n (same u s is.0 there.0 e)
    where
      same : (u s : ℕ) → 1 ≤ u → 1 ≤ s → u - 1 ≡ s - 1 → u ≡ s
      same u s p q e = omega (arith, p, q, e)

  -- what each stream is, where that is said of the changed one
  pub by_stream : (P : ℕ → Leading → Type 0) → P s x → ((u : ℕ) → IsStream setup u → P u (slice_index_or l.streams.items (u - 1) no_stream))
      → (u : ℕ) → IsStream setup u → P u (slice_index_or (slice_set l.streams.items (s - 1) x) (u - 1) no_stream)
  by_stream P here rest u is = elim (cases_eq u s) [
    | inl e ↦ subst (λ v. P v (slice_index_or (slice_set l.streams.items (s - 1) x) (v - 1) no_stream)) (sym e)
        (subst (P s) (sym (get_or-set_same l.streams.items (s - 1) x no_stream inside)) here)
    | inr n ↦ subst (P u) (sym (get_or-set_other l.streams.items (s - 1) (u - 1) x no_stream (apart u is n))) (rest u is)
  ]

  acknowledged_now : (u : ℕ) → IsStream setup u → log_at (slice_set l.acknowledged (s - 1) (batches_of (acknowledged_log x))) u
      ≡ batches_of (acknowledged_log (slice_index_or (slice_set l.streams.items (s - 1) x) (u - 1) no_stream))
  acknowledged_now u is = elim (cases_eq u s) [
    | inl e ↦ subst (λ v. log_at (slice_set l.acknowledged (s - 1) (batches_of (acknowledged_log x))) v
        ≡ batches_of (acknowledged_log (slice_index_or (slice_set l.streams.items (s - 1) x) (v - 1) no_stream))) (sym e)
        (get_or-set_same l.acknowledged (s - 1) (batches_of (acknowledged_log x)) [] within
        ∙ sym (ap (λ z. batches_of (acknowledged_log z)) (get_or-set_same l.streams.items (s - 1) x no_stream inside)))
    | inr n ↦ get_or-set_other l.acknowledged (s - 1) (u - 1) (batches_of (acknowledged_log x)) [] (apart u is n)
        ∙ fits.acknowledged u is
        ∙ sym (ap (λ z. batches_of (acknowledged_log z)) (get_or-set_other l.streams.items (s - 1) (u - 1) x no_stream (apart u is n)))
  ]

  -- the leader with it
  pub fits_with : (new : leads.Lead) → new.epoch ≡ l.epoch → new.streams.items ≡ slice_set l.streams.items (s - 1) x
      → new.acknowledged ≡ slice_set l.acknowledged (s - 1) (batches_of (acknowledged_log x)) → length new.pending.items ≡ setup.workers
      → LeadingFits setup l.epoch s x → LeadFits setup new
  fits_with new epoch streams acknowledged pending here = record {
    epoch = subst IsEpoch (sym epoch) fits.epoch;
    streams = ap length streams ∙ length-set l.streams.items (s - 1) x ∙ fits.streams;
    each = λ u is. subst (λ e. LeadingFits setup e u (slice_index_or new.streams.items (u - 1) no_stream)) (sym epoch)
        (subst (λ xs. LeadingFits setup l.epoch u (slice_index_or xs (u - 1) no_stream)) (sym streams)
        (by_stream (λ v z. LeadingFits setup l.epoch v z) here fits.each u is));
    acknowledged_streams = ap length acknowledged ∙ length-set l.acknowledged (s - 1) (batches_of (acknowledged_log x)) ∙ fits.acknowledged_streams;
    acknowledged = λ u is. ap (λ family. log_at family u) acknowledged ∙ acknowledged_now u is
        ∙ ap (λ xs. batches_of (acknowledged_log (slice_index_or xs (u - 1) no_stream))) (sym streams);
    pending = pending;
  }

  -- what is acknowledged stays the same
  pub acknowledged_same : batches_of (acknowledged_log x) ≡ batches_of (acknowledged_log (slice_index_or l.streams.items (s - 1) no_stream))
      → l.acknowledged ≡ slice_set l.acknowledged (s - 1) (batches_of (acknowledged_log x))
  acknowledged_same e = sym (ap (λ log. slice_set l.acknowledged (s - 1) log) (e ∙ sym (fits.acknowledged s there)) ∙ set_self l.acknowledged (s - 1) [])

-- ---- a leader that has counted an Ack ----

module _ (setup : Setup) (l : leads.Lead) (s before after : ℕ) (h : IsBehind setup l s before after) where
  right_here : IsRight setup.program.tables s l.epoch (stream_of l s).log
  right_here = is_right setup.program.tables s l.epoch (stream_of l s).log (h.each s h.stream).log.right

  pub behind_rises : (log : bytes.Log) → log ≡ (stream_of l s).log → IsRising (stamps_along (batches_of log))
  behind_rises log e = subst (λ z. IsRising (stamps_along (batches_of z))) (sym e) (from_rises _ right_here.rising)

  pub behind_encodes : (log : bytes.Log) → log ≡ (stream_of l s).log → are_batches log ≡ true
  behind_encodes log e = subst (λ z. are_batches z ≡ true) (sym e) right_here.batches

  pub behind_within : (log : bytes.Log) → log ≡ (stream_of l s).log → after ≤ length log
  behind_within log e = let k = (h.each s h.stream).within in let now = h.now in let len = ap length e in omega (arith, k, now, len)

  pub behind_begins : (log : bytes.Log) → log ≡ (stream_of l s).log → log_at l.acknowledged s ≡ batches_of (take before log)
  behind_begins log e = h.here ∙ ap (λ z. batches_of (take before z)) (sym e)

  place : s - 1 < length l.acknowledged
  place = let size = h.acknowledged_streams in let is = h.stream in omega (arith, is.0, is.1, size)

  other_place : (u : ℕ) → IsStream setup u → u ≢ s → u - 1 ≢ s - 1
  other_place u is n e = n (same u s is.0 h.stream.0 e)
    where
      same : (u s : ℕ) → 1 ≤ u → 1 ≤ s → u - 1 ≡ s - 1 → u ≡ s
      same u s p q e = omega (arith, p, q, e)

  -- it is up to it then
  pub behind_fits : (log : bytes.Log) → log ≡ (stream_of l s).log → (family : List (List Batch))
      → family ≡ slice_set l.acknowledged (s - 1) (batches_of (take after log)) → LeadFits setup (record l { acknowledged = family })
  behind_fits log e family is = record {
    epoch = h.epoch;
    streams = h.streams;
    each = h.each;
    acknowledged_streams = ap length is ∙ length-set l.acknowledged (s - 1) (batches_of (take after log)) ∙ h.acknowledged_streams;
    acknowledged = λ u in_setup. ap (λ z. log_at z u) is ∙ at u in_setup;
    pending = h.pending;
  }
    where
      whole : batches_of (take after log) ≡ batches_of (acknowledged_log (stream_of l s))
      whole = (λ i. batches_of (take (h.now i) (e i)))

      at : (u : ℕ) → IsStream setup u → log_at (slice_set l.acknowledged (s - 1) (batches_of (take after log))) u ≡ batches_of (acknowledged_log (stream_of l u))
      at u in_setup = elim (cases_eq u s) [
        | inl same ↦ subst (λ v. log_at (slice_set l.acknowledged (s - 1) (batches_of (take after log))) v ≡ batches_of (acknowledged_log (stream_of l v))) (sym same)
            (get_or-set_same l.acknowledged (s - 1) (batches_of (take after log)) [] place ∙ whole)
        | inr n ↦ get_or-set_other l.acknowledged (s - 1) (u - 1) (batches_of (take after log)) [] (other_place u in_setup n) ∙ h.others u in_setup n
      ]

-- a leader counts an Ack and is behind then, or has nothing to catch up with
module _ (setup : Setup) (old new : leads.Lead) (s from len : ℕ) (fits : LeadFits setup old) (there : IsStream setup s) (h : HasCounted old new s from len)
    (within : len_acknowledged (stream_of new s) ≤ length (stream_of new s).log) where
  now_here : stream_of new s ≡ with_ack (stream_of old s) from len
  now_here = ap (λ xs. slice_index_or xs (s - 1) no_stream) h.streams
      ∙ get_or-set_same old.streams.items (s - 1) (with_ack (stream_of old s) from len) no_stream (inside setup old fits s there (with_ack (stream_of old s) from len))

  now_fits : LeadingFits setup old.epoch s (with_ack (stream_of old s) from len)
  now_fits = acked_fits setup old.epoch s (stream_of old s) from len (fits.each s there)
      (subst (λ (z : Leading). len_acknowledged z ≤ length z.log) now_here within)

  pub counted_each : (u : ℕ) → IsStream setup u → LeadingFits setup old.epoch u (stream_of new u)
  counted_each u is = subst (λ xs. LeadingFits setup old.epoch u (slice_index_or xs (u - 1) no_stream)) (sym h.streams)
      (by_stream setup old fits s there (with_ack (stream_of old s) from len) (λ v z. LeadingFits setup old.epoch v z) now_fits fits.each u is)

  others_are : (u : ℕ) → IsStream setup u → u ≢ s → stream_of new u ≡ stream_of old u
  others_are u is n = ap (λ xs. slice_index_or xs (u - 1) no_stream) h.streams
      ∙ get_or-set_other old.streams.items (s - 1) (u - 1) (with_ack (stream_of old s) from len) no_stream (apart setup old fits s there (with_ack (stream_of old s) from len) u is n)

  pub log_now : (stream_of new s).log ≡ (stream_of old s).log
  log_now = ap (λ (z : Leading). z.log) now_here ∙ acked_log (stream_of old s) from len

  pub is_behind : (before after : ℕ) → before ≡ len_acknowledged (stream_of old s) → after ≡ len_acknowledged (stream_of new s) → before ≤ after
      → IsBehind setup new s before after
  is_behind before after was now order = subst (λ (z : leads.Lead). IsBehind setup z s before after) (sym h.same) (record {
    epoch = fits.epoch;
    stream = there;
    streams = ap length h.streams ∙ length-set old.streams.items (s - 1) (with_ack (stream_of old s) from len) ∙ fits.streams;
    each = counted_each;
    acknowledged_streams = fits.acknowledged_streams;
    others = λ u is n. fits.acknowledged u is ∙ ap (λ z. batches_of (acknowledged_log z)) (sym (others_are u is n));
    here = fits.acknowledged s there ∙ (λ i. batches_of (take (sym was i) (sym log_now i)));
    order = order;
    now = now;
    pending = fits.pending;
  })

  -- where no more is acknowledged
  pub counted_fits : len_acknowledged (stream_of old s) ≡ len_acknowledged (stream_of new s) → LeadFits setup new
  counted_fits same = subst (LeadFits setup) (sym h.same) (fits_with setup old fits s there (with_ack (stream_of old s) from len) (record old { streams = new.streams }) refl h.streams
      (acknowledged_same setup old fits s there (with_ack (stream_of old s) from len)
      (λ i. batches_of (take ((ap len_acknowledged (sym now_here) ∙ sym same) i) (acked_log (stream_of old s) from len i)))) fits.pending now_fits)
