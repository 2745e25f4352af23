-- A leader proposes what is pending of a worker.
use Rattle.std.proofs.Common.{◌≡◌, ◌≢◌, ℕ, ◌-◌, ◌<◌, ◌≤◌, List, [], ◌∷◌, ◌++◌, length, Some, Ok, option_to_list, All, sym, ap, ◌∙◌, subst, arith, inl, inr, append_assoc, length-set, get_or-set_same, get_or-set_other}
use Rattle.std.specs.Prelude.{slice_get, slice_set, slice_index_or}
use Rattle.std.specs.Result.{result_ok}
use Rattle.std.proofs.lemmas.Bool.{cases_eq}
use Rattle.std.proofs.lemmas.List.{map-append}
use Rattle.rl_base.specs.declared.limit.TheConstants.{SLOTS}
use Rattle.rl_base.specs.declared.stamp.Stamp.{Stamp}
use Rattle.rl_base.proofs.Members.{map_in, all_in}
use Rattle.rl_batch.specs.declared.item.TheConstants.{BATCH_ITEMS}
use Rattle.rl_batch.specs.Ranges.{ItemsInRange}
use Rattle.rl_election.specs.World.{no_stream}
use Rattle.rl_families.specs.Logs.{stamps_along}
use Rattle.rl_families.proofs.Rising.{Rises, rises_from, rises_front, rises_back}
use Rattle.rl_msg.specs.Ranges.{EmbeddedBatchInRange}
use Rattle.rl_paxos.specs.Leaders.{Leading, proposed}
use Rattle.rl_paxos.specs.Logs as bytes
use Rattle.rl_txn.specs.declared.batch.Batch.TheVariants.{Items}
use Rattle.rl_txn.specs.declared.item.Item.{Item}
use Rattle.rl_worker.specs.Acts.{Core}
use Rattle.rl_worker.specs.OneTurn.{SeenInRange}
use Rattle.rl_worker.specs.Opening.{OpenLeader}
use Rattle.rl_worker.specs.Workers.{decided_item}
use Rattle.rl_worker.specs.declared.worker.Worker.{Worker}
use Rattle.rl_nodes.specs.Batches.{batch_of, batches_of}
use Rattle.rl_nodes.specs.Openings.{opening_leader}
use Rattle.rl_nodes.specs.Setups.{Setup, SetupFits}
use Rattle.rl_node.specs.Fits.{IsStream, LeadFits}
use Rattle.rl_node.specs.Keeping.{KeepsStream}
use Rattle.rl_node.specs.Leading.{stream_of, HasStreams}
use Rattle.rl_node.specs.Proposing.{HasProposed}
use Rattle.rl_batch.specs.Encoding.{batch_bytes}
use Rattle.rl_batch.specs.Reading.{read_batch}
use Rattle.rl_node.specs.Standing.{AreWorksOf, log_of, pending_in}
use Rattle.rl_node.specs.declared.part.Lead as leads
use Rattle.rl_node.specs.declared.part.Works.{Works}
use Rattle.rl_node.proofs.Keeps.{all_front, stamp_list, right_more, keeps_items}
use Rattle.rl_node.proofs.Leaders.{fits_with, proposed_fits, proposed_acknowledged, acknowledged_same}
use Rattle.rl_node.proofs.Logs.{IsRight, is_right}
use Rattle.rl_node.proofs.Ranges.{items_in_range, writes_fit}
use Rattle.rl_node.proofs.Turns.{at_index}

module _ (setup : Setup) (sized : SetupFits setup) (l : leads.Lead) (works : Works) (core : Core) (a : AreWorksOf setup l works core) (fits : LeadFits setup l)
    (w : ℕ) (there : IsStream setup w) where
  abbrev o : OpenLeader
  o = opening_leader setup.program l.epoch a.items

  own_worker : (x : Worker) × (slice_get works.workers.items (w - 1) ≡ Some x)
  own_worker = at_index works.workers.items (w - 1) (let count = a.count in omega (arith, there.0, there.1, count))

  abbrev x : Worker
  x = own_worker.0

  abbrev pending : List Item
  pending = pending_in l w

  kept : KeepsStream o w (log_of l w) pending x core
  kept = a.keeps w x there.0 own_worker.1

  seen : All (SeenInRange o) pending
  seen = all_front (SeenInRange o) pending (option_to_list (decided_item x)) kept.fit

  own : All (λ (i : Item). i.worker ≡ w) pending
  own = all_front (λ (i : Item). i.worker ≡ w) pending (option_to_list (decided_item x)) kept.own

  rises : Rises (stamps_along (batches_of (log_of l w)) ++ stamp_list pending)
  rises = rises_front (stamps_along (batches_of (log_of l w)) ++ stamp_list pending) (stamp_list (option_to_list (decided_item x)))
      (subst Rises (ap (λ z. stamps_along (batches_of (log_of l w)) ++ z) (map-append (λ (i : Item). i.stamp) pending (option_to_list (decided_item x)))
      ∙ sym (append_assoc (stamps_along (batches_of (log_of l w))) (stamp_list pending) (stamp_list (option_to_list (decided_item x))))) (rises_from _ kept.rising))

  pub pending_in_range : 1 ≤ length pending → length pending ≤ BATCH_ITEMS → ItemsInRange pending
  pending_in_range some few = items_in_range o a.opens fits.epoch.low fits.epoch.high w there.0 (let most = sized.few_workers in omega (arith, there.1, most))
      pending some few seen own (rises_back (stamps_along (batches_of (log_of l w))) (stamp_list pending) rises)

  module _ (new : leads.Lead) (b : bytes.Batch) (h : HasProposed l new w b) (is : batch_of b ≡ Some (Items pending))
      (free : length (stream_of l w).log < SLOTS) (short : EmbeddedBatchInRange b) where
    right : IsRight setup.program.tables w l.epoch (log_of l w ++ b ∷ [])
    right = right_more setup.program.tables w l.epoch (log_of l w) b (Items pending)
        (is_right setup.program.tables w l.epoch (log_of l w) (fits.each w there).log.right) is
        (λ i k. (all_in (λ (y : Item). y.worker ≡ w) pending own i k, writes_fit o a.opens i (all_in (SeenInRange o) pending seen i k)))
        (λ t k. let m = map_in (λ (y : Item). y.stamp) t pending k in
        let same = (all_in (SeenInRange o) pending seen m.0 m.1).epoch in
        let at : m.0.stamp.epoch ≡ t.epoch = ap (λ (u : Stamp). u.epoch) m.2 in omega (arith, same, at)) rises

    room : length new.pending.items ≡ setup.workers
    room = ap length h.pending ∙ length-set l.pending.items (w - 1) [] ∙ fits.pending

    pub proposed_lead : LeadFits setup new
    proposed_lead = fits_with setup l fits w there (proposed (stream_of l w) b) new h.epoch h.streams
        (h.acknowledged ∙ acknowledged_same setup l fits w there (proposed (stream_of l w) b)
        (ap batches_of (proposed_acknowledged (stream_of l w) b (fits.each w there).within))) room
        (proposed_fits setup l.epoch w (stream_of l w) b (fits.each w there) free short right)

    inside : w - 1 < length l.streams.items
    inside = let size = fits.streams in omega (arith, there.0, there.1, size)

    within : w - 1 < length l.pending.items
    within = let size = fits.pending in omega (arith, there.0, there.1, size)

    apart : (v : ℕ) → 1 ≤ v → v ≢ w → v - 1 ≢ w - 1
    apart v first n e = n (same v w first there.0 e)
      where
        same : (u s : ℕ) → 1 ≤ u → 1 ≤ s → u - 1 ≡ s - 1 → u ≡ s
        same u s p q e = omega (arith, p, q, e)

    log_here : log_of new w ≡ log_of l w ++ b ∷ []
    log_here = ap (λ xs. (slice_index_or xs (w - 1) no_stream).log) h.streams
        ∙ ap (λ (z : Leading). z.log) (get_or-set_same l.streams.items (w - 1) (proposed (stream_of l w) b) no_stream inside)

    none_here : pending_in new w ≡ []
    none_here = ap (λ ps. slice_index_or ps (w - 1) []) h.pending ∙ get_or-set_same l.pending.items (w - 1) [] [] within

    log_other : (v : ℕ) → 1 ≤ v → v ≢ w → log_of new v ≡ log_of l v
    log_other v first n = ap (λ xs. (slice_index_or xs (v - 1) no_stream).log) h.streams
        ∙ ap (λ (z : Leading). z.log) (get_or-set_other l.streams.items (w - 1) (v - 1) (proposed (stream_of l w) b) no_stream (apart v first n))

    pub pending_other : (v : ℕ) → 1 ≤ v → v ≢ w → pending_in new v ≡ pending_in l v
    pending_other v first n = ap (λ ps. slice_index_or ps (v - 1) []) h.pending ∙ get_or-set_other l.pending.items (w - 1) (v - 1) [] [] (apart v first n)

    keeps_now : (works' : Works) (core' : Core) (c : AreWorksOf setup l works' core') (v : ℕ) (y : Worker) → 1 ≤ v → slice_get works'.workers.items (v - 1) ≡ Some y
        → KeepsStream (opening_leader setup.program l.epoch c.items) v (log_of new v) (pending_in new v) y core'
    keeps_now works' core' c v y first got = elim (cases_eq v w) [
      | inl e ↦ subst (λ u. KeepsStream p u (log_of new u) (pending_in new u) y core') (sym e)
          (subst (λ log. KeepsStream p w log (pending_in new w) y core') (sym log_here)
          (subst (λ ps. KeepsStream p w (log_of l w ++ b ∷ []) ps y core') (sym none_here)
          (keeps_items p w (log_of l w) b y core' pending is (c.keeps w y there.0 (subst (λ u. slice_get works'.workers.items (u - 1) ≡ Some y) e got)))))
      | inr n ↦ subst (λ log. KeepsStream p v log (pending_in new v) y core') (sym (log_other v first n))
          (subst (λ ps. KeepsStream p v (log_of l v) ps y core') (sym (pending_other v first n)) (c.keeps v y first got))
    ]
      where
        p : OpenLeader
        p = opening_leader setup.program l.epoch c.items

    pub proposed_works : (works' : Works) (core' : Core) → AreWorksOf setup l works' core' → AreWorksOf setup new works' core'
    proposed_works works' core' c = subst (λ e. AreWorksOf setup (record new { epoch = e }) works' core') (sym h.epoch) moved
      where
        moved : AreWorksOf setup (record new { epoch = l.epoch }) works' core'
        moved = record {
          layout = c.layout;
          records = c.records;
          count = c.count;
          each = c.each;
          items = c.items;
          turns = c.turns;
          opens = c.opens;
          after = c.after;
          keeps = keeps_now works' core' c;
        }

-- ---- as the code does it ----

-- with nothing pending of a worker it fits still
pub taken_fits : (setup : Setup) (l old : leads.Lead) (w : ℕ) → LeadFits setup l → old.pending.items ≡ slice_set l.pending.items (w - 1) []
    → LeadFits setup (record l { pending = old.pending })
taken_fits setup l old w f none = record {
  epoch = f.epoch;
  streams = f.streams;
  each = f.each;
  acknowledged_streams = f.acknowledged_streams;
  acknowledged = f.acknowledged;
  pending = ap length none ∙ length-set l.pending.items (w - 1) [] ∙ f.pending;
}

module _ (l old new : leads.Lead) (w : ℕ) (items : List Item) (none : old.pending.items ≡ slice_set l.pending.items (w - 1) [])
    (streams : HasStreams (record l { pending = old.pending }) new (slice_set l.streams.items (w - 1) (proposed (stream_of l w) (batch_bytes (Items items))))) where
  pub has_proposed : HasProposed l new w (batch_bytes (Items items))
  has_proposed = record {
    epoch = ap (λ (z : leads.Lead). z.epoch) streams.same;
    works = ap (λ (z : leads.Lead). z.works) streams.same;
    streams = streams.streams;
    acknowledged = ap (λ (z : leads.Lead). z.acknowledged) streams.same;
    pending = ap (λ (z : leads.Lead). z.pending.items) streams.same ∙ none;
  }

  module _ (setup : Setup) (sized : SetupFits setup) (works : Works) (core : Core) (a : AreWorksOf setup l works core) (fits : LeadFits setup l)
      (there : IsStream setup w) (is : items ≡ pending_in l w) (read : read_batch (batch_bytes (Items items)) ≡ Ok (Items items))
      (free : length (stream_of l w).log < SLOTS) (short : EmbeddedBatchInRange (batch_bytes (Items items))) where
    reads : batch_of (batch_bytes (Items items)) ≡ Some (Items (pending_in l w))
    reads = ap result_ok read ∙ ap (λ z. Some (Items z)) is

    pub pending_fits : LeadFits setup new
    pending_fits = proposed_lead setup sized l works core a fits w there new (batch_bytes (Items items)) has_proposed reads free short

    pub pending_works : (works' : Works) (core' : Core) → AreWorksOf setup l works' core' → AreWorksOf setup new works' core'
    pending_works = proposed_works setup sized l works core a fits w there new (batch_bytes (Items items)) has_proposed reads free short
