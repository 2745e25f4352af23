-- The records and workers of a leader that has just opened are those of the core with which its epoch opens; and one whose logs
-- and pending items stay the same has the same works.
use Rattle.std.proofs.Common.{◌≡◌, ℕ, zero, suc, ◌+◌, ◌-◌, ◌*◌, ◌^◌, ◌<◌, ◌≤◌, List, [], ◌∷◌, length, map, get_or, Option, Some, None, refl, sym, ap, ◌∙◌, subst, arith}
use Rattle.std.specs.List.{range_with_len}
use Rattle.std.specs.Prelude.{slice_get, slice_index_or}
use Rattle.std.proofs.lemmas.List.{length-map, get_or-map}
use Rattle.std.proofs.lemmas.List.FromFn.{length-map-range_with_len, get_or-map-range_with_len}
use Rattle.std.proofs.lemmas.Option.{slice_get_within}
use Rattle.rl_families.specs.Logs.{stamps_along}
use Rattle.rl_families.proofs.Rising.{from_rises}
use Rattle.rl_txn.specs.declared.item.Item.{Item}
use Rattle.rl_worker.specs.Acts.{Core, phase_of}
use Rattle.rl_worker.specs.Opening.{OpenLeader, core_after}
use Rattle.rl_worker.specs.Phases.{Rest}
use Rattle.rl_worker.specs.Workers.{Stands}
use Rattle.rl_worker.specs.declared.worker.Worker.{Worker}
use Rattle.rl_nodes.specs.Batches.{batches_of}
use Rattle.rl_nodes.specs.Openings.{next_request, opening_leader}
use Rattle.rl_nodes.specs.Setups.{Setup, SetupFits}
use Rattle.rl_node.specs.Fits.{IsStream, LeadFits}
use Rattle.rl_node.specs.Keeping.{HasBegun, KeepsStream}
use Rattle.rl_node.specs.Opening.{AreOpening}
use Rattle.rl_node.specs.Standing.{AreWorksOf, HasFew, HasNotOpened, HasWorksOf, log_of, pending_in}
use Rattle.rl_node.specs.declared.part.Lead as leads
use Rattle.rl_node.specs.declared.part.Works.{Works}
use Rattle.rl_node.proofs.Keeps.{keeps_begun}
use Rattle.rl_node.proofs.Logs.{is_right}

-- ---- workers at rest ----

rest_at : (f : ℕ → ℕ) (n w : ℕ) → 1 ≤ w → w ≤ n → get_or (Rest 0 ∷ map Rest (map f (range_with_len 1 n))) w (Rest 0) ≡ Rest (f w)
rest_at f n zero first last = absurd (omega (arith, first))
rest_at f n (suc v) first last =
    get_or-map Rest (map f (range_with_len 1 n)) v 0 (Rest 0) (omega (arith, last, length-map-range_with_len f 1 n))
    ∙ ap Rest (get_or-map-range_with_len f 1 n v (suc v) 0 (omega (arith, last)) (omega arith))

rest_count : (f : ℕ → ℕ) (n : ℕ) → length (Rest 0 ∷ map Rest (map f (range_with_len 1 n))) ≡ suc n
rest_count f n = ap suc (length-map (map f (range_with_len 1 n)) Rest ∙ length-map-range_with_len f 1 n)

-- ---- a leader that opens ----

module _ (setup : Setup) (sized : SetupFits setup) (l : leads.Lead) (fits : LeadFits setup l) (begun : HasNotOpened setup l)
    (items : List Item) (works : Works) (is : AreOpening setup l.epoch items works) where
  abbrev o : OpenLeader
  o = opening_leader setup.program l.epoch items

  abbrev core : Core
  core = core_after o []

  there : (w : ℕ) (x : Worker) → 1 ≤ w → slice_get works.workers.items (w - 1) ≡ Some x → IsStream setup w
  there w x first got =
      let inside = slice_get_within works.workers.items (w - 1) x got in
      let count = is.workers.count in (first, omega (arith, inside, count, first))

  stands : (w : ℕ) (x : Worker) → 1 ≤ w → slice_get works.workers.items (w - 1) ≡ Some x → Stands setup.program.tables x works.words core
  stands w x first got =
      let r = is.workers.each w x first got in
      let lists = sized.one_list_each in
      let last : w ≤ length setup.program.lists = (let in_setup = (there w x first got).1 in omega (arith, in_setup, lists)) in
      let rests = rest_at (next_request items) (length setup.program.lists) w first last in
      record {
        recs = sym is.records;
        next = ap (λ n. l.epoch * 2 ^ 40 + n) (sym is.next) ∙ ap (λ e. e * 2 ^ 40 + works.words.next) (sym r.epoch);
        there = (let count = rest_count (next_request items) (length setup.program.lists) in let number = r.number in omega (arith, count, number, last));
        phase = ap (phase_of core) r.number ∙ rests ∙ sym r.rests;
      }

  keeps : (w : ℕ) (x : Worker) → 1 ≤ w → slice_get works.workers.items (w - 1) ≡ Some x → KeepsStream o w (log_of l w) (pending_in l w) x core
  keeps w x first got =
      let in_setup = there w x first got in
      let right = is_right setup.program.tables w l.epoch (log_of l w) (fits.each w in_setup).log.right in
      subst (λ ps. KeepsStream o w (log_of l w) ps x core) (sym (begun.pending w in_setup))
      (keeps_begun o w (log_of l w) x core (begun.begun w in_setup) (from_rises (stamps_along (batches_of (log_of l w))) right.rising)
      (is.workers.each w x first got).undecided)

  pub opened_works : AreWorksOf setup l works core
  opened_works = record {
    layout = is.layout;
    records = is.fit;
    count = is.workers.count;
    each = λ w x first got.
        let r = is.workers.each w x first got in record { number = r.number; epoch = r.epoch; fits = r.fits; stands = stands w x first got };
    items = items;
    turns = [];
    opens = is.opens;
    after = refl;
    keeps = keeps;
  }

  pub opened_few : HasFew setup l
  opened_few w in_setup = subst (λ ps. length ps < setup.batch) (sym (begun.pending w in_setup)) (let some = sized.some_items in omega (arith, some))

-- ---- a leader whose logs and pending items stay the same ----

module _ (setup : Setup) (old new : leads.Lead) (epoch : new.epoch ≡ old.epoch) (pending : new.pending.items ≡ old.pending.items)
    (logs : (s : ℕ) → 1 ≤ s → log_of new s ≡ log_of old s) where
  pending_same : (w : ℕ) → pending_in new w ≡ pending_in old w
  pending_same w = ap (λ ps. slice_index_or ps (w - 1) []) pending

  still_closed : HasNotOpened setup old → HasNotOpened setup new
  still_closed h = record {
    begun = λ s is. subst (λ e. HasBegun e (log_of new s)) (sym epoch) (subst (HasBegun old.epoch) (sym (logs s is.0)) (h.begun s is));
    pending = λ s is. pending_same s ∙ h.pending s is;
  }

  still_works : (works : Works) (core : Core) → AreWorksOf setup old works core → AreWorksOf setup new works core
  still_works works core a = subst (λ e. AreWorksOf setup (record new { epoch = e }) works core) (sym epoch) moved
    where
      keeps_now : (w : ℕ) (x : Worker) → 1 ≤ w → slice_get works.workers.items (w - 1) ≡ Some x
          → KeepsStream (opening_leader setup.program old.epoch a.items) w (log_of new w) (pending_in new w) x core
      keeps_now w x first got =
          subst (λ log. KeepsStream (opening_leader setup.program old.epoch a.items) w log (pending_in new w) x core) (sym (logs w first))
          (subst (λ ps. KeepsStream (opening_leader setup.program old.epoch a.items) w (log_of old w) ps x core) (sym (pending_same w)) (a.keeps w x first got))

      moved : AreWorksOf setup (record new { epoch = old.epoch }) works core
      moved = record {
        layout = a.layout;
        records = a.records;
        count = a.count;
        each = a.each;
        items = a.items;
        turns = a.turns;
        opens = a.opens;
        after = a.after;
        keeps = keeps_now;
      }

  still_few : HasFew setup old → HasFew setup new
  still_few few w is = subst (λ ps. length ps < setup.batch) (sym (pending_same w)) (few w is)

  pub still_has : (o : Option Works) (c : Option Core) → HasWorksOf setup old o c → HasWorksOf setup new o c
  still_has None None h = still_closed h
  still_has None (Some k) h = absurd h
  still_has (Some works) None h = absurd h
  still_has (Some works) (Some k) h = (still_works works k h.0, still_few h.1)
