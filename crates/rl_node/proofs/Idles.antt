-- What a leader does that proposes the mark of an idle worker is what was due.
use Rattle.std.proofs.Common.{◌≡◌, ◌≢◌, ℕ, suc, ◌+◌, ◌-◌, ◌*◌, ◌^◌, ◌<◌, ◌≤◌, List, [], ◌∷◌, ◌++◌, length, Bool, true, false, not, ◌&&◌, ◌==◌, if◌then◌else◌, Option, Some, None, Result, Ok, Err, IfOk, IfErr, OnOk, Contains, refl, sym, ap, ◌∙◌, subst, arith, inl, inr, get_or-set_same, get_or-set_other}
use Rattle.std.specs.Prelude.{slice_get, slice_set, slice_index_or}
use Rattle.std.specs.Result.{result_ok}
use Rattle.std.proofs.lemmas.Bool.{cases_eq, false≢true}
use Rattle.rl_base.proofs.Members.{In, in_contains}
use Rattle.rl_base.proofs.Tests.{both, true_same}
use Rattle.rl_base.specs.Order.{IsBelow}
use Rattle.rl_base.specs.Stamps.{packed}
use Rattle.rl_base.specs.declared.limit.TheConstants.{SLOTS}
use Rattle.rl_base.specs.declared.stamp.Stamp.{Stamp}
use Rattle.rl_batch.specs.Encoding.{batch_bytes}
use Rattle.rl_batch.specs.Reading.{read_batch}
use Rattle.rl_election.specs.World.{no_stream}
use Rattle.rl_families.specs.Logs.{stamps_along}
use Rattle.rl_families.proofs.Rising.{Rises, rises_append}
use Rattle.rl_msg.specs.Ranges.{EmbeddedBatchInRange}
use Rattle.rl_paxos.specs.Leaders.{Leading, proposed}
use Rattle.rl_paxos.specs.Logs as bytes
use Rattle.rl_txn.specs.declared.batch.Batch.TheVariants.{Idle as IdleMark}
use Rattle.rl_worker.specs.Acts.{Core, Idle, phase_of, resting, is_done, idle, turn}
use Rattle.rl_worker.specs.Laws.{stamps_by, StampsStayBelow, StampsStayInRange}
use Rattle.rl_worker.specs.Opening.{OpenLeader, setting_of}
use Rattle.rl_worker.specs.Phases.{Setting}
use Rattle.rl_worker.specs.declared.words.Words.{Words}
use Rattle.rl_worker.specs.Workers.{RecordsFit, decided_item}
use Rattle.rl_worker.specs.declared.worker.Worker.{Worker}
use Rattle.rl_nodes.specs.declared.node_error.NodeError.{NodeError}
use Rattle.rl_nodes.specs.Answers.{Answer, quiet}
use Rattle.rl_nodes.specs.Batches.{batch_of, batches_of, END_SEQ, idle_mark}
use Rattle.rl_nodes.specs.Nodes.{NodeState, Leads, with_leading, has_end_mark}
use Rattle.rl_nodes.specs.Openings.{opening_leader}
use Rattle.rl_nodes.specs.Setups.{Setup, SetupFits}
use Rattle.rl_nodes.specs.Works.{proposes, may_idle, idles_core, idles, if_open}
use Rattle.rl_node.specs.Fits.{IsStream, LeadFits}
use Rattle.rl_node.specs.Idling.{IsDrawn, IsDrawnIn, MayMark}
use Rattle.rl_node.specs.Seqs.{seq_in}
use Rattle.rl_node.specs.Keeping.{KeepsStream}
use Rattle.rl_node.specs.Leading.{stream_of, HasStreams, accept_of}
use Rattle.rl_node.specs.Leads.{LeadDid, LeadTries}
use Rattle.rl_node.specs.Outs.{IsSending}
use Rattle.rl_node.specs.Proposing.{RefusesBatch}
use Rattle.rl_node.specs.Standing.{IsWorkerOf, StandsLead, HasWorksOf, AreWorksOf, HasFew, lead_with, log_of, pending_in}
use Rattle.rl_node.specs.Stepping.{HasOpenWorks}
use Rattle.rl_node.specs.declared.answer.Out.{Out}
use Rattle.rl_node.specs.declared.part.Lead as leads
use Rattle.rl_node.specs.declared.part.Works.{Works}
use Rattle.rl_node.proofs.Flushes.{stays_quiet, batch_tries, opened_with}
use Rattle.rl_node.proofs.Keeps.{end_stamp, right_more, drawn_on, made_own, keeps_mark, keeps_other}
use Rattle.rl_node.proofs.Leaders.{fits_with, proposed_fits, proposed_acknowledged, acknowledged_same}
use Rattle.rl_node.proofs.Logs.{IsRight, is_right}
use Rattle.rl_node.proofs.Marks.{no_test, yes_test, o, stamps, stamps_rise, next_low, unended, below_next, below_end}
use Rattle.rl_node.proofs.NoLeaders.{not_open}
use Rattle.rl_node.proofs.Requests.{rests_undecided}
use Rattle.rl_node.proofs.Steps.{setting_is}
use Rattle.rl_node.proofs.Turns.{at_index, core_more, may_move, next_is}

-- the works that have drawn
drawn_with : (o o' : Option Works) → IsDrawnIn o o' → (works : Works) → o ≡ Some works → (works' : Works) × (o' ≡ Some works') × IsDrawn works works'
drawn_with None o' h works e = absurd h
drawn_with (Some old) None h works e = absurd h
drawn_with (Some old) (Some new) h works e = (new, refl, subst (λ ws. IsDrawn ws new) (let same : old ≡ works = cc in same) h)

-- ---- a leader with one batch more ----

module _ (setup : Setup) (l new : leads.Lead) (w : ℕ) (there : IsStream setup w) (b : bytes.Batch) (size : length l.streams.items ≡ setup.workers)
    (epoch : new.epoch ≡ l.epoch) (streams : new.streams.items ≡ slice_set l.streams.items (w - 1) (proposed (stream_of l w) b)) (pending : new.pending ≡ l.pending) where
  inside : w - 1 < length l.streams.items
  inside = omega (arith, there.0, there.1, size)

  apart : (v : ℕ) → 1 ≤ v → v ≢ w → v - 1 ≢ w - 1
  apart v first n e = n (same v w first there.0 e)
    where
      same : (u s : ℕ) → 1 ≤ u → 1 ≤ s → u - 1 ≡ s - 1 → u ≡ s
      same u s p q e = omega (arith, p, q, e)

  log_here : log_of new w ≡ log_of l w ++ b ∷ []
  log_here = ap (λ xs. (slice_index_or xs (w - 1) no_stream).log) streams
      ∙ ap (λ (z : Leading). z.log) (get_or-set_same l.streams.items (w - 1) (proposed (stream_of l w) b) no_stream inside)

  log_other : (v : ℕ) → 1 ≤ v → v ≢ w → log_of new v ≡ log_of l v
  log_other v first n = ap (λ xs. (slice_index_or xs (v - 1) no_stream).log) streams
      ∙ ap (λ (z : Leading). z.log) (get_or-set_other l.streams.items (w - 1) (v - 1) (proposed (stream_of l w) b) no_stream (apart v first n))

  pending_same : (v : ℕ) → pending_in new v ≡ pending_in l v
  pending_same v = ap (λ ps. slice_index_or ps.items (v - 1) []) pending

  pub still_few : HasFew setup l → HasFew setup new
  still_few few v is = subst (λ ps. length ps < setup.batch) (sym (pending_same v)) (few v is)

  module _ (works : Works) (core : Core) (a : AreWorksOf setup l works core) where
    abbrev p : OpenLeader
    p = opening_leader setup.program l.epoch a.items

    -- the records and workers are those of the core still, where the stream of worker w is kept
    pub marked_works : ((x : Worker) → slice_get works.workers.items (w - 1) ≡ Some x → KeepsStream p w (log_of l w ++ b ∷ []) (pending_in l w) x core)
        → AreWorksOf setup new works core
    marked_works own = subst (λ e. AreWorksOf setup (record new { epoch = e }) works core) (sym epoch) moved
      where
        keeps_now : (v : ℕ) (y : Worker) → 1 ≤ v → slice_get works.workers.items (v - 1) ≡ Some y → KeepsStream p v (log_of new v) (pending_in new v) y core
        keeps_now v y first got = subst (λ ps. KeepsStream p v (log_of new v) ps y core) (sym (pending_same v)) (elim (cases_eq v w) [
          | inl e ↦ subst (λ u. KeepsStream p u (log_of new u) (pending_in l u) y core) (sym e)
              (subst (λ log. KeepsStream p w log (pending_in l w) y core) (sym log_here)
              (own y (subst (λ u. slice_get works.workers.items (u - 1) ≡ Some y) e got)))
          | inr n ↦ subst (λ log. KeepsStream p v log (pending_in l v) y core) (sym (log_other v first n)) (a.keeps v y first got)
        ])

        moved : AreWorksOf setup (record new { epoch = l.epoch }) works core
        moved = record {
          layout = a.layout;
          records = a.records;
          count = a.count;
          each = a.each;
          items = a.items;
          turns = a.turns;
          opens = a.opens;
          after = a.after;
          keeps = keeps_now;
        }

-- its streams fit still, where the batch is a mark above all stamps
module _ (setup : Setup) (l new : leads.Lead) (w : ℕ) (there : IsStream setup w) (b : bytes.Batch) (u : Stamp) (fits : LeadFits setup l)
    (epoch : new.epoch ≡ l.epoch) (streams : new.streams.items ≡ slice_set l.streams.items (w - 1) (proposed (stream_of l w) b)) (pending : new.pending ≡ l.pending)
    (same : new.acknowledged ≡ l.acknowledged) (is : batch_of b ≡ Some (IdleMark u)) (of_epoch : u.epoch ≡ l.epoch)
    (rises : Rises (stamps_along (batches_of (log_of l w)))) (above : (t : Stamp) → In t (stamps_along (batches_of (log_of l w))) → IsBelow t u)
    (free : length (stream_of l w).log < SLOTS) (short : EmbeddedBatchInRange b) where
  right : IsRight setup.program.tables w l.epoch (log_of l w ++ b ∷ [])
  right = right_more setup.program.tables w l.epoch (log_of l w) b (IdleMark u)
      (is_right setup.program.tables w l.epoch (log_of l w) (fits.each w there).log.right) is
      (λ x i. absurd i)
      (λ t i. elim i [ inl e ↦ (let k : t.epoch ≡ u.epoch = ap (λ (s : Stamp). s.epoch) e in omega (arith, k, of_epoch)) | inr a ↦ absurd a ])
      (rises_append (stamps_along (batches_of (log_of l w))) (u ∷ []) rises (tt, tt) (λ s t i j. elim j [
        | inl e ↦ subst (IsBelow s) (sym e) (above s i)
        | inr a ↦ absurd a
      ]))

  pub marked_fits : LeadFits setup new
  marked_fits = fits_with setup l fits w there (proposed (stream_of l w) b) new epoch streams
      (same ∙ acknowledged_same setup l fits w there (proposed (stream_of l w) b)
      (ap batches_of (proposed_acknowledged (stream_of l w) b (fits.each w there).within))) (ap (λ ps. length ps.items) pending ∙ fits.pending)
      (proposed_fits setup l.epoch w (stream_of l w) b (fits.each w there) free short right)

-- ---- a worker that may propose a mark ----

nothing : {A : Type 0} (xs : List A) → (length xs == 0) ≡ true → xs ≡ []
nothing [] h = refl
nothing (x ∷ xs) h = absurd (let k = true_same (length (x ∷ xs)) 0 h in omega (arith, k))

not_true : (b : Bool) → not b ≡ true → b ≡ false
not_true true h = absurd (false≢true h)
not_true false h = refl

module _ (l : leads.Lead) (w : ℕ) (core : Core) (may : may_idle (lead_with l (Some core)) w core ≡ true) where
  abbrev rest : Bool
  rest = resting (phase_of core w)

  abbrev none : Bool
  none = length (pending_in l w) == 0

  abbrev ends : Bool
  ends = has_end_mark (lead_with l (Some core)) w

  parts : ((rest && none) ≡ true) × (not ends ≡ true)
  parts = both (rest && none) (not ends) may

  pub may_rest : resting (phase_of core w) ≡ true
  may_rest = (both rest none parts.0).0

  pub may_none : pending_in l w ≡ []
  may_none = nothing (pending_in l w) (both rest none parts.0).1

  pub may_unended : has_end_mark (lead_with l (Some core)) w ≡ false
  may_unended = not_true ends parts.1

-- as the code asks it
never : (rest over : Bool) → false ≡ ((rest && false) && not over)
never true over = refl
never false over = refl

module _ (l : leads.Lead) (w : ℕ) (core : Core) where
  pub may_not_run : resting (phase_of core w) ≡ false → false ≡ may_idle (lead_with l (Some core)) w core
  may_not_run h = ap (λ r. (r && (length (pending_in l w) == 0)) && not (has_end_mark (lead_with l (Some core)) w)) (sym h)

  pub may_not_wait : 1 ≤ length (pending_in l w) → false ≡ may_idle (lead_with l (Some core)) w core
  may_not_wait some = never (resting (phase_of core w)) (has_end_mark (lead_with l (Some core)) w)
      ∙ ap (λ n. (resting (phase_of core w) && n) && not (has_end_mark (lead_with l (Some core)) w)) (sym (no_test (length (pending_in l w)) 0 (λ e. omega (arith, e, some))))

  pub may_by_mark : resting (phase_of core w) ≡ true → length (pending_in l w) ≡ 0 → (has : Bool) → has ≡ has_end_mark (lead_with l (Some core)) w
      → not has ≡ may_idle (lead_with l (Some core)) w core
  may_by_mark rests none has is = ap not is
      ∙ ap (λ r. (r && true) && not (has_end_mark (lead_with l (Some core)) w)) (sym rests)
      ∙ ap (λ n. (resting (phase_of core w) && n) && not (has_end_mark (lead_with l (Some core)) w)) (sym (yes_test (length (pending_in l w)) 0 none))

-- ---- a stamp is drawn ----

pub record HasDrawn (setup : Setup) (l : leads.Lead) (works works' : Works) (core core' : Core) (a : AreWorksOf setup l works core) : Type 0 where
  pub are : AreWorksOf setup l works' core'
  pub same : are.items ≡ a.items

-- the core once worker w has drawn a stamp
abbrev pub drawn_core : Core → (w : ℕ) → Core
drawn_core core w = record core { next = suc core.next; made = (w, core.next) ∷ core.made }

module _ (setup : Setup) (l : leads.Lead) (works : Works) (core : Core) (w : ℕ) (there : IsStream setup w) (a : AreWorksOf setup l works core)
    (left : works.words.next < 2 ^ 40 - 1) (rests : resting (phase_of core w) ≡ true) where
  abbrev S : Setting
  S = setting_of setup.program.tables setup.program.lists l.epoch

  next_here : core.next ≡ l.epoch * 2 ^ 40 + works.words.next
  next_here = next_is setup l works core w there a

  has_worker : w < length core.workers
  has_worker =
      let own = at_index works.workers.items (w - 1) (let count = a.count in omega (arith, there.0, there.1, count)) in
      let x = a.each w own.0 there.0 own.1 in
      subst (λ n. n < length core.workers) x.number x.stands.there

  pub idle_is : turn S core (Idle w) ≡ drawn_core core w
  idle_is = ap (λ b. if b then idle core w else core) (may_move S core w there.0 has_worker (let next = next_here in omega (arith, next, left)))
      ∙ ap (λ b. if b then drawn_core core w else core) rests

  module _ (works' : Works) (d : IsDrawn works works') where
    before : (v : ℕ) (y : Worker) → slice_get works'.workers.items (v - 1) ≡ Some y → slice_get works.workers.items (v - 1) ≡ Some y
    before v y got = ap (λ ws. slice_get ws (v - 1)) (sym d.workers) ∙ got

    each_now : (v : ℕ) (y : Worker) → 1 ≤ v → slice_get works'.workers.items (v - 1) ≡ Some y → IsWorkerOf setup l.epoch v works' (drawn_core core w) y
    each_now v y first got =
        let was = a.each v y first (before v y got) in
        let stood = was.stands in
        let more = ap (λ (ws : Words). ws.next) d.words in
        record {
          number = was.number;
          epoch = was.epoch;
          fits = was.fits;
          stands = record {
            recs = stood.recs ∙ sym (ap (λ (ws : Words). ws.records.items) d.words);
            next = let next = stood.next in omega (arith, next, more);
            there = stood.there;
            phase = stood.phase;
          };
        }

    pub draws : HasDrawn setup l works works' core (drawn_core core w) a
    draws = record {
      are = record {
        layout = d.layout ∙ a.layout;
        records = subst (λ (ws : Words). RecordsFit setup.program.tables ws.records.items) (sym d.words) a.records;
        count = ap length d.workers ∙ a.count;
        each = each_now;
        items = a.items;
        turns = a.turns ++ Idle w ∷ [];
        opens = a.opens;
        after = sym idle_is ∙ ap (λ c. turn S c (Idle w)) a.after ∙ sym (core_more (opening_leader setup.program l.epoch a.items) a.turns (Idle w));
        keeps = λ v y first got. keeps_other (opening_leader setup.program l.epoch a.items) v (log_of l v) (pending_in l v) y core (drawn_core core w)
            (a.keeps v y first (before v y got)) (λ k i. drawn_on v k w core.next core.made i) refl;
      };
      same = refl;
    }

-- ---- what is kept of the stream of the mark ----

module _ (below : StampsStayBelow) (ranges : StampsStayInRange) (setup : Setup) (l : leads.Lead) (works : Works) (core : Core) (w : ℕ)
    (there : IsStream setup w) (a : AreWorksOf setup l works core) (may : may_idle (lead_with l (Some core)) w core ≡ true) (b : bytes.Batch) where
  abbrev q : OpenLeader
  q = opening_leader setup.program l.epoch a.items

  undecided : (x : Worker) → slice_get works.workers.items (w - 1) ≡ Some x → decided_item x ≡ None
  undecided x at =
      let is = a.each w x there.0 at in
      rests_undecided setup.program.tables x (ap resting (sym is.stands.phase ∙ ap (phase_of core) is.number) ∙ may_rest l w core may)

  kept_before : (x : Worker) → slice_get works.workers.items (w - 1) ≡ Some x → KeepsStream q w (log_of l w) [] x core
  kept_before x at = subst (λ ps. KeepsStream q w (log_of l w) ps x core) (may_none l w core may) (a.keeps w x there.0 at)

  -- the end mark
  pub end_kept : batch_of b ≡ Some (IdleMark (end_stamp l.epoch))
      → is_done (setting_of setup.program.tables setup.program.lists l.epoch) w (phase_of core w) ≡ true
      → (x : Worker) → slice_get works.workers.items (w - 1) ≡ Some x → KeepsStream q w (log_of l w ++ b ∷ []) (pending_in l w) x core
  end_kept is done x at = subst (λ ps. KeepsStream q w (log_of l w ++ b ∷ []) ps x core) (sym (may_none l w core may))
      (keeps_mark q w (log_of l w) b x core core (end_stamp l.epoch) is (undecided x at) (kept_before x at)
      (below_end below ranges setup l works core w there a (may_unended l w core may)) (λ n i. i) (refl, inl refl) (λ e. done)
      (unended below ranges setup l works core w there a (may_unended l w core may)))

  -- an idle mark
  module _ (left : works.words.next < 2 ^ 40 - 1) where
    abbrev core' : Core
    core' = drawn_core core w

    abbrev u : Stamp
    u = record { epoch = l.epoch; seq = core.next - l.epoch * 2 ^ 40 }

    packed_is : core.next ≡ packed u
    packed_is = let low = next_low below ranges setup l works core w there a in omega (arith, low)

    made_now : Contains (stamps_by w core'.made) (packed u)
    made_now = in_contains (stamps_by w core'.made) (packed u)
        (subst (In (packed u)) (sym (made_own w core.next core.made w refl)) (inl (sym packed_is)))

    no_end : u ≡ end_stamp l.epoch → ⊥
    no_end e =
        let seq : core.next - l.epoch * 2 ^ 40 ≡ END_SEQ = ap (λ (t : Stamp). t.seq) e in
        let next = next_is setup l works core w there a in
        omega (arith, seq, next, left)

    pub idle_kept : batch_of b ≡ Some (IdleMark u) → (x : Worker) → slice_get works.workers.items (w - 1) ≡ Some x
        → KeepsStream q w (log_of l w ++ b ∷ []) (pending_in l w) x core'
    idle_kept is x at = subst (λ ps. KeepsStream q w (log_of l w ++ b ∷ []) ps x core') (sym (may_none l w core may))
        (keeps_mark q w (log_of l w) b x core core' u is (undecided x at) (kept_before x at)
        (below_next below ranges setup l works core w there a (may_unended l w core may)) (λ n i. drawn_on w n w core.next core.made i) (refl, inr made_now)
        (λ e. absurd (no_end e)) (unended below ranges setup l works core w there a (may_unended l w core may)))

-- ---- the leader then ----

-- how the code left it
pub record HasMarked (l pre new : leads.Lead) (w : ℕ) (b : bytes.Batch) : Type 0 where
  pub epoch : new.epoch ≡ l.epoch
  pub works : new.works ≡ pre.works
  pub streams : new.streams.items ≡ slice_set l.streams.items (w - 1) (proposed (stream_of l w) b)
  pub acknowledged : new.acknowledged ≡ l.acknowledged
  pub pending : new.pending ≡ l.pending

pub has_marked : (l new : leads.Lead) (o : Option Works) (w : ℕ) (b : bytes.Batch)
    → HasStreams (record l { works = o }) new (slice_set l.streams.items (w - 1) (proposed (stream_of l w) b)) → HasMarked l (record l { works = o }) new w b
has_marked l new o w b h = record {
  epoch = ap (λ (z : leads.Lead). z.epoch) h.same;
  works = ap (λ (z : leads.Lead). z.works) h.same;
  streams = h.streams;
  acknowledged = ap (λ (z : leads.Lead). z.acknowledged) h.same;
  pending = ap (λ (z : leads.Lead). z.pending) h.same;
}

-- the same, from the leader that proposed it
pub record MarkedFrom (setup : Setup) (w a : ℕ) (pre new : leads.Lead) (r : Result Out NodeError) (seq : ℕ) : Type 0 where
  pub proposed : OnOk r (HasStreams pre new (slice_set pre.streams.items (w - 1) (proposed (stream_of pre w) (batch_bytes (idle_mark pre.epoch seq)))))
  pub free : OnOk r (length (stream_of pre w).log < SLOTS)
  pub sends : IfOk r (IsSending (accept_of a pre.epoch w (stream_of pre w) (batch_bytes (idle_mark pre.epoch seq)) setup.nodes))
  pub short : OnOk r (EmbeddedBatchInRange (batch_bytes (idle_mark pre.epoch seq)))
  pub read : OnOk r (read_batch (batch_bytes (idle_mark pre.epoch seq)) ≡ Ok (idle_mark pre.epoch seq))
  pub refused : IfErr r (RefusesBatch (stream_of pre w))

-- it stands for the one that the definition has then
stands_then : (setup : Setup) (l new : leads.Lead) (w : ℕ) (b : bytes.Batch) (works : Works) (core : Core) → new.epoch ≡ l.epoch → new.works ≡ Some works
    → new.streams.items ≡ slice_set l.streams.items (w - 1) (proposed (stream_of l w) b) → new.pending ≡ l.pending
    → AreWorksOf setup new works core → HasFew setup new → LeadFits setup new
    → StandsLead setup new (Leads (with_leading (lead_with l (Some core)) w (proposed (stream_of l w) b)))
stands_then setup l new w b works core epoch has streams pending are few fits = record {
  core = Some core;
  is = λ i. Leads (record { epoch = sym epoch i; streams = sym streams i; core = Some core; pending = (sym pending i).items });
  works = subst (λ o. HasWorksOf setup new o (Some core)) (sym has) (are, few);
  fits = fits;
}

module _ (below : StampsStayBelow) (ranges : StampsStayInRange) (setup : Setup) (sized : SetupFits setup) (l : leads.Lead) (fits : LeadFits setup l) (w : ℕ)
    (there : IsStream setup w) (core : Core) (may : MayMark setup l w core) (a : ℕ) (x : NodeState) (new : leads.Lead) (r : Result Out NodeError) where
  abbrev pub with_mark : ℕ → List ℕ
  with_mark seq = batch_bytes (idle_mark l.epoch seq)

  pub open_works : (works : Works) × (l.works ≡ Some works) × AreWorksOf setup l works core
  open_works = opened_with setup l core l.works may.opened

  reads : (seq : ℕ) → read_batch (with_mark seq) ≡ Ok (idle_mark l.epoch seq) → batch_of (with_mark seq) ≡ Some (idle_mark l.epoch seq)
  reads seq e = ap result_ok e

  abbrev works : Works
  works = open_works.0

  abbrev are : AreWorksOf setup l works core
  are = open_works.2

  -- an answer of the code, where a mark was proposed
  pub record Marked (o : Option Works) (k : ℕ) : Type 0 where
    pub proposed : OnOk r (HasStreams (record l { works = o }) new (slice_set l.streams.items (w - 1) (proposed (stream_of l w) (with_mark k))))
    pub free : OnOk r (length (stream_of l w).log < SLOTS)
    pub sends : IfOk r (IsSending (accept_of a l.epoch w (stream_of l w) (with_mark k) setup.nodes))
    pub short : OnOk r (EmbeddedBatchInRange (with_mark k))
    pub read : OnOk r (read_batch (with_mark k) ≡ Ok (idle_mark l.epoch k))
    pub refused : IfErr r (RefusesBatch (stream_of l w))

  pub marked_from : (pre : leads.Lead) (seq : ℕ) → pre ≡ record l { works = pre.works } → MarkedFrom setup w a pre new r seq → Marked pre.works seq
  marked_from pre seq same m =
      let n : MarkedFrom setup w a (record l { works = pre.works }) new r seq = subst (λ z. MarkedFrom setup w a z new r seq) same m in
      record { proposed = n.proposed; free = n.free; sends = n.sends; short = n.short; read = n.read; refused = n.refused }

  fits_now : (o : Option Works) (seq : ℕ) → HasMarked l (record l { works = o }) new w (with_mark seq) → batch_of (with_mark seq) ≡ Some (idle_mark l.epoch seq)
      → ((t : Stamp) → In t (stamps below ranges setup l works core w there are) → IsBelow t (record { epoch = l.epoch; seq = seq }))
      → length (stream_of l w).log < SLOTS → EmbeddedBatchInRange (with_mark seq) → LeadFits setup new
  fits_now o seq h is above free short =
      marked_fits setup l new w there (with_mark seq) (record { epoch = l.epoch; seq = seq }) fits h.epoch h.streams h.pending h.acknowledged is refl
      (stamps_rise below ranges setup l works core w there are) above free short

  -- the end mark
  pub end_tries : is_done (setting_of setup.program.tables setup.program.lists l.epoch) w (phase_of core w) ≡ true → Marked l.works END_SEQ
      → LeadTries setup new x (proposes setup a x (lead_with l (Some core)) w (idle_mark l.epoch END_SEQ)) r
  end_tries done m = batch_tries setup a w x (lead_with l (Some core)) (idle_mark l.epoch END_SEQ) new r (stands r m.proposed m.free m.short m.read) m.free m.sends m.refused
    where
      stands : (r : Result Out NodeError) → OnOk r (HasStreams l new (slice_set l.streams.items (w - 1) (proposed (stream_of l w) (with_mark END_SEQ))))
          → OnOk r (length (stream_of l w).log < SLOTS) → OnOk r (EmbeddedBatchInRange (with_mark END_SEQ)) → OnOk r (read_batch (with_mark END_SEQ) ≡ Ok (idle_mark l.epoch END_SEQ))
          → OnOk r (StandsLead setup new (Leads (with_leading (lead_with l (Some core)) w (proposed (stream_of l w) (with_mark END_SEQ)))))
      stands (Ok out) p free short read =
          let h = has_marked l new l.works w (with_mark END_SEQ) p in
          stands_then setup l new w (with_mark END_SEQ) works core h.epoch (h.works ∙ open_works.1) h.streams h.pending
          (marked_works setup l new w there (with_mark END_SEQ) fits.streams h.epoch h.streams h.pending works core are
          (end_kept below ranges setup l works core w there are may.may (with_mark END_SEQ) (reads END_SEQ read) done))
          (still_few setup l new w there (with_mark END_SEQ) fits.streams h.epoch h.streams h.pending may.few)
          (fits_now l.works END_SEQ h (reads END_SEQ read) (below_end below ranges setup l works core w there are (may_unended l w core may.may)) free short)
      stands (Err e) p free short read = tt

  -- an idle mark
  module _ (left : seq_in l.works < 2 ^ 40 - 1) (o' : Option Works) (d : IsDrawnIn l.works o') where
    abbrev seq : ℕ
    seq = core.next - l.epoch * 2 ^ 40

    left_here : works.words.next < 2 ^ 40 - 1
    left_here = subst (λ o. seq_in o < 2 ^ 40 - 1) open_works.1 left

    pub seq_now : seq_in l.works ≡ seq
    seq_now = ap seq_in open_works.1 ∙ (let next = next_is setup l works core w there are in omega (arith, next))

    with_drawn : (works' : Works) × (o' ≡ Some works') × IsDrawn works works'
    with_drawn = drawn_with l.works o' d works open_works.1

    drawing : HasDrawn setup l works with_drawn.0 core (drawn_core core w) are
    drawing = draws setup l works core w there are left_here (may_rest l w core may.may) with_drawn.0 with_drawn.2

    own : batch_of (with_mark seq) ≡ Some (idle_mark l.epoch seq) → (y : Worker) → slice_get with_drawn.0.workers.items (w - 1) ≡ Some y
        → KeepsStream (opening_leader setup.program l.epoch drawing.are.items) w (log_of l w ++ with_mark seq ∷ []) (pending_in l w) y (drawn_core core w)
    own is y at = subst (λ items. KeepsStream (opening_leader setup.program l.epoch items) w (log_of l w ++ with_mark seq ∷ []) (pending_in l w) y (drawn_core core w)) (sym drawing.same)
        (idle_kept below ranges setup l works core w there are may.may (with_mark seq) left_here is y (ap (λ ws. slice_get ws (w - 1)) (sym with_drawn.2.workers) ∙ at))

    stands_drawn : (r : Result Out NodeError) → OnOk r (HasStreams (record l { works = o' }) new (slice_set l.streams.items (w - 1) (proposed (stream_of l w) (with_mark seq))))
        → OnOk r (length (stream_of l w).log < SLOTS) → OnOk r (EmbeddedBatchInRange (with_mark seq)) → OnOk r (read_batch (with_mark seq) ≡ Ok (idle_mark l.epoch seq))
        → OnOk r (StandsLead setup new (Leads (with_leading (lead_with l (Some (drawn_core core w))) w (proposed (stream_of l w) (with_mark seq)))))
    stands_drawn (Ok out) p free short read =
        let h = has_marked l new o' w (with_mark seq) p in
        stands_then setup l new w (with_mark seq) with_drawn.0 (drawn_core core w) h.epoch (h.works ∙ with_drawn.1) h.streams h.pending
        (marked_works setup l new w there (with_mark seq) fits.streams h.epoch h.streams h.pending with_drawn.0 (drawn_core core w) drawing.are (own (reads seq read)))
        (still_few setup l new w there (with_mark seq) fits.streams h.epoch h.streams h.pending may.few)
        (fits_now o' seq h (reads seq read) (below_next below ranges setup l works core w there are (may_unended l w core may.may)) free short)
    stands_drawn (Err e) p free short read = tt

    mark_tries : Marked o' seq
        → LeadTries setup new x (proposes setup a x (lead_with l (Some (turn (setting_of setup.program.tables setup.program.lists l.epoch) core (Idle w)))) w (idle_mark l.epoch seq)) r
    mark_tries m = subst (λ c. LeadTries setup new x (proposes setup a x (lead_with l (Some c)) w (idle_mark l.epoch seq)) r)
        (sym (idle_is setup l works core w there are left_here (may_rest l w core may.may)))
        (batch_tries setup a w x (lead_with l (Some (drawn_core core w))) (idle_mark l.epoch seq) new r (stands_drawn r m.proposed m.free m.short m.read) m.free m.sends m.refused)

    pub idle_tries : (k : ℕ) → k ≡ seq_in l.works → Marked o' k
        → LeadTries setup new x (proposes setup a x (lead_with l (Some (turn (setting_of setup.program.tables setup.program.lists l.epoch) core (Idle w)))) w (idle_mark l.epoch seq)) r
    idle_tries k is m = mark_tries (subst (Marked o') (is ∙ seq_now) m)

-- the seq that is drawn is above the open mark's
pub seq_low : StampsStayBelow → StampsStayInRange → (setup : Setup) (l : leads.Lead) (core : Core) (w : ℕ) → IsStream setup w → HasOpenWorks setup l l.works core → 2 ≤ seq_in l.works
seq_low below ranges setup l core w there runs =
    let o = opened_with setup l core l.works runs in
    let low = next_low below ranges setup l o.0 core w there o.2 in
    let next = next_is setup l o.0 core w there o.2 in
    subst (λ k. 2 ≤ k) (sym (ap seq_in o.1)) (let k : 2 ≤ o.0.words.next = omega (arith, low, next) in k)

-- another state of its records and workers leaves its streams as they are
pub fits_with_works : (setup : Setup) (l new : leads.Lead) (o : Option Works) → LeadFits setup l → new ≡ record l { works = o } → LeadFits setup new
fits_with_works setup l new o f is = subst (LeadFits setup) (sym is) (record {
  epoch = f.epoch;
  streams = f.streams;
  each = f.each;
  acknowledged_streams = f.acknowledged_streams;
  acknowledged = f.acknowledged;
  pending = f.pending;
})

-- ---- what is due ----

module _ (setup : Setup) (sized : SetupFits setup) (a w : ℕ) (l : leads.Lead) (x : NodeState) (core : Core) (is : x.part ≡ Leads (lead_with l (Some core))) where
  -- by whether it may, and whether the worker is done
  by_tests : (may done : Bool) → Answer
  by_tests may done =
      if not may then Ok (quiet x)
      else if done then proposes setup a x (lead_with l (Some core)) w (idle_mark l.epoch END_SEQ)
      else proposes setup a x (lead_with l (Some (turn (setting_of setup.program.tables setup.program.lists l.epoch) core (Idle w)))) w (idle_mark l.epoch (core.next - l.epoch * 2 ^ 40))

  abbrev may : Bool
  may = may_idle (lead_with l (Some core)) w core

  abbrev done : Bool
  done = is_done (setting_of setup.program.tables setup.program.lists l.epoch) w (phase_of core w)

  due_by_tests : idles setup a x w ≡ by_tests may done
  unfolding by_tests
  due_by_tests = ap (λ p. if_open x p (λ lead core. idles_core setup a x lead w core)) is
      ∙ ap (λ S. if not may then Ok (quiet x)
      else if is_done S w (phase_of core w) then proposes setup a x (lead_with l (Some core)) w (idle_mark l.epoch END_SEQ)
      else proposes setup a x (lead_with l (Some (turn S core (Idle w)))) w (idle_mark l.epoch (core.next - l.epoch * 2 ^ 40))) (setting_is setup sized l.epoch)

  pub idle_not : may ≡ false → idles setup a x w ≡ Ok (quiet x)
  unfolding by_tests
  idle_not h = due_by_tests ∙ ap (λ m. by_tests m done) h

  pub idle_ends : may ≡ true → done ≡ true → idles setup a x w ≡ proposes setup a x (lead_with l (Some core)) w (idle_mark l.epoch END_SEQ)
  unfolding by_tests
  idle_ends h d = due_by_tests ∙ ap (λ m. by_tests m done) h ∙ ap (by_tests true) d

  pub idle_draws : may ≡ true → done ≡ false → idles setup a x w
      ≡ proposes setup a x (lead_with l (Some (turn (setting_of setup.program.tables setup.program.lists l.epoch) core (Idle w)))) w (idle_mark l.epoch (core.next - l.epoch * 2 ^ 40))
  unfolding by_tests
  idle_draws h d = due_by_tests ∙ ap (λ m. by_tests m done) h ∙ ap (by_tests true) d

-- nothing is due of a leader that has not opened
pub idle_quiet : (setup : Setup) (a w : ℕ) (l : leads.Lead) (x : NodeState) (s : StandsLead setup l x.part) → l.works ≡ None → (out : Out) → IsSending [] out
    → LeadDid setup l x (idles setup a x w) out
idle_quiet setup a w l x s none out is =
    stays_quiet setup l x x.part s (idles setup a x w) ((not_open setup l x.part s none).does_nothing x (λ lead core. idles_core setup a x lead w core)) out is
