-- What a leader does in a step of a worker is what was due, and what the step tells is what it came to.
use Rattle.std.proofs.Common.{◌≡◌, ◌≢◌, ℕ, ◌-◌, ◌<◌, ◌≤◌, [], ◌++◌, length, Bool, true, false, nat_lt, if◌then◌else◌, is_some, Option, Some, None, IfSome, option_to_list, option_map, Result, Ok, Err, IfOk, IfErr, OnOk, IsErrAnd, refl, sym, ap, ◌∙◌, subst, arith, inl, inr, length-append, length-set, get_or-set_same, get_or-set_other}
use Rattle.std.specs.Prelude.{◌==◌, slice_set, slice_index_or}
use Rattle.std.specs.Option.{option_and_then}
use Rattle.std.proofs.lemmas.Bool.{cases_eq}
use Rattle.std.proofs.lemmas.Result.{err_from_is_err_and}
use Rattle.rl_base.proofs.Tests.{lt_true, lt_false}
use Rattle.rl_base.specs.Results.{◌>>=◌}
use Rattle.rl_base.specs.declared.limit.TheConstants.{SLOTS}
use Rattle.rl_batch.specs.Encoding.{batch_bytes}
use Rattle.rl_paxos.specs.Leaders.{proposed}
use Rattle.rl_txn.specs.declared.batch.Batch.TheVariants.{Items}
use Rattle.rl_txn.specs.declared.item.Item.{Item}
use Rattle.rl_worker.specs.Acts.{Core, CoreRefusal, Step, phase_of, turn}
use Rattle.rl_worker.specs.OneTurn.{newly_ended, newly_refused}
use Rattle.rl_worker.specs.Opening.{setting_of, item_seen}
use Rattle.rl_worker.specs.Phases.{Setting}
use Rattle.rl_worker.specs.Told.{refused, NamesRecord}
use Rattle.rl_worker.specs.declared.act.Moved.{Moved}
use Rattle.rl_nodes.specs.declared.node_error.NodeError.{NodeError}
use Rattle.rl_nodes.specs.declared.node_error.NodeError.TheVariants.{BadMessage, StreamFull, NoEpoch, Memory}
use Rattle.rl_nodes.specs.Answers.{Did, Answer, sending, quiet}
use Rattle.rl_nodes.specs.Calls.{turn_of}
use Rattle.rl_nodes.specs.Nodes.{Lead, NodeState, Part, Leads, leading, with_leading, pending_of, with_pending}
use Rattle.rl_nodes.specs.Openings.{Work}
use Rattle.rl_nodes.specs.Setups.{Setup, SetupFits}
use Rattle.rl_nodes.specs.Works.{proposes_items, proposes_full, stepped, steps_core, steps, if_open, request_in}
use Rattle.rl_nodes.specs.World.{AttemptRefused, attempt_of, refused_line, epoch_led}
use Rattle.rl_node.specs.Fits.{IsStream, LeadFits}
use Rattle.rl_node.specs.Leading.{stream_of, accept_of}
use Rattle.rl_node.specs.Leads.{LeadDid, LeadFailed, LeadTries}
use Rattle.rl_node.specs.Moves.{out_of, moved_in, moved_of, line_of, Tells}
use Rattle.rl_node.specs.Outs.{IsSending}
use Rattle.rl_node.specs.Proposing.{HasProposed, RefusesBatch}
use Rattle.rl_node.specs.Standing.{StandsLead, HasWorksOf, AreWorksOf, HasFew, lead_with, pending_in}
use Rattle.rl_node.specs.Stepping.{core_stepped, HasEnded, HasOpenWorks, IsFilling, HasMoved}
use Rattle.rl_node.specs.declared.answer.Out.{Out}
use Rattle.rl_node.specs.declared.answer.Stepped.{Stepped}
use Rattle.rl_node.specs.declared.part.Lead as leads
use Rattle.rl_node.specs.declared.part.Works.{Works}
use Rattle.rl_node.proofs.NoLeaders.{not_open}
use Rattle.rl_node.proofs.Flushes.{IsOpen, is_open, stays_quiet, items_tries, open_after}

-- what the workers of a leader do is what its program decides
pub setting_is : (setup : Setup) → SetupFits setup → (e : ℕ) → setup.work.setting e ≡ setting_of setup.program.tables setup.program.lists e
setting_is setup sized e = ap (λ (w : Work). w.setting e) sized.work_is

-- ---- a full batch ----

-- fewer items are pending than make a batch
module _ (setup : Setup) (l : leads.Lead) (core : Core) (w : ℕ) (fits : LeadFits setup l) (runs : HasOpenWorks setup l l.works core)
    (filling : IsFilling setup l w) (few : length (pending_in l w) < setup.batch) where
  has_few : HasFew setup l
  has_few v is = elim (cases_eq v w) [
    | inl e ↦ subst (λ u. length (pending_in l u) < setup.batch) (sym e) few
    | inr n ↦ filling.others v is n
  ]

  with_few : (o : Option Works) → HasOpenWorks setup l o core → HasWorksOf setup l o (Some core)
  with_few None h = h
  with_few (Some works) h = (h, has_few)

  pub few_quiet : (a : ℕ) (x : NodeState) (out : Out) → IsSending [] out → LeadDid setup l x (proposes_full setup a x (lead_with l (Some core)) w) out
  few_quiet a x out is =
      stays_quiet setup l x (Leads (lead_with l (Some core))) (record { core = Some core; is = refl; works = with_few l.works runs; fits = fits })
      (proposes_full setup a x (lead_with l (Some core)) w)
      (ap (λ b. if b then Ok (quiet (record x { part = Leads (lead_with l (Some core)) }))
      else proposes_items setup a x (lead_with l (Some core)) w (pending_in l w)) (lt_true (length (pending_in l w)) setup.batch few)) out is

-- as many as make one
pub full_due : (setup : Setup) (l : leads.Lead) (core : Core) (w a : ℕ) (x : NodeState) → setup.batch ≤ length (pending_in l w)
    → proposes_full setup a x (lead_with l (Some core)) w ≡ proposes_items setup a x (lead_with l (Some core)) w (pending_in l w)
full_due setup l core w a x full =
    ap (λ b. if b then Ok (quiet (record x { part = Leads (lead_with l (Some core)) }))
    else proposes_items setup a x (lead_with l (Some core)) w (pending_in l w)) (lt_false (length (pending_in l w)) setup.batch full)

pub full_tries : (setup : Setup) → SetupFits setup → (l new : leads.Lead) (core : Core) (w a : ℕ) (x : NodeState) → IsStream setup w → LeadFits setup l
    → HasOpenWorks setup l l.works core → IsFilling setup l w → setup.batch ≤ length (pending_in l w) → (r : Result Out NodeError)
    → OnOk r (HasProposed l new w (batch_bytes (Items (pending_in l w)))) → OnOk r (length (stream_of l w).log < SLOTS)
    → OnOk r (LeadFits setup new) → OnOk r ((works : Works) (core : Core) → AreWorksOf setup l works core → AreWorksOf setup new works core)
    → IfOk r (IsSending (accept_of a l.epoch w (stream_of l w) (batch_bytes (Items (pending_in l w))) setup.nodes)) → IfErr r (RefusesBatch (stream_of l w))
    → LeadTries setup new x (proposes_full setup a x (lead_with l (Some core)) w) r
full_tries setup sized l new core w a x there fits runs filling full r h free fits' stands sends refused =
    subst (λ answer. LeadTries setup new x answer r) (sym (full_due setup l core w a x full))
    (items_tries setup sized w l new core there filling fits.pending a x r h free fits'
    (open_after setup l new core w (batch_bytes (Items (pending_in l w))) runs r h stands) sends refused)

-- ---- a step ----

-- one item more or none
one_more : (o : Option Item) → length (option_to_list o) ≤ 1
one_more None = omega arith
one_more (Some x) = omega arith

-- a leader after a step fills its batches
pub filling_then : (setup : Setup) (old new : leads.Lead) (w : ℕ) (told : Moved) → IsStream setup w → length old.pending.items ≡ setup.workers
    → HasFew setup old → HasEnded old new w told → IsFilling setup new w
filling_then setup old new w told there size few h = record {
  own = let k = few w there in let one = one_more told.ended in let more = ap length own in let sum = length-append (pending_in old w) (option_to_list told.ended) in omega (arith, k, one, more, sum);
  others = λ v is n. subst (λ ps. length ps < setup.batch) (sym (other v is n)) (few v is);
}
  where
    within : w - 1 < length old.pending.items
    within = omega (arith, there.0, there.1, size)

    own : pending_in new w ≡ pending_in old w ++ option_to_list told.ended
    own = ap (λ ps. slice_index_or ps (w - 1) []) h.pending ∙ get_or-set_same old.pending.items (w - 1) (pending_in old w ++ option_to_list told.ended) [] within

    same : (u s : ℕ) → 1 ≤ u → 1 ≤ s → u - 1 ≡ s - 1 → u ≡ s
    same u s p q e = omega (arith, p, q, e)

    other : (v : ℕ) → IsStream setup v → v ≢ w → pending_in new v ≡ pending_in old v
    other v is n = ap (λ ps. slice_index_or ps (v - 1) []) h.pending
        ∙ get_or-set_other old.pending.items (w - 1) (v - 1) (pending_in old w ++ option_to_list told.ended) [] (λ e. n (same v w is.0 there.0 e))

-- and its streams are what they were
pub fits_then : (setup : Setup) (old new : leads.Lead) (w : ℕ) (told : Moved) → LeadFits setup old → HasEnded old new w told → new.acknowledged ≡ old.acknowledged → LeadFits setup new
fits_then setup old new w told fits h same =
    subst (λ e. LeadFits setup (record new { epoch = e })) (sym h.epoch)
    (subst (λ ss. LeadFits setup (record new { epoch = old.epoch; streams = ss })) (sym h.streams)
    (subst (λ family. LeadFits setup (record new { epoch = old.epoch; streams = old.streams; acknowledged = family })) (sym same) (record {
      epoch = fits.epoch;
      streams = fits.streams;
      each = fits.each;
      acknowledged_streams = fits.acknowledged_streams;
      acknowledged = fits.acknowledged;
      pending = ap length h.pending ∙ length-set old.pending.items (w - 1) (pending_in old w ++ option_to_list told.ended) ∙ fits.pending;
    })))

-- what follows a value or an error
module _ (setup : Setup) (new : leads.Lead) (x : NodeState) (first : Answer) (refusal : Option CoreRefusal) where
  abbrev told_also : Answer
  told_also = first >>= λ did. Ok (record did { refusal = refusal })

  after_err : (e : NodeError) → first ≡ Err e → told_also ≡ Err e
  after_err e h = ap (λ (f : Answer). f >>= λ did. Ok (record did { refusal = refusal })) h

  pub also_tries : (r : Result Out NodeError) → LeadTries setup new x first r → LeadTries setup new x told_also r
  also_tries (Ok out) d = record {
    did = record d.did { refusal = refusal };
    part = d.part;
    due = ap (λ (f : Answer). f >>= λ did. Ok (record did { refusal = refusal })) d.due;
    is = ap (λ (n : NodeState). n) d.is;
    stands = d.stands;
    hands_out = let h = d.hands_out in record { sends = h.sends; in_range = h.in_range; opened = h.opened; denied = h.denied; released = h.released };
  }
  also_tries (Err BadMessage) d = d
  also_tries (Err (NoEpoch promised)) d = d
  also_tries (Err (StreamFull slots)) d = after_err (StreamFull slots) d
  also_tries (Err Memory) d = tt

by_if : {A : Type 0} (P : A → Type 0) (b : Bool) (x y : A) → P x → P y → P (if b then x else y)
by_if P true x y t f = t
by_if P false x y t f = f

-- the leader leads its epoch still
abbrev HasEpoch : ℕ → Answer → Type 0
HasEpoch e answer = IfOk answer (λ (did : Did). epoch_led did.node.part ≡ e)

full_epoch : (setup : Setup) (a : ℕ) (x : NodeState) (lead : Lead) (w : ℕ) → IfOk (proposes_full setup a x lead w) (λ (did : Did). epoch_led did.node.part ≡ lead.epoch)
full_epoch setup a x lead w =
    by_if (HasEpoch lead.epoch) (nat_lt (length (pending_of lead w)) setup.batch) (Ok (quiet (record x { part = Leads lead }))) (proposes_items setup a x lead w (pending_of lead w)) refl
    (by_if (HasEpoch lead.epoch) (length (leading lead w).log == SLOTS) (Err (StreamFull SLOTS)) (Ok (sending (record x { part = Leads (with_leading (with_pending lead w []) w (proposed (leading lead w) (batch_bytes (Items (pending_of lead w))))) })
    (accept_of a lead.epoch w (leading lead w) (batch_bytes (Items (pending_of lead w))) setup.nodes))) tt refl)

-- a refused attempt as it is reported
by_refusal : (w e i q led : ℕ) (o : Option CoreRefusal) → led ≡ e → i ≡ q → IfSome o (λ (f : CoreRefusal). (f.worker ≡ w) × (f.index ≡ q))
    → option_map refused_line (option_map (λ (f : CoreRefusal). record { epoch = led; refusal = f }) o) ≡ option_map (AttemptRefused e w i) (option_map refused o)
by_refusal w e i q led None p r h = refl
by_refusal w e i q led (Some f) p r h = λ j. Some (AttemptRefused (p j) (h.0 j) ((h.1 ∙ sym r) j) (refused f))

module _ (setup : Setup) (sized : SetupFits setup) (a w : ℕ) (l : leads.Lead) (x : NodeState) (core : Core) (is : x.part ≡ Leads (lead_with l (Some core))) where
  S : Setting
  S = setup.work.setting l.epoch

  abbrev after : Core
  after = core_stepped setup l.epoch core w

  after_is : turn (setup.work.setting l.epoch) core (Step w) ≡ after
  after_is = ap (λ S. turn S core (Step w)) (setting_is setup sized l.epoch)

  step_is : steps setup a x w ≡ steps_core setup a x (lead_with l (Some core)) w core
  step_is = ap (λ p. if_open x p (λ lead core. steps_core setup a x lead w core)) is

  -- by the core after it
  by_core : Core → Answer
  by_core c = proposes_full setup a x (stepped (lead_with l (Some core)) core c w) w >>= λ did. Ok (record did { refusal = newly_refused core c })

  step_by_core : steps setup a x w ≡ by_core after
  unfolding by_core
  step_by_core = step_is ∙ ap by_core after_is

  module _ (m : leads.Lead) (told : Moved) (moved : HasMoved setup l m core w told) where
    ended_is : told.ended ≡ option_map (item_seen l.epoch) (newly_ended core after)
    ended_is = ap (λ (t : Moved). t.ended) moved.tells

    same_lead : stepped (lead_with l (Some core)) core after w ≡ lead_with m (Some after)
    same_lead = λ i. record {
      epoch = sym moved.ended.epoch i;
      streams = (sym moved.ended.streams i).items;
      core = Some after;
      pending = (ap (λ o. slice_set l.pending.items (w - 1) (pending_in l w ++ option_to_list o)) (sym ended_is) ∙ sym moved.ended.pending) i;
    }

    step_due : steps setup a x w ≡ (proposes_full setup a x (lead_with m (Some after)) w >>= λ did. Ok (record did { refusal = newly_refused core after }))
    unfolding by_core
    step_due = step_by_core ∙ ap (λ lead. proposes_full setup a x lead w >>= λ did. Ok (record did { refusal = newly_refused core after })) same_lead

    pub step_tries : (new : leads.Lead) (r : Result Out NodeError) → LeadTries setup new x (proposes_full setup a x (lead_with m (Some after)) w) r
        → LeadTries setup new x (steps setup a x w) r
    step_tries new r t = subst (λ answer. LeadTries setup new x answer r) (sym step_due)
        (also_tries setup new x (proposes_full setup a x (lead_with m (Some after)) w) (newly_refused core after) r t)

    -- ---- what it tells ----

    told_is : Some told ≡ moved_of setup x.part w
    told_is = ap Some moved.tells ∙ ap (λ S. Some (moved_in S l.epoch core w)) (sym (setting_is setup sized l.epoch)) ∙ ap (λ p. moved_of setup p w) (sym is)

    pub step_tells : (new : leads.Lead) (r : Result Out NodeError) (s : Stepped) → s.moved ≡ Some told → s.epoch ≡ l.epoch → s.index ≡ request_in (phase_of core w)
        → r ≡ Ok s.out → LeadTries setup new x (proposes_full setup a x (lead_with m (Some after)) w) r → NamesRecord setup.program.tables told.refused → Tells setup a x w s
    step_tells new r s has epoch index ok t names = record {
      moved = has ∙ told_is;
      turn = (λ i. (epoch i, index i)) ∙ ap (λ p. turn_of p w) (sym is);
      line = subst (λ (answer : Answer). IfOk answer (λ (did : Did). option_map refused_line (attempt_of did) ≡ line_of w s)) (sym (step_due ∙ after_ok)) line_is;
      names = subst (λ (o : Option Moved). IfSome o (λ (n : Moved). NamesRecord setup.program.tables n.refused)) (sym has) names;
    }
      where
        d : LeadDid setup new x (proposes_full setup a x (lead_with m (Some after)) w) s.out
        d = subst (λ r. LeadTries setup new x (proposes_full setup a x (lead_with m (Some after)) w) r) ok t

        after_ok : (proposes_full setup a x (lead_with m (Some after)) w >>= λ did. Ok (record did { refusal = newly_refused core after }))
            ≡ Ok (record d.did { refusal = newly_refused core after })
        after_ok = ap (λ (f : Answer). f >>= λ did. Ok (record did { refusal = newly_refused core after })) d.due

        led_is : epoch_led d.did.node.part ≡ s.epoch
        led_is = subst (λ (answer : Answer). IfOk answer (λ (did : Did). epoch_led did.node.part ≡ m.epoch)) d.due (full_epoch setup a x (lead_with m (Some after)) w) ∙ moved.ended.epoch ∙ sym epoch

        line_is : option_map refused_line (attempt_of (record d.did { refusal = newly_refused core after })) ≡ line_of w s
        line_is = by_refusal w s.epoch s.index (request_in (phase_of core w)) (epoch_led d.did.node.part) (newly_refused core after) led_is index moved.own
            ∙ ap (option_map (AttemptRefused s.epoch w s.index)) (sym (ap (λ (t : Moved). t.refused) moved.tells) ∙ ap (option_and_then (λ (n : Moved). n.refused)) (sym has))

-- ---- as the code does it ----

-- a leader that has opened, by the part that it stands for
module _ (setup : Setup) (l : leads.Lead) (x : Part) (s : StandsLead setup l x) (has : is_some l.works ≡ true) where
  opened : IsOpen setup l l.works s.core
  opened = is_open setup l l.works s.core s.works has

  pub core_now : Core
  core_now = opened.core

  pub open_now : HasOpenWorks setup l l.works core_now
  unfolding core_now
  open_now = subst (λ o. HasOpenWorks setup l o opened.core) (sym opened.has_works) opened.are

  pub few_now : HasFew setup l
  few_now = opened.few

  pub part_now : x ≡ Leads (lead_with l (Some core_now))
  unfolding core_now
  part_now = s.is ∙ ap (λ c. Leads (lead_with l c)) opened.has_core

-- an error that is handed on
pub err_tries : (setup : Setup) (new : leads.Lead) (x : NodeState) (answer : Answer) (e : NodeError) → LeadFailed answer e → (result : Result Stepped NodeError)
    → IsErrAnd result (λ k. k ≡ e) → LeadTries setup new x answer (out_of result)
err_tries setup new x answer e h result is =
    let p = err_from_is_err_and result is in
    subst (λ r. LeadTries setup new x answer (out_of r)) (sym p.1) (subst (LeadFailed answer) (sym p.2) h)

-- and tells nothing
pub err_tells : (setup : Setup) (a : ℕ) (x : NodeState) (w : ℕ) (P : NodeError → Type 0) (result : Result Stepped NodeError) → IsErrAnd result P → IfOk result (Tells setup a x w)
err_tells setup a x w P (Ok s) is = absurd is
err_tells setup a x w P (Err e) is = tt

-- nothing is due of one that has not opened
pub step_quiet : (setup : Setup) (a w : ℕ) (l : leads.Lead) (x : NodeState) (s : StandsLead setup l x.part) → l.works ≡ None → (out : Out) → IsSending [] out
    → LeadDid setup l x (steps setup a x w) out
step_quiet setup a w l x s none out is = stays_quiet setup l x x.part s (steps setup a x w) ((not_open setup l x.part s none).does_nothing x (λ lead core. steps_core setup a x lead w core)) out is
