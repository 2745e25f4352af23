-- What a leader does that proposes a batch, or what is pending of a worker, is what was due.
use Rattle.std.proofs.Common.{◌≡◌, ◌≢◌, ◌⊎◌, ℕ, ◌-◌, ◌<◌, ◌≤◌, List, [], length, Bool, true, false, ◌==◌, if◌then◌else◌, is_some, Option, Some, None, Result, Ok, Err, IfOk, IfErr, OnOk, refl, sym, ap, ◌∙◌, subst, arith, inl, inr, get_or-set_same, get_or-set_other}
use Rattle.std.specs.Prelude.{slice_index_or}
use Rattle.std.specs.Option.{option_map_or}
use Rattle.std.proofs.lemmas.Bool.{cases_eq}
use Rattle.std.proofs.lemmas.Bool.Decides.{nat_tests}
use Rattle.rl_base.specs.declared.limit.TheConstants.{SLOTS}
use Rattle.rl_paxos.specs.Leaders.{proposed}
use Rattle.rl_worker.specs.Acts.{Core}
use Rattle.rl_nodes.specs.declared.node_error.NodeError.{NodeError}
use Rattle.rl_nodes.specs.declared.node_error.NodeError.TheVariants.{BadMessage, StreamFull, NoEpoch, Memory}
use Rattle.rl_nodes.specs.Answers.{Did, Answer, sending, quiet}
use Rattle.rl_nodes.specs.Nodes.{Lead, NodeState, Part, Leads, leading, with_leading, with_pending}
use Rattle.rl_nodes.specs.Setups.{Setup, SetupFits}
use Rattle.rl_nodes.specs.Works.{proposes, proposes_items, flushes, if_open}
use Rattle.rl_batch.specs.Encoding.{batch_bytes}
use Rattle.rl_txn.specs.declared.batch.Batch.{Batch}
use Rattle.rl_txn.specs.declared.batch.Batch.TheVariants.{Items}
use Rattle.rl_node.specs.Fits.{IsStream, LeadFits}
use Rattle.rl_node.specs.Leading.{stream_of, accept_of}
use Rattle.rl_node.specs.Leads.{LeadDid, LeadFailed, LeadTries}
use Rattle.rl_node.specs.Outs.{IsSending}
use Rattle.rl_node.specs.Proposing.{HasProposed, RefusesBatch}
use Rattle.rl_node.specs.Standing.{StandsLead, HasWorksOf, AreWorksOf, HasFew, lead_with, pending_in}
use Rattle.rl_node.specs.Stepping.{HasOpenWorks, IsFilling}
use Rattle.rl_node.specs.declared.answer.Out.{Out}
use Rattle.rl_node.specs.declared.part.Lead as leads
use Rattle.rl_node.specs.declared.part.Works.{Works}

-- a leader of a node that has opened, or has not
pub record IsOpen (setup : Setup) (l : leads.Lead) (o : Option Works) (c : Option Core) : Type 0 where
  pub works : Works
  pub core : Core
  pub has_works : o ≡ Some works
  pub has_core : c ≡ Some core
  pub are : AreWorksOf setup l works core
  pub few : HasFew setup l

pub is_open : (setup : Setup) (l : leads.Lead) (o : Option Works) (c : Option Core) → HasWorksOf setup l o c → is_some o ≡ true → IsOpen setup l o c
is_open setup l None c h some = absurd (cc)
is_open setup l (Some works) None h some = absurd h
is_open setup l (Some works) (Some core) h some = record { works = works; core = core; has_works = refl; has_core = refl; are = h.0; few = h.1 }

pub no_core : (setup : Setup) (l : leads.Lead) (o : Option Works) (c : Option Core) → HasWorksOf setup l o c → is_some o ≡ false → c ≡ None
no_core setup l None None h none = refl
no_core setup l None (Some core) h none = absurd h
no_core setup l (Some works) c h none = absurd (cc)

no_test : (n m : ℕ) → n ≢ m → (n == m) ≡ false
no_test n m h = grind (arith, nat_tests)

yes_test : (n m : ℕ) → n ≡ m → (n == m) ≡ true
yes_test n m h = grind (arith, nat_tests)

-- it sends nothing and stands for the leader that it stood for
pub stays_quiet : (setup : Setup) (l : leads.Lead) (x : NodeState) (part : Part) → StandsLead setup l part → (answer : Answer)
    → answer ≡ Ok (quiet (record x { part = part })) → (out : Out) → IsSending [] out → LeadDid setup l x answer out
stays_quiet setup l x part s answer due out is = record {
  did = quiet (record x { part = part });
  part = part;
  due = due;
  is = refl;
  stands = s;
  hands_out = record { sends = is.sends; in_range = is.in_range; opened = is.opened; denied = is.denied; released = is.released };
}

-- the works of a leader that has opened
pub opened_with : (setup : Setup) (l : leads.Lead) (core : Core) (o : Option Works) → HasOpenWorks setup l o core
    → (works : Works) × (o ≡ Some works) × AreWorksOf setup l works core
opened_with setup l core None h = absurd h
opened_with setup l core (Some works) h = (works, refl, h)

-- ---- one batch ----

-- a batch is proposed, or the stream is full
module _ (setup : Setup) (a w : ℕ) (x : NodeState) (lead : Lead) (batch : Batch) where
  abbrev bytes : List ℕ
  bytes = batch_bytes batch

  abbrev done : Did
  done = sending (record x { part = Leads (with_leading lead w (proposed (leading lead w) bytes)) }) (accept_of a lead.epoch w (leading lead w) bytes setup.nodes)

  by_room : Bool → Answer
  by_room b = if b then Err (StreamFull SLOTS) else Ok done

  is_by_room : proposes setup a x lead w batch ≡ by_room (length (leading lead w).log == SLOTS)
  unfolding by_room
  is_by_room = refl

  could : length (leading lead w).log < SLOTS → proposes setup a x lead w batch ≡ Ok done
  unfolding by_room
  could free = is_by_room ∙ ap by_room (no_test (length (leading lead w).log) SLOTS (λ e. omega (arith, e, free)))

  full : length (leading lead w).log ≡ SLOTS → proposes setup a x lead w batch ≡ Err (StreamFull SLOTS)
  unfolding by_room
  full e = is_by_room ∙ ap by_room (yes_test (length (leading lead w).log) SLOTS e)

  failed : (error : NodeError) → RefusesBatch (leading lead w) error → LeadFailed (proposes setup a x lead w batch) error
  failed BadMessage h = h
  failed (NoEpoch promised) h = h
  failed Memory h = tt
  failed (StreamFull slots) h = full h.0 ∙ ap (λ n. Err (StreamFull n)) (sym h.1)

  -- as the code does it, by its answer
  pub batch_tries : (new : leads.Lead) (r : Result Out NodeError)
      → OnOk r (StandsLead setup new (Leads (with_leading lead w (proposed (leading lead w) bytes)))) → OnOk r (length (leading lead w).log < SLOTS)
      → IfOk r (IsSending (accept_of a lead.epoch w (leading lead w) bytes setup.nodes)) → IfErr r (RefusesBatch (leading lead w))
      → LeadTries setup new x (proposes setup a x lead w batch) r
  batch_tries new (Ok out) stands free sends refused = record {
    did = done;
    part = Leads (with_leading lead w (proposed (leading lead w) bytes));
    due = could free;
    is = refl;
    stands = stands;
    hands_out = record { sends = sends.sends; in_range = sends.in_range; opened = sends.opened; denied = sends.denied; released = sends.released };
  }
  batch_tries new (Err error) stands free sends refused = failed error refused

-- ---- what is pending of a worker ----

-- nothing is pending of that worker then, and of each other what was
few_then : (setup : Setup) → SetupFits setup → (l new : leads.Lead) (w : ℕ) (bytes : List ℕ) → IsStream setup w → IsFilling setup l w → HasProposed l new w bytes
    → length l.pending.items ≡ setup.workers → HasFew setup new
few_then setup sized l new w bytes there filling h size v is = elim (cases_eq v w) [
  | inl e ↦ (let some = sized.some_items in let k = ap length none_here in subst (λ u. length (pending_in new u) < setup.batch) (sym e) (omega (arith, some, k)))
  | inr n ↦ subst (λ ps. length ps < setup.batch) (sym (other n)) (filling.others v is n)
]
  where
    within : w - 1 < length l.pending.items
    within = omega (arith, there.0, there.1, size)

    none_here : pending_in new w ≡ []
    none_here = ap (λ ps. slice_index_or ps (w - 1) []) h.pending ∙ get_or-set_same l.pending.items (w - 1) [] [] within

    same : (u s : ℕ) → 1 ≤ u → 1 ≤ s → u - 1 ≡ s - 1 → u ≡ s
    same u s p q e = omega (arith, p, q, e)

    other : v ≢ w → pending_in new v ≡ pending_in l v
    other n = ap (λ ps. slice_index_or ps (v - 1) []) h.pending ∙ get_or-set_other l.pending.items (w - 1) (v - 1) [] [] (λ e. n (same v w is.0 there.0 e))

-- a leader that has proposed it stands for the one that the definition has then
module _ (setup : Setup) (sized : SetupFits setup) (w : ℕ) (l new : leads.Lead) (core : Core) (there : IsStream setup w)
    (filling : IsFilling setup l w) (size : length l.pending.items ≡ setup.workers) where
  abbrev items_bytes : List ℕ
  items_bytes = batch_bytes (Items (pending_in l w))

  abbrev then_lead : Lead
  then_lead = with_leading (with_pending (lead_with l (Some core)) w []) w (proposed (stream_of l w) items_bytes)

  open_works : (o : Option Works) → HasOpenWorks setup new o core → HasFew setup new → HasWorksOf setup new o (Some core)
  open_works None h few = h
  open_works (Some works) h few = (h, few)

  stands_then : HasProposed l new w items_bytes → LeadFits setup new → HasOpenWorks setup new new.works core → StandsLead setup new (Leads then_lead)
  stands_then h fits runs = record {
    core = Some core;
    is = λ i. Leads (record { epoch = sym h.epoch i; streams = sym h.streams i; core = Some core; pending = sym h.pending i });
    works = open_works new.works runs (few_then setup sized l new w items_bytes there filling h size);
    fits = fits;
  }

  -- it tries what is due
  pub items_tries : (a : ℕ) (x : NodeState) (r : Result Out NodeError) → OnOk r (HasProposed l new w items_bytes) → OnOk r (length (stream_of l w).log < SLOTS)
      → OnOk r (LeadFits setup new) → OnOk r (HasOpenWorks setup new new.works core)
      → IfOk r (IsSending (accept_of a l.epoch w (stream_of l w) items_bytes setup.nodes)) → IfErr r (RefusesBatch (stream_of l w))
      → LeadTries setup new x (proposes_items setup a x (lead_with l (Some core)) w (pending_in l w)) r
  items_tries a x r h free fits runs sends refused =
      batch_tries setup a w x (with_pending (lead_with l (Some core)) w []) (Items (pending_in l w)) new r (stands r h fits runs) free sends refused
    where
      stands : (r : Result Out NodeError) → OnOk r (HasProposed l new w items_bytes) → OnOk r (LeadFits setup new) → OnOk r (HasOpenWorks setup new new.works core)
          → OnOk r (StandsLead setup new (Leads then_lead))
      stands (Ok out) h fits runs = stands_then h fits runs
      stands (Err e) h fits runs = tt

-- the works of the code after a proposal
still_open : (setup : Setup) (l new : leads.Lead) (core : Core) → new.works ≡ l.works
    → ((works : Works) (core : Core) → AreWorksOf setup l works core → AreWorksOf setup new works core) → HasOpenWorks setup l l.works core → HasOpenWorks setup new new.works core
still_open setup l new core same on runs = subst (λ o. HasOpenWorks setup new o core) (sym same) (by_works l.works runs)
  where
    by_works : (o : Option Works) → HasOpenWorks setup l o core → HasOpenWorks setup new o core
    by_works None h = h
    by_works (Some works) h = on works core h

-- by the answer of the code
pub open_after : (setup : Setup) (l new : leads.Lead) (core : Core) (w : ℕ) (b : List ℕ) → HasOpenWorks setup l l.works core → (r : Result Out NodeError) → OnOk r (HasProposed l new w b)
    → OnOk r ((works : Works) (core : Core) → AreWorksOf setup l works core → AreWorksOf setup new works core) → OnOk r (HasOpenWorks setup new new.works core)
open_after setup l new core w b runs (Ok out) h on = still_open setup l new core h.works on runs
open_after setup l new core w b runs (Err e) h on = tt

-- ---- a flush ----

module _ (setup : Setup) (a w : ℕ) (l : leads.Lead) (x : NodeState) (s : StandsLead setup l x.part) where
  -- what is due of it, by its core
  flush_in : Option Core → Answer
  flush_in c = option_map_or (λ core. if length (pending_in l w) == 0 then Ok (quiet x)
      else proposes_items setup a x (lead_with l c) w (pending_in l w)) c (Ok (quiet x))

  flush_is : flushes setup a x w ≡ flush_in s.core
  unfolding flush_in
  flush_is = ap (λ p. if_open x p (λ lead core. if length (slice_index_or lead.pending (w - 1) []) == 0 then Ok (quiet x)
      else proposes_items setup a x lead w (slice_index_or lead.pending (w - 1) []))) s.is

  by_none : (c : Option Core) → (c ≡ None) ⊎ (pending_in l w ≡ []) → flush_in c ≡ Ok (quiet x)
  unfolding flush_in
  by_none None h = refl
  by_none (Some core) h = elim h [
    | inl e ↦ absurd (cc)
    | inr e ↦ ap (λ items. if length items == 0 then Ok (quiet x) else proposes_items setup a x (lead_with l (Some core)) w items) e
  ]

  -- nothing is due
  pub flush_quiet : (is_some l.works ≡ false) ⊎ (pending_in l w ≡ []) → (out : Out) → IsSending [] out → LeadDid setup l x (flushes setup a x w) out
  flush_quiet h = stays_quiet setup l x x.part s (flushes setup a x w)
      (flush_is ∙ by_none s.core (elim h [ inl none ↦ inl (no_core setup l l.works s.core s.works none) | inr e ↦ inr e ]))

  module _ (opened : IsOpen setup l l.works s.core) (some : 1 ≤ length (pending_in l w)) where
    due_is : flushes setup a x w ≡ proposes_items setup a x (lead_with l (Some opened.core)) w (pending_in l w)
    unfolding flush_in
    due_is = flush_is ∙ ap flush_in opened.has_core
        ∙ ap (λ b. if b then Ok (quiet x) else proposes_items setup a x (lead_with l (Some opened.core)) w (pending_in l w)) (no_test (length (pending_in l w)) 0 (λ e. omega (arith, e, some)))

    -- as the code does it, by its answer
    pub flush_due : (new : leads.Lead) (r : Result Out NodeError)
        → LeadTries setup new x (proposes_items setup a x (lead_with l (Some opened.core)) w (pending_in l w)) r → LeadTries setup new x (flushes setup a x w) r
    flush_due new r t = subst (λ answer. LeadTries setup new x answer r) (sym due_is) t

-- few of each worker are few but for one
pub all_few : (setup : Setup) (l : leads.Lead) (w : ℕ) → IsStream setup w → HasFew setup l → IsFilling setup l w
all_few setup l w there few = record { own = let k = few w there in omega (arith, k); others = λ v is n. few v is }

module _ (setup : Setup) (sized : SetupFits setup) (a w : ℕ) (l : leads.Lead) (x : NodeState) (s : StandsLead setup l x.part) (there : IsStream setup w)
    (has : is_some l.works ≡ true) (some : 1 ≤ length (pending_in l w)) (new : leads.Lead) where
  opened_now : IsOpen setup l l.works s.core
  opened_now = is_open setup l l.works s.core s.works has

  open_now : HasOpenWorks setup l l.works opened_now.core
  open_now = subst (λ o. HasOpenWorks setup l o opened_now.core) (sym opened_now.has_works) opened_now.are

  pub flush_tries : (r : Result Out NodeError) → OnOk r (HasProposed l new w (batch_bytes (Items (pending_in l w)))) → OnOk r (length (stream_of l w).log < SLOTS)
      → OnOk r (LeadFits setup new) → OnOk r ((works : Works) (core : Core) → AreWorksOf setup l works core → AreWorksOf setup new works core)
      → IfOk r (IsSending (accept_of a l.epoch w (stream_of l w) (batch_bytes (Items (pending_in l w))) setup.nodes)) → IfErr r (RefusesBatch (stream_of l w))
      → LeadTries setup new x (flushes setup a x w) r
  flush_tries r h free fits stands sends refused =
      flush_due setup a w l x s opened_now some new r
      (items_tries setup sized w l new opened_now.core there (all_few setup l w there opened_now.few) s.fits.pending a x r h free fits
      (open_after setup l new opened_now.core w (batch_bytes (Items (pending_in l w))) open_now r h stands) sends refused)
