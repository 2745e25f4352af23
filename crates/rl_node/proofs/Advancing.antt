-- What a leader does with an Ack is what is due.
use Rattle.std.proofs.Common.{◌≡◌, ℕ, ◌-◌, ◌<◌, ◌≤◌, List, [], length, map, drop, Bool, true, false, nat_lt, nat_le, if◌then◌else◌, is_some, Option, Some, None, Result, Ok, Err, IfOk, OnOk, refl, sym, ap, ◌∙◌, subst, arith, inl, inr, get_or-set_other}
use Rattle.std.proofs.lemmas.Bool.{cases_eq}
use Rattle.std.specs.List.{list_all}
use Rattle.std.specs.Prelude.{slice_index_or}
use Rattle.std.proofs.lemmas.Bool.Decides.{nat_tests}
use Rattle.rl_election.specs.World.{no_stream}
use Rattle.rl_families.specs.Families.{history}
use Rattle.rl_msg.specs.declared.msg.Msg.{Msg}
use Rattle.rl_paxos.specs.Leaders.{Leading, with_ack}
use Rattle.rl_txn.specs.declared.item.Item.{Item}
use Rattle.rl_worker.specs.Acts.{Core}
use Rattle.rl_base.specs.declared.memory.Memory.{Memory}
use Rattle.rl_nodes.specs.Answers.{Did, sending, quiet}
use Rattle.rl_nodes.specs.Handles.{advances, opens, releases}
use Rattle.rl_nodes.specs.Nodes.{Lead, NodeState, Part, Leads, leading, with_leading, len_acknowledged, acknowledged_history, marks_are_acknowledged}
use Rattle.rl_nodes.specs.Openings.{Work, opening_leader}
use Rattle.rl_nodes.specs.Setups.{Setup, SetupFits}
use Rattle.rl_node.specs.Counting.{HasCounted, HasAdvanced, count_in, count_due, advanced}
use Rattle.rl_node.specs.Fits.{IsStream, LeadFits}
use Rattle.rl_node.specs.Leading.{stream_of}
use Rattle.rl_node.specs.Leads.{LeadDid}
use Rattle.rl_node.specs.Opening.{HasOpened, out_of_opening}
use Rattle.rl_node.specs.Outs.{Adds, IsSending}
use Rattle.rl_node.specs.Sending.{known_of}
use Rattle.rl_node.specs.Standing.{StandsLead, HasWorksOf, HasNotOpened, lead_with, log_of}
use Rattle.rl_node.specs.declared.answer.Opened.{Opened}
use Rattle.rl_node.specs.declared.answer.Out.{Out}
use Rattle.rl_node.specs.declared.answer.Sent.{Sent}
use Rattle.rl_node.specs.declared.part.Lead as leads
use Rattle.rl_node.specs.declared.part.Works.{Works}
use Rattle.rl_node.proofs.Histories.{history_is}
use Rattle.rl_node.proofs.Leaders.{log_now, counted_fits}
use Rattle.rl_node.proofs.Opened.{opened_works, opened_few, still_has}
use Rattle.rl_worker.specs.Opening.{core_after}

-- ---- whether it has opened ----

pub same_open : (setup : Setup) (l : leads.Lead) (o : Option Works) (c : Option Core) → HasWorksOf setup l o c → is_some c ≡ is_some o
same_open setup l None None h = refl
same_open setup l None (Some core) h = absurd h
same_open setup l (Some works) None h = absurd h
same_open setup l (Some works) (Some core) h = refl

pub is_closed : (setup : Setup) (l : leads.Lead) (o : Option Works) (c : Option Core) → HasWorksOf setup l o c → is_some o ≡ false → HasNotOpened setup l
is_closed setup l None None h none = h
is_closed setup l None (Some core) h none = absurd h
is_closed setup l (Some works) c h none = absurd (cc)

-- ---- it goes on ----

module _ (setup : Setup) (sized : SetupFits setup) (l : leads.Lead) (fits : LeadFits setup l) (sends : List Sent) (told : ℕ)
    (core : Option Core) (x : NodeState) (before : List Item) (messages : List Msg)
    (h : HasWorksOf setup l l.works core) (len : length before ≡ told) (adds : Adds [] sends messages) where
  abbrev lead : Lead
  lead = lead_with l core

  abbrev waits : Did
  waits = sending (record x { part = Leads lead }) messages

  abbrev by_tests : (has marks : Bool) → Did
  by_tests has marks = if has then releases x before lead messages else if marks then opens setup x lead messages else waits

  stands_still : StandsLead setup l (Leads lead)
  stands_still = record { core = core; is = refl; works = h; fits = fits }

  test_open : (b : Bool) → is_some l.works ≡ b → is_some core ≡ b
  test_open b e = same_open setup l l.works core h ∙ e

  -- an open leader releases
  pub did_release : is_some l.works ≡ true → (out : Out) → out ≡ record { sends = sends; opened = None; denied = None; released = drop told (history l.acknowledged) }
      → LeadDid setup l x (Ok (advanced setup x before lead messages)) out
  did_release has out is = record {
    did = releases x before lead messages;
    part = Leads lead;
    due = ap (λ b. Ok (by_tests b (marks_are_acknowledged lead))) (test_open true has);
    is = refl;
    stands = stands_still;
    hands_out = record {
      sends = ap (λ (o : Out). map (λ (y : Sent). (y.to, y.bytes)) o.sends) is ∙ adds.sends;
      in_range = adds.in_range;
      opened = ap (λ (o : Out). o.opened) is;
      denied = ap (λ (o : Out). o.denied) is;
      released = ap (λ (o : Out). o.released) is ∙ ap (λ n. drop n (history l.acknowledged)) (sym len) ∙ ap (drop (length before)) (history_is setup l fits core);
    };
  }

  -- one that can't open yet only tells
  pub did_wait : is_some l.works ≡ false → marks_are_acknowledged lead ≡ false → (out : Out) → ((ms : List Msg) → Adds [] sends ms → IsSending ms out)
      → LeadDid setup l x (Ok (advanced setup x before lead messages)) out
  did_wait closed unmarked out is =
      let told = is messages adds in
      record {
        did = waits;
        part = Leads lead;
        due = ap (λ b. Ok (by_tests b (marks_are_acknowledged lead))) (test_open false closed) ∙ ap (λ b. Ok (by_tests false b)) unmarked;
        is = refl;
        stands = stands_still;
        hands_out = record { sends = told.sends; in_range = told.in_range; opened = told.opened; denied = told.denied; released = told.released };
      }

  -- one that can opens
  module _ (closed : is_some l.works ≡ false) (marked : marks_are_acknowledged lead ≡ true) (new : leads.Lead) (o : HasOpened setup l new) (out : Out)
      (is : out ≡ out_of_opening l sends) where
    begun : HasNotOpened setup l
    begun = is_closed setup l l.works core h closed

    abbrev items : List Item
    items = history l.acknowledged

    abbrev opened : Core
    opened = core_after (opening_leader setup.program l.epoch items) []

    abbrev now : leads.Lead
    now = record l { works = Some o.works }

    abbrev told_opening : List Item → Option Opened
    told_opening xs = Some (record { epoch = l.epoch; count = length xs })

    core_is : setup.work.opening l.epoch (acknowledged_history lead) ≡ opened
    core_is = ap (λ (w : Work). w.opening l.epoch (acknowledged_history lead)) sized.work_is
        ∙ ap (λ xs. core_after (opening_leader setup.program l.epoch xs) []) (sym (history_is setup l fits core))

    stands_open : StandsLead setup now (Leads (lead_with now (Some opened)))
    stands_open = record {
      core = Some opened;
      is = refl;
      works = still_has setup l now refl refl (λ u first. refl) (Some o.works) (Some opened)
          (opened_works setup sized l fits begun items o.works o.opening, opened_few setup sized l fits begun items o.works o.opening);
      fits = record {
        epoch = fits.epoch;
        streams = fits.streams;
        each = fits.each;
        acknowledged_streams = fits.acknowledged_streams;
        acknowledged = fits.acknowledged;
        pending = fits.pending;
      };
    }

    pub did_open : LeadDid setup new x (Ok (advanced setup x before lead messages)) out
    did_open = record {
      did = opens setup x lead messages;
      part = Leads (lead_with now (Some opened));
      due = ap (λ b. Ok (by_tests b (marks_are_acknowledged lead))) (test_open false closed) ∙ ap (λ b. Ok (by_tests false b)) marked;
      is = ap (λ c. record x { part = Leads (record lead { core = Some c }) }) core_is;
      stands = subst (λ z. StandsLead setup z (Leads (lead_with now (Some opened)))) (sym o.same) stands_open;
      hands_out = record {
        sends = ap (λ (z : Out). map (λ (y : Sent). (y.to, y.bytes)) z.sends) is ∙ adds.sends;
        in_range = adds.in_range;
        opened = ap (λ (z : Out). z.opened) is ∙ ap told_opening (history_is setup l fits core);
        denied = ap (λ (z : Out). z.denied) is;
        released = ap (λ (z : Out). z.released) is ∙ history_is setup l fits core;
      };
    }

-- as the code opens, by its answer
pub advance_opens : (setup : Setup) → SetupFits setup → (l : leads.Lead) → LeadFits setup l → (sends : List Sent) (told : ℕ) (new : leads.Lead) (r : Result Out Memory)
    → OnOk r (HasOpened setup l new) → IfOk r (λ out. out ≡ out_of_opening l sends) → is_some l.works ≡ false
    → list_all (λ (y : Leading). nat_le y.initial_len (len_acknowledged y)) l.streams.items ≡ true → IfOk r (HasAdvanced setup l new sends told)
advance_opens setup sized l fits sends told new (Ok out) o is closed marked =
    λ core x before messages h len adds. did_open setup sized l fits sends told core x before messages h len adds closed marked new o out is
advance_opens setup sized l fits sends told new (Err e) o is closed marked = tt

-- ---- an Ack ----

pub within_now : (a n m : ℕ) → a ≡ n → a ≤ m → n ≤ m
within_now a n m e l = omega (arith, e, l)

-- a leader that has counted it, and has caught up with it
module _ (setup : Setup) (s from len : ℕ) (old mid : leads.Lead) (p : Part) (st : StandsLead setup old p)
    (there : IsStream setup s) (counted : HasCounted old mid s from len)
    (within : len_acknowledged (stream_of mid s) ≤ length (stream_of mid s).log) where
  logs_same : (u : ℕ) → 1 ≤ u → log_of mid u ≡ log_of old u
  logs_same u first = elim (cases_eq u s) [
    | inl e ↦ subst (λ v. log_of mid v ≡ log_of old v) (sym e) (log_now setup old mid s from len st.fits there counted within)
    | inr n ↦ ap (λ xs. (slice_index_or xs (u - 1) no_stream).log) counted.streams
        ∙ ap (λ (z : Leading). z.log) (get_or-set_other old.streams.items (s - 1) (u - 1) (with_ack (stream_of old s) from len) no_stream (λ e. n (same_place u s first there.0 e)))
  ]
    where
      same_place : (u s : ℕ) → 1 ≤ u → 1 ≤ s → u - 1 ≡ s - 1 → u ≡ s
      same_place u s p q e = omega (arith, p, q, e)

  works_mid : HasWorksOf setup mid mid.works st.core
  works_mid = subst (λ o. HasWorksOf setup mid o st.core) (sym (ap (λ (z : leads.Lead). z.works) counted.same))
      (still_has setup old mid (ap (λ (z : leads.Lead). z.epoch) counted.same) (ap (λ (z : leads.Lead). z.pending.items) counted.same) logs_same old.works st.core st.works)

  pub works_now : (now : leads.Lead) → now ≡ record mid { acknowledged = now.acknowledged } → HasWorksOf setup now now.works st.core
  works_now now same = subst (λ o. HasWorksOf setup now o st.core) (sym (ap (λ (z : leads.Lead). z.works) same))
      (still_has setup mid now (ap (λ (z : leads.Lead). z.epoch) same) (ap (λ (z : leads.Lead). z.pending.items) same)
      (λ u first. ap (λ (z : leads.Lead). log_of z u) same) mid.works st.core works_mid)

  -- what is due of it
  module _ (a : ℕ) (x : NodeState) (own : x.part ≡ p) where
    abbrev lead_old : Lead
    lead_old = lead_with old st.core

    abbrev lead_mid : Lead
    lead_mid = lead_with mid st.core

    abbrev by_lead : Lead → Did
    by_lead new = if nat_lt (len_acknowledged (stream_of old s)) (len_acknowledged (leading new s)) then advances setup a x lead_old new s
        else quiet (record x { part = Leads new })

    lead_is : with_leading lead_old s (with_ack (stream_of old s) from len) ≡ lead_mid
    lead_is = λ i. record {
      epoch = ap (λ (z : leads.Lead). z.epoch) (sym counted.same) i;
      streams = sym counted.streams i;
      core = st.core;
      pending = ap (λ (z : leads.Lead). z.pending.items) (sym counted.same) i;
    }

    due_is : count_due setup a x s from len ≡ by_lead lead_mid
    due_is = ap (count_in setup a x s from len) (own ∙ st.is) ∙ ap by_lead lead_is

    by_test : (b : Bool) → nat_lt (len_acknowledged (stream_of old s)) (len_acknowledged (stream_of mid s)) ≡ b
        → count_due setup a x s from len ≡ (if b then advances setup a x lead_old lead_mid s else quiet (record x { part = Leads lead_mid }))
    by_test b e = due_is ∙ ap (λ (t : Bool). if t then advances setup a x lead_old lead_mid s else quiet (record x { part = Leads lead_mid })) e

    -- no more is acknowledged
    pub did_count : len_acknowledged (stream_of old s) ≡ len_acknowledged (stream_of mid s) → (out : Out) → IsSending [] out
        → LeadDid setup mid x (Ok (count_due setup a x s from len)) out
    did_count same out is = record {
      did = quiet (record x { part = Leads lead_mid });
      part = Leads lead_mid;
      due = ap Ok (by_test false (not_below (len_acknowledged (stream_of old s)) (len_acknowledged (stream_of mid s)) same));
      is = refl;
      stands = record { core = st.core; is = refl; works = works_mid; fits = counted_fits setup old mid s from len st.fits there counted within same };
      hands_out = record { sends = is.sends; in_range = is.in_range; opened = is.opened; denied = is.denied; released = is.released };
    }
      where
        not_below : (m n : ℕ) → m ≡ n → nat_lt m n ≡ false
        not_below m n e = grind (arith, nat_tests)

    -- more is
    module _ (grows : len_acknowledged (stream_of old s) < len_acknowledged (stream_of mid s)) (now : leads.Lead)
        (same : now ≡ record mid { acknowledged = now.acknowledged }) where
      abbrev messages : List Msg
      messages = known_of a mid.epoch s (stream_of mid s) setup.nodes

      below : (m n : ℕ) → m < n → nat_lt m n ≡ true
      below m n l = grind (arith, nat_tests)

      due_now : count_due setup a x s from len ≡ advanced setup x (acknowledged_history lead_old) (lead_with now st.core) messages
      due_now = by_test true (below (len_acknowledged (stream_of old s)) (len_acknowledged (stream_of mid s)) grows)
          ∙ ap (λ (z : leads.Lead). advanced setup x (acknowledged_history lead_old) (lead_with z st.core) messages) (sym same)

      history_told : length (acknowledged_history lead_old) ≡ length (history mid.acknowledged)
      history_told = ap length (sym (history_is setup old st.fits st.core) ∙ ap (λ (z : leads.Lead). history z.acknowledged) (sym counted.same))

      pub did_advance : (new : leads.Lead) (sends : List Sent) (told : ℕ) (out : Out) → told ≡ length (history mid.acknowledged)
          → Adds [] sends messages → HasAdvanced setup now new sends told out → LeadDid setup new x (Ok (count_due setup a x s from len)) out
      did_advance new sends told out is adds did =
          subst (λ (d : Did). LeadDid setup new x (Ok d) out) (sym due_now)
          (did st.core x (acknowledged_history lead_old) messages (works_now now same) (history_told ∙ sym is) adds)
