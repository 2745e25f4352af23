-- What a node does keeps what holds of all leaders.
use Rattle.std.proofs.Common.{◌≡◌, ◌≢◌, ℕ, ◌-◌, ◌*◌, ◌^◌, ◌<◌, ◌≤◌, List, [], ◌∷◌, ◌++◌, length, get_or, set, Bool, true, false, not, ◌&&◌, ◌==◌, nat_lt, if◌then◌else◌, Option, Some, None, Ok, Err, option_to_list, option_map, refl, sym, ap, ◌∙◌, subst, arith, inl, inr, true≢false, eq-eqb, get_or-set_same}
use mathlib.Core.Bool.{false≢true}
use Rattle.std.proofs.lemmas.Bool.{cases_eq}
use Rattle.std.proofs.lemmas.List.{set-set, length-append}
use Rattle.std.specs.Option.{option_map_or}
use Rattle.std.specs.List.{list_any}
use Rattle.rl_base.specs.Epochs.{owner_of, next_epoch_of}
use Rattle.rl_base.specs.Lists.{updated}
use Rattle.rl_base.specs.Results.{◌>>=◌}
use Rattle.rl_base.specs.declared.limit.TheConstants.{SLOTS}
use Rattle.rl_base.specs.declared.stamp.Stamp.{Stamp}
use Rattle.rl_base.proofs.Members.{In, in_prefix, in_split}
use Rattle.rl_base.proofs.Tests.{both, true_lt, true_same}
use Rattle.rl_base.proofs.UpdateLemmas.{updated_same, updated_other}
use Rattle.rl_batch.specs.Encoding.{batch_bytes}
use Rattle.rl_txn.specs.declared.batch.Batch.{Batch}
use Rattle.rl_txn.specs.declared.batch.Batch.TheVariants.{Items}
use Rattle.rl_txn.specs.declared.item.Item.{Item}
use Rattle.rl_paxos.specs.declared.refused.Refused.{Refused}
use Rattle.rl_paxos.specs.Acceptors.{refuses, refuses_accept, synced, accepted, kept_ballot}
use Rattle.rl_paxos.specs.Leaders.{proposed}
use Rattle.rl_paxos.specs.Logs.{Log}
use Rattle.rl_paxos.specs.Quorums.{is_node}
use Rattle.rl_paxos.specs.Recovery.{Promise, Candidate, with_promise, recovered_logs}
use Rattle.rl_election.specs.World as world
use Rattle.rl_election.specs.World.{StreamWorld, Term}
use Rattle.rl_election.specs.StreamEvents.{streams_after, candidate_of}
use Rattle.rl_msg.specs.declared.msg.Msg.{Msg}
use Rattle.rl_msg.specs.declared.msg.Msg.TheVariants as msg
use Rattle.rl_families.specs.Leaders.{open_mark}
use Rattle.rl_families.specs.Logs.{stamps_along, last_seq_among}
use Rattle.rl_families.proofs.Logs.{split_stamps, back_stamps}
use Rattle.rl_families.proofs.Rising.{last_seq_among_above, last_seq_among_in}
use Rattle.rl_worker.specs.Acts.{Core, Step, Idle, turn, phase_of, resting, is_done}
use Rattle.rl_worker.specs.OneTurn.{newly_refused, newly_ended}
use Rattle.rl_worker.specs.Opening.{OpenLeader, item_seen, core_after}
use Rattle.rl_nodes.specs.declared.node_error.NodeError.TheVariants.{StreamFull, NoEpoch}
use Rattle.rl_nodes.specs.Answers.{Did, Answer, quiet, sending, unless_denied, to_each}
use Rattle.rl_nodes.specs.Batches.{batches_of, END_SEQ, idle_mark}
use Rattle.rl_nodes.specs.Elections.{elects, stands}
use Rattle.rl_nodes.specs.Handles.{promises, acks, knows, new_lead, leads, recovers_full, stands_or_leads, takes_promise, known_to, opens, releases, advances, counts_ack, takes_ack, takes}
use Rattle.rl_nodes.specs.Nodes.{Lead, NodeState, Part, Follows, Stands, Leads, leading, with_leading, pending_of, with_pending, len_acknowledged, acknowledged_history, has_opened, marks_are_acknowledged, has_end_mark}
use Rattle.rl_nodes.specs.Setups.{Setup, SetupFits, cluster_of}
use Rattle.rl_nodes.specs.Streams.{stream_role, HasTerm}
use Rattle.rl_nodes.specs.Works.{proposes, proposes_items, stepped, steps_core, may_idle, idles_core, if_open, steps, flushes, idles}
use Rattle.rl_nodes.specs.World.{World, node_of, term_of, terms_after, after_doing, attempt_of, epoch_led}
use Rattle.rl_nodes.proofs.ChangesInStreams.{by_node}
use Rattle.rl_nodes.proofs.InStreams.{after_ack, same_terms, some_same}
use Rattle.rl_nodes.proofs.Tied.{TiedRun, by_place}
use Rattle.rl_safe.proofs.Below.{Below}
use Rattle.rl_safe.proofs.Accounts.{Account, no_account, first_at, carried_at, log_at, tail_of, carried_in, opening_of, leader_of, leaders_of, first_logs, TermOk, EpochOk, LeadOk, AllFew, PartOk, Inv}
use Rattle.rl_safe.proofs.CoreTurns.{turn_of, refused_is, by_if}
use Rattle.rl_safe.proofs.Fits.{Good}
use Rattle.rl_safe.proofs.LeadStreams.{at_set, counts, begins_to_lead}
use Rattle.rl_safe.proofs.Leads.{opened, opens_with, steps as steps_ok, refusal_is, turned_account, proposes_pending, flushed_account, says_none, proposes_end, proposes_idle}
use Rattle.rl_safe.proofs.Sayings.{said_own, end_said}
use Rattle.rl_safe.proofs.Told.{mark_ends, good_term, log_told, seqs_end}
use Rattle.rl_safe.proofs.Held.{Held, OpenedOk, RefusedOk, opened_at, opening_in, refusal_in, refusal_true, TermsStay, terms_same, opening_stays, epoch_kept, not_lt, some_there, not_some, none_core}

module _ (b : Below) (setup : Setup) (sized : SetupFits setup) (w : World) (r : TiedRun setup w) (accounts : ℕ → Account) (inv : Inv setup w accounts)
    (a number : ℕ) (there : is_node setup.nodes a ≡ true) where
  abbrev here : NodeState
  here = node_of setup w a

  abbrev sw : StreamWorld
  sw = streams_after (cluster_of setup) r.events

  -- it holds after a node did something
  abbrev pub After : Did → Type 0
  After did = Held setup (after_doing w a number did)

  abbrev pub Answers : Answer → Type 0
  Answers (Ok did) = After did
  Answers (Err e) = Unit {0}

  keeps : (did : Did) (later : ℕ → Account)
      → ((e : ℕ) → EpochOk setup e (terms_after w.terms did.node.part e) (later e))
      → PartOk setup later did.node.part
      → ((c : ℕ) → is_node setup.nodes c ≡ true → c ≢ a → PartOk setup later (node_of setup w c).part)
      → TermsStay w.terms (terms_after w.terms did.node.part)
      → OpenedOk setup (terms_after w.terms did.node.part) a did.opened → RefusedOk did.refusal → After did
  keeps did later epochs part others stay opened refused = (
    later,
    record {
      epochs = epochs;
      parts = by_place setup w sw r.tied a number there did (λ c x. PartOk setup later x.part) part others;
      openings = λ o i. elim (in_split w.openings (option_to_list (option_map (opened_at a) did.opened)) o i) [
        | inl j ↦ opening_stays setup w.terms (terms_after w.terms did.node.part) stay o (inv.openings o j)
        | inr j ↦ opening_in setup (terms_after w.terms did.node.part) a did.opened opened o j
      ];
      refusals = λ f i. elim (in_split w.refusals (option_to_list (attempt_of did)) f i) [
        | inl j ↦ inv.refusals f j
        | inr j ↦ refusal_in (epoch_led did.node.part) did.refusal refused f j
      ];
    },
  )

  -- ---- a node that leaves the terms ----

  calm : (did : Did) → terms_after w.terms did.node.part ≡ w.terms → PartOk setup accounts did.node.part → OpenedOk setup w.terms a did.opened
      → RefusedOk did.refusal → After did
  calm did same part opened refused =
      keeps did accounts (λ e. subst (λ (ts : ℕ → Option Term). EpochOk setup e (ts e) (accounts e)) (sym same) (inv.epochs e)) part
      (λ c in_range other. inv.parts c in_range)
      (subst (TermsStay w.terms) (sym same) (terms_same w.terms)) (subst (λ ts. OpenedOk setup ts a did.opened) (sym same) opened) refused

  own_terms : terms_after w.terms here.part ≡ w.terms
  own_terms = sym (ap (λ ts. terms_after ts here.part) r.tied.terms) ∙ same_terms sw here.part (r.tied.term a there) ∙ r.tied.terms

  -- and keeps its part
  pub still : (did : Did) → did.node.part ≡ here.part → OpenedOk setup w.terms a did.opened → RefusedOk did.refusal → After did
  still did same opened refused =
      calm did (ap (terms_after w.terms) same ∙ own_terms) (subst (PartOk setup accounts) (sym same) (inv.parts a there)) opened refused

  pub follows : (did : Did) → did.node.part ≡ Follows → OpenedOk setup w.terms a did.opened → RefusedOk did.refusal → After did
  follows did same opened refused = calm did (ap (terms_after w.terms) same) (subst (PartOk setup accounts) (sym same) tt) opened refused

  stands_on : (c : Candidate) → 1 ≤ c.epoch → c.epoch < 2 ^ 20 → (did : Did) → did.node.part ≡ Stands c → OpenedOk setup w.terms a did.opened
      → RefusedOk did.refusal → After did
  stands_on c low high did same opened refused =
      calm did (ap (terms_after w.terms) same) (subst (PartOk setup accounts) (sym same) (low, high)) opened refused

  -- ---- a node that leads ----

  module _ (next : Lead) (account : Account) (ok : LeadOk setup (first_logs setup next) next account) (few : AllFew setup next)
      (own : owner_of next.epoch setup.nodes ≡ a) (old : (t : Term) → w.terms next.epoch ≡ Some t → first_logs setup next ≡ t.initial) where
    abbrev later : ℕ → Account
    later = updated accounts next.epoch account

    abbrev terms : ℕ → Option Term
    terms = updated w.terms next.epoch (Some (term_of next))

    epochs_ok : (e : ℕ) → EpochOk setup e (terms e) (later e)
    epochs_ok e = elim (cases_eq e next.epoch) [
      | inl same ↦ subst (λ k. EpochOk setup k (terms k) (later k)) (sym same)
          (subst (λ o. EpochOk setup next.epoch o (later next.epoch)) (sym (updated_same w.terms next.epoch (Some (term_of next))))
          (subst (TermOk setup next.epoch (first_logs setup next) next.streams) (sym (updated_same accounts next.epoch account)) ok.term))
      | inr n ↦ subst (λ o. EpochOk setup e o (later e)) (sym (updated_other w.terms next.epoch (Some (term_of next)) e n))
          (subst (EpochOk setup e (w.terms e)) (sym (updated_other accounts next.epoch account e n)) (inv.epochs e))
    ]

    owner_there : (c : ℕ) → is_node setup.nodes c ≡ true → (lead : Lead) → (node_of setup w c).part ≡ Leads lead → owner_of lead.epoch setup.nodes ≡ c
    owner_there c in_range lead is = b.owners (cluster_of setup) r.events c lead.epoch
        (ap (λ (n : world.Node). n.role) (r.tied.node c in_range) ∙ ap stream_role is)

    part_other : (c : ℕ) → is_node setup.nodes c ≡ true → c ≢ a → (p : Part) → (node_of setup w c).part ≡ p → PartOk setup accounts p → PartOk setup later p
    part_other c in_range other Follows is h = tt
    part_other c in_range other (Stands k) is h = h
    part_other c in_range other (Leads lead) is h =
        subst (λ acc. LeadOk setup (first_logs setup lead) lead acc × AllFew setup lead) (sym (updated_other accounts next.epoch account lead.epoch
        (λ e. other (sym (owner_there c in_range lead is) ∙ ap (λ k. owner_of k setup.nodes) e ∙ own)))) h

    stay : TermsStay w.terms terms
    stay e t is = elim (cases_eq e next.epoch) [
      | inl same ↦ (term_of next, ap terms same ∙ updated_same w.terms next.epoch (Some (term_of next)), old t (ap w.terms (sym same) ∙ is))
      | inr n ↦ (t, updated_other w.terms next.epoch (Some (term_of next)) e n ∙ is, refl)
    ]

    leads_on : (did : Did) → did.node.part ≡ Leads next → OpenedOk setup terms a did.opened → RefusedOk did.refusal → After did
    leads_on did is opened refused =
        let ts : terms_after w.terms did.node.part ≡ terms = ap (terms_after w.terms) is in
        keeps did later (subst (λ (ts : ℕ → Option Term). (e : ℕ) → EpochOk setup e (ts e) (later e)) (sym ts) epochs_ok)
        (subst (PartOk setup later) (sym is) (subst (λ acc. LeadOk setup (first_logs setup next) next acc × AllFew setup next) (sym (updated_same accounts next.epoch account)) (ok, few)))
        (λ c in_range other. part_other c in_range other (node_of setup w c).part refl (inv.parts c in_range))
        (subst (TermsStay w.terms) (sym ts) stay)
        (subst (λ ts. OpenedOk setup ts a did.opened) (sym ts) opened) refused

  -- ---- an election ----

  pub elected : Answers (elects setup a here)
  elected = by_if Answers (nat_lt e 1048576) (Ok (stands setup a here e)) (Err (NoEpoch here.acceptor.promised))
      (λ t. stands_on (candidate_of (cluster_of setup) e) (omega arith) (true_lt e 1048576 t) (stands setup a here e) refl tt tt) (λ t. tt)
    where
      e : ℕ
      e = next_epoch_of here.acceptor.promised a setup.nodes

  -- ---- a promise ----

  module _ (c : Candidate) (is : here.part ≡ Stands c) (p : Promise) where
    abbrev more : Candidate
    more = with_promise c p

    range : (1 ≤ c.epoch) × (c.epoch < 2 ^ 20)
    range = subst (PartOk setup accounts) is (inv.parts a there)

    low : 1 ≤ more.epoch
    low = let k = epoch_kept c p in omega (arith, k, range.0)

    high : more.epoch < 2 ^ 20
    high = let k = epoch_kept c p in omega (arith, k, range.1)

    abbrev role_is : (sw.node a).role ≡ world.Stands c
    role_is = ap (λ (n : world.Node). n.role) (r.tied.node a there) ∙ ap stream_role is

    begins : After (leads setup a here more)
    begins =
        let first = b.candidates (cluster_of setup) r.events a c role_is in
        let k = begins_to_lead setup sized more low high in
        let none : w.terms more.epoch ≡ None = ap w.terms (epoch_kept c p) ∙ sym (ap (λ (ts : ℕ → Option Term). ts c.epoch) r.tied.terms) ∙ first.no_term in
        leads_on (new_lead setup more) no_account k.0 k.1 (ap (λ e. owner_of e setup.nodes) (epoch_kept c p) ∙ first.own)
        (λ t t_is. absurd (not_some t (sym none ∙ t_is))) (leads setup a here more) refl tt tt

    promised : Answers (stands_or_leads setup a here more)
    promised =
        by_if Answers (nat_lt (length more.promises) more.need) (Ok (quiet (record here { part = Stands more }))) (recovers_full setup more (Ok (leads setup a here more)))
        (λ t. stands_on more low high (quiet (record here { part = Stands more })) refl tt tt)
        (λ t. by_if Answers (list_any (λ log. length log == SLOTS) (recovered_logs more.promises setup.workers)) (Err (StreamFull SLOTS)) (Ok (leads setup a here more)) (λ u. tt) (λ u. begins))

    pub promise_counts : (e : ℕ) → Answers (takes_promise setup a here e p (Stands c))
    promise_counts e = by_if Answers (c.epoch == e) (stands_or_leads setup a here more) (Ok (quiet here)) (λ t. promised) (λ t. still (quiet here) refl tt tt)

  -- ---- a leader ----

  module _ (lead : Lead) (is : here.part ≡ Leads lead) where
    abbrev account : Account
    account = accounts lead.epoch

    abbrev firsts : List Log
    firsts = first_logs setup lead

    held : LeadOk setup firsts lead account × AllFew setup lead
    held = subst (PartOk setup accounts) is (inv.parts a there)

    term_is : w.terms lead.epoch ≡ Some (term_of lead)
    term_is = sym (ap (λ (ts : ℕ → Option Term). ts lead.epoch) r.tied.terms) ∙ subst (HasTerm sw) is (r.tied.term a there)

    owner_is : owner_of lead.epoch setup.nodes ≡ a
    owner_is = b.owners (cluster_of setup) r.events a lead.epoch (ap (λ (n : world.Node). n.role) (r.tied.node a there) ∙ ap stream_role is)

    goes_on : (next : Lead) → next.epoch ≡ lead.epoch → (now : Account) → LeadOk setup firsts next now → AllFew setup next
        → (did : Did) → did.node.part ≡ Leads next → OpenedOk setup (updated w.terms next.epoch (Some (term_of next))) a did.opened → RefusedOk did.refusal → After did
    goes_on next same now ok few did part opened refused =
        leads_on next now (subst (λ initial. LeadOk setup initial next now) (sym ok.firsts) ok) few (ap (λ e. owner_of e setup.nodes) same ∙ owner_is)
        (λ t t_is. ok.firsts ∙ ap (λ (u : Term). u.initial) (some_same (term_of lead) t (sym term_is ∙ ap w.terms (sym same) ∙ t_is)))
        did part opened refused

    good : Good setup lead.epoch (carried_in setup firsts)
    good = good_term b setup sized r.events w.terms r.tied.terms accounts inv.epochs lead.epoch (term_of lead) term_is

    -- ---- an Ack ----

    module _ (s from len : ℕ) where
      abbrev counted : Lead
      counted = after_ack lead s from len

      counted_ok : LeadOk setup firsts counted account
      counted_ok = counts setup firsts lead account held.0 s from len

      leads_with : (did : Did) → did.node.part ≡ Leads counted → OpenedOk setup (updated w.terms lead.epoch (Some (term_of counted))) a did.opened → RefusedOk did.refusal → After did
      leads_with did part opened refused = goes_on counted refl account counted_ok held.1 did part opened refused

      ends : (u : ℕ) → is_node setup.workers u ≡ true → first_at firsts u ≡ carried_at firsts u ++ batch_bytes (open_mark lead.epoch) ∷ []
      ends u in_stream = mark_ends b setup sized r.events w.terms r.tied.terms accounts inv.epochs lead.epoch (term_of lead) term_is u in_stream

      opening : (sends : List Msg) → counted.core ≡ None → marks_are_acknowledged counted ≡ true → After (opens setup here counted sends)
      opening sends none marks =
          let next : Lead = record counted { core = Some (setup.work.opening lead.epoch (acknowledged_history counted)) } in
          let ok : LeadOk setup firsts next account = opened b setup sized firsts counted account counted_ok none marks ends in
          goes_on next refl account ok held.1 (opens setup here counted sends) refl
          (record {
            term = term_of next;
            is = updated_same w.terms lead.epoch (Some (term_of next));
            items = opens_with b setup sized firsts counted account counted_ok none marks ends
                ∙ ap (λ initial. opening_of setup lead.epoch (carried_in setup initial)) (sym ok.firsts);
          }) tt

      advancing : After (advances setup a here lead counted s)
      advancing =
          let sends : List Msg = to_each setup (known_to a counted s) in
          by_if After (has_opened counted) (releases here (acknowledged_history lead) counted sends)
          (if marks_are_acknowledged counted then opens setup here counted sends else sending (record here { part = Leads counted }) sends)
          (λ t. leads_with (releases here (acknowledged_history lead) counted sends) refl tt tt)
          (λ t. by_if After (marks_are_acknowledged counted) (opens setup here counted sends) (sending (record here { part = Leads counted }) sends)
          (λ u. opening sends (none_core counted.core t) u)
          (λ u. leads_with (sending (record here { part = Leads counted }) sends) refl tt tt))

      pub ack_counts : (e : ℕ) → After (takes_ack setup a here e s from len (Leads lead))
      ack_counts e = by_if After (lead.epoch == e) (counts_ack setup a here lead s from len) (quiet here)
          (λ t. by_if After (nat_lt (len_acknowledged (leading lead s)) (len_acknowledged (leading counted s))) (advances setup a here lead counted s) (quiet (record here { part = Leads counted }))
          (λ u. advancing) (λ u. leads_with (quiet (record here { part = Leads counted })) refl tt tt))
          (λ t. still (quiet here) refl tt tt)

    -- ---- its workers ----

    module _ (core : Core) (has : lead.core ≡ Some core) (s : ℕ) (in_stream : is_node setup.workers s ≡ true) where
      inside : s - 1 < length lead.pending
      inside = let size = held.0.room in let range = by_node setup.workers s in_stream in omega (arith, range.0, range.1, size)

      abbrev l : OpenLeader
      l = leader_of setup lead.epoch (carried_in setup firsts)

      abbrev ShortAt : List Item → Type 0
      ShortAt xs = length xs < setup.batch

      few_with : (xs : List Item) → ShortAt xs → (u : ℕ) → is_node setup.workers u ≡ true → ShortAt (get_or (set lead.pending (s - 1) xs) (u - 1) [])
      few_with xs short u there = at_set ShortAt lead.pending (s - 1) (u - 1) xs [] inside short (held.1 u there)

      none_few : ShortAt []
      none_few = let some = sized.some_items in omega (arith, some)

      -- a step
      abbrev after : Core
      after = turn (setup.work.setting lead.epoch) core (Step s)

      abbrev next : Lead
      next = stepped lead core after s

      abbrev turned : Account
      turned = turned_account b setup sized firsts lead account held.0 good core has s in_stream

      next_ok : LeadOk setup firsts next turned
      next_ok = steps_ok b setup sized firsts lead account held.0 good core has s in_stream

      refused_ok : RefusedOk (newly_refused core after)
      refused_ok = subst RefusedOk (sym (refusal_is b setup sized firsts lead account held.0 good core has s in_stream ∙ refused_is b l good.fits account.turns s))
          (refusal_true (turn_of b l good.fits account.turns s).refusal (core_after l account.turns).refusals (core_after l (account.turns ++ Step s ∷ [])).refusals
          (turn_of b l good.fits account.turns s).refusals (b.causes l (account.turns ++ Step s ∷ []) good.fits))

      abbrev gained : List Item
      gained = pending_of lead s ++ option_to_list (option_map (item_seen lead.epoch) (newly_ended core after))

      gained_is : pending_of next s ≡ gained
      gained_is = get_or-set_same lead.pending (s - 1) gained [] inside

      short_option : (o : Option Item) → length (option_to_list o) ≤ 1
      short_option None = omega arith
      short_option (Some x) = omega arith

      gained_few : length (pending_of next s) ≤ setup.batch
      gained_few =
          let short = held.1 s in_stream in
          let one = short_option (option_map (item_seen lead.epoch) (newly_ended core after)) in
          let n = ap length gained_is in
          let m = length-append (pending_of lead s) (option_to_list (option_map (item_seen lead.epoch) (newly_ended core after))) in
          omega (arith, short, one, n, m)

      abbrev with_refusal : Did → Answer
      with_refusal did = Ok (record did { refusal = newly_refused core after })

      proposed_all : nat_lt (length (pending_of next s)) setup.batch ≡ false → Answers (proposes_items setup a here next s (pending_of next s) >>= with_refusal)
      proposed_all full =
          let batch : Batch = Items (pending_of next s) in
          let cleared : Lead = with_pending next s [] in
          let did : Did = sending (record here { part = Leads (with_leading cleared s (proposed (leading next s) (batch_bytes batch))) })
          (to_each setup (λ to. msg.Accept a to lead.epoch s (length (leading next s).log) (batch_bytes batch))) in
          by_if (λ z. Answers (z >>= with_refusal)) (length (leading next s).log == SLOTS) (Err (StreamFull SLOTS)) (Ok did) (λ t. tt)
          (λ t. goes_on (with_leading cleared s (proposed (leading next s) (batch_bytes batch))) refl
          (flushed_account b setup sized firsts next turned next_ok good after refl s in_stream)
          (proposes_pending b setup sized firsts next turned next_ok good after refl s in_stream
          (let some = sized.some_items in let much = not_lt (length (pending_of next s)) setup.batch full in omega (arith, some, much))
          (let most = sized.few_items in omega (arith, most, gained_few)))
          (λ u there. subst (λ ps. ShortAt (get_or ps (u - 1) [])) (sym (set-set lead.pending (s - 1) gained [])) (few_with [] none_few u there))
          (record did { refusal = newly_refused core after }) refl tt refused_ok)

      pub stepping : Answers (steps_core setup a here lead s core)
      stepping = by_if (λ z. Answers (z >>= with_refusal)) (nat_lt (length (pending_of next s)) setup.batch) (Ok (quiet (record here { part = Leads next })))
          (proposes_items setup a here next s (pending_of next s))
          (λ t. goes_on next refl turned next_ok (few_with gained (let n = ap length gained_is in let k = true_lt (length (pending_of next s)) setup.batch t in omega (arith, n, k)))
          (record (quiet (record here { part = Leads next })) { refusal = newly_refused core after }) refl tt refused_ok)
          proposed_all

      -- what is pending is proposed
      pub flushing : Answers (if length (pending_of lead s) == 0 then Ok (quiet here) else proposes_items setup a here lead s (pending_of lead s))
      flushing =
          let batch : Batch = Items (pending_of lead s) in
          let cleared : Lead = with_pending lead s [] in
          let did : Did = sending (record here { part = Leads (with_leading cleared s (proposed (leading lead s) (batch_bytes batch))) })
          (to_each setup (λ to. msg.Accept a to lead.epoch s (length (leading lead s).log) (batch_bytes batch))) in
          by_if Answers (length (pending_of lead s) == 0) (Ok (quiet here)) (proposes_items setup a here lead s (pending_of lead s)) (λ t. still (quiet here) refl tt tt)
          (λ t. by_if Answers (length (leading lead s).log == SLOTS) (Err (StreamFull SLOTS)) (Ok did) (λ u. tt)
          (λ u. goes_on (with_leading cleared s (proposed (leading lead s) (batch_bytes batch))) refl
          (flushed_account b setup sized firsts lead account held.0 good core has s in_stream)
          (proposes_pending b setup sized firsts lead account held.0 good core has s in_stream
          (some_there (length (pending_of lead s)) t)
          (let most = sized.few_items in let short = held.1 s in_stream in omega (arith, most, short)))
          (few_with [] none_few) did refl tt tt))

      -- ---- marks ----

      module _ (empty : pending_of lead s ≡ []) (rest : resting (phase_of core s) ≡ true) where
        -- where the end mark was proposed, the stream has it
        has_end : (says_none b setup sized firsts lead account held.0 good core has s in_stream empty rest).ends ≡ true → has_end_mark lead s ≡ true
        has_end t =
            let says = says_none b setup sized firsts lead account held.0 good core has s in_stream empty rest in
            let told : List Batch = batches_of (tail_of (first_at firsts s) (log_at lead.streams s)) in
            let stamps : List Stamp = stamps_along (batches_of (log_at lead.streams s)) in
            let end : Stamp = record { epoch = lead.epoch; seq = END_SEQ } in
            let recovered : List Batch = (leaders_of setup w.terms accounts).recovered lead.epoch s in
            let log_is : batches_of (log_at lead.streams s) ≡ recovered ++ (open_mark lead.epoch ∷ told) =
            log_told b setup sized r.events w.terms r.tied.terms accounts inv.epochs lead.epoch (term_of lead) term_is s in_stream in
            let along : In end stamps = subst (λ log. In end (stamps_along log)) (sym log_is)
            (back_stamps end recovered (open_mark lead.epoch ∷ told) (inr (end_said b l account.turns s told [] says t))) in
            let below : (u : Stamp) → In u stamps → u.seq ≤ END_SEQ = λ u i.
            elim (split_stamps u recovered (open_mark lead.epoch ∷ told) (subst (λ log. In u (stamps_along log)) log_is i)) [
              | inl j ↦ seqs_end b setup sized r.events w.terms r.tied.terms accounts inv.epochs lead.epoch (term_of lead) term_is s u j
              | inr j ↦ elim j [
                | inl same ↦ (let q = ap (λ (v : Stamp). v.seq) same in omega (arith, q))
                | inr k ↦ (said_own b l account.turns s told [] says u (in_prefix (stamps_along told) _ u k)).high
              ]
            ] in
            let at_least = last_seq_among_above stamps end along in
            eq-eqb (last_seq_among stamps lead.epoch) END_SEQ (elim (last_seq_among_in stamps lead.epoch) [
              | inl nothing ↦ absurd (omega (arith, nothing, at_least))
              | inr k ↦ (let most = below k.0 k.1 in let q = k.3 in omega (arith, at_least, most, q))
            ])

        unended : has_end_mark lead s ≡ false → (says_none b setup sized firsts lead account held.0 good core has s in_stream empty rest).ends ≡ false
        unended none = by_ends (says_none b setup sized firsts lead account held.0 good core has s in_stream empty rest).ends has_end
          where
            by_ends : (e : Bool) → (e ≡ true → has_end_mark lead s ≡ true) → e ≡ false
            by_ends false h = refl
            by_ends true h = absurd (true≢false (sym (h refl) ∙ none))

        ended : has_end_mark lead s ≡ false → is_done (setup.work.setting lead.epoch) s (phase_of core s) ≡ true
            → Answers (proposes setup a here lead s (idle_mark lead.epoch END_SEQ))
        ended none done =
            let bytes = batch_bytes (idle_mark lead.epoch END_SEQ) in
            let did : Did = sending (record here { part = Leads (with_leading lead s (proposed (leading lead s) bytes)) })
            (to_each setup (λ to. msg.Accept a to lead.epoch s (length (leading lead s).log) bytes)) in
            by_if Answers (length (leading lead s).log == SLOTS) (Err (StreamFull SLOTS)) (Ok did) (λ t. tt)
            (λ t. goes_on (with_leading lead s (proposed (leading lead s) bytes)) refl _
            (proposes_end b setup sized firsts lead account held.0 good core has s in_stream empty rest (unended none) done) held.1 did refl tt tt)

        marked : has_end_mark lead s ≡ false
            → Answers (proposes setup a here (record lead { core = Some (turn (setup.work.setting lead.epoch) core (Idle s)) }) s (idle_mark lead.epoch (core.next - lead.epoch * 2 ^ 40)))
        marked none =
            let bytes = batch_bytes (idle_mark lead.epoch (core.next - lead.epoch * 2 ^ 40)) in
            let moved : Lead = record lead { core = Some (turn (setup.work.setting lead.epoch) core (Idle s)) } in
            let did : Did = sending (record here { part = Leads (with_leading moved s (proposed (leading lead s) bytes)) })
            (to_each setup (λ to. msg.Accept a to lead.epoch s (length (leading lead s).log) bytes)) in
            by_if Answers (length (leading lead s).log == SLOTS) (Err (StreamFull SLOTS)) (Ok did) (λ t. tt)
            (λ t. goes_on (with_leading moved s (proposed (leading lead s) bytes)) refl _
            (proposes_idle b setup sized firsts lead account held.0 good core has s in_stream empty rest (unended none)) held.1 did refl tt tt)

      pub idling : Answers (idles_core setup a here lead s core)
      idling = by_may (may_idle lead s core) refl
        where
          empty_list : (xs : List Item) → (length xs == 0) ≡ true → xs ≡ []
          empty_list [] h = refl
          empty_list (x ∷ xs) h = absurd (let e = true_same (length (x ∷ xs)) 0 h in omega (arith, e))

          not_true : (c : Bool) → not c ≡ true → c ≡ false
          not_true false h = refl
          not_true true h = absurd (false≢true h)

          by_may : (m : Bool) → may_idle lead s core ≡ m
              → Answers (if not m then Ok (quiet here)
              else if is_done (setup.work.setting lead.epoch) s (phase_of core s)
              then proposes setup a here lead s (idle_mark lead.epoch END_SEQ)
              else proposes setup a here (record lead { core = Some (turn (setup.work.setting lead.epoch) core (Idle s)) }) s (idle_mark lead.epoch (core.next - lead.epoch * 2 ^ 40)))
          by_may false t = still (quiet here) refl tt tt
          by_may true t =
              let k = both (resting (phase_of core s) && (length (pending_of lead s) == 0)) (not (has_end_mark lead s)) t in
              let j = both (resting (phase_of core s)) (length (pending_of lead s) == 0) k.0 in
              let empty = empty_list (pending_of lead s) j.1 in
              let none = not_true (has_end_mark lead s) k.1 in
              by_if Answers (is_done (setup.work.setting lead.epoch) s (phase_of core s)) (proposes setup a here lead s (idle_mark lead.epoch END_SEQ))
              (proposes setup a here (record lead { core = Some (turn (setup.work.setting lead.epoch) core (Idle s)) }) s (idle_mark lead.epoch (core.next - lead.epoch * 2 ^ 40)))
              (λ done. ended empty j.0 none done) (λ done. marked empty j.0 none)

  -- ---- whoever leads and has opened ----

  open_does : (does : Lead → Core → Answer) → ((lead : Lead) → here.part ≡ Leads lead → (core : Core) → lead.core ≡ Some core → Answers (does lead core))
      → (part : Part) → here.part ≡ part → Answers (if_open here part does)
  open_does does h Follows is = still (quiet here) refl tt tt
  open_does does h (Stands c) is = still (quiet here) refl tt tt
  open_does does h (Leads lead) is = by_core lead.core refl
    where
      by_core : (core : Option Core) → lead.core ≡ core → Answers (option_map_or (does lead) core (Ok (quiet here)))
      by_core None e = still (quiet here) refl tt tt
      by_core (Some core) e = h lead is core e

  pub steps_held : (s : ℕ) → is_node setup.workers s ≡ true → Answers (steps setup a here s)
  steps_held s in_stream = open_does (λ lead core. steps_core setup a here lead s core) (λ lead is core has. stepping lead is core has s in_stream) here.part refl

  pub flushes_held : (s : ℕ) → is_node setup.workers s ≡ true → Answers (flushes setup a here s)
  flushes_held s in_stream = open_does _ (λ lead is core has. flushing lead is core has s in_stream) here.part refl

  pub idles_held : (s : ℕ) → is_node setup.workers s ≡ true → Answers (idles setup a here s)
  idles_held s in_stream = open_does (λ lead core. idles_core setup a here lead s core) (λ lead is core has. idling lead is core has s in_stream) here.part refl

  -- ---- messages ----

  same_if : (o : Option Refused) (did : Did) → After did → After (unless_denied o here did)
  same_if None did h = h
  same_if (Some refused) did h = still (unless_denied (Some refused) here did) refl tt tt

  promise_held : (part : Part) → here.part ≡ part → (e : ℕ) (p : Promise) → Answers (takes_promise setup a here e p part)
  promise_held Follows is e p = still (quiet here) refl tt tt
  promise_held (Leads lead) is e p = still (quiet here) refl tt tt
  promise_held (Stands c) is e p = promise_counts c is p e

  ack_held : (part : Part) → here.part ≡ part → (e s from len : ℕ) → After (takes_ack setup a here e s from len part)
  ack_held Follows is e s from len = still (quiet here) refl tt tt
  ack_held (Stands c) is e s from len = still (quiet here) refl tt tt
  ack_held (Leads lead) is e s from len = ack_counts lead is s from len e

  pub takes_held : (m : Msg) → Answers (takes setup a here m)
  takes_held (msg.Prepare from to e) = same_if (refuses here.acceptor e) (promises a here from e) (still (promises a here from e) refl tt tt)
  takes_held (msg.Promise from to e ballots logs) = promise_held here.part refl e (record { node = from; ballots = ballots; logs = logs })
  takes_held (msg.Sync from to e s log) =
      same_if (refuses here.acceptor e) (acks a here from e s (synced here.acceptor e s log)) (still (acks a here from e s (synced here.acceptor e s log)) refl tt tt)
  takes_held (msg.Accept from to e s slot batch) =
      same_if (refuses_accept here.acceptor e s slot) (acks a here from e s (accepted here.acceptor s slot batch))
      (still (acks a here from e s (accepted here.acceptor s slot batch)) refl tt tt)
  takes_held (msg.Ack from to e s len) = ack_held here.part refl e s from len
  takes_held (msg.Known from to e s len) = still (quiet (knows here e s len)) (by_if (λ (x : NodeState). x.part ≡ here.part) (kept_ballot here.acceptor s == e) _ here (λ t. refl) (λ t. refl)) tt tt
