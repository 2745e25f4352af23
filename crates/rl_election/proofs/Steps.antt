-- Each event keeps what holds between events.
use Rattle.std.proofs.Common.{◌≡◌, ◌≢◌, ◌⊎◌, ℕ, zero, suc, ◌+◌, ◌-◌, ◌<◌, ◌≤◌, List, [], ◌∷◌, ◌++◌, length, map, get_or, set, Bool, true, false, not, ◌&&◌, ◌==◌, nat_lt, nat_le, if◌then◌else◌, Option, Some, None, refl, sym, ap, ◌∙◌, subst, arith, inl, inr, eqb-true, max, replicate, append-nil, length-append, length-set}
use Rattle.std.proofs.lemmas.Bool.{cases_eq, and_parts, ltb-true, ltb-false, leb-true, cond_both, not-true, le-leb}
use Rattle.std.proofs.lemmas.List.{length-map, get_or-map, length-replicate}
use Rattle.std.specs.Prelude.{slice_get}
use Rattle.rl_base.specs.Epochs.{owner_of}
use Rattle.rl_base.specs.Lists.{IsPrefix}
use Rattle.rl_paxos.specs.declared.refused.Refused.{Refused}
use Rattle.rl_paxos.specs.declared.refused.Refused.TheVariants as refused
use Rattle.rl_paxos.specs.Acceptors.{Kept, Acceptor, nothing_kept, kept_ballot, kept_log, refuses, refuses_accept, prepared, with_kept, synced, accepted}
use Rattle.rl_paxos.specs.Leaders.{Leading, new_leading, with_ack, proposed}
use Rattle.rl_paxos.specs.Logs.{Batch, Log}
use Rattle.rl_paxos.specs.Quorums.{is_node, count, is_quorum}
use Rattle.rl_paxos.specs.Recovery.{Promise, Candidate, new_candidate, with_promise, has_promised, recovered, recovered_logs}
use Rattle.rl_paxos.proofs.Counting.{none, counted_once}
use Rattle.rl_base.proofs.Members.{In, in_prefix, in_suffix, in_split}
use Rattle.rl_election.specs.World.{Cluster, Message, Prepare, Promised, Sync, Accept, Ack, Envelope, State, Lost, Role, Follows, Stands, Leads, Node, Term, StreamWorld, to_all, initial_streams, is_up, is_stream, stream_of, with_stream}
use Rattle.rl_base.specs.Lists.{updated}
use Rattle.rl_election.specs.StreamEvents.{StreamEvent, Elect, Deliver, Propose, Crash, Return, Lose, acts, unless_refused, may_stand, stands_for, answers, promise_message, ack_message, initial_logs, syncs, leads, stands_or_leads, receives_promise, counts_ack, receives_ack, receives, delivers, proposes_in, proposes, crashed, returned, after_stream_event, after_stream_events}
use Rattle.rl_base.proofs.Prefixes.{prefix_self, prefix_more, prefix_trans, prefix_next, get_end}
use Rattle.rl_base.proofs.UpdateLemmas.{by_updated, updated_same, updated_other}
use Rattle.rl_election.proofs.Updates.{index_of, with_kept_here, with_kept_other, shown_is, to_all_in, to_all_has, syncs_in, get_in, length-recovered, get_or-recovered, new_logs, log_other, log_here}
use Rattle.rl_election.proofs.Inv.{kept_at, initial_at, log_at, WasSent, InLeaderLog, KeptOk, AcceptorOk, shown, PromiseOk, AcceptOk, AckOk, MessageOk, Shows, Used, StandsOk, RoleOk, TermOk, Inv, TermGrows, AcceptorGrows, Grows, leader_log_kept, kept_kept, used_kept, message_kept, stands_kept, acceptor_kept, term_kept, acceptor_stays, term_stays}

-- neither a promise nor an ack
abbrev pub Quiet : Message → Type 0
Quiet (Prepare e) = Unit {0}
Quiet (Promised e ballots logs) = ⊥
Quiet (Sync e s log) = Unit {0}
Quiet (Accept e s slot batch) = Unit {0}
Quiet (Ack e s len) = ⊥

pub some_same : {A : Type 0} (x y : A) (o : Option A) → o ≡ Some x → o ≡ Some y → x ≡ y
some_same x y o a b = let q : Some x ≡ Some y = sym a ∙ b in cc

pub some_none : {A : Type 0} (x : A) (o : Option A) → o ≡ Some x → o ≡ None → ⊥
some_none x o a b = let q : Some x ≡ None = sym a ∙ b in cc

abbrev pub AllShow : StreamWorld → Type 0
AllShow w = (a e : ℕ) (ballots : List ℕ) (logs : List Log) (f s len : ℕ) → WasSent w a (Promised e ballots logs) → WasSent w a (Ack f s len) → f < e → Shows (shown ballots logs (s - 1)) f len

module _ (g : Cluster) (w : StreamWorld) (inv : Inv g w) where
  -- ---- any step of one node ----
  module _ (v : StreamWorld) (grows : Grows w v) (a : ℕ) (others : (b : ℕ) → b ≢ a → v.node b ≡ w.node b) (elsewhere : (f : ℕ) → owner_of f g.nodes ≢ a → v.terms f ≡ w.terms f) where
    role_other : (b : ℕ) → b ≢ a → (r : Role) → RoleOk g w b r → RoleOk g v b r
    role_other b m Follows k = k
    role_other b m (Leads e) k = k
    role_other b m (Stands c) k = stands_kept w v grows g b c (elsewhere c.epoch (λ q. m (sym k.own ∙ q)) ∙ k.unborn) k

    pub stepped : AcceptorOk g v (v.node a).acceptor → RoleOk g v a (v.node a).role
        → ((e : ℕ) (t : Term) → v.terms e ≡ Some t → TermOk g v e t)
        → ((m : Envelope) → In m v.sent → In m w.sent ⊎ MessageOk v m.from m.message)
        → AllShow v → Inv g v
    stepped here role terms message shows = record {
      node_ok = λ b. elim (cases_eq b a) [ inl e ↦ rw e here | inr m ↦ rw (others b m) (acceptor_kept w v grows g (w.node b).acceptor (inv.node_ok b)) ];
      role_ok = λ b. elim (cases_eq b a) [ inl e ↦ rw e role | inr m ↦ rw (others b m) (role_other b m (w.node b).role (inv.role_ok b)) ];
      term_ok = terms;
      message_ok = λ m i. elim (message m i) [ inl j ↦ message_kept w v grows m.from m.message (inv.message_ok m j) | inr k ↦ k ];
      shows = shows;
    }

  -- what was shown is shown still where no promise and no ack was sent
  quiet_shows : (v : StreamWorld) → ((m : Envelope) → In m v.sent → In m w.sent ⊎ Quiet m.message) → AllShow v
  quiet_shows v old a e ballots logs f s len p k less =
      elim (old (record { from = a; to = p.0; message = Promised e ballots logs }) p.1) [
        | inl i ↦ elim (old (record { from = a; to = k.0; message = Ack f s len }) k.1) [
          | inl j ↦ inv.shows a e ballots logs f s len (p.0, i) (k.0, j) less
          | inr q ↦ absurd q
        ]
        | inr q ↦ absurd q
      ]

  -- ---- a node changes and sends, and no term does ----
  module _ (a : ℕ) (x : Node) (ms : List Envelope) (acc : AcceptorGrows (w.node a).acceptor x.acceptor) where
    abbrev pub done : StreamWorld
    done = acts w a x ms

    pub done_grows : Grows w done
    done_grows = record {
      terms = λ e t is. (t, is, term_stays t);
      nodes = λ b. by_updated (λ z. AcceptorGrows (w.node b).acceptor z.acceptor) w.node a x b (λ i. rw i acc) (λ m. acceptor_stays (w.node b).acceptor);
      sent = λ m i. in_prefix w.sent ms m i;
    }

    pub done_inv : AcceptorOk g done x.acceptor → RoleOk g done a x.role → ((m : Envelope) → In m ms → MessageOk done m.from m.message) → AllShow done → Inv g done
    done_inv here role message shows =
        let at : (done.node a) ≡ x = updated_same w.node a x in
        stepped done done_grows a (λ b m. updated_other w.node a x b m) (λ f m. refl)
        (rw at here) (rw at role)
        (λ e t is. term_kept w done done_grows g e t t (term_stays t) (inv.term_ok e t is))
        (λ m i. elim (in_split w.sent ms m i) [ inl j ↦ inl j | inr j ↦ inr (message m j) ])
        shows

    -- the role stays
    pub role_stays : (r : Role) → RoleOk g w a r → RoleOk g done a r
    role_stays Follows k = k
    role_stays (Leads e) k = k
    role_stays (Stands c) k = stands_kept w done done_grows g a c k.unborn k

  -- a node's state and role change
  pub role_inv : (a : ℕ) (st : State) (r : Role) → RoleOk g w a r → Inv g (acts w a (record { state = st; acceptor = (w.node a).acceptor; role = r }) [])
  role_inv a st r ok =
      let x : Node = record { state = st; acceptor = (w.node a).acceptor; role = r } in
      let acc : AcceptorGrows (w.node a).acceptor x.acceptor = acceptor_stays (w.node a).acceptor in
      let v : StreamWorld = acts w a x [] in
      done_inv a x [] acc (acceptor_kept w v (done_grows a x [] acc) g (w.node a).acceptor (inv.node_ok a)) (role_stays a x [] acc r ok) (λ m i. absurd i)
      (quiet_shows v (λ m i. elim (in_split w.sent [] m i) [ inl j ↦ inl j | inr j ↦ absurd j ]))

  -- a node promises an epoch
  raised : (a e : ℕ) → (w.node a).acceptor.promised ≤ e → AcceptorGrows (w.node a).acceptor (prepared (w.node a).acceptor e)
  raised a e up = record { promised = up; ballot = λ i. omega arith; log = λ i q. omega arith }

  raised_ok : (v : StreamWorld) → Grows w v → (a e : ℕ) → (w.node a).acceptor.promised ≤ e → AcceptorOk g v (prepared (w.node a).acceptor e)
  raised_ok v grows a e up = let k = inv.node_ok a in record {
    sized = k.sized;
    kept = λ i. kept_kept w v grows (w.node a).acceptor.promised e i (kept_at (w.node a).acceptor i) up (k.kept i);
  }

  -- ---- an election ----
  stand_inv : (a e : ℕ) → is_node g.nodes a ≡ true → owner_of e g.nodes ≡ a → (w.node a).acceptor.promised < e → Inv g (acts w a (record (w.node a) { acceptor = prepared (w.node a).acceptor e; role = Stands (new_candidate e g.nodes g.streams g.first_quorum) }) (to_all g.nodes a (Prepare e)))
  stand_inv a e member own above =
      let up : (w.node a).acceptor.promised ≤ e = omega arith in
      let x : Node = record { state = (w.node a).state; acceptor = prepared (w.node a).acceptor e; role = Stands (new_candidate e g.nodes g.streams g.first_quorum) } in
      let ms : List Envelope = to_all g.nodes a (Prepare e) in
      let acc : AcceptorGrows (w.node a).acceptor x.acceptor = raised a e up in
      let v : StreamWorld = acts w a x ms in
      let prepares : (m : Envelope) → In m ms → m.message ≡ Prepare e = λ m i. (to_all_in g.nodes a (Prepare e) m i).1 in
      done_inv a x ms acc (raised_ok v (done_grows a x ms acc) a e up)
      (record {
        member = member;
        own = own;
        born = omega arith;
        asked = λ to is. in_suffix w.sent ms (record { from = a; to = to; message = Prepare e }) (to_all_has g.nodes a to (Prepare e) is);
        kept = rw (updated_same w.node a x) (omega arith);
        unborn = unborn (w.terms e) refl;
        nodes_is = refl;
        need_is = refl;
        once = none g.nodes;
        used = λ p i. absurd i;
      })
      (λ m i. rw (prepares m i) tt)
      (quiet_shows v (λ m i. elim (in_split w.sent ms m i) [ inl j ↦ inl j | inr j ↦ inr (rw (prepares m j) tt) ]))
    where
      unborn : (o : Option Term) → w.terms e ≡ o → w.terms e ≡ None
      unborn None is = is
      unborn (Some t) is = absurd (let k = (inv.term_ok e t is).own in let k2 = rw own at k in omega arith)

  pub stands_for_inv : (a e : ℕ) → Inv g (stands_for g w a e)
  stands_for_inv a e = cond_both (may_stand g (w.node a) a e) _ w (λ z. Inv g z)
      (λ h. let k = and_parts (is_up (w.node a).state) (is_node g.nodes a && ((owner_of e g.nodes == a) && nat_lt (w.node a).acceptor.promised e)) h in
      let l = and_parts (is_node g.nodes a) ((owner_of e g.nodes == a) && nat_lt (w.node a).acceptor.promised e) k.1 in
      let r = and_parts (owner_of e g.nodes == a) (nat_lt (w.node a).acceptor.promised e) l.1 in
      stand_inv a e l.0 (eqb-true (owner_of e g.nodes) a r.0) (ltb-true (w.node a).acceptor.promised e r.1))
      (λ h. inv)

  -- ---- a promise is made ----
  prepare_inv : (a from e : ℕ) → (w.node a).acceptor.promised ≤ e → Inv g (answers w a (prepared (w.node a).acceptor e) from (promise_message e (w.node a).acceptor))
  prepare_inv a from e up =
      let old : Acceptor = (w.node a).acceptor in
      let x : Node = record { state = (w.node a).state; acceptor = prepared old e; role = (w.node a).role } in
      let made : Envelope = record { from = a; to = from; message = promise_message e old } in
      let ms : List Envelope = made ∷ [] in
      let acc : AcceptorGrows old x.acceptor = raised a e up in
      let v : StreamWorld = acts w a x ms in
      let grows : Grows w v = done_grows a x ms acc in
      let shown_kept : (i : ℕ) → shown (map (λ (k : Kept). k.ballot) old.streams) (map (λ (k : Kept). k.log) old.streams) i ≡ kept_at old i = shown_is old.streams in
      done_inv a x ms acc (raised_ok v grows a e up) (role_stays a x ms acc (w.node a).role (inv.role_ok a))
      (λ m i. elim i [
        | inl q ↦ rw q (record {
          kept = rw (updated_same w.node a x) (omega arith);
          each = λ j. rw (shown_kept j) (kept_kept w v grows old.promised e j (kept_at old j) up ((inv.node_ok a).kept j));
        })
        | inr q ↦ absurd q
      ])
      (λ b f ballots logs h s len p k less. elim (in_split w.sent ms (record { from = b; to = k.0; message = Ack h s len }) k.1) [
        | inl j ↦ elim (in_split w.sent ms (record { from = b; to = p.0; message = Promised f ballots logs }) p.1) [
          | inl i ↦ inv.shows b f ballots logs h s len (p.0, i) (k.0, j) less
          | inr i ↦ elim i [
            | inl q ↦ (
                let here : b ≡ a = ap (λ (z : Envelope). z.from) q in
                let said : Promised f ballots logs ≡ promise_message e old = ap (λ (z : Envelope). z.message) q in
                let eb : ballots ≡ map (λ (z : Kept). z.ballot) old.streams = cc in
                let el : logs ≡ map (λ (z : Kept). z.log) old.streams = cc in
                let ok : AckOk w b h s len = inv.message_ok (record { from = b; to = k.0; message = Ack h s len }) j in
                let ok2 : AckOk w a h s len = rw here at ok in
                rw (eb, el, shown_kept (s - 1)) (record { ballot = ok2.reach; holds = ok2.has }))
            | inr q ↦ absurd q
          ]
        ]
        | inr j ↦ elim j [
          | inl q ↦ absurd (let said : Ack h s len ≡ promise_message e old = ap (λ (z : Envelope). z.message) q in cc)
          | inr q ↦ absurd q
        ]
      ])

  -- ---- a stream is adopted or grows, and is acked ----
  module _ (a from e s : ℕ) (y : Acceptor) (up : (w.node a).acceptor.promised ≤ e) (promised_is : y.promised ≡ e) (sized : length y.streams ≡ length (w.node a).acceptor.streams) (ballot_is : (kept_at y (s - 1)).ballot ≡ e) (led : InLeaderLog w e (s - 1) (kept_at y (s - 1)).log) (more : (kept_at (w.node a).acceptor (s - 1)).ballot ≡ e → length (kept_at (w.node a).acceptor (s - 1)).log ≤ length (kept_at y (s - 1)).log) (rest : (j : ℕ) → j ≢ s - 1 → kept_at y j ≡ kept_at (w.node a).acceptor j) where
    abbrev old : Acceptor
    old = (w.node a).acceptor

    abbrev x : Node
    x = record { state = (w.node a).state; acceptor = y; role = (w.node a).role }

    abbrev ms : List Envelope
    ms = record { from = a; to = from; message = ack_message e s y } ∷ []

    born : 0 < e
    born = (inv.term_ok e led.term led.term_is).born

    below : (kept_at old (s - 1)).ballot ≤ e
    below = omega (arith, ((inv.node_ok a).kept (s - 1)).below, up)

    acc : AcceptorGrows old y
    acc = record {
      promised = omega (arith, promised_is, up);
      ballot = λ i. elim (cases_eq i (s - 1)) [ inl q ↦ rw q (omega (arith, below, ballot_is)) | inr m ↦ rw (rest i m) (omega arith) ];
      log = λ i. elim (cases_eq i (s - 1)) [ inl q ↦ rw q (λ k. more (sym k ∙ ballot_is)) | inr m ↦ rw (rest i m) (λ k. omega arith) ];
    }

    abbrev v : StreamWorld
    v = acts w a x ms

    grows : Grows w v
    grows = done_grows a x ms acc

    acceptor_ok : AcceptorOk g v y
    acceptor_ok = record {
      sized = sized ∙ (inv.node_ok a).sized;
      kept = λ i. elim (cases_eq i (s - 1)) [
        | inl q ↦ rw q (record {
          below = omega (arith, ballot_is, promised_is);
          has = λ b. rw ballot_is (leader_log_kept w v grows e (s - 1) (kept_at y (s - 1)).log led);
          none = λ b. absurd (omega (arith, born, ballot_is, b));
        })
        | inr m ↦ rw (rest i m) (kept_kept w v grows old.promised y.promised i (kept_at old i) acc.promised ((inv.node_ok a).kept i))
      ];
    }

    -- a later promise of the same node was not made yet
    no_later : (f : ℕ) (ballots : List ℕ) (logs : List Log) → WasSent w a (Promised f ballots logs) → e < f → ⊥
    no_later f ballots logs p less = let k : PromiseOk w a f ballots logs = inv.message_ok (record { from = a; to = p.0; message = Promised f ballots logs }) p.1 in omega (arith, k.kept, up)

    pub took_inv : Inv g v
    took_inv = done_inv a x ms acc acceptor_ok (role_stays a x ms acc (w.node a).role (inv.role_ok a))
        (λ m i. elim i [
          | inl q ↦ rw q (record {
            born = born;
            reach = rw (updated_same w.node a x) (omega (arith, ballot_is));
            has = λ b. rw (updated_same w.node a x) (omega arith);
          })
          | inr q ↦ absurd q
        ])
        (λ b f ballots logs h r len p k less. elim (in_split w.sent ms (record { from = b; to = p.0; message = Promised f ballots logs }) p.1) [
          | inl i ↦ elim (in_split w.sent ms (record { from = b; to = k.0; message = Ack h r len }) k.1) [
            | inl j ↦ inv.shows b f ballots logs h r len (p.0, i) (k.0, j) less
            | inr j ↦ elim j [
              | inl q ↦ (
                  let here : b ≡ a = ap (λ (z : Envelope). z.from) q in
                  let said : Ack h r len ≡ ack_message e s y = ap (λ (z : Envelope). z.message) q in
                  let eh : h ≡ e = cc in
                  let sent : WasSent w b (Promised f ballots logs) = (p.0, i) in
                  let sent2 : WasSent w a (Promised f ballots logs) = rw here at sent in
                  absurd (no_later f ballots logs sent2 (omega (arith, eh, less))))
              | inr q ↦ absurd q
            ]
          ]
          | inr i ↦ elim i [
            | inl q ↦ absurd (let said : Promised f ballots logs ≡ ack_message e s y = ap (λ (z : Envelope). z.message) q in cc)
            | inr q ↦ absurd q
          ]
        ])

  -- a Sync
  sync_inv : (a from e s : ℕ) (log : Log) → is_stream g s ≡ true → (w.node a).acceptor.promised ≤ e → InLeaderLog w e (s - 1) log → Inv g (answers w a (synced (w.node a).acceptor e s log) from (ack_message e s (synced (w.node a).acceptor e s log)))
  sync_inv a from e s log there up led =
      let old : Acceptor = (w.node a).acceptor in
      let inside : s - 1 < length old.streams = omega (arith, index_of g s there, (inv.node_ok a).sized) in
      cond_both (nat_lt (kept_ballot old s) e) (with_kept (prepared old e) s e log) (prepared old e) (λ z. Inv g (answers w a z from (ack_message e s z)))
      (λ t. let y : Acceptor = with_kept (prepared old e) s e log in
      let here : kept_at y (s - 1) ≡ record { ballot = e; log = log } = with_kept_here (prepared old e) s e log inside in
      took_inv a from e s y up refl (length-set old.streams (s - 1) (record { ballot = e; log = log })) (ap (λ (z : Kept). z.ballot) here)
      (rw here led) (λ q. absurd (let l : kept_ballot old s < e = ltb-true (kept_ballot old s) e t in omega arith)) (λ j m. with_kept_other (prepared old e) s e log j m))
      (λ t. let k = (inv.node_ok a).kept (s - 1) in
      let same : (kept_at old (s - 1)).ballot ≡ e = omega (arith, ltb-false (kept_ballot old s) e t, k.below, up) in
      let born : 0 < e = (inv.term_ok e led.term led.term_is).born in
      let has : InLeaderLog w e (s - 1) (kept_at old (s - 1)).log = rw same at (k.has (omega (arith, born, same))) in
      took_inv a from e s (prepared old e) up refl refl same has (λ q. omega arith) (λ j m. refl))

  -- an Accept
  accept_inv : (a from e s slot : ℕ) (batch : Batch) → is_stream g s ≡ true → (w.node a).acceptor.promised ≤ e → kept_ballot (w.node a).acceptor s ≡ e → AcceptOk w e s slot batch → Inv g (answers w a (accepted (w.node a).acceptor s slot batch) from (ack_message e s (accepted (w.node a).acceptor s slot batch)))
  accept_inv a from e s slot batch there up same ok =
      let old : Acceptor = (w.node a).acceptor in
      let inside : s - 1 < length old.streams = omega (arith, index_of g s there, (inv.node_ok a).sized) in
      let k = (inv.node_ok a).kept (s - 1) in
      let born : 0 < e = (inv.term_ok e ok.term ok.term_is).born in
      let has : InLeaderLog w e (s - 1) (kept_at old (s - 1)).log = rw same at (k.has (omega (arith, born, same))) in
      let stays : old.promised ≡ e = omega (arith, up, k.below, same) in
      cond_both (slot == length (kept_log old s)) (with_kept old s (kept_ballot old s) (kept_log old s ++ batch ∷ [])) old (λ z. Inv g (answers w a z from (ack_message e s z)))
      (λ t. let now : Log = kept_log old s ++ batch ∷ [] in
      let y : Acceptor = with_kept old s (kept_ballot old s) now in
      let here : kept_at y (s - 1) ≡ record { ballot = kept_ballot old s; log = now } = with_kept_here old s (kept_ballot old s) now inside in
      let at : slot ≡ length (kept_log old s) = eqb-true slot (length (kept_log old s)) t in
      let one : has.term ≡ ok.term = some_same has.term ok.term (w.terms e) has.term_is ok.term_is in
      let within : IsPrefix (kept_log old s) (log_at ok.term (s - 1)) = rw one at has.within in
      let next : IsPrefix (kept_log old s ++ get_or (log_at ok.term (s - 1)) (length (kept_log old s)) [] ∷ []) (log_at ok.term (s - 1)) = prefix_next [] (kept_log old s) (log_at ok.term (s - 1)) within (omega (arith, ok.there, at)) in
      let is : get_or (log_at ok.term (s - 1)) (length (kept_log old s)) [] ≡ batch = rw at at ok.batch_is in
      let next2 : IsPrefix now (log_at ok.term (s - 1)) = rw is at next in
      let led : InLeaderLog w e (s - 1) now = record { term = has.term; term_is = has.term_is; begins = prefix_trans (initial_at has.term (s - 1)) (kept_log old s) now has.begins (prefix_more (kept_log old s) (batch ∷ [])); within = rw one next2 } in
      took_inv a from e s y up stays (length-set old.streams (s - 1) (record { ballot = kept_ballot old s; log = now })) (ap (λ (z : Kept). z.ballot) here ∙ same)
      (rw here led) (λ q. rw here (omega (arith, length-append (kept_log old s) (batch ∷ [])))) (λ j m. with_kept_other old s (kept_ballot old s) now j m))
      (λ t. took_inv a from e s old up stays refl same has (λ q. omega arith) (λ j m. refl))

  -- ---- a promise is counted ----
  with_promise_ok : (a : ℕ) (c : Candidate) (p : Promise) → StandsOk g w a c → Used w c.epoch p → StandsOk g w a (with_promise c p)
  with_promise_ok a c p k u = cond_both (is_node c.nodes p.node && not (has_promised c.promises p.node)) (record c { promises = c.promises ++ p ∷ [] }) c (λ z. StandsOk g w a z)
      (λ t. let q = and_parts (is_node c.nodes p.node) (not (has_promised c.promises p.node)) t in
      let node : is_node g.nodes p.node ≡ true = rw k.nodes_is at q.0 in
      record {
        member = k.member;
        own = k.own;
        born = k.born;
        asked = k.asked;
        kept = k.kept;
        unborn = k.unborn;
        nodes_is = k.nodes_is;
        need_is = k.need_is;
        once = counted_once g.nodes c.promises p k.once node (not-true (has_promised c.promises p.node) q.1);
        used = λ r i. elim (in_split c.promises (p ∷ []) r i) [
          | inl j ↦ k.used r j
          | inr j ↦ elim j [ inl e ↦ rw e u | inr o ↦ absurd o ]
        ];
      })
      (λ t. k)

  -- a candidate with the promises that it needs leads
  module _ (a : ℕ) (c : Candidate) (k : StandsOk g w a c) (enough : nat_le c.need (length c.promises) ≡ true) where
    abbrev led_node : Node
    led_node = record { state = (w.node a).state; acceptor = (w.node a).acceptor; role = Leads c.epoch }

    abbrev led_term : Term
    led_term = record { initial = initial_logs g c; streams = map (new_leading c.epoch g.nodes g.second_quorum) (initial_logs g c) }

    abbrev led_syncs : List Envelope
    led_syncs = syncs g a c.epoch (initial_logs g c) g.streams

    abbrev led_world : StreamWorld
    led_world = leads g w a c

    pub led_terms : (e : ℕ) (t : Term) → w.terms e ≡ Some t → (u : Term) × (led_world.terms e ≡ Some u) × TermGrows t u
    led_terms e t is = by_updated (λ z. (u : Term) × (z ≡ Some u) × TermGrows t u) w.terms c.epoch (Some led_term) e
        (λ q. absurd (some_none t (w.terms c.epoch) (ap w.terms (sym q) ∙ is) k.unborn))
        (λ m. (t, is, term_stays t))

    led_grows : Grows w led_world
    led_grows = record {
      terms = led_terms;
      nodes = λ b. by_updated (λ z. AcceptorGrows (w.node b).acceptor z.acceptor) w.node a led_node b (λ i. rw i (acceptor_stays (w.node a).acceptor)) (λ m. acceptor_stays (w.node b).acceptor);
      sent = λ m i. in_prefix w.sent led_syncs m i;
    }

    led_begins : (i : ℕ) → IsPrefix (initial_at led_term i) (log_at led_term i)
    led_begins i = rw (new_logs c.epoch g.nodes g.second_quorum (initial_logs g c) i) (prefix_self (initial_at led_term i))

    led_first : (i : ℕ) → i < g.streams → initial_at led_term i ≡ recovered c.promises (i + 1) ++ g.open_mark c.epoch ∷ []
    led_first i l = get_or-map (λ log. log ++ g.open_mark c.epoch ∷ []) (recovered_logs c.promises g.streams) i [] [] (omega (arith, length-recovered c.promises g.streams, l))
        ∙ ap (λ log. log ++ g.open_mark c.epoch ∷ []) (get_or-recovered c.promises g.streams i l)

    quorum : is_quorum g.first_quorum g.nodes (has_promised c.promises) ≡ true
    quorum = le-leb g.first_quorum (count (has_promised c.promises) g.nodes) (omega (arith, leb-true c.need (length c.promises) enough, k.need_is, k.once))

    led_ok : TermOk g led_world c.epoch led_term
    led_ok = record {
      member = rw k.own k.member;
      born = k.born;
      own = rw k.own (omega (arith, k.kept, (led_grows.nodes a).promised));
      promises = c.promises;
      quorum = quorum;
      used = λ p i. used_kept w led_world led_grows c.epoch p (k.used p i);
      initial_is = led_first;
      sized = length-map (initial_logs g c) (new_leading c.epoch g.nodes g.second_quorum) ∙ length-map (recovered_logs c.promises g.streams) (λ log. log ++ g.open_mark c.epoch ∷ []) ∙ length-recovered c.promises g.streams;
      begins = led_begins;
    }

    at_led : led_world.terms c.epoch ≡ Some led_term
    at_led = updated_same w.terms c.epoch (Some led_term)

    leads_inv : Inv g led_world
    leads_inv =
        let is : led_world.node a ≡ led_node = updated_same w.node a led_node in
        stepped led_world led_grows a (λ b m. updated_other w.node a led_node b m) (λ f m. updated_other w.terms c.epoch (Some led_term) f (λ q. m (rw q k.own)))
        (rw is (acceptor_kept w led_world led_grows g (w.node a).acceptor (inv.node_ok a)))
        (rw is k.own)
        (λ e t q. elim (cases_eq e c.epoch) [
          | inl here ↦ (
              let same : led_term ≡ t = some_same led_term t (led_world.terms c.epoch) at_led (ap led_world.terms (sym here) ∙ q) in
              rw (here, ← same) led_ok)
          | inr m ↦ (let old : w.terms e ≡ Some t = sym (updated_other w.terms c.epoch (Some led_term) e m) ∙ q in term_kept w led_world led_grows g e t t (term_stays t) (inv.term_ok e t old))
        ])
        (λ m i. elim (in_split w.sent led_syncs m i) [
          | inl j ↦ inl j
          | inr j ↦ (
              let q = syncs_in g a c.epoch (initial_logs g c) g.streams m j in
              let n : ℕ = q.1.0 in
              let at : suc n - 1 ≡ n = omega arith in
              let led : InLeaderLog led_world c.epoch (suc n - 1) (get_or (initial_logs g c) n []) = rw at (record { term = led_term; term_is = at_led; begins = prefix_self (initial_at led_term n); within = led_begins n }) in
              inr (rw q.1.1 led))
        ])
        (quiet_shows led_world (λ m i. elim (in_split w.sent led_syncs m i) [
          | inl j ↦ inl j
          | inr j ↦ inr (rw (syncs_in g a c.epoch (initial_logs g c) g.streams m j).1.1 tt)
        ]))

  stands_or_leads_inv : (a : ℕ) (c : Candidate) → StandsOk g w a c → Inv g (stands_or_leads g w a c)
  stands_or_leads_inv a c k = cond_both (nat_le c.need (length c.promises)) (leads g w a c) (acts w a (record (w.node a) { role = Stands c }) []) (λ z. Inv g z)
      (λ t. leads_inv a c k t)
      (λ t. role_inv a (w.node a).state (Stands c) k)

  -- a promise of a candidate's epoch is of lower ballots, since that epoch has no leader yet
  receives_promise_inv : (a from e : ℕ) (ballots : List ℕ) (logs : List Log) (r : Role) → RoleOk g w a r → WasSent w from (Promised e ballots logs) → Inv g (receives_promise g w a e (record { node = from; ballots = ballots; logs = logs }) r)
  receives_promise_inv a from e ballots logs Follows ok sent = inv
  receives_promise_inv a from e ballots logs (Leads f) ok sent = inv
  receives_promise_inv a from e ballots logs (Stands c) k sent = cond_both (c.epoch == e) (stands_or_leads g w a (with_promise c p)) w (λ z. Inv g z)
      (λ t. let here : c.epoch ≡ e = eqb-true c.epoch e t in
      stands_or_leads_inv a (with_promise c p) (with_promise_ok a c p k (rw here (record { sent = sent; lower = λ i. lower here i }))))
      (λ t. inv)
    where
      p : Promise
      p = record { node = from; ballots = ballots; logs = logs }

      lower : c.epoch ≡ e → (i : ℕ) → get_or ballots i 0 < e
      lower here i =
          let ok : PromiseOk w from e ballots logs = inv.message_ok (record { from = from; to = sent.0; message = Promised e ballots logs }) sent.1 in
          let each : KeptOk w e i (shown ballots logs i) = ok.each i in
          elim (cases_eq (get_or ballots i 0) e) [
            | inl q ↦ absurd (
                let led : InLeaderLog w (get_or ballots i 0) i (get_or logs i []) = each.has (omega (arith, q, here, k.born)) in
                let none : w.terms e ≡ None = rw here at k.unborn in
                some_none led.term (w.terms e) (ap w.terms (sym q) ∙ led.term_is) none)
            | inr m ↦ omega (arith, m, each.below)
          ]

  -- ---- a term goes on ----
  module _ (e s : ℕ) (t : Term) (is : w.terms e ≡ Some t) (there : is_stream g s ≡ true) (x : Leading) (longer : IsPrefix (stream_of t s).log x.log) where
    abbrev further : Term
    further = with_stream t s x

    inside : s - 1 < length t.streams
    inside = omega (arith, index_of g s there, (inv.term_ok e t is).sized)

    further_grows : TermGrows t further
    further_grows = record {
      initial = refl;
      logs = λ i. elim (cases_eq i (s - 1)) [
        | inl q ↦ rw (q, log_here t s x inside) longer
        | inr m ↦ rw (log_other t s x i m) (prefix_self (log_at t i))
      ];
      sized = length-set t.streams (s - 1) x;
    }

    pub further_terms : (f : ℕ) (u : Term) → w.terms f ≡ Some u → (z : Term) × (updated w.terms e (Some further) f ≡ Some z) × TermGrows u z
    further_terms f u k = by_updated (λ z. (r : Term) × (z ≡ Some r) × TermGrows u r) w.terms e (Some further) f
        (λ q. let same : t ≡ u = some_same t u (w.terms e) is (ap w.terms (sym q) ∙ k) in (further, refl, rw (← same) further_grows))
        (λ m. (u, k, term_stays u))

    -- the owner sends batches of the term, or nothing
    module _ (a : ℕ) (own : owner_of e g.nodes ≡ a) (led : (w.node a).role ≡ Leads e) (node : ℕ → Node) (same : (b : ℕ) → node b ≡ w.node b) (ms : List Envelope) (quiet : (m : Envelope) → In m ms → Quiet m.message) where
      abbrev later : StreamWorld
      later = record { node = node; terms = updated w.terms e (Some further); sent = w.sent ++ ms }

      later_grows : Grows w later
      later_grows = record {
        terms = further_terms;
        nodes = λ b. rw (same b) (acceptor_stays (w.node b).acceptor);
        sent = λ m i. in_prefix w.sent ms m i;
      }

      at_later : later.terms e ≡ Some further
      at_later = updated_same w.terms e (Some further)

      pub later_inv : ((m : Envelope) → In m ms → MessageOk later m.from m.message) → Inv g later
      later_inv message = stepped later later_grows a (λ b m. same b) (λ f m. updated_other w.terms e (Some further) f (λ q. m (rw q own)))
          (rw (same a) (acceptor_kept w later later_grows g (w.node a).acceptor (inv.node_ok a)))
          (rw (same a, led) own)
          (λ f u q. elim (cases_eq f e) [
            | inl here ↦ (
                let one : further ≡ u = some_same further u (later.terms e) at_later (ap later.terms (sym here) ∙ q) in
                rw (here, ← one) (term_kept w later later_grows g e t further further_grows (inv.term_ok e t is)))
            | inr m ↦ (let old : w.terms f ≡ Some u = sym (updated_other w.terms e (Some further) f m) ∙ q in term_kept w later later_grows g f u u (term_stays u) (inv.term_ok f u old))
          ])
          (λ m i. elim (in_split w.sent ms m i) [ inl j ↦ inl j | inr j ↦ inr (message m j) ])
          (quiet_shows later (λ m i. elim (in_split w.sent ms m i) [ inl j ↦ inl j | inr j ↦ inr (quiet m j) ]))

  nothing_sent : (u : ℕ → Option Term) → Inv g (record { node = w.node; terms = u; sent = w.sent ++ [] }) → Inv g (record w { terms = u })
  nothing_sent u h = subst (λ (z : List Envelope). Inv g (record { node = w.node; terms = u; sent = z })) (append-nil w.sent) h

  counts_ack_inv : (a e s from len : ℕ) → owner_of e g.nodes ≡ a → (w.node a).role ≡ Leads e → is_stream g s ≡ true → (o : Option Term) → w.terms e ≡ o → Inv g (counts_ack w e s from len o)
  counts_ack_inv a e s from len own led there None is = inv
  counts_ack_inv a e s from len own led there (Some t) is =
      let y : Leading = with_ack (stream_of t s) from len in
      let same : y.log ≡ (stream_of t s).log = cond_both (is_node (length (stream_of t s).acked) from) (record (stream_of t s) { acked = set (stream_of t s).acked (from - 1) (max (get_or (stream_of t s).acked (from - 1) 0) len) }) (stream_of t s) (λ z. z.log ≡ (stream_of t s).log) (λ q. refl) (λ q. refl) in
      nothing_sent (updated w.terms e (Some (with_stream t s y)))
      (later_inv e s t is there y (rw same (prefix_self (stream_of t s).log)) a own led w.node (λ b. refl) [] (λ m i. absurd i) (λ m i. absurd i))

  receives_ack_inv : (a e s from len : ℕ) (r : Role) → (w.node a).role ≡ r → RoleOk g w a r → Inv g (receives_ack g w e s from len r)
  receives_ack_inv a e s from len Follows is ok = inv
  receives_ack_inv a e s from len (Stands c) is ok = inv
  receives_ack_inv a e s from len (Leads f) is ok = cond_both ((f == e) && is_stream g s) (counts_ack w e s from len (w.terms e)) w (λ z. Inv g z)
      (λ t. let k = and_parts (f == e) (is_stream g s) t in
      let here : f ≡ e = eqb-true f e k.0 in
      counts_ack_inv a e s from len (rw here at ok) (rw here at is) k.1 (w.terms e) refl)
      (λ t. inv)

  proposes_in_inv : (a e s : ℕ) (batch : Batch) → owner_of e g.nodes ≡ a → (w.node a).role ≡ Leads e → is_stream g s ≡ true → (o : Option Term) → w.terms e ≡ o → Inv g (proposes_in g w a e s batch o)
  proposes_in_inv a e s batch own led there None is = inv
  proposes_in_inv a e s batch own led there (Some t) is =
      let old : Log = (stream_of t s).log in
      let y : Leading = proposed (stream_of t s) batch in
      let message : Message = Accept e s (length old) batch in
      let ms : List Envelope = to_all g.nodes a message in
      let grown : IsPrefix old y.log = prefix_more old (batch ∷ []) in
      let v : StreamWorld = proposes_in g w a e s batch (Some t) in
      let has : log_at (with_stream t s y) (s - 1) ≡ old ++ batch ∷ [] = log_here t s y (inside e s t is there y grown) in
      let fact : AcceptOk v e s (length old) batch = record {
        term = with_stream t s y;
        term_is = updated_same w.terms e (Some (with_stream t s y));
        there = rw has (omega (arith, length-append old (batch ∷ [])));
        batch_is = rw has (get_end [] old batch);
      } in
      later_inv e s t is there y grown a own led (updated w.node a (w.node a)) (λ b. by_updated (λ z. z ≡ w.node b) w.node a (w.node a) b (λ i. rw i refl) (λ m. refl)) ms
      (λ m i. rw (to_all_in g.nodes a message m i).1 tt)
      (λ m i. rw (to_all_in g.nodes a message m i).1 fact)

  proposes_inv : (a s : ℕ) (batch : Batch) (r : Role) → (w.node a).role ≡ r → RoleOk g w a r → Inv g (proposes g w a s batch r)
  proposes_inv a s batch Follows is ok = inv
  proposes_inv a s batch (Stands c) is ok = inv
  proposes_inv a s batch (Leads e) is ok = cond_both (is_up (w.node a).state && is_stream g s) (proposes_in g w a e s batch (w.terms e)) w (λ z. Inv g z)
      (λ t. proposes_in_inv a e s batch ok is (and_parts (is_up (w.node a).state) (is_stream g s) t).1 (w.terms e) refl)
      (λ t. inv)

  -- ---- deliveries ----
  not_refused : (x : Acceptor) (e : ℕ) → refuses x e ≡ None → x.promised ≤ e
  not_refused x e h = cond_both (nat_lt e x.promised) (Some (refused.Promised x.promised)) None (λ z. z ≡ None → x.promised ≤ e)
      (λ t k. absurd (let q : Some (refused.Promised x.promised) ≡ None = k in cc))
      (λ t k. ltb-false e x.promised t) h

  unless_inv : (o : Option Refused) (v : StreamWorld) → (o ≡ None → Inv g v) → Inv g (unless_refused o v w)
  unless_inv None v h = h refl
  unless_inv (Some r) v h = inv

  -- an Accept that is not refused is of the promised epoch's ballot
  allowed : (x : Acceptor) (e s slot : ℕ) → refuses_accept x e s slot ≡ None → (x.promised ≤ e) × (kept_ballot x s ≡ e)
  allowed x e s slot h = go (nat_lt e x.promised) (kept_ballot x s == e) refl refl h
    where
      go : (b c : Bool) → nat_lt e x.promised ≡ b → (kept_ballot x s == e) ≡ c
          → (if b then Some (refused.Promised x.promised) else if c then (if nat_lt (length (kept_log x s)) slot then Some (refused.OutOfOrder (length (kept_log x s))) else None) else Some (refused.OtherBallot (kept_ballot x s))) ≡ None
          → (x.promised ≤ e) × (kept_ballot x s ≡ e)
      go true c p q k = absurd (let z : Some (refused.Promised x.promised) ≡ None = k in cc)
      go false false p q k = absurd (let z : Some (refused.OtherBallot (kept_ballot x s)) ≡ None = k in cc)
      go false true p q k = (ltb-false e x.promised p, eqb-true (kept_ballot x s) e q)

  receives_inv : (a from : ℕ) (message : Message) → WasSent w from message → Inv g (receives g w a from message)
  receives_inv a from (Prepare e) sent = unless_inv (refuses (w.node a).acceptor e) _ (λ h. prepare_inv a from e (not_refused (w.node a).acceptor e h))
  receives_inv a from (Promised e ballots logs) sent = receives_promise_inv a from e ballots logs (w.node a).role (inv.role_ok a) sent
  receives_inv a from (Sync e s log) sent = cond_both (is_stream g s) _ w (λ z. Inv g z)
      (λ t. unless_inv (refuses (w.node a).acceptor e) _ (λ h. sync_inv a from e s log t (not_refused (w.node a).acceptor e h) (inv.message_ok (record { from = from; to = sent.0; message = Sync e s log }) sent.1)))
      (λ t. inv)
  receives_inv a from (Accept e s slot batch) sent = cond_both (is_stream g s) _ w (λ z. Inv g z)
      (λ t. unless_inv (refuses_accept (w.node a).acceptor e s slot) _ (λ h. let k = allowed (w.node a).acceptor e s slot h in
      accept_inv a from e s slot batch t k.0 k.1 (inv.message_ok (record { from = from; to = sent.0; message = Accept e s slot batch }) sent.1)))
      (λ t. inv)
  receives_inv a from (Ack e s len) sent = receives_ack_inv a e s from len (w.node a).role refl (inv.role_ok a)

  delivers_inv : (o : Option Envelope) → ((m : Envelope) → o ≡ Some m → In m w.sent) → Inv g (delivers g w o)
  delivers_inv None h = inv
  delivers_inv (Some m) h = cond_both (is_up (w.node m.to).state) (receives g w m.to m.from m.message) w (λ z. Inv g z)
      (λ t. receives_inv m.to m.from m.message (m.to, h m refl))
      (λ t. inv)

  pub event_inv : (x : StreamEvent) → Inv g (after_stream_event g w x)
  event_inv (Elect a e) = stands_for_inv a e
  event_inv (Deliver number) = delivers_inv (slice_get w.sent number) (λ m e. get_in w.sent number m e)
  event_inv (Propose a s batch) = proposes_inv a s batch (w.node a).role refl (inv.role_ok a)
  event_inv (Crash a) = role_inv a (crashed (w.node a).state) Follows tt
  event_inv (Return a) = role_inv a (returned (w.node a).state) (w.node a).role (inv.role_ok a)
  event_inv (Lose a) = role_inv a Lost Follows tt

pub events_inv : (g : Cluster) (xs : List StreamEvent) (w : StreamWorld) → Inv g w → Inv g (after_stream_events g w xs)
events_inv g [] w h = h
events_inv g (x ∷ xs) w h = events_inv g xs (after_stream_event g w x) (event_inv g w h x)

pub initial_inv : (g : Cluster) → Inv g (initial_streams g)
initial_inv g = record {
  node_ok = λ a. record { sized = length-replicate g.streams nothing_kept; kept = λ i. rw (nothing g.streams i) (record { below = omega arith; has = λ h. absurd (omega arith); none = λ h. refl }) };
  role_ok = λ a. tt;
  term_ok = λ e t is. absurd (let q : None ≡ Some t = is in cc);
  message_ok = λ m i. absurd i;
  shows = λ a e ballots logs f s len p k less. absurd p.1;
}
  where
    nothing : (n i : ℕ) → get_or (replicate n nothing_kept) i nothing_kept ≡ nothing_kept
    nothing zero i = refl
    nothing (suc n) zero = refl
    nothing (suc n) (suc i) = nothing n i
