-- What a second quorum acked stands at the head of every later initial log.
use Rattle.std.proofs.Common.{◌≡◌, ◌⊎◌, ℕ, zero, suc, ◌+◌, ◌-◌, ◌<◌, ◌≤◌, List, [], ◌∷◌, ◌++◌, length, get_or, true, ◌==◌, ◌&&◌, nat_le, Some, refl, sym, arith, inl, inr, eqb-true}
use Rattle.std.proofs.lemmas.Bool.{cases_eq, and_parts, or_cases, leb-true, true≢false}
use Rattle.std.specs.List.{best_of}
use Rattle.rl_base.specs.Lists.{IsPrefix}
use Rattle.rl_paxos.specs.Logs.{Log}
use Rattle.rl_paxos.specs.Quorums.{is_quorum}
use Rattle.rl_paxos.specs.Recovery.{Promise, has_promised, recovered, is_better}
use Rattle.rl_paxos.proofs.Best.{NoBetter, best_in, best_top}
use Rattle.rl_paxos.proofs.Counting.{meet}
use Rattle.rl_base.proofs.Members.{In}
use Rattle.rl_election.specs.World.{Cluster, QuorumsIntersect, Message, Prepare, Promised, Sync, Accept, Ack, Envelope, Term, StreamWorld, is_stream}
use Rattle.rl_election.specs.Chosen.{acks_at_least, has_acked, IsChosen}
use Rattle.rl_election.proofs.Inv.{initial_at, log_at, WasSent, InLeaderLog, KeptOk, shown, PromiseOk, Shows, Used, TermOk, Inv}
use Rattle.rl_base.proofs.Prefixes.{prefix_more, prefix_trans, prefix_both}
use Rattle.rl_election.proofs.Steps.{some_same}
use Rattle.rl_election.proofs.Updates.{index_of}

-- a node that promised has a promise
promised_in : (ps : List Promise) (a : ℕ) → has_promised ps a ≡ true → (p : Promise) × In p ps × (p.node ≡ a)
promised_in [] a h = absurd (true≢false (sym h))
promised_in (p ∷ ps) a h = elim (or_cases (p.node == a) (has_promised ps a) h) [
  | inl t ↦ (p, inl refl, eqb-true p.node a t)
  | inr t ↦ (let k = promised_in ps a t in (k.0, inr k.1, k.2))
]

-- an ack of at least a length
pub record Acked (w : StreamWorld) (e s len a : ℕ) : Type 0 where
  pub longer : ℕ
  pub sent : WasSent w a (Ack e s longer)
  pub reaches : len ≤ longer

acked_message : (e s len : ℕ) (message : Message) → acks_at_least e s len message ≡ true → (l : ℕ) × (message ≡ Ack e s l) × (len ≤ l)
acked_message e s len (Prepare f) h = absurd (true≢false (sym h))
acked_message e s len (Promised f ballots logs) h = absurd (true≢false (sym h))
acked_message e s len (Sync f r log) h = absurd (true≢false (sym h))
acked_message e s len (Accept f r slot batch) h = absurd (true≢false (sym h))
acked_message e s len (Ack f r l) h =
    let x = and_parts (f == e) ((r == s) && nat_le len l) h in
    let y = and_parts (r == s) (nat_le len l) x.1 in
    (l, (let q : f ≡ e = eqb-true f e x.0 in let z : r ≡ s = eqb-true r s y.0 in rw (q, z) refl), leb-true len l y.1)

pub acked_in : (ms : List Envelope) (e s len a : ℕ) → has_acked ms e s len a ≡ true → (l to : ℕ) × In (record { from = a; to = to; message = Ack e s l }) ms × (len ≤ l)
acked_in [] e s len a h = absurd (true≢false (sym h))
acked_in (m ∷ ms) e s len a h = elim (or_cases ((m.from == a) && acks_at_least e s len m.message) (has_acked ms e s len a) h) [
  | inl t ↦ (
      let x = and_parts (m.from == a) (acks_at_least e s len m.message) t in
      let k = acked_message e s len m.message x.1 in
      let here : m.from ≡ a = eqb-true m.from a x.0 in
      (k.0, m.to, inl (is m here k.0 k.1), k.2))
  | inr t ↦ (let k = acked_in ms e s len a t in (k.0, k.1, inr k.2, k.3))
]
  where
    is : (m : Envelope) → m.from ≡ a → (l : ℕ) → m.message ≡ Ack e s l → record { from = a; to = m.to; message = Ack e s l } ≡ m
    is m here l said = rw (← here, ← said) refl

-- a stream's index, and its number again
pub stream_back : (g : Cluster) (s : ℕ) → is_stream g s ≡ true → s - 1 + 1 ≡ s
stream_back g s there = let k = leb-true 1 s (and_parts (nat_le 1 s) (nat_le s g.streams) there).0 in omega arith

-- no better, whatever the nodes
abbrev NoBetterAt : (b l c m : ℕ) → Type 0
NoBetterAt b l c m = (b < c) ⊎ ((b ≡ c) × (l ≤ m))

lower_top : (b l n c m k : ℕ) → (b < c) ⊎ ((b ≡ c) × ((l < m) ⊎ ((l ≡ m) × (k ≤ n)))) → NoBetterAt b l c m
lower_top b l n c m k h = elim h [ inl x ↦ inl x | inr x ↦ elim x.1 [ inl y ↦ inr (x.0, omega arith) | inr y ↦ inr (x.0, omega (arith, y.0)) ] ]

module _ (g : Cluster) (meets : QuorumsIntersect g) (w : StreamWorld) (inv : Inv g w) (e s : ℕ) (there : is_stream g s ≡ true) (t : Term) (is : w.terms e ≡ Some t) (prefix : Log) (within : IsPrefix prefix (log_at t (s - 1))) (chosen : is_quorum g.second_quorum g.nodes (has_acked w.sent e s (length prefix)) ≡ true) where
  abbrev i : ℕ
  i = s - 1

  born : 0 < e
  born = (inv.term_ok e t is).born

  -- the best promise is of e or a later epoch, and where it is of e it has all that was acked
  same_ballot : (log : Log) → InLeaderLog w e i log → length prefix ≤ length log → IsPrefix prefix log
  same_ballot log led fits =
      let one : led.term ≡ t = some_same led.term t (w.terms e) led.term_is is in
      let inside : IsPrefix log (log_at t i) = rw one at led.within in
      prefix_both prefix log (log_at t i) within inside fits

  agree : (bound later : ℕ) → later < bound → e < later → (u : Term) → w.terms later ≡ Some u → IsPrefix prefix (initial_at u i)
  agree zero later b less u is2 = absurd (omega arith)
  agree (suc bound) later b less u is2 =
      let ok : TermOk g w later u = inv.term_ok later u is2 in
      from_promises (λ mid l m z k. agree bound mid l m z k) ok.promises ok.quorum ok.used (rw (stream_back g s there) at (ok.initial_is i (index_of g s there)))
    where
      from_promises : ((mid : ℕ) → mid < bound → e < mid → (z : Term) → w.terms mid ≡ Some z → IsPrefix prefix (initial_at z i)) → (ps : List Promise) → is_quorum g.first_quorum g.nodes (has_promised ps) ≡ true → ((p : Promise) → In p ps → Used w later p) → initial_at u i ≡ recovered ps s ++ g.open_mark later ∷ [] → IsPrefix prefix (initial_at u i)
      from_promises earlier [] quorum used first =
          let m = meet g.first_quorum g.second_quorum g.nodes (has_promised []) (has_acked w.sent e s (length prefix)) meets quorum chosen in absurd (true≢false (sym m.2))
      from_promises earlier (q ∷ qs) quorum used first =
          let m = meet g.first_quorum g.second_quorum g.nodes (has_promised (q ∷ qs)) (has_acked w.sent e s (length prefix)) meets quorum chosen in
          let p = promised_in (q ∷ qs) m.0 m.2 in
          let k = acked_in w.sent e s (length prefix) m.0 m.3 in
          let up : Used w later p.0 = used p.0 p.1 in
          let sent : WasSent w m.0 (Promised later p.0.ballots p.0.logs) = rw p.2 at up.sent in
          let sh : Shows (shown p.0.ballots p.0.logs i) e k.0 = inv.shows m.0 later p.0.ballots p.0.logs e s k.0 sent (k.1, k.2) less in
          let x : Promise = best_of (is_better s) q qs in
          let ux : Used w later x = used x (best_in s q qs) in
          let ix : PromiseOk w x.node later x.ballots x.logs = inv.message_ok (record { from = x.node; to = ux.sent.0; message = Promised later x.ballots x.logs }) ux.sent.1 in
          let top : NoBetter s p.0 x = best_top s q qs p.0 p.1 in
          let top2 : NoBetterAt (get_or p.0.ballots i 0) (length (get_or p.0.logs i [])) (get_or x.ballots i 0) (length (get_or x.logs i [])) = lower_top (get_or p.0.ballots i 0) (length (get_or p.0.logs i [])) p.0.node (get_or x.ballots i 0) (length (get_or x.logs i [])) x.node top in
          let each : KeptOk w later i (shown x.ballots x.logs i) = ix.each i in
          let above : e ≤ get_or x.ballots i 0 = elim top2 [ inl h ↦ omega (arith, h, sh.ballot) | inr h ↦ omega (arith, h.0, sh.ballot) ] in
          let led : InLeaderLog w (get_or x.ballots i 0) i (get_or x.logs i []) = each.has (omega (arith, born, above)) in
          let inside : IsPrefix prefix (get_or x.logs i []) = elim (cases_eq (get_or x.ballots i 0) e) [
            | inl same ↦ (
                let led2 : InLeaderLog w e i (get_or x.logs i []) = rw same at led in
                let pb : get_or p.0.ballots i 0 ≡ e = elim top2 [ inl h ↦ absurd (omega (arith, h, same, sh.ballot)) | inr h ↦ omega (arith, h.0, same) ] in
                let long : length (get_or p.0.logs i []) ≤ length (get_or x.logs i []) = elim top2 [ inl h ↦ absurd (omega (arith, h, same, sh.ballot)) | inr h ↦ h.1 ] in
                same_ballot (get_or x.logs i []) led2 (omega (arith, sh.holds pb, long, k.3)))
            | inr other ↦ prefix_trans prefix (initial_at led.term i) (get_or x.logs i []) (earlier (get_or x.ballots i 0) (omega (arith, ux.lower i)) (omega (arith, above, other)) led.term led.term_is) led.begins
          ] in
          let rec2 : recovered (q ∷ qs) s ≡ get_or x.logs i [] = refl in
          rw (first, rec2) (prefix_trans prefix (get_or x.logs i []) (get_or x.logs i [] ++ g.open_mark later ∷ []) inside (prefix_more (get_or x.logs i []) (g.open_mark later ∷ [])))

  pub agrees : (later : ℕ) → e < later → (u : Term) → w.terms later ≡ Some u → IsPrefix prefix (initial_at u i)
  agrees later less u is2 = agree (suc later) later (omega arith) less u is2

no_batch : (xs : Log) → length xs ≡ 0 → xs ≡ []
no_batch [] e = refl
no_batch (x ∷ xs) e = absurd (omega arith)

-- a chosen log is a prefix of its epoch's log
pub chosen_within : (g : Cluster) (w : StreamWorld) (e s : ℕ) (chosen : Log) → IsChosen g w e s chosen → (t : Term) → w.terms e ≡ Some t → IsPrefix chosen (log_at t (s - 1))
chosen_within g w e s chosen k t is =
    let within : IsPrefix chosen (log_at k.is_log.term (s - 1)) = rw (← k.is_log.log_is) at k.within in
    let one : k.is_log.term ≡ t = some_same k.is_log.term t (w.terms e) k.is_log.term_is is in
    rw one at within

-- and of each later initial log
pub chosen_begins : (g : Cluster) → QuorumsIntersect g → (w : StreamWorld) → Inv g w → (e s later : ℕ) (chosen : Log) → is_stream g s ≡ true → IsChosen g w e s chosen → e < later → (u : Term) → w.terms later ≡ Some u → IsPrefix chosen (initial_at u (s - 1))
chosen_begins g meets w inv e s later chosen there k less u is =
    let within : IsPrefix chosen (log_at k.is_log.term (s - 1)) = chosen_within g w e s chosen k k.is_log.term k.is_log.term_is in
    elim (or_cases (length chosen == 0) (is_quorum g.second_quorum g.nodes (has_acked w.sent e s (length chosen))) k.acked) [
      | inl t ↦ (let none : chosen ≡ [] = no_batch chosen (eqb-true (length chosen) 0 t) in rw none (initial_at u (s - 1), refl))
      | inr t ↦ agrees g meets w inv e s there k.is_log.term k.is_log.term_is chosen within t later less u is
    ]
