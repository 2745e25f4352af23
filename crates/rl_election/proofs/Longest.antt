-- The longest of what was chosen on a stream. Chosen logs of two epochs both begin the later one's log, so the longer one of them
-- begins with the other; and no epoch above all promises has a log.
use Rattle.std.proofs.Common.{◌≡◌, ◌⊎◌, ℕ, zero, suc, ◌-◌, ◌≤◌, max, [], length, true, Option, Some, None, refl, sym, ◌∙◌, ap, arith, inl, inr}
use Rattle.std.proofs.lemmas.Bool.{cases_eq, cases_lt}
use Rattle.rl_base.specs.Epochs.{owner_of}
use Rattle.rl_base.specs.Lists.{IsPrefix}
use Rattle.rl_paxos.specs.Logs.{Log}
use Rattle.rl_paxos.specs.Quorums.{is_node}
use Rattle.rl_paxos.proofs.Counting.{node_is, is_node_low, is_node_high}
use Rattle.rl_election.specs.World.{Cluster, QuorumsIntersect, Term, StreamWorld, is_stream}
use Rattle.rl_election.specs.Chosen.{IsChosen, IsLongestChosen}
use Rattle.rl_election.proofs.Agree.{chosen_within, chosen_begins}
use Rattle.rl_election.proofs.Choices.{some_choice}
use Rattle.rl_election.proofs.Inv.{initial_at, log_at, TermOk, Inv}
use Rattle.rl_base.proofs.Prefixes.{prefix_trans, prefix_both}
use Rattle.rl_election.proofs.Stays.{Stays, chosen_grows}
use Rattle.rl_election.proofs.Steps.{some_none}

-- one log is chosen at an epoch
chosen_once : (g : Cluster) (w : StreamWorld) (e s : ℕ) (one other : Log) → IsChosen g w e s one → IsChosen g w e s other → IsPrefix one other
chosen_once g w e s one other k h = h.longest one (rw h.is_log.log_is at (chosen_within g w e s one k h.is_log.term h.is_log.term_is)) k.acked

-- the greatest promise of nodes 1 to n
abbrev top : (w : StreamWorld) (n : ℕ) → ℕ
top w zero = 0
top w (suc n) = max (w.node (suc n)).acceptor.promised (top w n)

below_top : (w : StreamWorld) (n a : ℕ) → is_node n a ≡ true → (w.node a).acceptor.promised ≤ top w n
below_top w zero a is = absurd (omega (arith, is_node_low 0 a is, is_node_high 0 a is))
below_top w (suc n) a is = elim (cases_eq a (suc n)) [
  | inl e ↦ rw e (omega arith)
  | inr m ↦ (let k = below_top w n a (node_is n a (is_node_low (suc n) a is) (omega (arith, m, is_node_high (suc n) a is))) in omega arith)
]

-- the longest of what was chosen at epochs up to n
pub record UpTo (g : Cluster) (w : StreamWorld) (s n : ℕ) (longest : Log) : Type 0 where
  pub from : (longest ≡ []) ⊎ ((e : ℕ) × (e ≤ n) × IsChosen g w e s longest)
  pub above : (e : ℕ) (chosen : Log) → e ≤ n → IsChosen g w e s chosen → IsPrefix chosen longest

module _ (g : Cluster) (meets : QuorumsIntersect g) (w : StreamWorld) (inv : Inv g w) (s : ℕ) (there : is_stream g s ≡ true) where
  further : (n : ℕ) (longest : Log) → (longest ≡ []) ⊎ ((e : ℕ) × (e ≤ n) × IsChosen g w e s longest) → (longest ≡ []) ⊎ ((e : ℕ) × (e ≤ suc n) × IsChosen g w e s longest)
  further n longest from = elim from [ inl z ↦ inl z | inr k ↦ inr (k.0, omega (arith, k.1), k.2) ]

  -- what was chosen up to n begins the log of the next epoch
  begins_next : (n : ℕ) (longest : Log) → UpTo g w s n longest → (u : Term) → w.terms (suc n) ≡ Some u → IsPrefix longest (log_at u (s - 1))
  begins_next n longest k u is = elim k.from [
    | inl z ↦ rw z (log_at u (s - 1), refl)
    | inr q ↦ prefix_trans longest (initial_at u (s - 1)) (log_at u (s - 1)) (chosen_begins g meets w inv q.0 s (suc n) longest there q.2 (omega (arith, q.1)) u is) ((inv.term_ok (suc n) u is).begins (s - 1))
  ]

  up_to : (n : ℕ) → (longest : Log) × UpTo g w s n longest
  up_to zero = ([], record { from = inl refl; above = λ e chosen low k. absurd (omega (arith, low, (inv.term_ok e k.is_log.term k.is_log.term_is).born)) })
  up_to (suc n) = next (w.terms (suc n)) refl (up_to n)
    where
      next : (o : Option Term) → w.terms (suc n) ≡ o → (longest : Log) × UpTo g w s n longest → (longest : Log) × UpTo g w s (suc n) longest
      next None none old = (
        old.0,
        record {
          from = further n old.0 old.1.from;
          above = λ e chosen low k. elim (cases_eq e (suc n)) [
            | inl q ↦ absurd (some_none k.is_log.term (w.terms (suc n)) (ap w.terms (sym q) ∙ k.is_log.term_is) none)
            | inr m ↦ old.1.above e chosen (omega (arith, m, low)) k
          ];
        },
      )
      next (Some u) is old =
          let k = some_choice g w (suc n) s (log_at u (s - 1)) (record { term = u; term_is = is; log_is = refl }) in
          let before : IsPrefix old.0 (log_at u (s - 1)) = begins_next n old.0 old.1 u is in
          let now : IsPrefix k.0 (log_at u (s - 1)) = chosen_within g w (suc n) s k.0 k.1 u is in
          let here : (e : ℕ) (chosen : Log) → e ≡ suc n → IsChosen g w e s chosen → IsPrefix chosen k.0 =
          λ e chosen q h. let h2 : IsChosen g w (suc n) s chosen = rw q at h in chosen_once g w (suc n) s chosen k.0 h2 k.1 in
          elim (cases_lt (length old.0) (length k.0)) [
            | inl longer ↦ (
              k.0,
              record {
                from = inr (suc n, omega arith, k.1);
                above = λ e chosen low h. elim (cases_eq e (suc n)) [
                  | inl q ↦ here e chosen q h
                  | inr m ↦ prefix_trans chosen old.0 k.0 (old.1.above e chosen (omega (arith, m, low)) h) (prefix_both old.0 k.0 (log_at u (s - 1)) before now (omega arith))
                ];
              },
            )
            | inr shorter ↦ (
              old.0,
              record {
                from = further n old.0 old.1.from;
                above = λ e chosen low h. elim (cases_eq e (suc n)) [
                  | inl q ↦ prefix_trans chosen k.0 old.0 (here e chosen q h) (prefix_both k.0 old.0 (log_at u (s - 1)) now before shorter)
                  | inr m ↦ old.1.above e chosen (omega (arith, m, low)) h
                ];
              },
            )
          ]

  pub longest_chosen : (longest : Log) × IsLongestChosen g w s longest
  longest_chosen =
      let k = up_to (top w g.nodes) in (
        k.0,
        record {
          from = elim k.1.from [ inl z ↦ inl z | inr q ↦ inr (q.0, q.2) ];
          above = λ e chosen h.
              let ok : TermOk g w e h.is_log.term = inv.term_ok e h.is_log.term h.is_log.term_is in
              k.1.above e chosen (omega (arith, ok.own, below_top w g.nodes (owner_of e g.nodes) ok.member)) h;
        },
      )

-- the longest only grows
pub longest_grows : (g : Cluster) (w v : StreamWorld) (s : ℕ) (longest now : Log) → Stays w v → IsLongestChosen g w s longest → IsLongestChosen g v s now → IsPrefix longest now
longest_grows g w v s longest now st k h = elim k.from [
  | inl z ↦ rw z (now, refl)
  | inr q ↦ (
      let u = st.terms q.0 q.1.is_log.term q.1.is_log.term_is in
      let later = some_choice g v q.0 s (log_at u.0 (s - 1)) (record { term = u.0; term_is = u.1; log_is = refl }) in
      prefix_trans longest later.0 now (chosen_grows g w v q.0 s longest later.0 st q.1 later.1) (h.above q.0 later.0 later.1))
]
