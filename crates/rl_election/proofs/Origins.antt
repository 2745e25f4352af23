-- Where an initial log came from.
use Rattle.std.proofs.Common.{◌≡◌, ℕ, ◌-◌, List, [], ◌∷◌, ◌++◌, get_or, true, Some, refl, arith, inl, inr}
use Rattle.std.proofs.lemmas.Bool.{cases_eq}
use Rattle.std.specs.List.{best_of}
use Rattle.rl_paxos.specs.Logs.{Log}
use Rattle.rl_paxos.specs.Recovery.{Promise, recovered, is_better}
use Rattle.rl_paxos.proofs.Best.{best_in}
use Rattle.rl_base.proofs.Members.{In}
use Rattle.rl_election.specs.World.{Cluster, Promised, Term, StreamWorld, is_stream}
use Rattle.rl_election.specs.Chosen.{initial_log, IsAdopted, HasOrigin}
use Rattle.rl_election.proofs.Agree.{stream_back}
use Rattle.rl_election.proofs.Inv.{initial_at, log_at, InLeaderLog, KeptOk, shown, PromiseOk, Used, TermOk, Inv}
use Rattle.rl_election.proofs.Updates.{index_of}

-- a log between the initial and the leader's log of an epoch was adopted at it
pub adopted : (w : StreamWorld) (e s : ℕ) (log : Log) → InLeaderLog w e (s - 1) log → IsAdopted w e s log
adopted w e s log led = record {
  initial = initial_at led.term (s - 1);
  log = log_at led.term (s - 1);
  is_initial = record { term = led.term; term_is = led.term_is; initial_is = refl };
  is_log = record { term = led.term; term_is = led.term_is; log_is = refl };
  begins = led.begins;
  within = led.within;
}

-- the best promise shows a log of a lower ballot, or nothing
pub origin : (g : Cluster) (w : StreamWorld) → Inv g w → (e s : ℕ) → is_stream g s ≡ true → (t : Term) → w.terms e ≡ Some t → HasOrigin g w e s (initial_log t s)
origin g w inv e s there t is =
    let ok : TermOk g w e t = inv.term_ok e t is in
    from_promises ok.promises ok.used (rw (stream_back g s there) at (ok.initial_is (s - 1) (index_of g s there)))
  where
    from_promises : (ps : List Promise) → ((p : Promise) → In p ps → Used w e p) → initial_at t (s - 1) ≡ recovered ps s ++ g.open_mark e ∷ [] → HasOrigin g w e s (initial_log t s)
    from_promises [] used initial = record { carried = []; initial_is = initial; from = inl refl }
    from_promises (q ∷ qs) used initial =
        let x : Promise = best_of (is_better s) q qs in
        let ux : Used w e x = used x (best_in s q qs) in
        let ix : PromiseOk w x.node e x.ballots x.logs = inv.message_ok (record { from = x.node; to = ux.sent.0; message = Promised e x.ballots x.logs }) ux.sent.1 in
        let each : KeptOk w e (s - 1) (shown x.ballots x.logs (s - 1)) = ix.each (s - 1) in
        record {
          carried = get_or x.logs (s - 1) [];
          initial_is = initial;
          from = elim (cases_eq (get_or x.ballots (s - 1) 0) 0) [
            | inl zero ↦ inl (each.none zero)
            | inr some ↦ inr (record {
              earlier = get_or x.ballots (s - 1) 0;
              is_earlier = ux.lower (s - 1);
              is_adopted = adopted w (get_or x.ballots (s - 1) 0) s (get_or x.logs (s - 1) []) (each.has (omega (arith, some)));
            })
          ];
        }
