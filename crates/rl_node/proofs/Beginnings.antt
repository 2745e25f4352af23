-- Nodes that begin, crash, return and are lost.
use Rattle.std.proofs.Common.{◌≡◌, ℕ, zero, suc, ◌-◌, List, [], ◌∷◌, length, map, replicate, get_or, refl, sym, ap, ◌∙◌, subst, arith, true, false, None}
use Rattle.std.proofs.lemmas.List.{length-replicate}
use Rattle.rl_election.specs.World.{Up, Down, Lost}
use Rattle.rl_families.specs.Streams.{log_at}
use Rattle.rl_paxos.specs.Acceptors.{Acceptor, nothing_kept, new_acceptor, kept_log}
use Rattle.rl_replay.specs.Standing.{BeginsWithPlayed}
use Rattle.rl_replay.specs.Laws.{new_replica}
use Rattle.rl_replay.specs.Replay.{Replaying}
use Rattle.rl_value.specs.Fits.{RowsFit}
use Rattle.rl_value.specs.Rows.{Rows}
use Rattle.rl_txn.specs.declared.batch.Batch.{Batch}
use Rattle.rl_nodes.specs.Calls.{Standing}
use Rattle.rl_nodes.specs.Elections.{crashed, returned, lost}
use Rattle.rl_nodes.specs.Nodes.{Follows, nothing_known}
use Rattle.rl_nodes.specs.Setups.{Setup}
use Rattle.rl_node.specs.Beginning.{IsNew}
use Rattle.rl_node.specs.Fits.{KeptFits, AcceptorFits, IsFront, RunningFits}
use Rattle.rl_node.specs.Standing.{StandsPart, StandsUp, StandsIn, Stands, up_with, away_with, is_down_in}
use Rattle.rl_node.specs.declared.node.Node.{Node}
use Rattle.rl_node.specs.declared.node.Phase.{Phase}
use Rattle.rl_node.specs.declared.node.Phase.TheVariants as phase
use Rattle.rl_node.specs.declared.running.Running.{Running}

abbrev plays_none : Rows → (streams : ℕ) → Replaying
plays_none opening streams = record { applied = []; played = replicate streams 0; rows = opening; failed = false }

-- what stands at each place of many of one
of_replicate : {X : Type 0} (n i : ℕ) (x : X) → get_or (replicate n x) i x ≡ x
of_replicate zero i x = refl
of_replicate (suc n) zero x = refl
of_replicate (suc n) (suc i) x = of_replicate n i x

lengths : (n : ℕ) → map length (replicate n (let none : List Batch = [] in none)) ≡ replicate n 0
lengths zero = refl
lengths (suc n) = ap (λ xs. 0 ∷ xs) (lengths n)

-- a replica of the opening rows, by its streams
pub replica_begins : (streams : ℕ) (opening : Rows) → plays_none opening streams ≡ new_replica opening (replicate streams [])
replica_begins streams opening = ap (plays_none opening) (sym (length-replicate streams []))

nothing_fits : (setup : Setup) (s : ℕ) → KeptFits setup.program.tables s nothing_kept
nothing_fits setup s = record {
  ballot = omega arith;
  log = record { in_range = record { few = omega arith; each = λ k d l. absurd (omega (arith, l)) }; right = refl };
}

pub new_fits : (setup : Setup) → AcceptorFits setup (new_acceptor setup.workers)
new_fits setup = record {
  streams = length-replicate setup.workers nothing_kept;
  promised = omega arith;
  each = λ s is. subst (KeptFits setup.program.tables s) (sym (of_replicate setup.workers (s - 1) nothing_kept)) (nothing_fits setup s);
}

module _ (setup : Setup) (acceptor : Acceptor) (r : Running) (new : IsNew setup r) where
  log_is : (s : ℕ) → log_at r.known s ≡ []
  log_is s = ap (λ family. log_at family s) new.known ∙ of_replicate setup.workers (s - 1) []

  new_running : RunningFits setup acceptor r
  new_running = record {
    known_streams = ap length new.known ∙ length-replicate setup.workers [];
    known = λ s is. subst (IsFront (kept_log acceptor s)) (sym (log_is s)) (record { within = omega arith; is = refl });
    played_streams = ap (λ replica. length replica.played) new.replica ∙ length-replicate (length (replicate setup.workers (let none : List Batch = [] in none))) 0 ∙ length-replicate setup.workers [];
    begins = λ s is. subst (BeginsWithPlayed r.replica s) (sym (log_is s)) (new.begins s is);
    rows = λ h. subst (RowsFit setup.program.tables) (sym (ap (λ (replica : Replaying). replica.rows) new.replica)) h;
  }

  -- a node that has just begun, with any acceptor
  pub new_stands : StandsUp setup acceptor r (away_with setup acceptor Up)
  new_stands = record {
    fits = new_running;
    part = Follows;
    stands = subst (λ p. StandsPart setup p Follows) (sym new.part) refl;
    is = sym same;
  }
    where
      known : map length r.known ≡ nothing_known setup
      known = ap (λ family. map length family) new.known ∙ lengths setup.workers

      same : up_with acceptor r Follows ≡ away_with setup acceptor Up
      same = rw (known, new.replica, new.failed) refl

-- ---- a node ----

away : (setup : Setup) (acceptor : Acceptor) (phase : Phase) (x : Standing) → StandsIn setup acceptor phase x
    → x.node.acceptor ≡ acceptor
away setup acceptor (phase.Up r) x s = subst (λ y. y.node.acceptor ≡ acceptor) (sym s.is) refl
away setup acceptor phase.Down x s = subst (λ y. y.node.acceptor ≡ acceptor) (sym s) refl
away setup acceptor phase.Lost x s = subst (λ y. y.node.acceptor ≡ acceptor) (sym s) refl

pub acceptor_is : (setup : Setup) (a : ℕ) (n : Node) (x : Standing) → Stands setup a n x → x.node.acceptor ≡ n.acceptor
acceptor_is setup a n x s = away setup n.acceptor n.phase x s.phase

-- it crashes
pub crash_stands : (setup : Setup) (a : ℕ) (n : Node) (x : Standing) → Stands setup a n x
    → Stands setup a (record n { phase = phase.Down }) (record { node = crashed setup x.node; failed = None })
crash_stands setup a n x s = record {
  number = s.number;
  first = s.first;
  last = s.last;
  acceptor = s.acceptor;
  phase = ap (λ acceptor. away_with setup acceptor Down) (acceptor_is setup a n x s);
}

-- it is lost
pub lose_stands : (setup : Setup) (a : ℕ) (n : Node) (x : Standing) → Stands setup a n x
    → Stands setup a (record n { phase = phase.Lost }) (record { node = lost setup x.node; failed = None })
lose_stands setup a n x s = record {
  number = s.number;
  first = s.first;
  last = s.last;
  acceptor = s.acceptor;
  phase = ap (λ acceptor. away_with setup acceptor Lost) (acceptor_is setup a n x s);
}

down_is : (setup : Setup) (acceptor : Acceptor) (phase : Phase) (x : Standing) → is_down_in phase ≡ true → StandsIn setup acceptor phase x
    → x ≡ away_with setup acceptor Down
down_is setup acceptor (phase.Up r) x down s = absurd (cc)
down_is setup acceptor phase.Down x down s = s
down_is setup acceptor phase.Lost x down s = absurd (cc)

-- it returns
pub return_stands : (setup : Setup) (a : ℕ) (n : Node) (r : Running) (x : Standing) → is_down_in n.phase ≡ true → IsNew setup r
    → Stands setup a n x → Stands setup a (record n { phase = phase.Up r }) (record { node = returned x.node; failed = None })
return_stands setup a n r x down new s = record {
  number = s.number;
  first = s.first;
  last = s.last;
  acceptor = s.acceptor;
  phase =
      let e = down_is setup n.acceptor n.phase x down s.phase in
      subst (λ y. StandsUp setup n.acceptor r (record { node = returned y.node; failed = None })) (sym e) (new_stands setup n.acceptor r new);
}
