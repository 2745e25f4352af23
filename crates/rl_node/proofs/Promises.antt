-- A node's own ballots and logs are in range.
use Rattle.std.proofs.Common.{◌≡◌, ℕ, zero, suc, ◌+◌, ◌-◌, ◌^◌, ◌<◌, ◌≤◌, List, [], ◌∷◌, length, map, get_or, refl, sym, ◌∙◌, subst, arith}
use Rattle.std.proofs.lemmas.List.{length-map}
use Rattle.rl_msg.specs.Ranges.{StreamsInRange, LogInRange}
use Rattle.rl_paxos.specs.Acceptors.{Kept, Acceptor, nothing_kept}
use Rattle.rl_nodes.specs.Setups.{Setup, SetupFits}
use Rattle.rl_node.specs.Fits.{AcceptorFits}
use Rattle.rl_node.proofs.Shown.{get_or_map}

default_is : {X : Type 0} (xs : List X) (i : ℕ) (d e : X) → i < length xs → get_or xs i d ≡ get_or xs i e
default_is [] i d e l = absurd (omega arith)
default_is (x ∷ xs) zero d e l = refl
default_is (x ∷ xs) (suc i) d e l = default_is xs i d e (omega arith)

pub streams_in_range : (setup : Setup) → SetupFits setup → (x : Acceptor) → AcceptorFits setup x
    → StreamsInRange (map (λ (k : Kept). k.ballot) x.streams) (map (λ (k : Kept). k.log) x.streams)
streams_in_range setup fits x f =
    let ballots = length-map x.streams (λ (k : Kept). k.ballot) in
    let logs = length-map x.streams (λ (k : Kept). k.log) in
    record {
      some = omega (arith, ballots, f.streams, fits.some_workers);
      few = omega (arith, ballots, f.streams, fits.few_workers);
      as_many = logs ∙ sym ballots;
      each_ballot = λ i d l.
          let l2 : i < length x.streams = omega (arith, l, ballots) in
          subst (λ b. b ≤ 2 ^ 20 - 1) (sym (default_is (map (λ (k : Kept). k.ballot) x.streams) i d 0 l ∙ get_or_map (λ (k : Kept). k.ballot) x.streams i nothing_kept))
          (subst (λ j. (get_or x.streams j nothing_kept).ballot ≤ 2 ^ 20 - 1) (place i) (f.each (i + 1) (omega arith, omega (arith, l2, f.streams))).ballot);
      each_log = λ i d l.
          let l2 : i < length x.streams = omega (arith, l, logs) in
          subst LogInRange (sym (default_is (map (λ (k : Kept). k.log) x.streams) i d [] l ∙ get_or_map (λ (k : Kept). k.log) x.streams i nothing_kept))
          (subst (λ j. LogInRange (get_or x.streams j nothing_kept).log) (place i) (f.each (i + 1) (omega arith, omega (arith, l2, f.streams))).log.in_range);
    }
  where
    place : (i : ℕ) → i + 1 - 1 ≡ i
    place i = omega arith
