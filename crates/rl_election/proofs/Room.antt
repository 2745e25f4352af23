-- A candidate has room for each node's promise.
use Rattle.std.proofs.Common.{◌≡◌, ℕ, ◌<◌, ◌≤◌, ◌^◌, List, [], ◌∷◌, ◌++◌, length, true, ◌&&◌, not, arith}
use Rattle.std.proofs.lemmas.Bool.{and_parts, not-true}
use Rattle.std.proofs.lemmas.List.Elements.{All-nil, All-push}
use Rattle.rl_paxos.specs.Quorums.{is_node}
use Rattle.rl_paxos.specs.Recovery.{Promise, HasStreams, has_promised}
use Rattle.rl_paxos.proofs.Counting.{none, once_below, counted_once}
use Rattle.rl_election.specs.CandidateFits.{CandidateFits}

pub empty_fits : (nodes streams need room : ℕ) → 1 ≤ need → need ≤ nodes → nodes < 2 ^ 32 → nodes ≤ room → CandidateFits nodes streams need room []
empty_fits nodes streams need room some within short wide = record { some = some; within = within; short = short; room_for_all = wide; once = none nodes; whole = All-nil (HasStreams streams) }

-- a promise that counts finds room
pub has_room : (nodes streams need room x : ℕ) (ps : List Promise) → CandidateFits nodes streams need room ps → (is_node nodes x && not (has_promised ps x)) ≡ true → length ps < room
has_room nodes streams need room x ps f h =
    let k = and_parts (is_node nodes x) (not (has_promised ps x)) h in
    omega (arith, once_below nodes ps x f.once k.0 (not-true (has_promised ps x) k.1), f.room_for_all)

pub more_fits : (nodes streams need room wider : ℕ) (ps : List Promise) (p : Promise) → CandidateFits nodes streams need room ps → (is_node nodes p.node && not (has_promised ps p.node)) ≡ true → HasStreams streams p → room ≤ wider → CandidateFits nodes streams need wider (ps ++ p ∷ [])
more_fits nodes streams need room wider ps p f h of up =
    let k = and_parts (is_node nodes p.node) (not (has_promised ps p.node)) h in
    record {
      some = f.some;
      within = f.within;
      short = f.short;
      room_for_all = omega (arith, f.room_for_all, up);
      once = counted_once nodes ps p f.once k.0 (not-true (has_promised ps p.node) k.1);
      whole = All-push (HasStreams streams) ps p f.whole of;
    }
