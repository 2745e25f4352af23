use Rattle.std.proofs.Common.{◌≡◌, ◌≤◌, ℕ, zero, suc, [], ◌∷◌, length, take, true, arith}
use Rattle.rl_base.specs.Lists.{IsPrefix}
use Rattle.rl_paxos.specs.Logs.{Log}
use Rattle.rl_election.specs.World.{StreamWorld, stream_of}
use Rattle.rl_election.specs.StreamEvents.{streams_after}
use Rattle.rl_election.specs.Chosen.{is_chosen_len, initial_log}
use Rattle.rl_election.proofs.Leaders.{LeadingOk, leading_of, acknowledged_chosen, less_chosen}
use Rattle.rl_election.proofs.Choices.{take_prefix}
use Rattle.rl_election.proofs.Steps.{some_same}
use Rattle.rl_election.proofs.laws.leading.Goals as goal

short : (n : ℕ) (xs : Log) → length (take n xs) ≤ n
short zero xs = omega arith
short (suc n) [] = omega arith
short (suc n) (x ∷ xs) = let k = short n xs in omega arith

pub returns : goal.returns
returns c = λ g events both.
    let w : StreamWorld = streams_after g events in
    let e = both.epoch in
    let s = both.number in
    let prefix : Log = take both.len both.stream.log in
    let l = both.is_leading in
    let k = both.is_chosen in
    let ok : LeadingOk g w e s (initial_log l.term s) (stream_of l.term s) = leading_of g events e l.term l.term_is s both.in_cluster in
    let ok2 : LeadingOk g w e s (initial_log l.term s) both.stream = rw l.stream_is at ok in
    let has : is_chosen_len g w e s both.len ≡ true = acknowledged_chosen g w e s both.len (initial_log l.term s) both.stream ok2 both.is_acknowledged.quorum_has in
    let one : l.term ≡ k.is_log.term = some_same l.term k.is_log.term (w.terms e) l.term_is k.is_log.term_is in
    let same : (stream_of l.term s).log ≡ k.log = rw (← one) at k.is_log.log_is in
    let same2 : both.stream.log ≡ k.log = rw l.stream_is at same in
    let within : IsPrefix prefix k.log = rw (← same2) (take_prefix both.len both.stream.log) in
    k.longest prefix within (less_chosen g w e s both.len (length prefix) (short both.len both.stream.log) has)
