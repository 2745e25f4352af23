-- What is chosen in a run is what is chosen in the streams that go with it.
use Rattle.std.proofs.Common.{◌≡◌, ℕ, List, length, Bool, true, false, ◌&&◌, ◌||◌, ◌==◌, refl, ap, sym, ◌∙◌, inl, inr}
use Rattle.std.specs.List.{list_any}
use Rattle.rl_base.proofs.Members.{In, in_contains, contains_in, any_true, true_any}
use Rattle.rl_paxos.specs.Logs.{Log}
use Rattle.rl_paxos.specs.Quorums.{is_quorum}
use Rattle.rl_election.specs.World.{Cluster, Envelope, StreamWorld}
use Rattle.rl_election.specs.StreamEvents.{streams_after}
use Rattle.rl_election.specs.Chosen.{acks_at_least, has_acked, is_chosen_len, IsChosen, IsLongestChosen}
use Rattle.rl_election.proofs.Longest.{longest_chosen}
use Rattle.rl_election.proofs.Stays.{inv_of}
use Rattle.rl_nodes.specs.Laws.{RunsHaveChosen}
use Rattle.rl_nodes.specs.Setups.{cluster_of, stream_numbers}
use Rattle.rl_nodes.specs.Streams.{stream_world}
use Rattle.rl_nodes.proofs.Deliveries.{in_numbers}
use Rattle.rl_nodes.proofs.Runs.{runs_are_streams}

both_ways : (a b : Bool) → (a ≡ true → b ≡ true) → (b ≡ true → a ≡ true) → a ≡ b
both_ways true b p q = sym (p refl)
both_ways false true p q = q refl
both_ways false false p q = refl

-- a test passes for some of both lists
any_of_both : {A : Type 0} (f : A → Bool) (xs ys : List A) → ((x : A) → In x xs → In x ys) → list_any f xs ≡ true → list_any f ys ≡ true
any_of_both f xs ys to h = let k = true_any f xs h in any_true f ys k.0 (to k.0 k.1) k.2

-- worlds of streams with the same terms and the same messages
module _ (g : Cluster) (w v : StreamWorld) (terms : w.terms ≡ v.terms) (to : (n : Envelope) → In n w.sent → In n v.sent) (back : (n : Envelope) → In n v.sent → In n w.sent) where
  acked_same : (e s len a : ℕ) → has_acked w.sent e s len a ≡ has_acked v.sent e s len a
  acked_same e s len a =
      let f : Envelope → Bool = λ m. (m.from == a) && acks_at_least e s len m.message in
      both_ways (list_any f w.sent) (list_any f v.sent) (any_of_both f w.sent v.sent to) (any_of_both f v.sent w.sent back)

  len_same : (e s len : ℕ) → is_chosen_len g w e s len ≡ is_chosen_len g v e s len
  len_same e s len = λ i. (len == 0) || is_quorum g.second_quorum g.nodes (λ a. acked_same e s len a i)

  chosen_same : (e s : ℕ) (chosen : Log) → IsChosen g w e s chosen → IsChosen g v e s chosen
  chosen_same e s chosen k = record {
    log = k.log;
    is_log = record { term = k.is_log.term; term_is = sym (ap (λ t. t e) terms) ∙ k.is_log.term_is; log_is = k.is_log.log_is };
    within = k.within;
    acked = sym (len_same e s (length chosen)) ∙ k.acked;
    longest = λ longer prefix acked. k.longest longer prefix (len_same e s (length longer) ∙ acked);
  }

longest_same : (g : Cluster) (w v : StreamWorld) → w.terms ≡ v.terms → ((n : Envelope) → In n w.sent → In n v.sent) → ((n : Envelope) → In n v.sent → In n w.sent)
    → (s : ℕ) (longest : Log) → IsLongestChosen g w s longest → IsLongestChosen g v s longest
longest_same g w v terms to back s longest k = record {
  from = elim k.from [ inl e ↦ inl e | inr c ↦ inr (c.0, chosen_same g w v terms to back c.0 s longest c.1) ];
  above = λ e chosen c. k.above e chosen (chosen_same g v w (sym terms) back to e s chosen c);
}

pub runs_have_chosen : RunsHaveChosen
runs_have_chosen setup events w sized fits is s there =
    let run = runs_are_streams setup events w sized fits is in
    let g : Cluster = cluster_of setup in
    let sw : StreamWorld = streams_after g run.0 in
    let same = run.1 in
    let some = longest_chosen g sized.intersect sw (inv_of g run.0) s (in_numbers setup.workers s (contains_in (stream_numbers setup) s there)) in (
      some.0,
      longest_same g sw (stream_world setup w) same.terms
          (λ n i. contains_in _ n ((same.sent n).0 (in_contains _ n i))) (λ n i. contains_in _ n ((same.sent n).1 (in_contains _ n i))) s some.0 some.1,
    )
