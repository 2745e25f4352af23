-- A replica follows a family as it plays, and as the family grows.
use Rattle.std.proofs.Common.{◌≡◌, ◌≢◌, ℕ, zero, suc, ◌-◌, ◌≤◌, List, [], ◌∷◌, ◌++◌, length, take, get_or, refl, sym, ap, ◌∙◌, subst, arith, inl, inr}
use Rattle.std.specs.Prelude.{slice_set}
use Rattle.std.proofs.lemmas.Bool.Decides.{eqb_tells}
use Rattle.std.proofs.lemmas.List.{length-set, get_or-set_same, get_or-set_other}
use Rattle.rl_base.specs.Lists.{IsPrefix}
use Rattle.rl_txn.specs.declared.batch.Batch.{Batch}
use Rattle.rl_families.specs.Streams.{log_at}
use Rattle.rl_replay.specs.Standing.{StandingReplica, BeginsWithPlayed}
use Rattle.rl_replay.specs.Laws.{LongerLogsBegin}
use Rattle.rl_families_tests.specs.Follows.{Follows}

pub follows_on : (known : ℕ) (r s : StandingReplica) (family : List (List Batch)) (stream : ℕ) → Follows known r family → length s.replaying.played ≡ length r.replaying.played → BeginsWithPlayed s stream (take known (log_at family stream))
    → ((t : ℕ) (other : List Batch) → t ≢ stream → 1 ≤ t → BeginsWithPlayed r t other → BeginsWithPlayed s t other) → Follows known s family
follows_on known r s family stream f l here others = record {
  streams = l ∙ f.streams;
  begins = λ t a b. elim (eqb_tells t stream) [
    | inl e ↦ subst (λ n. BeginsWithPlayed s n (take known (log_at family n))) (sym e.1) here
    | inr n ↦ others t (take known (log_at family t)) n.1 a (f.begins t a b)
  ];
}

prefix_take : (n : ℕ) (xs ys : List Batch) → IsPrefix (take n xs) (take n (xs ++ ys))
prefix_take zero xs ys = ([], refl)
prefix_take (suc n) [] ys = (take (suc n) ys, refl)
prefix_take (suc n) (x ∷ xs) ys = let k = prefix_take n xs ys in (k.0, ap (λ zs. x ∷ zs) k.1)

pub follows_grown : (known : ℕ) (r : StandingReplica) (family : List (List Batch)) (stream : ℕ) (b : Batch) → LongerLogsBegin → 1 ≤ stream → stream ≤ length family → Follows known r family → Follows known r (slice_set family (stream - 1) (log_at family stream ++ b ∷ []))
follows_grown known r family stream b law low high f = record {
  streams = f.streams ∙ sym (length-set family (stream - 1) (log_at family stream ++ b ∷ []));
  begins = λ t a c. elim (eqb_tells t stream) [
    | inl e ↦ subst (λ n. BeginsWithPlayed r n (take known (log_at (slice_set family (stream - 1) (log_at family stream ++ b ∷ [])) n))) (sym e.1) here
    | inr n ↦ subst (λ z. BeginsWithPlayed r t (take known z)) (sym (get_or-set_other family (stream - 1) (t - 1) (log_at family stream ++ b ∷ []) [] (λ q. n.1 (omega (arith, q)))))
        (f.begins t a (subst (λ n. t ≤ n) (length-set family (stream - 1) (log_at family stream ++ b ∷ [])) c))
  ];
}
  where
    here : BeginsWithPlayed r stream (take known (log_at (slice_set family (stream - 1) (log_at family stream ++ b ∷ [])) stream))
    here = subst (λ z. BeginsWithPlayed r stream (take known z)) (sym (get_or-set_same family (stream - 1) (log_at family stream ++ b ∷ []) [] (omega arith)))
        (law r stream (take known (log_at family stream)) (take known (log_at family stream ++ b ∷ [])) (prefix_take known (log_at family stream) (b ∷ [])) (f.begins stream low high))
