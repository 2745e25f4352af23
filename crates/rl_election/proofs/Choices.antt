-- Some prefix of a log is what is chosen.
use Rattle.std.proofs.Common.{◌≡◌, ℕ, zero, suc, ◌<◌, ◌≤◌, [], ◌∷◌, length, take, Bool, true, false, refl, sym, ◌∙◌, ap, arith, inl, inr}
use Rattle.std.proofs.lemmas.Bool.{cases_lt, cases_eq, true≢false}
use Rattle.rl_base.specs.Lists.{IsPrefix}
use Rattle.rl_paxos.specs.Logs.{Log}
use Rattle.rl_election.specs.World.{Cluster, StreamWorld}
use Rattle.rl_election.specs.Chosen.{IsLeaderLog, IsChosen, is_chosen_len}
use Rattle.rl_base.proofs.Prefixes.{prefix_both, prefix_length}

pub take_prefix : (n : ℕ) (xs : Log) → IsPrefix (take n xs) xs
take_prefix zero xs = (xs, refl)
take_prefix (suc n) [] = ([], refl)
take_prefix (suc n) (x ∷ xs) = let k = take_prefix n xs in (k.0, ap (λ z. x ∷ z) k.1)

pub take_length : (n : ℕ) (xs : Log) → n ≤ length xs → length (take n xs) ≡ n
take_length zero xs h = refl
take_length (suc n) [] h = absurd (omega arith)
take_length (suc n) (x ∷ xs) h = let k = take_length n xs (omega arith) in omega arith

module _ (g : Cluster) (w : StreamWorld) (e s : ℕ) (log : Log) (is : IsLeaderLog w e s log) where
  chosen_at : (n : ℕ) → n ≤ length log → is_chosen_len g w e s n ≡ true → ((m : ℕ) → n < m → m ≤ length log → is_chosen_len g w e s m ≡ false) → (chosen : Log) × IsChosen g w e s chosen
  chosen_at n short yes_at above =
      let size : length (take n log) ≡ n = take_length n log short in (
        take n log,
        record {
          log = log;
          is_log = is;
          within = take_prefix n log;
          acked = rw size yes_at;
          longest = λ longer p h. elim (cases_lt n (length longer)) [
            | inl l ↦ absurd (true≢false (sym h ∙ above (length longer) l (prefix_length longer log p)))
            | inr l ↦ prefix_both longer (take n log) log p (take_prefix n log) (omega (arith, size, l))
          ];
        },
      )

  -- downwards from the whole log
  down : (n : ℕ) → n ≤ length log → ((m : ℕ) → n < m → m ≤ length log → is_chosen_len g w e s m ≡ false) → (chosen : Log) × IsChosen g w e s chosen
  down zero short above = chosen_at 0 short refl above
  down (suc n) short above = test (is_chosen_len g w e s (suc n)) refl (down n (omega arith))
    where
      test : (b : Bool) → is_chosen_len g w e s (suc n) ≡ b → (((m : ℕ) → n < m → m ≤ length log → is_chosen_len g w e s m ≡ false) → (chosen : Log) × IsChosen g w e s chosen) → (chosen : Log) × IsChosen g w e s chosen
      test true t lower = chosen_at (suc n) short t above
      test false t lower = lower (λ m l u. elim (cases_eq m (suc n)) [ inl q ↦ rw q t | inr q ↦ above m (omega (arith, l, q)) u ])

  pub some_choice : (chosen : Log) × IsChosen g w e s chosen
  some_choice = down (length log) (omega arith) (λ m l u. absurd (omega arith))
