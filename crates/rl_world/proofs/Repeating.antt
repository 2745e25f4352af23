-- Something is done for each of some numbers, one after another.
use Rattle.std.proofs.Common.{◌≡◌, ℕ, suc, ◌-◌, ◌<◌, List, [], ◌∷◌, replicate, refl, ap, ◌∙◌, arith}
use Rattle.std.specs.List.{range_with_len}
use Rattle.rl_base.specs.Results.{◌>>=◌}
use Rattle.rl_nodes.specs.Events.{for_each}
use Rattle.rl_nodes.specs.World.{World, Ran}
use Rattle.rl_world.specs.Repeating.{IsAmidEach}
use Rattle.rl_world.specs.Standing.{StandsRun, HasRun}
use Rattle.rl_world.specs.Worlds.{IsCause}
use Rattle.rl_world.specs.declared.run.Run.{Run}
use Rattle.rl_world.specs.declared.world_error.WorldError.{WorldError}
use Rattle.rl_world.specs.declared.world_error.WorldError.TheVariants.{Limit, Memory}

pub each_begins : (r : Run) (does : ℕ → World → Ran) (all : List ℕ) (first : World) → StandsRun r first → IsAmidEach r does all first all
each_begins r does all first st = record { now = first; stands = st; same = refl }

module _ (r : Run) (does : ℕ → World → Ran) (all : List ℕ) (first : World) (k : ℕ) (left : List ℕ) (amid : IsAmidEach r does all first (k ∷ left)) where
  -- one more is done
  pub each_next : (new : Run) → HasRun new (does k amid.now) → IsAmidEach new does all first left
  each_next new done = record {
    now = done.world;
    stands = done.stands;
    same = amid.same ∙ ap (λ (ran : Ran). ran >>= for_each left does) done.is;
  }

  -- or was refused
  pub each_fails : (error : WorldError) → IsCause (does k amid.now) error → IsCause (for_each all does first) error
  each_fails (Limit name limit) why = (amid.same ∙ ap (λ (ran : Ran). ran >>= for_each left does) why.0, why.1)
  each_fails Memory why = tt

-- all are done
pub each_ends : (r : Run) (does : ℕ → World → Ran) (all : List ℕ) (first : World) → IsAmidEach r does all first [] → HasRun r (for_each all does first)
each_ends r does all first amid = record { world = amid.now; is = amid.same; stands = amid.stands }

-- ---- what is left ----

pub copies_left : (count i s : ℕ) → i < count → replicate (count - i) s ≡ s ∷ replicate (count - suc i) s
copies_left count i s below = ap (λ n. replicate n s) (one_less count i below)
  where
    one_less : (count i : ℕ) → i < count → count - i ≡ suc (count - suc i)
    one_less count i below = omega (arith, below)

pub no_copies : (count i s : ℕ) → count - i ≡ 0 → replicate (count - i) s ≡ []
no_copies count i s e = ap (λ n. replicate n s) e

pub numbers_left : (a n i : ℕ) → i < n → range_with_len a (n - i) ≡ a ∷ range_with_len (suc a) (n - suc i)
numbers_left a n i below = ap (range_with_len a) (one_less n i below) ∙ ap (λ b. a ∷ range_with_len b (n - suc i)) (omega arith)
  where
    one_less : (n i : ℕ) → i < n → n - i ≡ suc (n - suc i)
    one_less n i below = omega (arith, below)
