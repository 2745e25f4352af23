-- The replica of a node of a run plays.
use Rattle.std.proofs.Common.{◌≡◌, ℕ, suc, ◌+◌, ◌-◌, ◌<◌, List, ◌∷◌, Result, Ok, Err, sym, subst, arith}
use Rattle.std.specs.List.{range_with_len}
use Rattle.std.specs.Result.{IsErrAnd}
use Rattle.rl_nodes.specs.Events.{for_each, changes_up}
use Rattle.rl_nodes.specs.Nodes.{NodeState}
use Rattle.rl_nodes.specs.Setups.{Setup, stream_numbers}
use Rattle.rl_nodes.specs.Views.{plays}
use Rattle.rl_nodes.specs.World.{World, Ran}
use Rattle.rl_node.specs.Playing.{HasPlayed}
use Rattle.rl_node.specs.SetupOf.{setup_of}
use Rattle.rl_node.specs.Standing.{Stands}
use Rattle.rl_node.specs.declared.node.Node.{Node}
use Rattle.rl_world.specs.Repeating.{IsAmidEach}
use Rattle.rl_world.specs.Standing.{answers, StandsRun, HasRun, Tries, TriesRun}
use Rattle.rl_world.specs.Worlds.{IsCause}
use Rattle.rl_world.specs.declared.run.Run.{Run}
use Rattle.rl_world.specs.declared.world_error.WorldError.{WorldError}
use Rattle.rl_world.proofs.Repeating.{each_begins, each_next, each_fails, each_ends, numbers_left}

-- a refusal that is a known one
pub refused : (new : Run) (due : Ran) (error : WorldError) (result : Result (Unit {0}) WorldError) → IsErrAnd result (λ e. e ≡ error) → IsCause due error
    → Tries new due result
refused new due error (Ok done) is why = absurd is
refused new due error (Err e) is why = subst (IsCause due) (sym is) why

-- a node that has played a stream
pub played_node : (setup : Setup) (a : ℕ) (n : Node) (x : NodeState) (s count : ℕ) → HasPlayed setup a n (answers x) s count
    → Stands setup a n (answers (plays setup x s))
played_node setup a n x s count h =
    let new : h.new ≡ answers (plays setup x s) = λ i. record { node = h.done.node i; failed = h.done.can i } in
    subst (Stands setup a n) new h.stands

-- ---- one stream after another ----

-- what is done of a stream
abbrev pub plays_at : Setup → (a s : ℕ) → World → Ran
plays_at setup a s = changes_up setup a (λ x. plays setup x s)

-- so many streams were played, and the rest leads to the same
abbrev pub HasPlayedSome : Setup → (a : ℕ) → Run → (first : World) → (before : ℕ) → Type 0
HasPlayedSome setup a r first before =
    IsAmidEach r (plays_at setup a) (stream_numbers setup) first (range_with_len (suc before) (setup.workers - before))

pub playing_begins : (setup : Setup) (a : ℕ) (r : Run) (first : World) → StandsRun r first → HasPlayedSome setup a r first 0
playing_begins setup a r first st =
    let all : setup.workers ≡ setup.workers - 0 = omega arith in
    subst (λ n. IsAmidEach r (plays_at setup a) (stream_numbers setup) first (range_with_len 1 n)) all
    (each_begins r (plays_at setup a) (stream_numbers setup) first st)

pub playing_ends : (setup : Setup) (a : ℕ) (r : Run) (first : World) (before : ℕ) → setup.workers - before ≡ 0 → HasPlayedSome setup a r first before
    → HasRun r (for_each (stream_numbers setup) (plays_at setup a) first)
playing_ends setup a r first before none amid =
    each_ends r (plays_at setup a) (stream_numbers setup) first
    (subst (λ n. IsAmidEach r (plays_at setup a) (stream_numbers setup) first (range_with_len (suc before) n)) none amid)

-- what a call did, where the setup is another's
tries_at : (setup : Setup) (r new : Run) (a s : ℕ) (result : Result (Unit {0}) WorldError) → setup_of r.setup ≡ setup
    → TriesRun r new (plays_at (setup_of r.setup) a s) result → TriesRun r new (plays_at setup a s) result
tries_at setup r new a s result same h = subst (λ k. TriesRun r new (plays_at k a s) result) same h

module _ (setup : Setup) (a : ℕ) (r new : Run) (first : World) (before : ℕ) (same : setup_of r.setup ≡ setup) (below : before < setup.workers)
    (amid : HasPlayedSome setup a r first before) where
  abbrev rest : List ℕ
  rest = range_with_len (suc (suc before)) (setup.workers - suc before)

  next : IsAmidEach r (plays_at setup a) (stream_numbers setup) first (suc before ∷ rest)
  next =
      subst (IsAmidEach r (plays_at setup a) (stream_numbers setup) first) (numbers_left (suc before) setup.workers before below) amid

  number : before + 1 ≡ suc before
  number = omega arith

  -- one more is played
  pub played_next : (done : Unit {0}) → TriesRun r new (plays_at (setup_of r.setup) a (before + 1)) (Ok done) → HasPlayedSome setup a new first (before + 1)
  played_next done h =
      let one : HasRun new (plays_at setup a (suc before) next.now) =
      subst (λ s. HasRun new (plays_at setup a s next.now)) number (tries_at setup r new a (before + 1) (Ok done) same h next.now next.stands) in
      subst (HasPlayedSome setup a new first) (sym number)
      (each_next r (plays_at setup a) (stream_numbers setup) first (suc before) rest next new one)

  -- or it was refused
  pub played_fails : (error : WorldError) → TriesRun r new (plays_at (setup_of r.setup) a (before + 1)) (Err error)
      → IsCause (for_each (stream_numbers setup) (plays_at setup a) first) error
  played_fails error h =
      each_fails r (plays_at setup a) (stream_numbers setup) first (suc before) rest next error
      (subst (λ s. IsCause (plays_at setup a s next.now) error) number (tries_at setup r new a (before + 1) (Err error) same h next.now next.stands))
