-- A worker makes some steps, one after another.
use Rattle.std.proofs.Common.{◌≡◌, ℕ, suc, ◌+◌, ◌-◌, ◌<◌, ◌≤◌, ◌∷◌, [], ◌++◌, replicate, sum_by, Result, Ok, Err, refl, sym, ap, subst, ◌∙◌, arith}
use Rattle.std.proofs.lemmas.List.Sums.{sum_by_push}
use Rattle.rl_base.specs.Results.{◌>>=◌}
use Rattle.rl_base.specs.declared.limit.TheConstants.{EVENTS}
use Rattle.rl_events.specs.Fits.{EventFits, count_of}
use Rattle.rl_events.specs.declared.event.Event.{Event}
use Rattle.rl_events.specs.declared.event.Event.TheVariants as event
use Rattle.rl_nodes.specs.Events.{for_each, does_up}
use Rattle.rl_nodes.specs.Setups.{Setup}
use Rattle.rl_nodes.specs.Works.{steps}
use Rattle.rl_nodes.specs.World.{World, Ran}
use Rattle.rl_node.specs.Fits.{IsStream}
use Rattle.rl_node.specs.SetupOf.{setup_of}
use Rattle.rl_node.specs.declared.setup.Setup as code
use Rattle.rl_world.specs.Moments.{Moment, HasRoom}
use Rattle.rl_world.specs.Repeating.{IsAmidEach}
use Rattle.rl_world.specs.Standing.{IsNumberOf, IsSafe, StandsRun, TriesRun}
use Rattle.rl_world.specs.declared.run.Run.{Run}
use Rattle.rl_world.specs.declared.world_error.WorldError.{WorldError}
use Rattle.rl_world.proofs.Moments.{next_moment}
use Rattle.rl_world.proofs.Repeating.{each_begins, each_next, each_fails, each_ends}

-- a step of a worker of node a
abbrev pub makes_step : code.Setup → (a s : ℕ) → World → Ran
makes_step setup a s = does_up (setup_of setup) a (λ x. steps (setup_of setup) a x s)

-- some steps of a run are left of all that are due
pub record IsAmidSteps (first r : Run) (a worker count left : ℕ) : Type 0 where
  pub safe : IsSafe r
  pub setup : r.setup ≡ first.setup
  pub room : HasRoom r left
  pub each : (w : World) → StandsRun first w → IsAmidEach r (makes_step first.setup a) (replicate count worker) w (replicate left worker)

pub steps_begin : (r : Run) (a worker count : ℕ) → IsSafe r → HasRoom r count → IsAmidSteps r r a worker count count
steps_begin r a worker count safe room = record {
  safe = safe;
  setup = refl;
  room = room;
  each = λ w st. each_begins r (makes_step r.setup a) (replicate count worker) w st;
}

-- ---- room ----

-- of a moment of a setup that so many more events may follow
record HasRoomIn (setup : code.Setup) (r : Run) (more : ℕ) : Type 0 where
  moment : Moment (setup_of setup)
  stands : StandsRun r moment.world
  room : sum_by count_of moment.events + more ≤ EVENTS

fewer : (sum left : ℕ) → sum + suc left ≤ EVENTS → sum + 1 ≤ EVENTS
fewer sum left room = omega (arith, room)

one_less : (sum more left : ℕ) → more ≡ sum + 1 → sum + suc left ≤ EVENTS → more + left ≤ EVENTS
one_less sum more left e room = omega (arith, e, room)

room_for_one : (r : Run) (left : ℕ) → HasRoom r (suc left) → HasRoom r 1
room_for_one r left room = record { moment = room.moment; stands = room.stands; room = fewer (sum_by count_of room.moment.events) left room.room }

step_fits : (setup : Setup) (a worker : ℕ) → IsNumberOf setup a → IsStream setup worker → EventFits setup.nodes setup.workers (event.Step a worker 1)
step_fits setup a worker is at = ((is.first, is.last), (at.0, at.1), omega arith, omega arith)

-- one step takes up the room of one
room_after : (old new : Run) (a worker left : ℕ) → HasRoom old (suc left) → IsNumberOf (setup_of old.setup) a → IsStream (setup_of old.setup) worker
    → new.setup ≡ old.setup → TriesRun old new (makes_step old.setup a worker) (Ok tt) → HasRoom new left
room_after old new a worker left room is at same runs =
    let setup = setup_of old.setup in
    let m = room.moment in
    let e : Event = event.Step a worker 1 in
    let done = runs m.world room.stands in
    let due : (makes_step old.setup a worker m.world >>= for_each [] (makes_step old.setup a)) ≡ Ok done.world =
    ap (λ (ran : Ran). ran >>= for_each [] (makes_step old.setup a)) done.is in
    let one : sum_by count_of (m.events ++ e ∷ []) ≡ sum_by count_of m.events + 1 = sum_by_push count_of m.events e in
    let next : HasRoomIn old.setup new left = record {
      moment = next_moment setup m e (step_fits setup a worker is at) tt done.world due;
      stands = done.stands;
      room = one_less (sum_by count_of m.events) (sum_by count_of (m.events ++ e ∷ [])) left one room.room;
    } in
    let moved : HasRoomIn new.setup new left = subst (λ s. HasRoomIn s new left) (sym same) next in
    record { moment = moved.moment; stands = moved.stands; room = moved.room }

-- ---- one step, and the end ----

-- one is left, or none
pub one_is_left : (first r : Run) (a worker count i : ℕ) → i < count → IsAmidSteps first r a worker count (count - i)
    → IsAmidSteps first r a worker count (suc (count - (i + 1)))
one_is_left first r a worker count i below amid =
    let next : count - i ≡ suc (count - (i + 1)) = omega (arith, below) in subst (IsAmidSteps first r a worker count) next amid

pub none_is_left : (first r : Run) (a worker count i : ℕ) → count ≤ i → IsAmidSteps first r a worker count (count - i) → IsAmidSteps first r a worker count 0
none_is_left first r a worker count i past amid = let none : count - i ≡ 0 = omega (arith, past) in subst (IsAmidSteps first r a worker count) none amid

module _ (first r : Run) (a worker count left : ℕ) (amid : IsAmidSteps first r a worker count (suc left)) where
  pub number_still : IsNumberOf (setup_of first.setup) a → IsNumberOf (setup_of r.setup) a
  number_still is = subst (λ s. IsNumberOf (setup_of s) a) (sym amid.setup) is

  pub worker_still : IsStream (setup_of first.setup) worker → IsStream (setup_of r.setup) worker
  worker_still at = subst (λ s. IsStream (setup_of s) worker) (sym amid.setup) at

  pub room_still : HasRoom r 1
  room_still = room_for_one r left amid.room

  module _ (new : Run) where
    of_first : (result : Result (Unit {0}) WorldError) → TriesRun r new (makes_step r.setup a worker) result → TriesRun r new (makes_step first.setup a worker) result
    of_first result runs = subst (λ s. TriesRun r new (makes_step s a worker) result) amid.setup runs

    pub steps_next : IsNumberOf (setup_of first.setup) a → IsStream (setup_of first.setup) worker → IsSafe new → new.setup ≡ r.setup
        → TriesRun r new (makes_step r.setup a worker) (Ok tt) → IsAmidSteps first new a worker count left
    steps_next is at safe same runs = record {
      safe = safe;
      setup = same ∙ amid.setup;
      room = room_after r new a worker left amid.room (number_still is) (worker_still at) same runs;
      each = λ w st.
          let before = amid.each w st in
          each_next r (makes_step first.setup a) (replicate count worker) w worker (replicate left worker) before new
          (of_first (Ok tt) runs before.now before.stands);
    }

    pub steps_fail : (error : WorldError) → TriesRun r new (makes_step r.setup a worker) (Err error)
        → TriesRun first new (for_each (replicate count worker) (makes_step first.setup a)) (Err error)
    steps_fail error runs w st =
        let before = amid.each w st in
        each_fails r (makes_step first.setup a) (replicate count worker) w worker (replicate left worker) before error
        (of_first (Err error) runs before.now before.stands)

pub steps_end : (first r : Run) (a worker count : ℕ) → IsAmidSteps first r a worker count 0
    → TriesRun first r (for_each (replicate count worker) (makes_step first.setup a)) (Ok tt)
steps_end first r a worker count amid w st = each_ends r (makes_step first.setup a) (replicate count worker) w (amid.each w st)
