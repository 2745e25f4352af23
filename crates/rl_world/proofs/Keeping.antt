-- What a world keeps as events happen, and what it says of the world that they make.
use Rattle.std.proofs.Common.{◌≡◌, ℕ, ◌+◌, ◌≤◌, List, [], ◌∷◌, ◌++◌, sum_by, Option, Some, None, Ok, sym, ap, subst, ◌∙◌}
use Rattle.std.specs.Prelude.{MatchOption}
use Rattle.rl_base.specs.declared.limit.TheConstants.{EVENTS}
use Rattle.rl_events.specs.Expanded.{IsNotRandom}
use Rattle.rl_events.specs.Fits.{count_of}
use Rattle.rl_events.specs.declared.event.Event.{Event}
use Rattle.rl_nodes.specs.Events.{after_event, world_after}
use Rattle.rl_nodes.specs.World.{World, Ran}
use Rattle.rl_node.specs.SetupOf.{setup_of}
use Rattle.rl_node.specs.declared.setup.Setup as code
use Rattle.rl_world.specs.Kept.{EventsFitRun, IsAfter, IsKept}
use Rattle.rl_world.specs.Moments.{Moment, HasRoom}
use Rattle.rl_world.specs.Standing.{StandsRun, HasRun}
use Rattle.rl_world.specs.Worlds.{Taken, StandsFor, IsCause, with_event, RefusesEvent}
use Rattle.rl_world.specs.declared.run.Run.{Run}
use Rattle.rl_world.specs.declared.world.World.TheInside.{Inside}
use Rattle.rl_world.specs.declared.world_error.WorldError.{WorldError}
use Rattle.rl_world.proofs.Moments.{one_more}

-- ---- one more event ----

module _ (r : Run) (events : List Event) (fit : EventsFitRun r events) (after : IsAfter r events) where
  -- the moment at which it happens
  abbrev pub moment_of : Moment (setup_of r.setup)
  moment_of = record { events = events; world = after.world; fit = fit; ends = after.is }

  pub room_for : (more : ℕ) → sum_by count_of events + more ≤ EVENTS → HasRoom r more
  room_for more room = record { moment = moment_of; stands = after.stands; room = room }

  module _ (e : Event) (plain : IsNotRandom e) where
    -- what it and all before it lead to
    leads_to : world_after (setup_of r.setup) (events ++ e ∷ []) ≡ after_event (setup_of r.setup) e after.world
    leads_to = one_more (setup_of r.setup) events e plain after.world after.is

    pub happened : (new : Run) → new.setup ≡ r.setup → HasRun new (after_event (setup_of r.setup) e after.world) → IsAfter new (events ++ e ∷ [])
    happened new same done = record {
      world = done.world;
      is = ap (λ (x : code.Setup). world_after (setup_of x) (events ++ e ∷ [])) same ∙ leads_to ∙ done.is;
      stands = done.stands;
    }

    pub refused : (error : WorldError) → IsCause (after_event (setup_of r.setup) e after.world) error
        → IsCause (world_after (setup_of r.setup) (events ++ e ∷ [])) error
    refused error why = subst (λ (ran : Ran). IsCause ran error) (sym leads_to) why

-- ---- as contracts see it ----

abbrev pub taken_in : Inside → Taken
taken_in w = record { setup = w.run.setup; events = w.events; counted = w.counted; failed = w.failed }

-- what is true of each world that its run stands for is true of the world that its events make
pub says : (w : Inside) → IsKept w → (P : World → Type 0) → ((x : World) → world_after (setup_of w.run.setup) w.events ≡ Ok x → StandsRun w.run x → P x)
    → StandsFor (taken_in w) P
says w kept P holds none =
    let after = kept.after none in
    record { world = after.world; is = after.is; holds = holds after.world after.is after.stands }

-- it refuses an event
pub refuses : (w : Inside) (e : Event) (count : ℕ) → count ≡ count_of e → w.failed ≡ None → (run : Run) (events : List Event) → run.setup ≡ w.run.setup
    → events ≡ w.events → (error : WorldError) → IsCause (world_after (setup_of w.run.setup) (w.events ++ e ∷ [])) error
    → RefusesEvent (taken_in w) (taken_in (record { run = run; events = events; counted = w.counted + count; failed = Some error })) e error
refuses w e count is_count could run events same still error cause = record {
  why = subst (λ (f : Option WorldError). MatchOption f (IsCause (with_event (taken_in w) e) error) (λ x. error ≡ x)) (sym could) cause;
  now = ap (λ (s : code.Setup). record { setup = s; events = events; counted = w.counted + count; failed = Some error }) same
      ∙ ap (λ (es : List Event). record { setup = w.run.setup; events = es; counted = w.counted + count; failed = Some error }) still
      ∙ ap (λ (n : ℕ). record { setup = w.run.setup; events = w.events; counted = w.counted + n; failed = Some error }) is_count;
}
