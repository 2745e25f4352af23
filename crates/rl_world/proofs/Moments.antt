-- How a moment of a run is followed by another, and what the laws of runs say of one.
use Rattle.std.proofs.Common.{◌≡◌, ℕ, List, [], ◌∷◌, ◌++◌, Ok, Err, refl, ap, ◌∙◌}
use Rattle.std.proofs.lemmas.List.Elements.{All-nil, All-cons, All-append}
use Rattle.rl_base.specs.Results.{◌>>=◌}
use Rattle.rl_events.specs.Expanded.{expanded, IsNotRandom}
use Rattle.rl_events.specs.Fits.{EventFits}
use Rattle.rl_events.specs.declared.event.Event.{Event}
use Rattle.rl_events.specs.declared.event.Event.TheVariants as event
use Rattle.rl_nodes.specs.Events.{after_event, after_events, expanded_events, world_after}
use Rattle.rl_nodes.specs.Setups.{Setup, SetupFits}
use Rattle.rl_nodes.specs.World.{World, Ran, new_world}
use Rattle.rl_nodes.proofs.Growing.{runs_go_on}
use Rattle.rl_safe.specs.Runs as runs
use Rattle.rl_world.specs.Moments.{Moment}

-- an event that is not random stands for itself
pub stands_for_itself : (nodes workers : ℕ) (e : Event) → IsNotRandom e → expanded nodes workers e ≡ e ∷ []
stands_for_itself nodes workers (event.Step n s count) h = refl
stands_for_itself nodes workers (event.Flush n s) h = refl
stands_for_itself nodes workers (event.Idle n s) h = refl
stands_for_itself nodes workers (event.Dlv number) h = refl
stands_for_itself nodes workers (event.Discard number) h = refl
stands_for_itself nodes workers event.All h = refl
stands_for_itself nodes workers (event.Elect n) h = refl
stands_for_itself nodes workers (event.Tick n) h = refl
stands_for_itself nodes workers (event.Crash n) h = refl
stands_for_itself nodes workers (event.Back n) h = refl
stands_for_itself nodes workers (event.Lose n) h = refl
stands_for_itself nodes workers (event.Play n s) h = refl
stands_for_itself nodes workers (event.PlayAll n) h = refl
stands_for_itself nodes workers (event.Show n) h = refl
stands_for_itself nodes workers (event.Random seed count) h = absurd h

and_done : (ran : Ran) → (ran >>= λ w. Ok w) ≡ ran
and_done ran = by_ran ran
  where
    by_ran : (ran : Ran) → (ran >>= λ w. Ok w) ≡ ran
    by_ran (Ok w) = refl
    by_ran (Err e) = refl

-- a run that goes on with one event
pub one_more : (setup : Setup) (events : List Event) (e : Event) → IsNotRandom e → (w : World) → world_after setup events ≡ Ok w
    → world_after setup (events ++ e ∷ []) ≡ after_event setup e w
one_more setup events e plain w is =
    runs_go_on setup events (e ∷ [])
    ∙ ap (λ (ran : Ran). ran >>= after_events setup (expanded_events setup (e ∷ []))) is
    ∙ ap (λ es. after_events setup (es ++ []) w) (stands_for_itself setup.nodes setup.workers e plain)
    ∙ and_done (after_event setup e w)

abbrev pub next_moment : (setup : Setup) (m : Moment setup) (e : Event) → EventFits setup.nodes setup.workers e → IsNotRandom e → (w : World)
    → after_event setup e m.world ≡ Ok w → Moment setup
next_moment setup m e fits plain w is = record {
  events = m.events ++ e ∷ [];
  world = w;
  fit = All-append (EventFits setup.nodes setup.workers) m.events (e ∷ []) m.fit
      (All-cons (EventFits setup.nodes setup.workers) e [] fits (All-nil (EventFits setup.nodes setup.workers)));
  ends = one_more setup m.events e plain m.world m.ends ∙ is;
}

-- a run begins with no event
abbrev pub first_moment : (setup : Setup) → Moment setup
first_moment setup = record { events = []; world = new_world setup; fit = All-nil (EventFits setup.nodes setup.workers); ends = refl }

-- a moment as the end of a run
abbrev pub as_run : (setup : Setup) → SetupFits setup → Moment setup → runs.Run
as_run setup sized m = record {
  setup = setup;
  events = m.events;
  world = m.world;
  setup_fits = sized;
  events_fit = m.fit;
  ends = m.ends;
}
