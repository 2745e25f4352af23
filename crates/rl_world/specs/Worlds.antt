-- A world in code: of which setup it is, which events it took, and what it says of the world that these make.
use Rattle.std.specs.Prelude.{◌≡◌, ℕ, ◌+◌, List, ◌++◌, ◌∷◌, [], Option, Some, None, MatchOption, Ok, Err}
use Rattle.rl_base.specs.declared.limit.LimitName.{LimitName}
use Rattle.rl_base.specs.declared.limit.LimitName.TheVariants.{Slots}
use Rattle.rl_base.specs.declared.limit.TheConstants.{SLOTS, BYTES}
use Rattle.rl_events.specs.Fits.{count_of}
use Rattle.rl_events.specs.declared.event.Event.{Event}
use Rattle.rl_nodes.specs.Events.{world_after}
use Rattle.rl_nodes.specs.World.{World, Ran}
use Rattle.rl_node.specs.SetupOf.{setup_of}
use Rattle.rl_node.specs.declared.setup.Setup.{Setup}
use Rattle.rl_script.specs.declared.script.Script.{Script}
use Rattle.rl_world.specs.Scripts as scripts
use Rattle.rl_world.specs.declared.world_error.WorldError.{WorldError}
use Rattle.rl_world.specs.declared.world_error.WorldError.TheVariants.{Limit, Memory}

-- a world: its setup, the events that it took, how many it was given as they count, and the refusal that it repeats
pub record Taken : Type 0 where
  pub setup : Setup
  pub events : List Event
  pub counted : ℕ
  pub failed : Option WorldError

-- a world of a script's setup that took no event
pub record IsNew (script : Script) (x : Taken) : Type 0 where
  pub setup : setup_of x.setup ≡ scripts.setup_of script
  pub events : x.events ≡ []
  pub counted : x.counted ≡ 0
  pub failed : x.failed ≡ None

-- what its events and one more lead to
abbrev pub with_event : Taken → Event → Ran
with_event x e = world_after (setup_of x.setup) (x.events ++ e ∷ [])

-- the world that its events make, of which something is true
pub record Makes (x : Taken) (P : World → Type 0) : Type 0 where
  pub world : World
  pub is : world_after (setup_of x.setup) x.events ≡ Ok world
  pub holds : P world

-- as long as it refused no event, it stands for the world that its events make
abbrev pub StandsFor : Taken → (World → Type 0) → Type 0
StandsFor x P = x.failed ≡ None → Makes x P

-- ---- an event ----

-- it has taken an event, which it could, and which passes no limit
pub record TakesEvent (old new : Taken) (e : Event) : Type 0 where
  pub could : old.failed ≡ None
  pub world : World
  pub within : with_event old e ≡ Ok world
  pub now : new ≡ record { setup = old.setup; events = old.events ++ e ∷ []; counted = old.counted + count_of e; failed = None }

-- how much there may be of what passes a limit in a run
abbrev pub limit_of : LimitName → ℕ
limit_of Slots = SLOTS
limit_of other = BYTES

-- why it refuses an event, where it has refused none before: what its events and this one lead to passes a limit, or memory ran out
abbrev pub IsCause : (due : Ran) → WorldError → Type 0
IsCause due (Limit name limit) = (due ≡ Err name) × (limit ≡ limit_of name)
IsCause due Memory = Unit {0}

-- it refuses an event, with the answer that it repeats from then on
pub record RefusesEvent (old new : Taken) (e : Event) (error : WorldError) : Type 0 where
  pub why : MatchOption old.failed (IsCause (with_event old e) error) (λ f. error ≡ f)
  pub now : new ≡ record { setup = old.setup; events = old.events; counted = old.counted + count_of e; failed = Some error }
