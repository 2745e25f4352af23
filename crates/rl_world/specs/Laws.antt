-- What is true of the run of each script.
use Rattle.std.specs.Prelude.{◌≡◌, List}
use Rattle.rl_script.specs.Fits.{ScriptFits}
use Rattle.rl_script.specs.declared.script.Script.{Script}
use Rattle.rl_events.specs.declared.event.Event.{Event}
use Rattle.rl_nodes.specs.Events.{world_after, expanded_events}
use Rattle.rl_nodes.specs.Setups.{Setup, SetupFits}
use Rattle.rl_world.specs.Scripts.{setup_of}

-- a script that keeps the ranges and limits of the language makes a setup that keeps those of a run
abbrev pub ScriptsMakeSetups : Type 0
ScriptsMakeSetups = (script : Script) → ScriptFits script → SetupFits (setup_of script)

-- events where each random one is written out make the world that the events themselves make
abbrev pub ExpandedRunsAreRuns : Type 0
ExpandedRunsAreRuns = (setup : Setup) (events : List Event) → world_after setup (expanded_events setup events) ≡ world_after setup events
