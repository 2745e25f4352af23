-- The core that the steps of a script make.
use Rattle.std.specs.Prelude.{List, [], replicate, ◌==◌, if◌then◌else◌}
use Rattle.std.specs.List.{flat_map}
use Rattle.rl_value.specs.Tables.{record_count}
use Rattle.rl_events.specs.declared.event.Event.{Event}
use Rattle.rl_events.specs.declared.event.Event.TheVariants as event
use Rattle.rl_script.specs.declared.script.Script.{Script}
use Rattle.rl_worker.specs.Acts.{Core, Turn, Step}
use Rattle.rl_worker.specs.Opening.{OpenLeader, core_after}

-- the steps of the first node's workers that an event is
abbrev pub turns_in : Event → List Turn
turns_in (event.Step node worker count) = if node == 1 then replicate count (Step worker) else []
turns_in e = []

-- the steps that some events are
abbrev pub turns_of : List Event → List Turn
turns_of events = flat_map turns_in events

-- the leader of epoch 1 that opens with a script's tables, lists and rows, each worker before its first request
abbrev pub leader_of : Script → OpenLeader
leader_of script = record {
  tables = script.schema;
  lists = script.lists;
  rows = script.rows;
  stamps = replicate (record_count script.schema) 0;
  epoch = 1;
  firsts = replicate script.workers 1;
}

-- the core after the steps of a script
abbrev pub core_of : Script → Core
core_of script = core_after (leader_of script) (turns_of script.events)
