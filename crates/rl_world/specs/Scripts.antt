-- The run of a script: what stays the same in it.
use Rattle.rl_script.specs.declared.script.Script.{Script}
use Rattle.rl_nodes.specs.Openings.{Program}
use Rattle.rl_nodes.specs.Setups.{Setup, new_setup}

-- the tables, the opening rows and the requests of a script
abbrev pub program_of : Script → Program
program_of script = record { tables = script.schema; rows = script.rows; lists = script.lists }

-- its nodes, workers and items a batch, with majorities as quorums of both kinds
abbrev pub setup_of : Script → Setup
setup_of script = new_setup script.nodes script.workers script.batch (program_of script)
