-- What a setup in code stands for.
use Rattle.rl_nodes.specs.Openings.{Program, work_of}
use Rattle.rl_nodes.specs.Setups.{Setup}
use Rattle.rl_node.specs.declared.setup.Setup as code

-- the tables, the opening rows and the requests
abbrev pub program_of : code.Setup → Program
program_of s = record { tables = s.schema; rows = s.opening; lists = s.lists }

-- and all else of a run
abbrev pub setup_of : code.Setup → Setup
setup_of s = record {
  nodes = s.nodes;
  workers = s.workers;
  batch = s.batch;
  first_quorum = s.first_quorum;
  second_quorum = s.second_quorum;
  program = program_of s;
  work = work_of (program_of s);
}
