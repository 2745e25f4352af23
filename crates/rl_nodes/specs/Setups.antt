-- What stays the same in a run.
use Rattle.std.specs.Prelude.{ℕ, ◌+◌, ◌/◌, ◌<◌, ◌≤◌, ◌≡◌, List, length}
use Rattle.std.specs.List.{range_with_len}
use Rattle.rl_base.specs.declared.limit.TheConstants.{NODES, WORKERS}
use Rattle.rl_value.specs.Fits.{RowsFit}
use Rattle.rl_value.specs.Tables.{IsSchema}
use Rattle.rl_txn.specs.Fits.{ListsFit}
use Rattle.rl_txn.specs.Words.{RowsHaveWords}
use Rattle.rl_batch.specs.Encoding.{batch_bytes}
use Rattle.rl_batch.specs.declared.item.TheConstants.{BATCH_ITEMS}
use Rattle.rl_families.specs.Leaders.{open_mark}
use Rattle.rl_election.specs.World.{Cluster}
use Rattle.rl_nodes.specs.Openings.{Program, Work, work_of}

-- the nodes, the workers, how many items make a batch, the sizes of a first and a second quorum, the tables and requests, and
-- what the workers of a leader do; in a setup that fits, the tables and requests decide that
pub record Setup : Type 0 where
  pub nodes : ℕ
  pub workers : ℕ
  pub batch : ℕ
  pub first_quorum : ℕ
  pub second_quorum : ℕ
  pub program : Program
  pub work : Work

-- more than half of the nodes
abbrev pub majority : (nodes : ℕ) → ℕ
majority nodes = nodes / 2 + 1

-- a setup with majorities as quorums of both kinds
abbrev pub new_setup : (nodes workers batch : ℕ) → Program → Setup
new_setup nodes workers batch program = record {
  nodes = nodes;
  workers = workers;
  batch = batch;
  first_quorum = majority nodes;
  second_quorum = majority nodes;
  program = program;
  work = work_of program;
}

-- the numbers of the nodes
abbrev pub node_numbers : Setup → List ℕ
node_numbers setup = range_with_len 1 setup.nodes

-- the numbers of the streams, one for each worker
abbrev pub stream_numbers : Setup → List ℕ
stream_numbers setup = range_with_len 1 setup.workers

-- the nodes as a cluster of streams, where each epoch opens with the encoding of its open mark
abbrev pub cluster_of : Setup → Cluster
cluster_of setup = record {
  nodes = setup.nodes;
  streams = setup.workers;
  first_quorum = setup.first_quorum;
  second_quorum = setup.second_quorum;
  open_mark = λ epoch. batch_bytes (open_mark epoch);
}

-- a setup keeps the ranges and limits of a run
pub record SetupFits (setup : Setup) : Type 0 where
  pub some_nodes : 1 ≤ setup.nodes
  pub few_nodes : setup.nodes ≤ NODES
  pub some_workers : 1 ≤ setup.workers
  pub few_workers : setup.workers ≤ WORKERS
  pub some_items : 1 ≤ setup.batch
  pub few_items : setup.batch ≤ BATCH_ITEMS
  pub first : 1 ≤ setup.first_quorum
  pub first_within : setup.first_quorum ≤ setup.nodes
  pub second : 1 ≤ setup.second_quorum
  pub second_within : setup.second_quorum ≤ setup.nodes
  pub intersect : setup.nodes < setup.first_quorum + setup.second_quorum
  pub schema : IsSchema setup.program.tables
  pub rows_fit : RowsFit setup.program.tables setup.program.rows
  pub words : RowsHaveWords setup.program.rows
  pub lists_fit : ListsFit setup.program.tables setup.program.lists
  pub one_list_each : length setup.program.lists ≡ setup.workers
  pub work_is : setup.work ≡ work_of setup.program
