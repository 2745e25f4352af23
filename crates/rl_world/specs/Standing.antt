-- What the fields of a run stand for. No public contract cites it.
use Rattle.std.specs.Prelude.{◌≡◌, ℕ, ◌-◌, ◌≤◌, List, length, slice_index_or, None, Ok, Err, Result}
use Rattle.rl_base.specs.declared.limit.TheConstants.{BYTES}
use Rattle.rl_net.specs.Messages.{bytes_sent}
use Rattle.rl_nodes.specs.Calls.{Standing}
use Rattle.rl_nodes.specs.Nodes.{NodeState}
use Rattle.rl_nodes.specs.Setups.{Setup, SetupFits}
use Rattle.rl_nodes.specs.World.{World, Ran, node_of}
use Rattle.rl_tables.specs.Numbers.{sizes_of}
use Rattle.rl_node.specs.SetupOf.{setup_of}
use Rattle.rl_node.specs.Standing.{Stands, IsNode}
use Rattle.rl_node.specs.declared.node.Node.{Node}
use Rattle.rl_world.specs.Telling.{StandsTold}
use Rattle.rl_world.specs.declared.run.Run.{Run}
use Rattle.rl_world.specs.declared.world_error.WorldError.{WorldError}
use Rattle.rl_world.specs.Worlds.{IsCause}

-- ---- nodes ----

-- a node that answers calls
abbrev pub answers : NodeState → Standing
answers x = record { node = x; failed = None }

-- a is the number of a node
pub record IsNumberOf (setup : Setup) (a : ℕ) : Type 0 where
  pub first : 1 ≤ a
  pub last : a ≤ setup.nodes

-- node by node, some nodes stand for those of a world
pub record StandNodes (setup : Setup) (nodes : List Node) (w : World) : Type 0 where
  pub listed : length w.nodes ≡ setup.nodes
  pub each : (a : ℕ) (d : Node) → IsNumberOf setup a → Stands setup a (slice_index_or nodes (a - 1) d) (answers (node_of setup w a))

-- ---- a run ----

-- the setup and the nodes of a run, the numbers of its records, and how much was sent, also after a refusal
pub record IsSafe (r : Run) : Type 0 where
  pub fits : SetupFits (setup_of r.setup)
  pub layout : r.layout ≡ sizes_of (setup_of r.setup).program.tables
  pub count : length r.nodes.items ≡ (setup_of r.setup).nodes
  pub each : (a : ℕ) (d : Node) → IsNumberOf (setup_of r.setup) a → IsNode (setup_of r.setup) (slice_index_or r.nodes.items (a - 1) d)
  pub few : bytes_sent r.told.net ≤ BYTES
  pub sent : r.told.sent ≡ length r.told.net

-- a run stands for a world
pub record StandsRun (r : Run) (w : World) : Type 0 where
  pub nodes : StandNodes (setup_of r.setup) r.nodes.items w
  pub told : StandsTold (setup_of r.setup).program.tables r.told w

-- ---- what calls do ----

-- it stands for the world that was due
pub record HasRun (new : Run) (due : Ran) : Type 0 where
  pub world : World
  pub is : due ≡ Ok world
  pub stands : StandsRun new world

-- whatever world it stood for, it stands for what was due
abbrev pub Runs : (old new : Run) → (due : World → Ran) → Type 0
Runs old new due = (w : World) → StandsRun old w → HasRun new (due w)

-- it stands for what was due, or refuses as was due
abbrev pub Tries : (new : Run) → (due : Ran) → Result (Unit {0}) WorldError → Type 0
Tries new due (Ok done) = HasRun new due
Tries new due (Err error) = IsCause due error

-- so it does whatever world it stood for
abbrev pub TriesRun : (old new : Run) → (due : World → Ran) → Result (Unit {0}) WorldError → Type 0
TriesRun old new due result = (w : World) → StandsRun old w → Tries new (due w) result
