-- What a step of a worker hands out and tells, as it is defined.
use Rattle.std.specs.Prelude.{◌≡◌, ℕ, ◌-◌, ◌*◌, ◌^◌, Option, None, IfSome, Result, Ok, Err, IfOk}
use Rattle.std.specs.Option.{option_map, option_and_then}
use Rattle.rl_worker.specs.Acts.{Core, Step, turn}
use Rattle.rl_worker.specs.OneTurn.{newly_ended, newly_refused}
use Rattle.rl_worker.specs.Opening.{item_seen}
use Rattle.rl_worker.specs.Phases.{Setting}
use Rattle.rl_worker.specs.Told.{refused, NamesRecord}
use Rattle.rl_worker.specs.Workers.{act_of_step}
use Rattle.rl_worker.specs.declared.act.Moved.{Moved}
use Rattle.rl_nodes.specs.Answers.{Did}
use Rattle.rl_nodes.specs.Calls.{turn_of}
use Rattle.rl_nodes.specs.Nodes.{NodeState, Part, Leads}
use Rattle.rl_nodes.specs.Setups.{Setup}
use Rattle.rl_nodes.specs.Works.{steps}
use Rattle.rl_nodes.specs.World.{Line, AttemptRefused, attempt_of, refused_line}
use Rattle.rl_nodes.specs.declared.node_error.NodeError.{NodeError}
use Rattle.rl_node.specs.declared.answer.Out.{Out}
use Rattle.rl_node.specs.declared.answer.Stepped.{Stepped}

-- what a step hands out, or why it was refused
abbrev pub out_of : Result Stepped NodeError → Result Out NodeError
out_of (Ok s) = Ok s.out
out_of (Err e) = Err e

-- what a step of worker w of a core comes to: its act, why the attempt was refused, and the item that it ended
abbrev pub moved_in : Setting → (epoch : ℕ) → Core → (w : ℕ) → Moved
moved_in S epoch core w = record {
  act = act_of_step S (core.next - epoch * 2 ^ 40) core w;
  refused = option_map refused (newly_refused core (turn S core (Step w)));
  ended = option_map (item_seen epoch) (newly_ended core (turn S core (Step w)));
}

-- the same at an open leader; any other node makes no step
abbrev pub moved_of : Setup → Part → (w : ℕ) → Option Moved
moved_of setup (Leads lead) w =
    option_map (λ core. moved_in (setup.work.setting lead.epoch) lead.epoch core w) lead.core
moved_of setup other w = None

-- the attempt of worker w that a step told as refused, as a line of a report
abbrev pub line_of : (w : ℕ) → Stepped → Option Line
line_of w s = option_map (AttemptRefused s.epoch w s.index) (option_and_then (λ (m : Moved). m.refused) s.moved)

-- a step of worker w of node a tells what it came to, at which epoch and request, and a refused attempt as it is reported; that
-- names a record of the tables
pub record Tells (setup : Setup) (a : ℕ) (x : NodeState) (w : ℕ) (s : Stepped) : Type 0 where
  pub moved : s.moved ≡ moved_of setup x.part w
  pub turn : (s.epoch, s.index) ≡ turn_of x.part w
  pub line : IfOk (steps setup a x w) (λ (did : Did). option_map refused_line (attempt_of did) ≡ line_of w s)
  pub names : IfSome s.moved (λ (m : Moved). NamesRecord setup.program.tables m.refused)
