-- What is told of a step of a worker. No public contract cites it.
use Rattle.std.specs.Prelude.{◌≡◌, ℕ, ◌++◌, Option, option_to_list}
use Rattle.rl_node.specs.declared.answer.Out.{Out}
use Rattle.rl_report.specs.declared.middle.Middle.{Middle}
use Rattle.rl_world.specs.Telling.{HasTaken}
use Rattle.rl_world.specs.declared.told.Told.{Told}

-- what a node handed out at a step of a worker was sent, released and told, and then the line of an attempt that was refused
pub record HasTakenStep (old new : Told) (node : ℕ) (out : Out) (refused : Option Middle) : Type 0 where
  pub taken : Told
  pub took : HasTaken old taken 0 node out
  pub now : new ≡ record taken { lines = taken.lines ++ option_to_list refused }
