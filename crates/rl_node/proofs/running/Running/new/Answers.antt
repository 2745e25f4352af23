use Rattle.std.proofs.Common.{[], refl, ◌∙◌}
use Rattle.rl_node.proofs.Beginnings.{replica_begins}
use Rattle.rl_node.proofs.running.Running.new.Goals as goal

pub returns : goal.returns
returns c = record {
  failed = refl;
  known = c.in_ok-new.ensures;
  replica = c.in_ok-new-2.ensures.replaying ∙ replica_begins c.args.setup.now.workers c.args.setup.now.opening;
  begins = λ s is. c.in_ok-new-2.ensures.begins s [] is.0 is.1;
  part = refl;
}
