use Rattle.std.proofs.Common.{◌≡◌, drop}
use Rattle.rl_nodes.specs.BadMessages.{begins}
use Rattle.rl_node.proofs.bad.begins.Given as goal

abbrev pub invariant-loop-i : goal.invariant-loop-i
invariant-loop-i l = begins (drop l.i l.front) (drop l.i l.log) ≡ begins l.front l.log
