use Rattle.std.proofs.Common.{◌≡◌, ◌+◌, drop}
use Rattle.std.specs.List.{list_any}
use Rattle.rl_nodes.specs.BadMessages.{is_wrong, carried_from}
use Rattle.rl_node.proofs.bad.are_wrong.Given as goal

abbrev pub invariant-loop-i : goal.invariant-loop-i
invariant-loop-i l =
    list_any (is_wrong l.schema) (carried_from (l.i + 1) (drop l.i l.ballots) (drop l.i l.logs)) ≡ list_any (is_wrong l.schema) (carried_from 1 l.ballots l.logs)
