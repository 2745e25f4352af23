use Rattle.std.proofs.Common.{◌≡◌}
use Rattle.rl_node.specs.Showing.{shown_streams}
use Rattle.rl_node.proofs.viewing.view_streams.Given as goal

abbrev pub invariant-loop-i : goal.invariant-loop-i
invariant-loop-i l = l.views ≡ shown_streams l.acceptor l.known l.i
