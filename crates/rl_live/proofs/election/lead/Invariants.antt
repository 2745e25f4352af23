use Rattle.std.proofs.Common.{◌≡◌, ◌++◌, map}
use Rattle.std.specs.Vec.Iter.{into_iter_items}
use Rattle.rl_live.specs.Elections.{new_led, with_mark}
use Rattle.rl_live.proofs.election.lead.Given as goal

-- a stream for each log so far
abbrev pub invariant-loop-log : goal.invariant-loop-log
invariant-loop-log l = record {
  all : l.yielded ++ into_iter_items l.log-iterator ≡ l.fn.logs;
  leds : l.leds.items ≡ map (new_led l.epoch l.nodes) (map (with_mark l.epoch) l.yielded);
}
