use Rattle.std.proofs.Common.{◌≡◌, ◌++◌, ◌-◌, length, map}
use Rattle.std.specs.List.{range_with_len}
use Rattle.std.specs.Vec.Iter.{into_iter_items}
use Rattle.rl_live.specs.Handing.{AllFrom, IsFreshAfter, IsReadyAs, seat_of}
use Rattle.rl_live.proofs.handing.hand_out.Given as goal

-- the first workers are ready
abbrev pub invariant-loop-led : goal.invariant-loop-led
invariant-loop-led l = record {
  count : l.number ≡ length l.yielded;
  all : l.yielded ++ into_iter_items l.led-iterator ≡ l.fn.leds.items;
  seats : into_iter_items l.left ≡ map (seat_of l.progress) (range_with_len l.number (l.script.workers - l.number));
  fresh : IsFreshAfter l.store l.tries l.number l.fn.pass l.pass;
  many : length l.workers.items ≡ l.number;
  ready : AllFrom (IsReadyAs l.script l.store l.progress l.tries) 1 l.workers.items;
}
