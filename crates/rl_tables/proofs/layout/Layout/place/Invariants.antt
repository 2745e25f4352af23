use Rattle.std.proofs.Common.{◌≡◌, ◌+◌, drop, sum, take}
use Rattle.rl_tables.specs.Numbers.{place_from, place_of}
use Rattle.rl_tables.proofs.layout.Layout.place.Given as goal

abbrev pub invariant-loop-size : goal.invariant-loop-size
invariant-loop-size l = record {
  count : l.t ≡ l.size-index;
  number : sum (take l.size-index l.size-items) + l.key ≡ l.rec;
  place : place_from l.t (drop l.t l.size-items) l.key ≡ place_of l.size-items l.rec;
}
