use Rattle.std.proofs.Common.{◌≡◌, ◌++◌}
use Rattle.std.specs.List.{filter}
use Rattle.std.specs.Vec.Iter.{into_iter_items}
use Rattle.rl_families.specs.Families.{is_counted}
use Rattle.rl_live.proofs.tables.take_counted.Given as goal

abbrev pub invariant-loop-item : goal.invariant-loop-item
invariant-loop-item l = record {
  all : l.yielded ++ into_iter_items l.item-iterator ≡ l.fn.items;
  part : l.part ≡ l.fn.part ++ filter (λ x. is_counted l.family x.stamp) l.yielded;
}
