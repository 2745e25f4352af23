use Rattle.std.proofs.Common.{◌≡◌, ◌++◌, true, filter}
use Rattle.std.specs.Option.{option_map_or}
use Rattle.std.specs.Vec.Iter.{into_iter_items}
use Rattle.rl_base.specs.Order.{is_below}
use Rattle.rl_world.proofs.releases.release.Given as goal

-- those above the last so far
abbrev pub invariant-loop-item : goal.invariant-loop-item
invariant-loop-item l = record {
  all : l.yielded ++ into_iter_items l.item-iterator ≡ l.fn.items;
  released : l.released ≡ l.fn.released ++ filter (λ x. option_map_or (λ last. is_below last x.stamp) l.last true) l.yielded;
}
