use Rattle.std.proofs.Common.{◌≡◌, take}
use Rattle.rl_tables.specs.Numbers.{sizes_of}
use Rattle.rl_tables.proofs.layout.Layout.new.Given as goal

abbrev pub invariant-loop-t : goal.invariant-loop-t
invariant-loop-t l = l.sizes.items ≡ take l.t (sizes_of l.schema)
