use Rattle.std.proofs.Common.{◌≡◌, ◌-◌, ◌++◌, map}
use Rattle.rand_core.specs.Steps.{first_words}
use Rattle.rand_core.specs.Stream.{next_u32}
use Rattle.rl_events.specs.Expanded.{drawn_event}
use Rattle.rl_events.proofs.expand.push_drawn.Given as goal

abbrev pub invariant-draws : goal.invariant-draws
invariant-draws g l =
    l.events ++ map (drawn_event l.nodes l.workers) (first_words next_u32 (l.count - l.draw) (g.R.Rng.stream l.rng))
    ≡ l.initial.events ++ map (drawn_event l.nodes l.workers) (first_words next_u32 l.count (g.R.Rng.stream l.initial.rng))
