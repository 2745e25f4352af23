use Rattle.rand_pcg.specs.Pcg.{pcg32}
use Rattle.rl_events.proofs.Draws.{words_of_stream}
use Rattle.rl_events.proofs.expand.push_expanded.Goals as goal

pub returns-in-Random : goal.returns-in-Random
returns-in-Random c =
    rw (c.in-Random.is, ← c.seed_from_u64-rng.ensures, ← words_of_stream pcg32 c.in-Random.count c.seed_from_u64-rng.result) c.push_drawn.ensures
