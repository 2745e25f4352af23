use Rattle.std.proofs.Common.{ap, Some}
use Rattle.rl_io.proofs.Held.{rest_parts}
use Rattle.rl_io.proofs.memory_source.MemSourceSource.read.Goals as goal

pub returns-clause-given : goal.returns-clause-given
returns-clause-given c =
    let s = c.self.inside in
    rw (← c.self.view_is, c.copy_prefix.ensures.prefix, c.rest_from.ensures, c.as_slice-2.ensures) (ap Some (rest_parts s.bytes s.at c.min-count.result))
