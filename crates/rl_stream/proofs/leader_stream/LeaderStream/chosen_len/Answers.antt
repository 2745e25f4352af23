use Rattle.std.proofs.Common.{arith}
use Rattle.rl_stream.proofs.Fits.{acknowledged_within, acknowledged_value}
use Rattle.rl_stream.proofs.leader_stream.LeaderStream.chosen_len.Goals as goal

pub returns-clause-value : goal.returns-clause-value
returns-clause-value c = rw (← c.self.view_is) (acknowledged_value c.self.inside.quorum c.self.inside.initial_len c.self.inside.acknowledged c.self.inside.log c.self.inside.acked.items c.self.invariant)

pub returns-clause-within : goal.returns-clause-within
returns-clause-within c = rw (← c.self.view_is) (acknowledged_within c.self.inside.quorum c.self.inside.initial_len c.self.inside.acknowledged c.self.inside.log c.self.inside.acked.items c.self.invariant)

pub returns-clause-short : goal.returns-clause-short
returns-clause-short c = omega (arith, acknowledged_within c.self.inside.quorum c.self.inside.initial_len c.self.inside.acknowledged c.self.inside.log c.self.inside.acked.items c.self.invariant, c.self.invariant.short)
