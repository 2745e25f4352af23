use Rattle.std.proofs.Common.{arith}
use Rattle.rl_paxos.proofs.Least.{all_reach, none_above}
use Rattle.rl_stream.proofs.acknowledged.acknowledged_len.Goals as goal

pub loop-len-init : goal.loop-len-init
loop-len-init c = record { quorum_has = omega (arith, all_reach c.args.acked.now, c.requires.within); others = λ k h. absurd (omega arith) }

pub returns : goal.returns
returns c = record {
  quorum_has = c.loop-len.invariant.quorum_has;
  greatest = λ more h. none_above c.args.acked.now c.args.quorum c.loop-len.greatest c.requires.some (λ k l. c.loop-len.invariant.others k (omega (arith, c.loop-len-test.false))) more h;
}
