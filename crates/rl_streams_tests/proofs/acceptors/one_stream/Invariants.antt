use Rattle.std.proofs.Common.{◌≡◌, length}
use Rattle.rl_streams_tests.proofs.acceptors.one_stream.Given as goal

abbrev pub invariant-loop-call : goal.invariant-loop-call
invariant-loop-call g l = length l.acceptor.streams ≡ 1
