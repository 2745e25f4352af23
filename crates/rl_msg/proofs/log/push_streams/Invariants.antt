use Rattle.std.proofs.Common.{◌≡◌, ◌++◌, take}
use Rattle.std.specs.List.{flat_map, zip}
use Rattle.rl_msg.specs.Encoding.{stream_bytes}
use Rattle.rl_msg.proofs.log.push_streams.Given as goal

abbrev pub invariant-loop-i : goal.invariant-loop-i
invariant-loop-i l = l.out ≡ l.initial.out ++ flat_map stream_bytes (take l.i (zip l.ballots l.logs))
