use Rattle.std.proofs.Common.{◌≡◌, ◌-◌, length}
use Rattle.rl_families.specs.Streams.{log_at}
use Rattle.rl_replay.specs.Entries.{entries}
use Rattle.rl_node.specs.Replaying.{HasPlayedSome}
use Rattle.rl_node.proofs.running.Running.play.Given as goal

-- so many entries so far
abbrev pub invariant-loop-count : goal.invariant-loop-count
invariant-loop-count l = record {
  same : l.self ≡ record l.fn.self { replica = l.self.replica };
  some : HasPlayedSome l.fn.self.known l.stream l.fn.self.replica l.self.replica l.count;
}

abbrev pub decreases-loop-count : goal.decreases-loop-count
decreases-loop-count l = length (entries (log_at l.fn.self.known l.stream)) - l.count
