use Rattle.std.proofs.Common.{◌≡◌, ◌≤◌, ◌++◌, map, length}
use Rattle.std.specs.Vec.Iter.{into_iter_items}
use Rattle.rl_base.specs.declared.limit.TheConstants.{BYTES}
use Rattle.rl_net.specs.Messages.{bytes_sent}
use Rattle.rl_world.specs.Telling.{message_of}
use Rattle.rl_world.proofs.told.Told.send.Given as goal

-- the messages so far are sent
abbrev pub invariant-loop-message : goal.invariant-loop-message
invariant-loop-message l = record {
  all : l.yielded ++ into_iter_items l.message-iterator ≡ l.fn.sends;
  net : l.self.net ≡ l.fn.self.net ++ map message_of l.yielded;
  few : bytes_sent l.self.net ≤ BYTES;
  count : l.self.sent ≡ length l.self.net;
  released : l.self.released ≡ l.fn.self.released;
  lines : l.self.lines ≡ l.fn.self.lines;
}
