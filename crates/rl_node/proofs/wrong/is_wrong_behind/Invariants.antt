use Rattle.std.proofs.Common.{◌≡◌, drop, None}
use Rattle.rl_node.specs.Wrong.{is_wrong_behind}
use Rattle.rl_node.proofs.wrong.is_wrong_behind.Given as goal

abbrev pub invariant-loop-bytes : goal.invariant-loop-bytes
invariant-loop-bytes l =
    is_wrong_behind l.schema l.place.stream l.place.epoch l.last (drop l.bytes-index l.log) ≡ is_wrong_behind l.schema l.place.stream l.place.epoch None l.log
