use Rattle.std.proofs.Common.{sym, arith}
use Rattle.rl_node.proofs.Bads.{longer_begins_none}
use Rattle.rl_node.proofs.bad.begins.Goals as goal

pub returns-then-log-front : goal.returns-then-log-front
returns-then-log-front c = sym (longer_begins_none c.args.front.now c.args.log.now (omega arith))
