use Rattle.std.proofs.Common.{sym, ◌∙◌}
use Rattle.rl_txn.proofs.Known.{seen_of_read, seen_of_none}
use Rattle.rl_txn.proofs.workspace.Workspace.row_at.Goals as goal

pub returns-in-Some-get : goal.returns-in-Some-get
returns-in-Some-get c =
    c.as_ref-in-Some-get.ensures.value ∙ sym (seen_of_read c.args.self.now.read.0 c.args.self.now.written.0 c.args.table c.args.key c.in-Some-get.read.now (sym c.in-None.ensures) (sym c.in-Some-get.ensures))

pub returns-in-None-get : goal.returns-in-None-get
returns-in-None-get c = sym (seen_of_none c.args.self.now.read.0 c.args.self.now.written.0 c.args.table c.args.key (sym c.in-None.ensures) (sym c.in-None-get.ensures))
