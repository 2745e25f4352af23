use Rattle.std.proofs.Common.{sym, subst}
use Rattle.rl_msg.specs.declared.msg.Msg.TheVariants.{Accept}
use Rattle.rl_nodes.specs.Handles.{takes}
use Rattle.rl_node.proofs.Answering.{accept_answers, accept_runs_out}
use Rattle.rl_node.specs.Inner.{Tries}
use Rattle.rl_node.proofs.Taking.{accept_refused}
use Rattle.rl_node.proofs.node.Node.take_accept.Goals as goal

pub returns-in_err-send_ack-in-Ok-clause-tries : goal.returns-in_err-send_ack-in-Ok-clause-tries
returns-in_err-send_ack-in-Ok-clause-tries c = λ setup a x fits s good r.
    accept_runs_out setup a c.args.self.now x s c.requires.up c.args.from c.args.epoch c.args.stream c.args.slot c.args.batch good r
    c.accept.new.self c.in-Ok.ensures.ok c.in-Ok.ensures.allowed c.from_residual.result c.from_residual.ensures.1

pub returns-in_ok-send_ack-in-Ok-clause-tries : goal.returns-in_ok-send_ack-in-Ok-clause-tries
returns-in_ok-send_ack-in-Ok-clause-tries c = λ setup a x fits s good r.
    accept_answers setup a c.args.self.now x s c.requires.up c.args.from c.args.epoch c.args.stream c.args.slot c.args.batch good r
    c.accept.new.self c.in-Ok.ensures.ok c.in-Ok.ensures.allowed c.in-Ok.len c.in-Ok.ensures.len c.in_ok-send_ack-in-Ok.field-0 c.in_ok-send_ack-in-Ok.ensures

pub returns-in-Err-clause-tries : goal.returns-in-Err-clause-tries
returns-in-Err-clause-tries c = λ setup a x fits s good r.
    subst (λ result. Tries setup a c.args.self.now (record c.args.self.now { acceptor = c.accept.new.self }) x
    (takes setup a x (Accept c.args.from c.args.self.now.id c.args.epoch c.args.stream c.args.slot c.args.batch)) result) (sym c.refused_with.ensures)
    (accept_refused setup a c.args.self.now x s c.requires.up c.args.from c.args.self.now.id c.args.epoch c.args.stream c.args.slot c.args.batch
    c.in-Err.refused c.in-Err.ensures.refused c.accept.new.self c.in-Err.ensures.err)
