use Rattle.rl_msg.specs.declared.msg.Msg.TheVariants.{Sync}
use Rattle.rl_nodes.specs.Handles.{takes}
use Rattle.rl_node.proofs.Answering.{sync_answers, sync_runs_out}
use Rattle.rl_node.proofs.Taking.{refuses_it, sync_denied}
use Rattle.rl_node.proofs.node.Node.take_sync.Goals as goal

pub returns-in_err-send_ack-in-Ok-clause-tries : goal.returns-in_err-send_ack-in-Ok-clause-tries
returns-in_err-send_ack-in-Ok-clause-tries c = λ setup a x fits s good r.
    sync_runs_out setup a c.args.self.now x s c.requires.up c.args.from c.args.epoch c.args.stream c.args.log good r
    c.sync.new.self c.in-Ok.ensures.ok c.in-Ok.ensures.allowed c.from_residual.result c.from_residual.ensures.1

pub returns-in_ok-send_ack-in-Ok-clause-tries : goal.returns-in_ok-send_ack-in-Ok-clause-tries
returns-in_ok-send_ack-in-Ok-clause-tries c = λ setup a x fits s good r.
    sync_answers setup a c.args.self.now x s c.requires.up c.args.from c.args.epoch c.args.stream c.args.log good r
    c.sync.new.self c.in-Ok.ensures.ok c.in-Ok.ensures.allowed c.in-Ok.len c.in-Ok.ensures.len c.in_ok-send_ack-in-Ok.field-0 c.in_ok-send_ack-in-Ok.ensures

pub returns-in-Err-clause-tries : goal.returns-in-Err-clause-tries
returns-in-Err-clause-tries c = λ setup a x fits s good r.
    refuses_it setup a c.args.self.now x s c.requires.up c.in-Err.refused c.denying.result c.denying.ensures
    (takes setup a x (Sync c.args.from c.args.self.now.id c.args.epoch c.args.stream c.args.log))
    (sync_denied setup a c.args.self.now x s c.requires.up c.args.from c.args.self.now.id c.args.epoch c.args.stream c.args.log c.in-Err.refused c.in-Err.ensures.refused)
    c.sync.new.self c.in-Err.ensures.err
