use Rattle.std.proofs.Common.{[], subst}
use Rattle.rl_nodes.specs.Works.{flushes}
use Rattle.rl_node.specs.SetupOf.{setup_of}
use Rattle.rl_node.specs.Standing.{StandsPart}
use Rattle.rl_node.proofs.Learning.{none_sent}
use Rattle.rl_node.proofs.LeadersTurns.{no_leader, does_nothing, does_as_leader}
use Rattle.rl_node.proofs.part.Part.flush.Goals as goal

pub returns-in_default : goal.returns-in_default
returns-in_default c = λ x s.
    let setup = setup_of c.args.setup.now in
    does_nothing setup c.args.self.now x c.sending.result (c.sending.ensures [] (none_sent c.new.result c.new.ensures)) s
    (flushes setup c.args.id x c.args.worker) ((no_leader setup c.args.self.now x.part c.in_default.not-Leads s).does_nothing x _)

pub returns-else-is_err : goal.returns-else-is_err
returns-else-is_err c = λ x s.
    let setup = setup_of c.args.setup.now in
    does_as_leader setup c.flush-answer.new.self x (flushes setup c.args.id x c.args.worker) c.flush-answer.result c.if-is_err.ensures.value
    (c.flush-answer.ensures x (subst (λ p. StandsPart setup p x.part) c.in-Leads.is s))
