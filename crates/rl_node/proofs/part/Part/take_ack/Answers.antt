use Rattle.std.proofs.Common.{[], Ok, ap, subst}
use Rattle.rl_nodes.specs.Answers.{Answer}
use Rattle.rl_nodes.specs.Handles.{takes_ack}
use Rattle.rl_node.specs.Leads.{LeadTries}
use Rattle.rl_node.specs.SetupOf.{setup_of}
use Rattle.rl_node.specs.Standing.{StandsPart}
use Rattle.rl_node.proofs.Acked.{ack_counts, ack_skipped, ack_unheard}
use Rattle.rl_node.proofs.Learning.{none_sent}
use Rattle.rl_node.proofs.LeadersTurns.{does_nothing, does_as_leader}
use Rattle.rl_node.proofs.part.Part.take_ack.Goals as goal

pub returns-in_default : goal.returns-in_default
returns-in_default c = λ x s.
    let setup = setup_of c.args.setup.now in
    let k = c.args.ack in
    does_nothing setup c.args.self.now x c.sending.result (c.sending.ensures [] (none_sent c.new.result c.new.ensures)) s
    (Ok (takes_ack setup c.args.id x c.args.epoch k.stream k.from k.len x.part))
    (ap Ok (ack_unheard setup c.args.id c.args.epoch k.stream k.from k.len x c.args.self.now c.in_default.not-Leads s))

pub returns-then-lead-epoch : goal.returns-then-lead-epoch
returns-then-lead-epoch c = λ x s.
    let setup = setup_of c.args.setup.now in
    let k = c.args.ack in
    let is = subst (λ p. StandsPart setup p x.part) c.in-Leads.is s in
    does_nothing setup _ x c.sending-then-lead-epoch.result
    (c.sending-then-lead-epoch.ensures [] (none_sent c.new-then-lead-epoch.result c.new-then-lead-epoch.ensures)) is
    (Ok (takes_ack setup c.args.id x c.args.epoch k.stream k.from k.len x.part))
    (ap Ok (ack_skipped setup c.args.id c.args.epoch k.stream k.from k.len x c.in-Leads.lead is c.if-lead-epoch.true))

pub returns-else-is_err : goal.returns-else-is_err
returns-else-is_err c = λ x s.
    let setup = setup_of c.args.setup.now in
    let k = c.args.ack in
    let is = subst (λ p. StandsPart setup p x.part) c.in-Leads.is s in
    does_as_leader setup c.take_ack-answer.new.self x (Ok (takes_ack setup c.args.id x c.args.epoch k.stream k.from k.len x.part)) c.take_ack-answer.result
    c.if-is_err.ensures.value
    (subst (λ (answer : Answer). LeadTries setup c.take_ack-answer.new.self x answer c.take_ack-answer.result)
    (ap Ok (ack_counts setup c.args.id c.args.epoch k.stream k.from k.len x c.in-Leads.lead is c.if-lead-epoch.false)) (c.take_ack-answer.ensures x is))
