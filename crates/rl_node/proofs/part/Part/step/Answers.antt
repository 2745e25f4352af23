use Rattle.std.proofs.Common.{subst}
use Rattle.rl_nodes.specs.Works.{steps}
use Rattle.rl_node.specs.SetupOf.{setup_of}
use Rattle.rl_node.specs.Standing.{StandsPart}
use Rattle.rl_node.proofs.LeadersTurns.{no_leader, does_nothing, steps_as_leader}
use Rattle.rl_node.proofs.NoLeaders.{tells_nothing}
use Rattle.rl_node.proofs.part.Part.step.Goals as goal

pub returns-in_default : goal.returns-in_default
returns-in_default c =
    let setup = setup_of c.args.setup.now in
    let told = c.no_step.ensures in
    record {
      tries = λ x s. does_nothing setup c.args.self.now x c.no_step.result.out told.out s (steps setup c.args.id x c.args.worker)
          ((no_leader setup c.args.self.now x.part c.in_default.not-Leads s).does_nothing x _);
      told = λ x s. tells_nothing setup c.args.id x c.args.worker c.no_step.result
          (no_leader setup c.args.self.now x.part c.in_default.not-Leads s) told.moved told.epoch told.index;
    }

pub returns-else-is_err-clause-tries : goal.returns-else-is_err-clause-tries
returns-else-is_err-clause-tries c = λ x s.
    let setup = setup_of c.args.setup.now in
    steps_as_leader setup c.step-answer.new.self x (steps setup c.args.id x c.args.worker) c.step-answer.result c.if-is_err.ensures.value
    (c.step-answer.ensures.tries x (subst (λ p. StandsPart setup p x.part) c.in-Leads.is s))
