use Rattle.rl_worker.proofs.OneStep.{one_step, tells_news}
use Rattle.rl_worker.proofs.laws.one_step.Goals as goal

pub returns-clause-one : goal.returns-clause-one
returns-clause-one c = λ s core w there. one_step s w core there

pub returns-clause-tells : goal.returns-clause-tells
returns-clause-tells c = tells_news
