use Rattle.rl_safe.proofs.Seqs as seqs
use Rattle.rl_safe.proofs.laws.seqs_are_few.Goals as goal

pub returns : goal.returns
returns c = seqs.seqs_are_few c.one_step.ensures.one
