use Rattle.std.proofs.Common.{◌∙◌, sym, ap}
use Rattle.rl_node.specs.Seqs.{seq_in, seq_of_part, seq_of_phase}
use Rattle.rl_node.proofs.LeadersTurns.{seq_is}
use Rattle.rl_node.proofs.node.Node.next_seq.Goals as goal

pub returns-in-Some-clause-stands : goal.returns-in-Some-clause-stands
returns-in-Some-clause-stands c = λ setup a x sized s.
    sym (ap seq_of_phase c.in-Up.is ∙ ap seq_of_part c.in-Leads.is ∙ ap seq_in c.in-Some.is) ∙ seq_is setup sized a c.args.self.now x s
