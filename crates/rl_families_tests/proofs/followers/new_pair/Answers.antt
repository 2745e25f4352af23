use Rattle.std.proofs.Common.{◌≤◌, [], length, take, sym, ap, ◌∙◌, subst}
use Rattle.std.proofs.lemmas.List.{length-replicate}
use Rattle.rl_families.specs.Streams.{log_at}
use Rattle.rl_families_tests.proofs.followers.new_pair.Goals as goal

pub returns-clause-follows : goal.returns-clause-follows
returns-clause-follows c = record {
  streams = ap (λ r. length r.played) c.in_ok-replica.ensures.replaying ∙ length-replicate c.args.streams 0 ∙ sym (ap length c.in_ok-family.ensures ∙ length-replicate c.args.streams []);
  begins = λ s a b. c.in_ok-replica.ensures.begins s (take c.args.known (log_at c.in_ok-family.family s)) a (subst (λ n. s ≤ n) (ap length c.in_ok-family.ensures ∙ length-replicate c.args.streams []) b);
}
