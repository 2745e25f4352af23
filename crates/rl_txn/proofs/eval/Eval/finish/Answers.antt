use Rattle.std.proofs.Common.{◌≡◌, [], rules, ap, sym, ◌∙◌, Some}
use Rattle.rl_txn.specs.Run.{writes_of}
use Rattle.rl_txn.specs.Eval.{progress_of}
use Rattle.rl_txn.specs.declared.eval.Wants.TheVariants.{Ended}
use Rattle.rl_txn.proofs.Evals.{finished, both_same}
use Rattle.rl_txn.proofs.eval.Eval.finish.Goals as goal
use Rattle.rl_txn.proofs.eval.Eval.finish.Goals.{in-Done, in-Declined}

pub returns : goal.returns
returns c = λ tables txn rows ev has.
    let end = c.in-Some-Ended.end in
    let writes : c.match-end.writes ≡ writes_of (progress_of c.args.self.work) end = elim c.match-end.branch [
      | in-Done w ↦ w.writes-is ∙ w.into_writes-writes.ensures ∙ ap (writes_of (progress_of c.args.self.work)) (sym w.in-Done.is)
      | in-Declined w ↦ (let none : c.match-end.writes ≡ [] = search rules in none ∙ ap (writes_of (progress_of c.args.self.work)) (sym w.in-Declined.is))
    ] in
    let was : c.args.self.wants ≡ Some (Ended end) = first_of (search rules, cc) in
    both_same c.from_vec.result c.args.self.work.outs.items c.match-end.writes (writes_of (progress_of c.args.self.work) end) end c.from_vec.ensures writes
    ∙ sym (finished tables txn rows c.args.self end ev was has)
