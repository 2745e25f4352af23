use Rattle.std.proofs.Common.{[], subst, sym, Err}
use Rattle.std.proofs.lemmas.Result.{err_from_is_err_and}
use Rattle.rl_msg.specs.declared.msg.Msg.TheVariants as msg
use Rattle.rl_nodes.specs.Handles.{takes}
use Rattle.rl_node.specs.Inner.{Tries}
use Rattle.rl_node.specs.SetupOf.{setup_of}
use Rattle.rl_node.specs.Taken.{GivesCandidate}
use Rattle.rl_node.proofs.Good.{is_good}
use Rattle.rl_node.proofs.Learning.{none_sent}
use Rattle.rl_node.proofs.Promising.{gives_candidate, given_candidate, promise_skipped, promise_counted, promise_fails}
use Rattle.rl_node.proofs.Recoveries.{promise_fits}
use Rattle.rl_node.proofs.node.Node.take_promise.Goals as goal

pub returns-in_default-clause-tries : goal.returns-in_default-clause-tries
returns-in_default-clause-tries c = λ a x s good range.
    let setup = setup_of c.args.setup.now in
    let n = c.args.self.now in
    let kept = subst (GivesCandidate n c.take_candidate.new.self c.args.epoch) c.in_default.is
    (gives_candidate n c.take_candidate.new.self c.args.epoch c.requires.up c.take_candidate.result c.take_candidate.ensures.candidate c.take_candidate.ensures.without) in
    promise_skipped setup a n x s c.requires.up c.args.from c.args.epoch c.args.ballots c.args.logs c.take_candidate.new.self kept c.sending.result
    (c.sending.ensures [] (none_sent c.new.result c.new.ensures))

pub count_promise-requires-clause-promise : goal.count_promise-requires-clause-promise
count_promise-requires-clause-promise c =
    let setup = setup_of c.args.setup.now in
    let n = c.args.self.now in
    let can = c.requires.can in
    let m = msg.Promise c.args.from n.id c.args.epoch c.args.ballots c.args.logs in
    let given = subst (GivesCandidate n c.take_candidate.new.self c.args.epoch) c.in-Some.is
    (gives_candidate n c.take_candidate.new.self c.args.epoch c.requires.up c.take_candidate.result c.take_candidate.ensures.candidate c.take_candidate.ensures.without) in
    promise_fits setup can.number c.args.from n.id c.args.epoch can.node c.args.ballots c.args.logs (is_good setup can.number can.node m can.good) can.in_range
    c.in-Some.candidate (given_candidate setup can.number n can.node can.stands c.requires.up c.take_candidate.new.self c.in-Some.candidate given.0).0 given.1

pub returns-in_err-elected-clause-tries : goal.returns-in_err-elected-clause-tries
returns-in_err-elected-clause-tries c = λ a x s good range.
    let setup = setup_of c.args.setup.now in
    let n = c.args.self.now in
    let due = takes setup a x (msg.Promise c.args.from n.id c.args.epoch c.args.ballots c.args.logs) in
    let given = subst (GivesCandidate n c.take_candidate.new.self c.args.epoch) c.in-Some.is
    (gives_candidate n c.take_candidate.new.self c.args.epoch c.requires.up c.take_candidate.result c.take_candidate.ensures.candidate c.take_candidate.ensures.without) in
    let p = err_from_is_err_and c.from_residual.result c.from_residual.ensures.1 in
    subst (Tries setup a n c.take_candidate.new.self x due) (sym p.1)
    (subst (λ e. Tries setup a n c.take_candidate.new.self x due (Err e)) (sym p.2)
    (promise_fails setup a n x s c.requires.up c.args.from c.args.epoch c.args.ballots c.args.logs c.take_candidate.new.self c.in-Some.candidate given.0 given.1
    c.in_err-elected.field-0.0 c.in_err-elected.ensures))

pub returns-clause-tries : goal.returns-clause-tries
returns-clause-tries c = λ a x s good range.
    let setup = setup_of c.args.setup.now in
    let n = c.args.self.now in
    let given = subst (GivesCandidate n c.take_candidate.new.self c.args.epoch) c.in-Some.is
    (gives_candidate n c.take_candidate.new.self c.args.epoch c.requires.up c.take_candidate.result c.take_candidate.ensures.candidate c.take_candidate.ensures.without) in
    promise_counted setup a n x s c.requires.up c.args.from c.args.epoch c.args.ballots c.args.logs c.take_candidate.new.self c.in-Some.candidate given.0 given.1
    c.in_ok-elected.elected c.in_ok-elected.ensures c.set_part.new.self c.set_part.ensures c.sending-2.result c.sending-2.ensures
