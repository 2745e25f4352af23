use Rattle.std.proofs.Common.{ℕ, min, max, length, [], sym, ap, subst, ◌∙◌, Ok}
use Rattle.rl_families.specs.Streams.{log_at}
use Rattle.rl_msg.specs.declared.msg.Msg.TheVariants as msg
use Rattle.rl_paxos.specs.Logs.{Log}
use Rattle.rl_nodes.specs.Handles.{takes}
use Rattle.rl_node.specs.Inner.{Tries}
use Rattle.rl_node.specs.Knowing.{KnowsFront}
use Rattle.rl_node.proofs.Good.{is_good}
use Rattle.rl_node.proofs.Learning.{known_stream, kept_rises, none_sent, knows_answers, knows_skips, knows_fails}
use Rattle.rl_node.proofs.node.Node.take_known.Goals.{then-ballot-epoch+in_ok-learn, else-ballot-epoch}
use Rattle.rl_node.proofs.node.Node.take_known.Goals as goal

pub learn-requires-clause-rising : goal.learn-requires-clause-rising
learn-requires-clause-rising c =
    let can = c.requires.can in
    let there = known_stream can.setup can.number c.args.from c.args.self.now.id c.args.epoch c.args.stream c.args.len can.node
    (is_good can.setup can.number can.node (msg.Known c.args.from c.args.self.now.id c.args.epoch c.args.stream c.args.len) can.good) in
    kept_rises can.setup c.args.self.now.acceptor can.stands.acceptor c.args.stream there c.log.result.now c.log.ensures.kept

pub returns-in_err-learn-clause-tries : goal.returns-in_err-learn-clause-tries
returns-in_err-learn-clause-tries c = λ setup a x fits s good range.
    let n = c.args.self.now in
    let there = known_stream setup a c.args.from n.id c.args.epoch c.args.stream c.args.len x
    (is_good setup a x (msg.Known c.args.from n.id c.args.epoch c.args.stream c.args.len) good) in
    let some : ℕ = c.in_err-learn.ensures.0 in
    knows_fails setup a n x s c.in-Up.running c.in-Up.is c.args.from c.args.epoch c.args.stream c.args.len there c.logs_grow.ensures
    c.learn.new.self some c.from_residual.result c.from_residual.ensures.1
    (subst (λ (log : Log). KnowsFront c.in-Up.running c.learn.new.self c.args.stream log some) c.log.ensures.kept c.in_err-learn.ensures.1)

pub returns-clause-tries : goal.returns-clause-tries
returns-clause-tries c = λ setup a x fits s good range.
    let n = c.args.self.now in
    let r = c.in-Up.running in
    let t = c.args.stream in
    let there = known_stream setup a c.args.from n.id c.args.epoch t c.args.len x
    (is_good setup a x (msg.Known c.args.from n.id c.args.epoch t c.args.len) good) in
    let none = c.sending.ensures [] (none_sent c.new.result c.new.ensures) in
    elim c.if-ballot-epoch.branch [
      | then-ballot-epoch+in_ok-learn w ↦
          subst (λ m. Tries setup a n m x (takes setup a x (msg.Known c.args.from n.id c.args.epoch t c.args.len)) (Ok c.sending.result)) (sym w.self-is)
          (knows_answers setup a n x s r c.in-Up.is c.args.from c.args.epoch t c.args.len there c.logs_grow.ensures w.learn.new.self c.sending.result none
          (sym c.ballot.ensures ∙ w.if-ballot-epoch.true)
          (subst (λ (log : Log). KnowsFront r w.learn.new.self t log (max (length (log_at r.known t)) (min c.args.len (length log)))) w.log.ensures.kept w.in_ok-learn.ensures))
      | else-ballot-epoch w ↦
          subst (λ m. Tries setup a n m x (takes setup a x (msg.Known c.args.from n.id c.args.epoch t c.args.len)) (Ok c.sending.result))
          (sym (w.self-is ∙ ap (λ ph. record n { phase = ph }) (sym c.in-Up.is)))
          (knows_skips setup a n x s r c.in-Up.is c.args.from c.args.epoch t c.args.len there c.logs_grow.ensures c.sending.result none
          (λ h. w.if-ballot-epoch.false (c.ballot.ensures ∙ h)))
    ]
