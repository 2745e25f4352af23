use Rattle.std.proofs.Common.{[], ◌∷◌, ◌++◌, length, take, get_or, ap, sym, subst, ◌∙◌, arith}
use Rattle.std.proofs.lemmas.List.{take_more, take_all}
use Rattle.rl_paxos.specs.Acceptors.{Acceptor, kept_log}
use Rattle.rl_live.specs.Run.{IsReadAs}
use Rattle.rl_live.proofs.ReadLogs.{slot_of, same_read, node_long}
use Rattle.rl_live.proofs.history.read_logs.Goals as goal

pub log-requires : goal.log-requires
log-requires c =
    let same = c.as_slice-acceptor-items.ensures in
    let x = c.acceptor-item.result in
    let i = c.loop-acceptor.acceptor-index in
    let s = slot_of c.requires.0 c.requires.1 c.requires.2 c.args.node.now c.requires.3 i x
    (let t = c.loop-acceptor-test.true in let n = ap length same in omega arith) (c.acceptor-item.is ∙ ap (λ l. get_or l i x) same) in
    (let n = ap (λ (a : Acceptor). length a.streams) s.is in (omega arith, omega arith))

pub read_log-requires : goal.read_log-requires
read_log-requires c =
    let same = c.as_slice-acceptor-items.ensures in
    let x = c.acceptor-item.result in
    let i = c.loop-acceptor.acceptor-index in
    let family = c.requires.2 in
    let s = slot_of c.requires.0 c.requires.1 family c.args.node.now c.requires.3 i x
    (let t = c.loop-acceptor-test.true in let n = ap length same in omega arith) (c.acceptor-item.is ∙ ap (λ l. get_or l i x) same) in
    (get_or family i [], subst (λ l. IsReadAs l (get_or family i [])) (sym (c.log.ensures.kept ∙ ap (λ (a : Acceptor). kept_log a 1) s.is)) s.read)

pub loop-acceptor-preserved : goal.loop-acceptor-preserved
loop-acceptor-preserved c = λ epoch logs family keeps.
    let same = c.as_slice-acceptor-items.ensures in
    let x = c.acceptor-item.result in
    let i = c.loop-acceptor.acceptor-index in
    let s = slot_of epoch logs family c.args.node.now keeps i x
    (let t = c.loop-acceptor-test.true in let n = ap length same in omega arith) (c.acceptor-item.is ∙ ap (λ l. get_or l i x) same) in
    let here = same_read c.log.result.now c.in_ok-read_log.field-0 (get_or family i []) c.in_ok-read_log.ensures
    (subst (λ l. IsReadAs l (get_or family i [])) (sym (c.log.ensures.kept ∙ ap (λ (a : Acceptor). kept_log a 1) s.is)) s.read) in
    c.in_ok-push.ensures.ok ∙ (ap (λ l. l ++ c.in_ok-read_log.field-0 ∷ []) (c.loop-acceptor.invariant epoch logs family keeps)
    ∙ (ap (λ b. take i family ++ b ∷ []) here ∙ sym (take_more family i [] s.inside)))

pub returns : goal.returns
returns c = λ epoch logs family keeps.
    let same = ap length c.as_slice-acceptor-items.ensures in
    let long = node_long epoch logs family c.args.node.now keeps in
    c.loop-acceptor.invariant epoch logs family keeps ∙ take_all c.loop-acceptor.acceptor-index family (let t = c.loop-acceptor-test.false in omega arith)
