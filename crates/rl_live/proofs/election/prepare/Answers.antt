use Rattle.std.proofs.Common.{◌≡◌, ◌<◌, length, get_or, ap, sym, subst, ◌∙◌, arith, None}
use lib.ListN.{set}
use Rattle.rl_paxos.specs.Acceptors.{Acceptor, prepared, refuses}
use Rattle.rl_live.specs.Elections.{CanPromise}
use Rattle.rl_live.proofs.Adopting.{allows}
use Rattle.rl_live.proofs.Firsts.{firsts_next, firsts_more, firsts_all, firsts_length, one_more, firsts}
use Rattle.rl_live.proofs.election.prepare.Goals as goal

pub unreachable-requires : goal.unreachable-requires
unreachable-requires c =
    let f = λ (a : Acceptor). prepared a c.args.epoch in
    let old = c.args.node.now.items in
    let x = c.index_mut.result.now in
    let e : x ≡ get_or old c.loop-i.i x = c.index_mut.ensures.value ∙ (ap (λ l. get_or l c.loop-i.i x) c.loop-i.invariant ∙ firsts_next f c.loop-i.i old x) in
    let long = firsts_length f c.loop-i.i old in
    let same = ap length c.loop-i.invariant in
    let inside : c.loop-i.i < length old = (let t = c.loop-i-test.true in omega arith) in
    let p = subst (CanPromise c.args.epoch) (sym e) (c.requires c.loop-i.i x inside) in
    let none : refuses x c.args.epoch ≡ None = allows c.args.epoch x p in
    let some = c.in_default.ensures.refused in
    grind arith

pub loop-i-preserved : goal.loop-i-preserved
loop-i-preserved c =
    let f = λ (a : Acceptor). prepared a c.args.epoch in
    let old = c.args.node.now.items in
    let x = c.index_mut.result.now in
    let e : x ≡ get_or old c.loop-i.i x = c.index_mut.ensures.value ∙ (ap (λ l. get_or l c.loop-i.i x) c.loop-i.invariant ∙ firsts_next f c.loop-i.i old x) in
    let long = firsts_length f c.loop-i.i old in
    let same = ap length c.loop-i.invariant in
    let inside : c.loop-i.i < length old = (let t = c.loop-i-test.true in omega arith) in
    ap (λ l. set l c.loop-i.i c.prepare.new.self) c.loop-i.invariant ∙ (firsts_more f c.loop-i.i old x c.prepare.new.self inside (sym e) c.in-Ok.ensures.ok ∙ ap (λ k. firsts f k old) (one_more c.loop-i.i))

pub returns : goal.returns
returns c =
    let f = λ (a : Acceptor). prepared a c.args.epoch in
    let old = c.args.node.now.items in
    let long = firsts_length f c.loop-i.i old in
    let same = ap length c.loop-i.invariant in
    c.loop-i.invariant ∙ firsts_all f c.loop-i.i old (let t = c.loop-i-test.false in omega arith)
