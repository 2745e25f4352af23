use Rattle.std.proofs.Common.{◌≡◌, [], ◌∷◌, ◌++◌, ◌<◌, length, get_or, ap, sym, ◌∙◌, arith, length-append, append-nil}
use Rattle.std.proofs.lemmas.List.{append_assoc}
use Rattle.std.specs.Vec.Iter.{into_iter_items}
use lib.ListN.{set}
use Rattle.rl_live.specs.Elections.{with_node}
use Rattle.rl_live.proofs.Firsts.{firsts, firsts_next, firsts_more, firsts_all, firsts_length, one_more}
use Rattle.rl_shared_replay.proofs.Wholes.{no_more}
use Rattle.rl_live.proofs.election.sync_node.Goals as goal

pub index_mut-requires : goal.index_mut-requires
index_mut-requires g c =
    let i = c.loop-acceptor.invariant in
    let f = with_node c.args.epoch c.args.number in
    let y = c.loop-acceptor.yielded in
    let rest = into_iter_items c.next.new.self in
    let whole : y ++ (c.in-Some.acceptor ∷ rest) ≡ c.args.node = ap (λ z. y ++ z) (sym c.in-Some.ensures.steps.0) ∙ i.all in
    let n = ap length whole in
    let m = length-append y (c.in-Some.acceptor ∷ rest) in
    let k = ap length i.leds in
    let l = firsts_length f c.loop-acceptor.s c.args.leds.now.items in
    let s = c.requires.streams in
    let t = i.count in
    let v = c.loop-acceptor.leds.ok.0 in
    omega arith

pub loop-acceptor-preserved : goal.loop-acceptor-preserved
loop-acceptor-preserved g c =
    let i = c.loop-acceptor.invariant in
    let f = with_node c.args.epoch c.args.number in
    let y = c.loop-acceptor.yielded in
    let s = c.loop-acceptor.s in
    let old = c.args.leds.now.items in
    let a = c.in-Some.acceptor in
    let rest = into_iter_items c.next.new.self in
    let whole : y ++ (a ∷ rest) ≡ c.args.node = ap (λ z. y ++ z) (sym c.in-Some.ensures.steps.0) ∙ i.all in
    let x = c.index_mut.result.now in
    let e : x ≡ get_or old s x = c.index_mut.ensures.value ∙ (ap (λ l. get_or l s x) i.leds ∙ firsts_next f s old x) in
    let inside : s < length old = (let n = ap length whole in let m = length-append y (a ∷ rest) in let k = c.requires.streams in let t = i.count in omega arith) in
    record {
      count = (let n = length-append y (a ∷ []) in let t = i.count in omega arith);
      all = append_assoc y (a ∷ []) rest ∙ whole;
      leds = ap (λ l. set l s c.sync_one.new.led) i.leds ∙ (firsts_more f s old x c.sync_one.new.led inside (sym e) c.in_ok-sync_one.ensures ∙ ap (λ k. firsts f k old) (one_more s));
    }

pub returns : goal.returns
returns g c =
    let i = c.loop-acceptor.invariant in
    let f = with_node c.args.epoch c.args.number in
    let y = c.loop-acceptor.yielded in
    let s = c.loop-acceptor.s in
    let old = c.args.leds.now.items in
    let none : into_iter_items c.loop-acceptor.acceptor-iterator ≡ [] = no_more (into_iter_items c.loop-acceptor.acceptor-iterator) (let a = c.loop-acceptor.acceptor-iterator.rest.ok.0 in let b = c.in-None.ensures.steps.0 in omega arith) in
    let whole : y ≡ c.args.node = sym (append-nil y) ∙ (ap (λ z. y ++ z) (sym none) ∙ i.all) in
    i.leds ∙ firsts_all f s old (let n = ap length whole in let k = c.requires.streams in let t = i.count in omega arith)
