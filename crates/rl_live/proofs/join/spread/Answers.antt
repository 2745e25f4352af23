use Rattle.std.proofs.Common.{rules, ◌≡◌, [], ◌∷◌, ◌++◌, ◌<◌, length, refl, ap, sym, ◌∙◌, arith, length-append}
use Rattle.std.proofs.lemmas.List.{append_assoc}
use Rattle.std.specs.Vec.Iter.{into_iter_items}
use Rattle.rl_base.specs.Lists.{with_last}
use Rattle.rl_live.proofs.Joins.{spread_none, spread_more, spread_long}
use Rattle.rl_live.proofs.join.spread.Goals as goal

pub loop-acceptor-init : goal.loop-acceptor-init
loop-acceptor-init c = record { count = refl; all = search rules; nodes = sym (spread_none c.args.nodes.now) }

pub push_at-requires : goal.push_at-requires
push_at-requires c =
    let i = c.loop-acceptor.invariant in
    let y = c.loop-acceptor.yielded in
    let x = c.in-Some.acceptor in
    let rest = into_iter_items c.next.new.self in
    let whole : y ++ (x ∷ rest) ≡ c.args.acceptors = ap (λ z. y ++ z) (sym c.in-Some.ensures.steps.0) ∙ i.all in
    (let a = ap length whole in let b = length-append y (x ∷ rest) in let d = ap length i.nodes in let e = spread_long c.args.nodes.now y in let f = c.requires in let g = i.count in omega arith)

pub loop-acceptor-preserved : goal.loop-acceptor-preserved
loop-acceptor-preserved c =
    let i = c.loop-acceptor.invariant in
    let y = c.loop-acceptor.yielded in
    let x = c.in-Some.acceptor in
    let rest = into_iter_items c.next.new.self in
    let whole : y ++ (x ∷ rest) ≡ c.args.acceptors = ap (λ z. y ++ z) (sym c.in-Some.ensures.steps.0) ∙ i.all in
    let inside : c.loop-acceptor.at < length c.args.nodes.now = (let a = ap length whole in let b = length-append y (x ∷ rest) in let f = c.requires in let g = i.count in omega arith) in
    record {
      count = (let b = length-append y (x ∷ []) in let g = i.count in omega arith);
      all = append_assoc y (x ∷ []) rest ∙ whole;
      nodes = c.in_ok-push_at.ensures.ok ∙ (ap (λ r. with_last r c.loop-acceptor.at x) i.nodes ∙ spread_more c.args.nodes.now y x c.loop-acceptor.at i.count inside);
    }
