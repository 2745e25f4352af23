use Rattle.std.proofs.Common.{rules, ◌≡◌, suc, [], ◌∷◌, ◌++◌, length, ap, sym, ◌∙◌, arith, length-append}
use Rattle.std.proofs.lemmas.List.{append_assoc, length-replicate}
use Rattle.std.specs.Vec.Iter.{into_iter_items}
use Rattle.rl_store.specs.declared.view.View.{View}
use Rattle.rl_live.proofs.Joins.{spread_long, joined_none, joined_more, end_at, done_long}
use Rattle.rl_live.proofs.join.join_all.Goals as goal

pub loop-result-init : goal.loop-result-init
loop-result-init c = record {
  all = search rules;
  own = c.requires.own;
  rest = c.requires.rest;
  many = ap length c.in_ok-nodes.ensures ∙ length-replicate c.args.script.now.nodes [];
  joined = λ progress tries a. joined_none c.args.script.now c.args.store.now progress tries c.args.pass c.in_ok-nodes.nodes c.requires.own c.requires.rest c.in_ok-nodes.ensures;
}

pub loop-result-preserved : goal.loop-result-preserved
loop-result-preserved c =
    let i = c.loop-result.invariant in
    let y = c.loop-result.yielded in
    let x = c.in-Some.result in
    let d = c.in_ok-done.done in
    let rest = into_iter_items c.next.new.self in
    let script = c.args.script.now in
    let store = c.args.store.now in
    let whole : y ++ (x ∷ rest) ≡ c.args.results.items = ap (λ z. y ++ z) (sym c.in-Some.ensures.steps.0) ∙ i.all in
    let count : length (y ++ x ∷ []) ≡ suc (length y) = (let n = length-append y (x ∷ []) in omega arith) in
    record {
      all = append_assoc y (x ∷ []) rest ∙ whole;
      own = c.join.ensures.table ∙ i.own;
      rest = ap (λ (v : View). v.attempt) c.join.ensures.joined ∙ i.rest;
      many = ap length c.in_ok-spread.ensures ∙ (spread_long c.loop-result.nodes d.acceptors ∙ i.many);
      joined = λ progress tries a.
          joined_more script store progress tries (length y) (length (y ++ x ∷ [])) c.args.pass c.loop-result.pass c.join.new.self c.loop-result.nodes c.spread.new.nodes d count
          (i.joined progress tries a) (end_at script store progress tries c.args.results.items y rest x d a whole c.in_ok-done.was)
          c.join.ensures.table c.join.ensures.joined c.in_ok-spread.ensures;
    }

pub join-requires-clause-tables : goal.join-requires-clause-tables
join-requires-clause-tables c =
    let i = c.loop-result.invariant in
    let y = c.loop-result.yielded in
    let x = c.in-Some.result in
    let rest = into_iter_items c.next.new.self in
    let whole : y ++ (x ∷ rest) ≡ c.args.results.items = ap (λ z. y ++ z) (sym c.in-Some.ensures.steps.0) ∙ i.all in
    let e = c.requires.ended in
    (i.own, (end_at c.args.script.now c.args.store.now e.0 e.1 c.args.results.items y rest x c.in_ok-done.done e.2 whole c.in_ok-done.was).2.own)

pub join-requires-clause-rest : goal.join-requires-clause-rest
join-requires-clause-rest c =
    let i = c.loop-result.invariant in
    let y = c.loop-result.yielded in
    let x = c.in-Some.result in
    let rest = into_iter_items c.next.new.self in
    let whole : y ++ (x ∷ rest) ≡ c.args.results.items = ap (λ z. y ++ z) (sym c.in-Some.ensures.steps.0) ∙ i.all in
    let e = c.requires.ended in
    (i.rest, (end_at c.args.script.now c.args.store.now e.0 e.1 c.args.results.items y rest x c.in_ok-done.done e.2 whole c.in_ok-done.was).2.rest)

pub spread-requires : goal.spread-requires
spread-requires c =
    let i = c.loop-result.invariant in
    let y = c.loop-result.yielded in
    let x = c.in-Some.result in
    let rest = into_iter_items c.next.new.self in
    let whole : y ++ (x ∷ rest) ≡ c.args.results.items = ap (λ z. y ++ z) (sym c.in-Some.ensures.steps.0) ∙ i.all in
    let e = c.requires.ended in
    done_long c.args.script.now c.args.store.now e.0 e.1 (suc (length y)) c.in_ok-done.done (end_at c.args.script.now c.args.store.now e.0 e.1 c.args.results.items y rest x c.in_ok-done.done e.2 whole c.in_ok-done.was) ∙ sym i.many
