use Rattle.std.proofs.Common.{rules, [], ◌∷◌, ◌++◌, ◌+◌, map, refl, ap, sym, ◌∙◌, arith, length-append}
use Rattle.std.proofs.lemmas.List.{append_assoc}
use Rattle.std.specs.Vec.Iter.{into_iter_items}
use Rattle.rl_live.specs.Elections.{with_node}
use Rattle.rl_live.proofs.Adopting.{no_nodes, nodes_more}
use Rattle.rl_live.proofs.election.sync.Goals as goal

pub loop-node-init : goal.loop-node-init
loop-node-init g c = record { count = refl; all = search rules; leds = sym (no_nodes c.args.epoch c.args.leds.now.items) }

pub loop-node-preserved : goal.loop-node-preserved
loop-node-preserved g c =
    let i = c.loop-node.invariant in
    let y = c.loop-node.yielded in
    let x = c.in-Some.node in
    let rest = into_iter_items c.next.new.self in
    let k = c.loop-node.number in
    record {
      count = (let n = length-append y (x ∷ []) in let t = i.count in omega arith);
      all = append_assoc y (x ∷ []) rest ∙ (ap (λ z. y ++ z) (sym c.in-Some.ensures.steps.0) ∙ i.all);
      leds = c.in_ok-sync_node.ensures ∙ (ap (map (with_node c.args.epoch (k + 1))) i.leds ∙ nodes_more c.args.epoch k c.args.leds.now.items);
    }
