use Rattle.std.proofs.Common.{◌≡◌, List, length, map, All, ap, sym, subst, ◌∙◌, arith}
use Rattle.rl_paxos.specs.Acceptors.{Acceptor}
use Rattle.rl_live.specs.Elections.{CanPromise, new_led, promising, with_mark, with_nodes}
use Rattle.rl_live.proofs.Firsts.{map_long, map_twice}
use Rattle.rl_live.proofs.Adopting.{still_nodes, as_many}
use Rattle.rl_live.proofs.election.elect.Goals as goal

pub sync-requires-clause-ready : goal.sync-requires-clause-ready
sync-requires-clause-ready g c =
    subst (All (All (CanPromise c.args.epoch))) (sym c.in_ok-nodes.ensures.nodes) (still_nodes c.args.epoch c.args.nodes.items c.requires.ready)

pub sync-requires-clause-streams : goal.sync-requires-clause-streams
sync-requires-clause-streams g c =
    let logs = c.requires.same.0 in
    let same = c.requires.same.1 in
    let count = c.len-count.result in
    let many : c.args.streams ≡ length c.in_ok-leds.leds.items =
    sym (ap length c.in_ok-leds.ensures ∙ (map_long (new_led c.args.epoch _) (map (with_mark c.args.epoch) c.in_ok-nodes.logs) ∙ (map_long (with_mark c.args.epoch) c.in_ok-nodes.logs ∙ (ap length (c.in_ok-nodes.ensures.logs logs same) ∙ same.streams_are)))) in
    subst (λ k. All (λ (n : List Acceptor). length n ≡ k) c.in_ok-nodes.nodes.items) many
    (subst (All (λ (n : List Acceptor). length n ≡ c.args.streams)) (sym c.in_ok-nodes.ensures.nodes) (as_many c.args.epoch c.args.streams logs c.args.nodes.items same))

pub returns : goal.returns
returns g c = λ logs same.
    let e = c.args.epoch in
    let n = length c.args.nodes.items in
    let xs = map (with_mark e) logs in
    let counted : c.len-count.result ≡ n = (let a = c.len-count.ensures in let v = c.args.nodes.ok.0 in omega arith) in
    let many : length c.in_ok-nodes.nodes.items ≡ n = ap length c.in_ok-nodes.ensures.nodes ∙ map_long (promising e) c.args.nodes.items in
    c.in_ok-sync.ensures ∙ (ap (λ k. map (with_nodes e k) c.in_ok-leds.leds.items) many
    ∙ (ap (map (with_nodes e n)) (c.in_ok-leds.ensures ∙ (ap (λ k. map (new_led e k) (map (with_mark e) c.in_ok-nodes.logs)) counted ∙ ap (λ l. map (new_led e n) (map (with_mark e) l)) (c.in_ok-nodes.ensures.logs logs same)))
    ∙ map_twice (with_nodes e n) (new_led e n) xs))
