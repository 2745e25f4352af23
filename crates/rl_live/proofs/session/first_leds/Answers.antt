use Rattle.std.proofs.Common.{◌≡◌, List, [], length, map, replicate, ap, sym, subst, ◌∙◌}
use Rattle.rl_paxos.specs.Acceptors.{Acceptor}
use Rattle.rl_live.specs.Elections.{HaveSameLogs, led_with, with_mark}
use Rattle.rl_live.proofs.Finishing.{first_logs, first_leds}
use Rattle.rl_live.proofs.Hands.{copies_long}
use Rattle.rl_live.proofs.Opens.{ok_two}
use Rattle.rl_live.proofs.session.first_leds.Goals as goal

pub elect-requires-clause-same : goal.elect-requires-clause-same
elect-requires-clause-same g c =
    let n = c.args.script.now.nodes in
    let w = c.args.script.now.workers in
    (replicate w [], subst (λ (rows : List (List Acceptor)). HaveSameLogs (replicate w []) w rows) (sym c.in_ok-nodes.ensures) (first_logs n w))

pub returns : goal.returns
returns g c =
    let n = c.args.script.now.nodes in
    let w = c.args.script.now.workers in
    let same = subst (λ (rows : List (List Acceptor)). HaveSameLogs (replicate w []) w rows) (sym c.in_ok-nodes.ensures) (first_logs n w) in
    let many : length c.in_ok-nodes.nodes.items ≡ n = ap length c.in_ok-nodes.ensures ∙ copies_long n _ in
    ok_two c.elect.result _ _ _ c.elect.ensures c.elect.ensures (λ leds h i. first_leds n w leds.items (h (replicate w []) same ∙ ap (λ k. map (led_with 1 k) (map (with_mark 1) (replicate w []))) many))
