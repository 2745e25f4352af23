use Rattle.std.proofs.Common.{◌≡◌, ◌+◌, ◌*◌, ◌/◌, ◌%◌, arith}
use Rattle.std.proofs.lemmas.Nat.{div-add-mod'}
use Rattle.rl_base.proofs.Turns.{next_in_round}
use Rattle.rl_base.proofs.epoch.turns_between.Goals as goal

pub returns-then-turn-passed-clause-least : goal.returns-then-turn-passed-clause-least
returns-then-turn-passed-clause-least c =
    let promised = c.args.promised in
    let nodes = c.args.nodes in
    let parts : promised / nodes * nodes + promised % nodes ≡ promised = div-add-mod' promised nodes in
    next_in_round promised c.args.node nodes (promised / nodes) _ c.requires.first c.requires.last (omega arith) (omega arith) (omega arith)

pub returns-else-turn-passed-clause-least : goal.returns-else-turn-passed-clause-least
returns-else-turn-passed-clause-least c =
    let promised = c.args.promised in
    let nodes = c.args.nodes in
    let parts : promised / nodes * nodes + promised % nodes ≡ promised = div-add-mod' promised nodes in
    next_in_round promised c.args.node nodes (promised / nodes + 1) _ c.requires.first c.requires.last (omega arith) (omega arith) (omega arith)
