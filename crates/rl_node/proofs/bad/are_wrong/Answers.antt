use Rattle.std.proofs.Common.{◌≡◌, ◌+◌, ◌∙◌, ◌||◌, drop, true, false, ap, sym, arith}
use Rattle.std.specs.List.{list_any}
use Rattle.rl_paxos.specs.Logs.{Log}
use Rattle.rl_nodes.specs.BadMessages.{is_wrong, carried_from}
use Rattle.rl_node.proofs.Bads.{wrong_at}
use Rattle.rl_node.proofs.bad.are_wrong.Goals as goal

pub returns-then-branch : goal.returns-then-branch
returns-then-branch c =
    let f = is_wrong c.args.schema.now in
    let i = c.loop-i.i in
    let ballots = c.args.ballots.now in
    let logs = c.args.logs.now in
    let rest = list_any f (carried_from (i + 1 + 1) (drop (i + 1) ballots) (drop (i + 1) logs)) in
    let is : f (record { stream = i + 1; epoch = c.get.result.now; log = c.get-in-loop-i.result.now }) ≡ true =
    sym (c.in_ok-is_wrong.ensures ∙ ap (λ (log : Log). f (record { stream = i + 1; epoch = c.get.result.now; log = log })) c.as_slice.ensures) ∙ c.if-branch.true in
    sym (ap (λ b. b || rest) is)
    ∙ sym (wrong_at f i (i + 1) (i + 1) (i + 1 + 1) ballots logs c.get.result.now c.get-in-loop-i.result.now c.get.ensures c.get-in-loop-i.ensures (omega arith) (omega arith))
    ∙ c.loop-i.invariant

pub loop-i-preserved : goal.loop-i-preserved
loop-i-preserved c =
    let f = is_wrong c.args.schema.now in
    let i = c.loop-i.i in
    let ballots = c.args.ballots.now in
    let logs = c.args.logs.now in
    let rest = list_any f (carried_from (i + 1 + 1) (drop (i + 1) ballots) (drop (i + 1) logs)) in
    let is : f (record { stream = i + 1; epoch = c.get.result.now; log = c.get-in-loop-i.result.now }) ≡ false =
    sym (c.in_ok-is_wrong.ensures ∙ ap (λ (log : Log). f (record { stream = i + 1; epoch = c.get.result.now; log = log })) c.as_slice.ensures) ∙ c.if-branch.false in
    sym (ap (λ b. b || rest) is)
    ∙ sym (wrong_at f i (i + 1) (i + 1) (i + 1 + 1) ballots logs c.get.result.now c.get-in-loop-i.result.now c.get.ensures c.get-in-loop-i.ensures (omega arith) (omega arith))
    ∙ c.loop-i.invariant
