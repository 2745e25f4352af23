use Rattle.std.proofs.Common.{◌≡◌, ◌+◌, ◌∷◌, [], length, sym, ap, ◌∙◌, arith, length-append}
use Rattle.std.proofs.lemmas.Result.{err_from_is_err_and}
use Rattle.rl_report.specs.Read.{nodes}
use Rattle.rl_report.specs.Readers.{always}
use Rattle.rl_report.specs.Words.{lines_in}
use Rattle.rl_report.specs.declared.block.Head.TheVariants.{Plain}
use Rattle.rl_report.proofs.Loops.{values_left, onto_nothing, left_more, left_wrong, left_done, stopped}
use Rattle.rl_report.proofs.Shorter.{more_nodes, read_node, plain_shorter}
use Rattle.rl_report.proofs.lent.lent_nodes.Goals as goal

pub nodes-init : goal.nodes-init
unfolding nodes
nodes-init c = record {
  same = ap (λ xs. values_left more_nodes (read_node (always Plain)) xs (lines_in c.args.text.now)) c.new-blocks.ensures ∙ onto_nothing _;
  shorter = omega (arith, ap length c.new-blocks.ensures);
}

pub returns-then-not-comes : goal.returns-then-not-comes
returns-then-not-comes c =
    let num : 1 + length c.nodes.blocks ≡ c.len.result + 1 = omega (arith, c.len.ensures) in
    sym c.nodes.invariant.same ∙ left_done more_nodes (read_node (always Plain)) plain_shorter c.nodes.blocks (lines_in c.nodes.rest.now) (ap (λ m. more_nodes m (lines_in c.nodes.rest.now)) num ∙ sym c.node_comes-comes.ensures ∙ c.if-not-comes.true)

pub returns-in_err-block : goal.returns-in_err-block
returns-in_err-block c =
    let num : 1 + length c.nodes.blocks ≡ c.len.result + 1 = omega (arith, c.len.ensures) in
    let p = err_from_is_err_and c.from_residual.result c.from_residual.ensures.1 in
    rw (p.1, p.2) (stopped c.in_err-block.field-0.0 _ _
    (λ fault wrong. sym c.nodes.invariant.same ∙ left_wrong more_nodes (read_node (always Plain)) plain_shorter c.nodes.blocks (lines_in c.nodes.rest.now) fault (ap (λ m. more_nodes m (lines_in c.nodes.rest.now)) num ∙ sym c.node_comes-comes.ensures ∙ c.if-not-comes.false) (ap (λ m. (read_node (always Plain)) m (lines_in c.nodes.rest.now)) num ∙ wrong)) c.in_err-block.ensures.block)

pub nodes-preserved : goal.nodes-preserved
nodes-preserved c = let num : 1 + length c.nodes.blocks ≡ c.len.result + 1 = omega (arith, c.len.ensures) in record {
  same = left_more more_nodes (read_node (always Plain)) plain_shorter c.nodes.blocks c.push.new.self c.in_ok-block.block (lines_in c.nodes.rest.now) (lines_in c.in_ok-block.after.now) (ap (λ m. more_nodes m (lines_in c.nodes.rest.now)) num ∙ sym c.node_comes-comes.ensures ∙ c.if-not-comes.false) (ap (λ m. (read_node (always Plain)) m (lines_in c.nodes.rest.now)) num ∙ c.in_ok-block.ensures.block) c.in_ok-push.ensures.ok
      ∙ c.nodes.invariant.same;
  shorter = omega (arith, c.nodes.invariant.shorter, c.in_ok-block.ensures.shorter, ap length c.in_ok-push.ensures.ok, length-append c.nodes.blocks (c.in_ok-block.block ∷ []));
}
