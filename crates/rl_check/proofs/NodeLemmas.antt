-- The lines of nodes.
use Rattle.std.proofs.Common.{◌≡◌, ℕ, ◌+◌, ◌<◌, ◌≤◌, List, [], ◌∷◌, length, take, get_or, sum_by, All, sym, ap, subst, arith}
use Rattle.std.proofs.lemmas.List.{take_more, take_all}
use Rattle.std.proofs.lemmas.List.Elements.{All-nil, All-cons, All-append}
use Rattle.std.proofs.lemmas.List.Sums.{sum_by_more, sum_by-take-le}
use Rattle.rl_report.specs.declared.block.Block.{Block}
use Rattle.rl_report.specs.declared.line.RowLine.{RowLine}
use Rattle.rl_report.specs.declared.report.Report.{Report}
use Rattle.rl_check.specs.Verdicts.{AreRight, node_line}

abbrev lines_of_node : Block → ℕ
lines_of_node b = 1 + length b.rows

-- the line of the next node
pub node_more : (r : Report) (i : ℕ) (b : Block) → i < length r.blocks → b ≡ get_or r.blocks i b → node_line r (i + 1) ≡ node_line r i + (1 + length b.rows)
node_more r i b within at =
    let sum : sum_by lines_of_node (take (i + 1) r.blocks) ≡ sum_by lines_of_node (take i r.blocks) + lines_of_node (get_or r.blocks i b) = sum_by_more lines_of_node r.blocks i b within in
    let same : lines_of_node (get_or r.blocks i b) ≡ lines_of_node b = ap lines_of_node (sym at) in
    omega arith

-- none is behind the last one
pub node_le : (r : Report) (i : ℕ) → node_line r i ≤ node_line r (length r.blocks)
node_le r i =
    let part = sum_by-take-le lines_of_node r.blocks i in
    let all : sum_by lines_of_node (take (length r.blocks) r.blocks) ≡ sum_by lines_of_node r.blocks = ap (sum_by lines_of_node) (take_all (length r.blocks) r.blocks (omega arith)) in
    omega arith

-- one more node is right
pub right_more : (due : List RowLine) (blocks : List Block) (i : ℕ) (b : Block) → i < length blocks → b ≡ get_or blocks i b → AreRight due (take i blocks) → b.rows ≡ due → AreRight due (take (i + 1) blocks)
right_more due blocks i b within at before here =
    subst (AreRight due) (sym (take_more blocks i b within))
    (All-append (λ (b : Block). b.rows ≡ due) (take i blocks) (get_or blocks i b ∷ []) before
    (subst (λ (x : Block). All (λ (b : Block). b.rows ≡ due) (x ∷ [])) at (All-cons (λ (b : Block). b.rows ≡ due) b [] here (All-nil (λ (b : Block). b.rows ≡ due)))))
