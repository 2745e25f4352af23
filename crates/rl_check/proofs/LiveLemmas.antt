-- The parts of the report of a run of threads, and its verdict.
use Rattle.std.proofs.Common.{◌≡◌, ℕ, ◌+◌, List, [], ◌∷◌, length, map, All, Ok, refl, ap, subst, ◌∙◌}
use Rattle.std.specs.List.{range_with_len}
use Rattle.std.proofs.lemmas.List.{length-map}
use Rattle.std.proofs.lemmas.List.Elements.{All-head, All-tail}
use Rattle.rl_txn.specs.Serial.{IsWhole}
use Rattle.rl_txn.specs.declared.item.Item.{Item}
use Rattle.rl_script.specs.declared.script.Script.{Script}
use Rattle.rl_report.specs.Forms.{HasForm, IsPlain, IsReport}
use Rattle.rl_report.specs.Lines.{item_line}
use Rattle.rl_report.specs.Printed.{printed}
use Rattle.rl_report.specs.Read.{read_report}
use Rattle.rl_report.specs.declared.block.Block.{Block}
use Rattle.rl_report.specs.declared.block.Head.{Head}
use Rattle.rl_report.specs.declared.block.Head.TheVariants.{Plain}
use Rattle.rl_report.specs.declared.line.ItemLine.{ItemLine}
use Rattle.rl_report.specs.declared.line.RowLine.{RowLine}
use Rattle.rl_report.specs.declared.line.StreamLine.{StreamLine}
use Rattle.rl_report.specs.declared.middle.Middle.{Middle}
use Rattle.rl_report.specs.declared.report.Report.{Report}
use Rattle.rl_report.specs.declared.report.Title.{Title}
use Rattle.rl_report.specs.declared.report.Title.TheVariants.{Live}
use Rattle.rl_check.specs.declared.verdict.Verdict.{Verdict}
use Rattle.rl_check.specs.declared.verdict.Verdict.TheVariants.{Yes, No}
use Rattle.rl_check.specs.declared.verdict.Why.TheVariants as why
use Rattle.rl_check.specs.Right.{MayDecide, node_after, live_report}
use Rattle.rl_check.specs.Verdicts.{AreRight, rows_due, IsVerdict}
use Rattle.rl_check.specs.Reruns.{IsItemVerdict, IsNodesVerdict}

abbrev block_of : ℕ → Head → List StreamLine → List RowLine → Block
block_of node head streams rows = record { node = node; head = head; streams = streams; rows = rows }

abbrev report_of : Title → List Middle → List ItemLine → List RowLine → List Block → Report
report_of title middle items tables blocks = record { title = title; middle = middle; items = items; tables = tables; blocks = blocks }

-- a node of a run of threads with the rows due
block_is : (script : Script) (items : List Item) (b : Block) (n : ℕ) → b.node ≡ n → IsPlain b → b.rows ≡ rows_due script items → b ≡ node_after script items n
block_is script items b n number plain rows =
    ap (λ node. block_of node b.head b.streams b.rows) number ∙ ap (λ head. block_of n head b.streams b.rows) plain.head
    ∙ ap (λ streams. block_of n Plain streams b.rows) plain.streams ∙ ap (λ rows. block_of n Plain [] rows) rows

blocks_are : (script : Script) (items : List Item) (blocks : List Block) (from : ℕ) → map (λ (b : Block). b.node) blocks ≡ range_with_len from (length blocks) → All IsPlain blocks → AreRight (rows_due script items) blocks
    → blocks ≡ map (node_after script items) (range_with_len from (length blocks))
blocks_are script items [] from numbers plain right = refl
blocks_are script items (b ∷ blocks) from numbers plain right =
    let number : b.node ≡ from = cc in
    let later : map (λ (b : Block). b.node) blocks ≡ range_with_len (from + 1) (length blocks) = cc in
    let first = block_is script items b from number (All-head IsPlain b blocks plain) (All-head (λ (b : Block). b.rows ≡ rows_due script items) b blocks right) in
    let rest = blocks_are script items blocks (from + 1) later (All-tail IsPlain b blocks plain) (All-tail (λ (b : Block). b.rows ≡ rows_due script items) b blocks right) in
    ap (λ x. x ∷ blocks) first ∙ ap (λ xs. node_after script items from ∷ xs) rest

module _ (script : Script) (report : Report) (title : report.title ≡ Live) (form : IsReport report) where
  live_form : HasForm Live report
  live_form = subst (λ t. HasForm t report) title form

  -- a report whose items and nodes are right is that of these items
  pub live_is : (items : List Item) → report.items ≡ map item_line items → length report.blocks ≡ script.nodes → AreRight (rows_due script items) report.blocks → report ≡ live_report script items
  live_is items lines count right =
      let nodes = blocks_are script items report.blocks 1 live_form.2.1 live_form.2.2 right ∙ ap (λ n. map (node_after script items) (range_with_len 1 n)) count in
      ap (λ t. report_of t report.middle report.items report.tables report.blocks) title
      ∙ ap (λ m. report_of Live m report.items report.tables report.blocks) live_form.0
      ∙ ap (λ xs. report_of Live [] xs report.tables report.blocks) lines
      ∙ ap (λ ts. report_of Live [] (map item_line items) ts report.blocks) live_form.1
      ∙ ap (λ bs. report_of Live [] (map item_line items) [] bs) nodes

  module _ (text : List ℕ) (read : read_report text ≡ Ok report) (prints : text ≡ printed report) where
    -- the verdict on the first item that is wrong
    pub item_verdict : (v : Verdict) → IsItemVerdict script report.items v → IsVerdict script text v
    item_verdict (Yes n) is = absurd is
    item_verdict (No line why.Form) is = absurd is.wrong
    item_verdict (No line why.Title) is = absurd is.wrong
    item_verdict (No line why.Stamp) is = (report, read, title, is)
    item_verdict (No line why.Request) is = (report, read, title, is)
    item_verdict (No line why.Reply) is = (report, read, title, is)
    item_verdict (No line why.Missing) is = absurd is.wrong
    item_verdict (No line why.Table) is = absurd is.wrong
    item_verdict (No line why.Nodes) is = absurd is.wrong

    -- the verdict where requests have no item
    pub missing_verdict : (items : List Item) → report.items ≡ map item_line items → MayDecide script items → (IsWhole script.lists items → ⊥) → IsVerdict script text (No 2 why.Missing)
    missing_verdict items lines decided short = (report, read, title, (items, record { of_items = lines; decided = decided }, short, refl))

    -- the verdict on the nodes
    pub nodes_verdict : (items : List Item) → report.items ≡ map item_line items → MayDecide script items → IsWhole script.lists items → (v : Verdict) → IsNodesVerdict script.nodes (rows_due script items) report v → IsVerdict script text v
    nodes_verdict items lines decided whole (Yes n) is =
        (items, record { prints = prints ∙ ap printed (live_is items lines is.1 is.2); decided = decided; whole = whole }, is.0 ∙ ap length lines ∙ length-map items item_line)
    nodes_verdict items lines decided whole (No line why.Form) is = absurd is
    nodes_verdict items lines decided whole (No line why.Title) is = absurd is
    nodes_verdict items lines decided whole (No line why.Stamp) is = absurd is
    nodes_verdict items lines decided whole (No line why.Request) is = absurd is
    nodes_verdict items lines decided whole (No line why.Reply) is = absurd is
    nodes_verdict items lines decided whole (No line why.Missing) is = absurd is
    nodes_verdict items lines decided whole (No line why.Table) is = (report, read, title, (items, record { all = record { of_items = lines; decided = decided }; whole = whole }, is))
    nodes_verdict items lines decided whole (No line why.Nodes) is = (report, read, title, (items, record { all = record { of_items = lines; decided = decided }; whole = whole }, is))
