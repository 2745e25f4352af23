-- The report of a run of threads is printed, and the lists have room.
use Rattle.std.proofs.Common.{◌≡◌, ℕ, ◌+◌, ◌<◌, ◌≤◌, List, [], ◌∷◌, ◌++◌, length, map, get_or, All, refl, sym, ap, ◌∙◌, subst, arith, inl, inr}
use Rattle.std.specs.List.{range_with_len}
use Rattle.std.proofs.lemmas.Bool.{cases_lt}
use Rattle.std.proofs.lemmas.List.{get_or_default}
use Rattle.std.proofs.lemmas.List.FromFn.{map-range_with_len_more}
use Rattle.rl_value.specs.Rows.{Rows}
use Rattle.rl_value.specs.Tables.{Table}
use Rattle.rl_live.specs.declared.run.NodeRun.{NodeRun}
use Rattle.rl_report.specs.declared.block.Block.{Block}
use Rattle.rl_txn.specs.Serial.{rows_after}
use Rattle.rl_txn.specs.declared.item.Item.{Item}
use Rattle.rl_script.specs.declared.script.Script.{Script}
use Rattle.rl_report.specs.Lines.{item_line}
use Rattle.rl_report.specs.declared.line.ItemLine.{ItemLine}
use Rattle.rl_report.specs.declared.line.RowLine.{RowLine}
use Rattle.rl_report.specs.declared.middle.Middle.{Middle}
use Rattle.rl_report.specs.declared.report.Report.{Report}
use Rattle.rl_report.specs.declared.report.Title.TheVariants.{Live}
use Rattle.rl_check.specs.Right.{live_report, node_after}
use Rattle.rl_app.specs.Printing.{HasNodes, node_with}

module _ {X : Type 0} (P : X → Type 0) (xs : List X) where
  -- what is true of all before an element, and of that one, is true of all before the next
  pub and_next : (i : ℕ) (x : X) → i < length xs → x ≡ get_or xs i x → ((k : ℕ) (d : X) → k < i → P (get_or xs k d)) → P x
      → (k : ℕ) (d : X) → k < i + 1 → P (get_or xs k d)
  and_next i x within is before here k d l = elim (cases_lt k i) [
    | inl earlier ↦ before k d earlier
    | inr late ↦ (let same : k ≡ i = omega (arith, l, late) in
        subst (λ (j : ℕ). P (get_or xs j d)) (sym same) (subst P (is ∙ get_or_default xs i x d within) here))
  ]

-- one node more has its block
pub block_more : (tables : List Table) (rows : Rows) (nodes : List NodeRun) (i : ℕ) (node : NodeRun) → i < length nodes → node ≡ get_or nodes i node → All (λ (n : NodeRun). n.map ≡ rows) nodes
    → (block : Block) (n : ℕ) → n ≡ i + 1 → block ≡ node_with tables node.map n → (blocks next : List Block) → next ≡ blocks ++ block ∷ []
    → blocks ≡ map (node_with tables rows) (range_with_len 1 i) → next ≡ map (node_with tables rows) (range_with_len 1 (i + 1))
block_more tables rows nodes i node within is each block n numbered block_is blocks next grows before =
    let rows_are : node.map ≡ rows = subst (λ (x : NodeRun). x.map ≡ rows) (sym is) (each i node within) in
    let due : block ≡ node_with tables rows (i + 1) = block_is ∙ ap (λ (r : Rows). node_with tables r n) rows_are ∙ ap (λ (k : ℕ). node_with tables rows k) numbered in
    grows ∙ ap (λ (b : Block). blocks ++ b ∷ []) due ∙ ap (λ (bs : List Block). bs ++ node_with tables rows (i + 1) ∷ []) before
    ∙ sym (map-range_with_len_more (node_with tables rows) 1 i (i + 1) (omega arith))

abbrev report_of : List Middle → List ItemLine → List RowLine → List Block → Report
report_of middle lines tables blocks = record { title = Live; middle = middle; items = lines; tables = tables; blocks = blocks }

-- what is printed of a run is the report of its items
pub printed_is : (script : Script) (items : List Item) (lines : List ItemLine) (nodes : List NodeRun) (blocks : List Block) (middle : List Middle) (tables : List RowLine)
    → lines ≡ map item_line items → HasNodes script.nodes (rows_after script.rows items) nodes
    → ((rows : Rows) → HasNodes (length nodes) rows nodes → blocks ≡ map (node_with script.schema rows) (range_with_len 1 (length nodes)))
    → middle ≡ [] → tables ≡ [] → report_of middle lines tables blocks ≡ live_report script items
printed_is script items lines nodes blocks middle tables of_items has made no_middle no_tables =
    let rows = rows_after script.rows items in
    let due : blocks ≡ map (node_after script items) (range_with_len 1 script.nodes) =
    made rows (record { counted = refl; each = has.each }) ∙ ap (λ (n : ℕ). map (node_with script.schema rows) (range_with_len 1 n)) has.counted in
    ap (λ (m : List Middle). report_of m lines tables blocks) no_middle ∙ ap (λ (xs : List ItemLine). report_of [] xs tables blocks) of_items
    ∙ ap (λ (ts : List RowLine). report_of [] (map item_line items) ts blocks) no_tables ∙ ap (λ (bs : List Block). report_of [] (map item_line items) [] bs) due
