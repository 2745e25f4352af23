-- The summary of the run of a generated script.
use Rattle.std.specs.Prelude.{◌≡◌, ℕ, ◌%◌, ◌^◌, Bool, true, false, List, [], ◌∷◌, length, map, filter, sum, sum_by, codes}
use Rattle.std.specs.Fmt.{decimal}
use Rattle.rl_text.specs.Printed.{Line, text_of}
use Rattle.rl_nodes.specs.Reports.{report_of}
use Rattle.rl_nodes.specs.Safe.{Safe}
use Rattle.rl_nodes.specs.Setups.{Setup}
use Rattle.rl_nodes.specs.World.{World}
use Rattle.rl_report.specs.Printed.{at_word, head_words}
use Rattle.rl_report.specs.declared.block.Block.{Block}
use Rattle.rl_report.specs.declared.block.Head.{Head}
use Rattle.rl_report.specs.declared.block.Head.TheVariants.{Up}
use Rattle.rl_report.specs.declared.line.RowLine.{RowLine}
use Rattle.rl_report.specs.declared.middle.Middle.{Middle}
use Rattle.rl_report.specs.declared.middle.Middle.TheVariants.{Locked, Changed}
use Rattle.rl_report.specs.declared.report.Report.{Report}
use Rattle.rl_world.specs.Reported.{reported}

-- whether a line tells of an attempt that was refused
abbrev pub is_refused : Middle → Bool
is_refused (Locked e w i t k word) = true
is_refused (Changed e w i t k seen found) = true
is_refused other = false

-- the sum of all columns of some rows, as a word of 64 bits holds it
abbrev pub sum_of : List RowLine → ℕ
sum_of rows = sum_by (λ x. sum x.row) rows % 2 ^ 64

-- how far a node's replica has come, and the sum of its rows; else its state, which is for completeness: no generated script has a
-- crash or a loss, so each of its nodes is up
abbrev pub standing_words : Head → List RowLine → Line
standing_words (Up promised role watermark at) rows =
    codes "watermark" ∷ decimal watermark.0 ∷ decimal watermark.1 ∷ at_word at ∷ codes "sum" ∷ decimal (sum_of rows) ∷ []
standing_words other rows = head_words other

-- a node
abbrev pub node_words : Block → Line
node_words b = codes "node" ∷ decimal b.node ∷ standing_words b.head b.rows

-- how many requests there were, how many items were released and how many attempts refused, and each node
abbrev pub summary_lines : (requests : ℕ) → Report → List Line
summary_lines requests r =
    (codes "rolis" ∷ codes "gen" ∷ [])
    ∷ (codes "requests" ∷ decimal requests ∷ [])
    ∷ (codes "items" ∷ decimal (length r.items) ∷ [])
    ∷ (codes "refused" ∷ decimal (length (filter is_refused r.middle)) ∷ [])
    ∷ map node_words r.blocks

-- the summary of a world with so many requests, which is safe
pub record IsSummary (requests : ℕ) (setup : Setup) (w : World) (text : List ℕ) : Type 0 where
  pub lines : text ≡ text_of (summary_lines requests (reported setup.program.tables (report_of setup w)))
  pub safe : Safe setup w
