-- A text has at least as many bytes as lines.
use Rattle.std.proofs.Common.{◌≡◌, ℕ, ◌+◌, ◌≤◌, List, [], ◌∷◌, ◌++◌, codes, length, map, take, sum_by, ap, ◌∙◌, arith, length-append}
use Rattle.std.specs.Fmt.{decimal}
use Rattle.std.specs.List.{flat_map}
use Rattle.std.proofs.lemmas.List.{length-map, take_all}
use Rattle.std.proofs.lemmas.List.Concat.{flat_map-cons}
use Rattle.std.proofs.lemmas.List.Sums.{sum_by-cons}
use Rattle.rl_text.specs.Printed.{Line, line_of, text_of}
use Rattle.rl_report.specs.Printed.{item_words, row_words, stream_words, title_word, table_lines, block_lines, middle_lines, report_lines, printed}
use Rattle.rl_report.specs.declared.block.Block.{Block}
use Rattle.rl_report.specs.declared.report.Report.{Report}
use Rattle.rl_check.specs.Verdicts.{node_line}

lines_le : (lines : List Line) → length lines ≤ length (text_of lines)
lines_le [] = omega arith
lines_le (words ∷ lines) =
    let rest = lines_le lines in
    let parts : length (text_of (words ∷ lines)) ≡ length (line_of words ++ 10 ∷ []) + length (text_of lines) =
    ap length (flat_map-cons (λ (l : Line). line_of l ++ 10 ∷ []) words lines) ∙ length-append (line_of words ++ 10 ∷ []) (text_of lines) in
    let one : length (line_of words ++ 10 ∷ []) ≡ length (line_of words) + 1 = length-append (line_of words) (10 ∷ []) in
    omega arith

abbrev lines_of_node : Block → ℕ
lines_of_node b = 1 + length b.rows

block_le : (b : Block) → lines_of_node b ≤ length (block_lines b)
block_le b =
    let streams = map stream_words b.streams in
    let parts : length (streams ++ map row_words b.rows) ≡ length streams + length (map row_words b.rows) = length-append streams (map row_words b.rows) in
    let rows : length (map row_words b.rows) ≡ length b.rows = length-map b.rows row_words in
    omega arith

blocks_le : (blocks : List Block) → sum_by lines_of_node blocks ≤ length (flat_map block_lines blocks)
blocks_le [] = omega arith
blocks_le (b ∷ blocks) =
    let first = block_le b in
    let rest = blocks_le blocks in
    let parts : length (flat_map block_lines (b ∷ blocks)) ≡ length (block_lines b) + length (flat_map block_lines blocks) =
    ap length (flat_map-cons block_lines b blocks) ∙ length-append (block_lines b) (flat_map block_lines blocks) in
    let sum : sum_by lines_of_node (b ∷ blocks) ≡ lines_of_node b + sum_by lines_of_node blocks = sum_by-cons lines_of_node b blocks in
    omega arith

-- the lines of a report
count_lines : (title count : Line) (middle items tables nodes : List Line) → length (title ∷ middle ++ count ∷ items ++ tables ++ nodes) ≡ length middle + length items + length tables + length nodes + 2
count_lines title count middle items tables nodes = simp length-append (omega arith)

-- the line behind the last node is at most the one behind the text
pub last_line_le : (r : Report) → node_line r (length r.blocks) ≤ length (printed r) + 1
last_line_le r =
    let nodes = flat_map block_lines r.blocks in
    let items = map item_words r.items in
    let tables = table_lines r.title r.tables in
    let middle = flat_map middle_lines r.middle in
    let whole : length (report_lines r) ≡ length middle + length items + length tables + length nodes + 2 =
    count_lines (codes "rolis" ∷ title_word r.title ∷ []) (codes "items" ∷ decimal (length r.items) ∷ []) middle items tables nodes in
    let lines = lines_le (report_lines r) in
    let sum = blocks_le r.blocks in
    let same : length items ≡ length r.items = length-map r.items item_words in
    let all : take (length r.blocks) r.blocks ≡ r.blocks = take_all (length r.blocks) r.blocks (omega arith) in
    let taken : sum_by lines_of_node (take (length r.blocks) r.blocks) ≡ sum_by lines_of_node r.blocks = ap (sum_by lines_of_node) all in
    omega arith
