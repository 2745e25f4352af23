-- A node as it is reported is one of a simulated run.
use Rattle.std.proofs.Common.{◌≡◌, ℕ, zero, suc, ◌+◌, ◌<◌, List, [], ◌∷◌, length, map, All, refl, sym, ap, subst, ◌∙◌, arith}
use Rattle.std.specs.List.{range_with_len}
use Rattle.std.proofs.lemmas.List.{length-map}
use Rattle.std.proofs.lemmas.List.Elements.{All-nil, All-cons, All-head, All-tail}
use Rattle.rl_election.specs.World.{State, Up, Down, Lost}
use Rattle.rl_value.specs.Fits.{RowsFit}
use Rattle.rl_value.specs.Tables.{Table, IsTable}
use Rattle.rl_nodes.specs.declared.view.StreamView.{StreamView}
use Rattle.rl_nodes.specs.Nodes.{NodeState}
use Rattle.rl_nodes.specs.Reports.{report_of}
use Rattle.rl_nodes.specs.Setups.{Setup, SetupFits, node_numbers, stream_numbers}
use Rattle.rl_nodes.specs.Views.{stream_view, view_in, view_of, rows_in}
use Rattle.rl_nodes.specs.World.{World, block_of}
use Rattle.rl_report.specs.Forms.{IsWord, HasParts, AreNamed, IsSimulated, IsEffect, IsReport}
use Rattle.rl_report.specs.declared.block.Block.{Block}
use Rattle.rl_report.specs.declared.line.RowLine.{RowLine}
use Rattle.rl_report.specs.declared.line.StreamLine.{StreamLine}
use Rattle.rl_world.specs.Reported.{head_in, stream_lines_from, row_line, block_reported, reported}
use Rattle.rl_world.proofs.Names.{name_of_word}
use Rattle.rl_world.proofs.Rows.{tables_there}

-- ---- streams ----

lines_count : (s : ℕ) (xs : List StreamView) → length (stream_lines_from s xs) ≡ length xs
lines_count s [] = refl
lines_count s (x ∷ xs) = ap suc (lines_count (suc s) xs)

numbered : (s : ℕ) (xs : List StreamView) → map (λ (x : StreamLine). x.stream) (stream_lines_from s xs) ≡ range_with_len s (length (stream_lines_from s xs))
numbered s [] = refl
numbered s (x ∷ xs) =
    let next : suc s ≡ s + 1 = omega arith in
    ap (λ ns. s ∷ ns) (numbered (suc s) xs ∙ ap (λ n. range_with_len n (length (stream_lines_from (suc s) xs))) next)

range_count : (a n : ℕ) → length (range_with_len a n) ≡ n
range_count a zero = refl
range_count a (suc n) = ap suc (range_count (a + 1) n)

some_streams : (setup : Setup) → SetupFits setup → (x : NodeState) → 0 < length (stream_lines_from 1 (map (stream_view x) (stream_numbers setup)))
some_streams setup sized x =
    let a = lines_count 1 (map (stream_view x) (stream_numbers setup)) in
    let b = length-map (stream_numbers setup) (stream_view x) in
    let c = range_count 1 setup.workers in
    let some = sized.some_workers in
    omega (arith, a, b, c, some)

-- ---- a node ----

named : (tables : List Table) → All IsTable tables → (rows : List ((ℕ × ℕ) × List ℕ)) → All (λ (entry : (ℕ × ℕ) × List ℕ). entry.0.0 < length tables) rows
    → AreNamed (map (row_line tables) rows)
named tables ok [] h = All-nil (λ (x : RowLine). IsWord x.table)
named tables ok (e ∷ rows) h =
    All-cons (λ (x : RowLine). IsWord x.table) (row_line tables e) (map (row_line tables) rows)
    (name_of_word tables e.0.0 ok (All-head (λ (entry : (ℕ × ℕ) × List ℕ). entry.0.0 < length tables) e rows h))
    (named tables ok rows (All-tail (λ (entry : (ℕ × ℕ) × List ℕ). entry.0.0 < length tables) e rows h))

parts : (setup : Setup) → SetupFits setup → (x : NodeState) (state : State)
    → HasParts (head_in (view_in setup x state) (view_in setup x state).state) (stream_lines_from 1 (view_in setup x state).streams)
    (map (row_line setup.program.tables) (rows_in x state))
parts setup sized x Up = some_streams setup sized x
parts setup sized x Down = (some_streams setup sized x, refl)
parts setup sized x Lost = (refl, refl)

placed : (setup : Setup) (x : NodeState) → RowsFit setup.program.tables x.replica.rows → (state : State)
    → All (λ (entry : (ℕ × ℕ) × List ℕ). entry.0.0 < length setup.program.tables) (rows_in x state)
placed setup x fit Up = tables_there setup.program.tables x.replica.rows fit
placed setup x fit Down = All-nil (λ (entry : (ℕ × ℕ) × List ℕ). entry.0.0 < length setup.program.tables)
placed setup x fit Lost = All-nil (λ (entry : (ℕ × ℕ) × List ℕ). entry.0.0 < length setup.program.tables)

pub simulated : (setup : Setup) → SetupFits setup → (a : ℕ) (x : NodeState) (rows : List ((ℕ × ℕ) × List ℕ)) → rows ≡ rows_in x x.state
    → All (λ (entry : (ℕ × ℕ) × List ℕ). entry.0.0 < length setup.program.tables) rows
    → IsSimulated (block_reported setup.program.tables (record { node = a; view = view_of setup x; rows = rows }))
simulated setup sized a x rows is there = record {
  parts = subst (λ rs. HasParts (head_in (view_of setup x) (view_of setup x).state) (stream_lines_from 1 (view_of setup x).streams) (map (row_line setup.program.tables) rs))
      (sym is) (parts setup sized x x.state);
  streams = numbered 1 (view_of setup x).streams;
  named = named setup.program.tables sized.schema.each rows there;
}

-- ---- a report ----

node_of_block : (tables : List Table) (setup : Setup) (w : World) (numbers : List ℕ)
    → map (λ (b : Block). b.node) (map (block_reported tables) (map (block_of setup w) numbers)) ≡ numbers
node_of_block tables setup w [] = refl
node_of_block tables setup w (a ∷ numbers) = ap (λ xs. a ∷ xs) (node_of_block tables setup w numbers)

pub is_report : (setup : Setup) → SetupFits setup → (w : World) → All IsEffect (reported setup.program.tables (report_of setup w)).middle
    → All IsSimulated (reported setup.program.tables (report_of setup w)).blocks → IsReport (reported setup.program.tables (report_of setup w))
is_report setup sized w effects blocks =
    let tables = setup.program.tables in
    let all = map (block_reported tables) (map (block_of setup w) (node_numbers setup)) in
    let size : length all ≡ setup.nodes =
    length-map (map (block_of setup w) (node_numbers setup)) (block_reported tables) ∙ length-map (node_numbers setup) (block_of setup w) ∙ range_count 1 setup.nodes in
    let some = sized.some_nodes in
    (effects, refl, (omega (arith, size, some), node_of_block tables setup w (node_numbers setup) ∙ ap (range_with_len 1) (sym size), blocks))
