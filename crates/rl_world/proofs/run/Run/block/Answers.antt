use Rattle.std.proofs.Common.{◌≡◌, ℕ, ◌≤◌, List, [], length, refl, sym, ap, subst, ◌∙◌}
use Rattle.std.specs.Prelude.{IfSome}
use Rattle.std.specs.Option.{option_copied, option_map_or}
use Rattle.std.specs.FinMap.{entries}
use Rattle.rl_base.specs.declared.limit.TheConstants.{WORKERS}
use Rattle.rl_value.specs.Fits.{RowsFit}
use Rattle.rl_value.specs.Tables.{Table}
use Rattle.rl_nodes.specs.declared.view.NodeView.{NodeView}
use Rattle.rl_nodes.specs.World.{node_of, block_of}
use Rattle.rl_node.specs.SetupOf.{setup_of}
use Rattle.rl_report.specs.Forms.{IsSimulated}
use Rattle.rl_report.specs.declared.block.Block.{Block}
use Rattle.rl_world.specs.Reported.{block_reported}
use Rattle.rl_world.specs.Standing.{answers}
use Rattle.rl_world.proofs.Answering.{node_read, safe_read}
use Rattle.rl_world.proofs.Results.{if_ok}
use Rattle.rl_world.proofs.Showings.{few_streams, rows_there, made_block, block_made, block_form}
use Rattle.rl_world.proofs.run.Run.block.Goals as goal

pub view-requires-clause-node : goal.view-requires-clause-node
view-requires-clause-node c =
    safe_read c.args.self.now c.args.a c.index-node.result.now c.requires.node c.requires.safe c.index-node.ensures

pub block-requires-clause-streams : goal.block-requires-clause-streams
block-requires-clause-streams c =
    let r = c.args.self.now in
    let setup = setup_of r.setup in
    let was = safe_read r c.args.a c.index-node.result.now c.requires.node c.requires.safe c.index-node.ensures in
    subst (λ (v : NodeView). length v.streams ≤ WORKERS) (sym (c.in_ok-view.ensures was.0 was.1 was.2)) (few_streams setup c.requires.safe.fits was.1.node)

pub block-requires-clause-rows : goal.block-requires-clause-rows
block-requires-clause-rows c =
    let r = c.args.self.now in
    let setup = setup_of r.setup in
    let was = safe_read r c.args.a c.index-node.result.now c.requires.node c.requires.safe c.index-node.ensures in
    subst (λ (tables : List Table). IfSome (option_copied c.rows_of.result) (RowsFit tables)) (sym c.schema.ensures)
    (c.rows_of.ensures.fit setup was.0 was.1 was.2 c.requires.safe.fits)

pub returns-clause-block : goal.returns-clause-block
returns-clause-block c w st =
    let r = c.args.self.now in
    let setup = setup_of r.setup in
    let x = node_of setup w c.args.a in
    let at = node_read r w c.args.a c.index-node.result.now c.requires.node st c.index-node.ensures in
    let rows : List ((ℕ × ℕ) × List ℕ) = option_map_or entries (option_copied c.rows_of.result) [] in
    let same : block_reported setup.program.tables (record { node = c.args.a; view = c.in_ok-view.view; rows = rows })
    ≡ block_reported setup.program.tables (block_of setup w c.args.a) =
    block_made setup c.args.a x c.in_ok-view.view rows (c.in_ok-view.ensures c.args.a (answers x) at) (c.rows_of.ensures.rows setup c.args.a (answers x) at) w refl in
    if_ok (λ (b : Block). b ≡ made_block c.schema.result.now c.args.a c.in_ok-view.view rows) (λ (b : Block). b ≡ block_reported setup.program.tables (block_of setup w c.args.a)) c.block.result
    (λ b e. e ∙ ap (λ (tables : List Table). made_block tables c.args.a c.in_ok-view.view rows) c.schema.ensures ∙ same) c.block.ensures

pub returns-clause-form : goal.returns-clause-form
returns-clause-form c =
    let r = c.args.self.now in
    let setup = setup_of r.setup in
    let was = safe_read r c.args.a c.index-node.result.now c.requires.node c.requires.safe c.index-node.ensures in
    let rows : List ((ℕ × ℕ) × List ℕ) = option_map_or entries (option_copied c.rows_of.result) [] in
    let form = block_form setup c.args.a was.1.node c.in_ok-view.view rows (c.in_ok-view.ensures was.0 was.1 was.2) (c.rows_of.ensures.rows setup was.0 was.1 was.2)
    c.requires.safe.fits (rows_there setup.program.tables (option_copied c.rows_of.result) (c.rows_of.ensures.fit setup was.0 was.1 was.2 c.requires.safe.fits)) in
    if_ok (λ (b : Block). b ≡ made_block c.schema.result.now c.args.a c.in_ok-view.view rows) IsSimulated c.block.result
    (λ b e. subst IsSimulated (sym (e ∙ ap (λ (tables : List Table). made_block tables c.args.a c.in_ok-view.view rows) c.schema.ensures)) form) c.block.ensures
