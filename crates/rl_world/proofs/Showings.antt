-- What a run stands for after one of its nodes was shown, and what can be shown.
use Rattle.std.proofs.Common.{◌≡◌, ℕ, ◌<◌, ◌≤◌, true, false, List, [], ◌∷◌, ◌++◌, length, map, All, Option, Some, None, Ok, refl, sym, ap, subst, ◌∙◌, arith}
use Rattle.std.specs.Prelude.{IfSome}
use Rattle.std.specs.List.{flat_map}
use Rattle.std.specs.Option.{option_map_or}
use Rattle.std.specs.FinMap.{entries}
use Rattle.std.proofs.lemmas.Grind.{flat_map-append}
use Rattle.std.proofs.lemmas.List.{length-map}
use Rattle.std.proofs.lemmas.List.Elements.{All-nil, All-cons, All-append}
use Rattle.std.proofs.lemmas.List.FromFn.{length-range_with_len}
use Rattle.rl_base.specs.declared.limit.TheConstants.{BYTES, WORKERS}
use Rattle.rl_election.specs.World.{State, Up, Down, Lost, is_up}
use Rattle.rl_value.specs.Fits.{RowsFit}
use Rattle.rl_value.specs.Rows.{Rows}
use Rattle.rl_value.specs.Tables.{Table}
use Rattle.rl_net.specs.Messages.{bytes_sent}
use Rattle.rl_nodes.specs.declared.view.NodeView.{NodeView}
use Rattle.rl_nodes.specs.Nodes.{NodeState}
use Rattle.rl_nodes.specs.Setups.{Setup, SetupFits, stream_numbers}
use Rattle.rl_nodes.specs.Views.{stream_view, view_in, view_of, rows_in}
use Rattle.rl_nodes.specs.World.{World, NodeShown, node_of, block_of, with_line}
use Rattle.rl_node.specs.SetupOf.{setup_of}
use Rattle.rl_report.specs.Forms.{IsEffect, IsSimulated}
use Rattle.rl_report.specs.declared.block.Block.{Block}
use Rattle.rl_report.specs.declared.middle.Middle.TheVariants.{Shown}
use Rattle.rl_world.specs.Reported.{block_reported, line_reported}
use Rattle.rl_world.specs.Standing.{StandsRun, HasRun}
use Rattle.rl_world.specs.declared.run.Run.{Run}
use Rattle.rl_world.specs.declared.told.Told.{Told}
use Rattle.rl_world.proofs.Dropping.{with_told}
use Rattle.rl_world.proofs.Rows.{tables_there}
use Rattle.rl_world.proofs.Shown.{simulated}

few_listed : (setup : Setup) → SetupFits setup → (x : NodeState) → length (map (stream_view x) (stream_numbers setup)) ≤ WORKERS
few_listed setup sized x =
    let a = length-map (stream_numbers setup) (stream_view x) in
    let b = length-range_with_len 1 setup.workers in
    let c = sized.few_workers in
    omega (arith, a, b, c)

-- a node is shown with no more streams than there may be workers
streams_in : (setup : Setup) → SetupFits setup → (x : NodeState) (state : State) → length (view_in setup x state).streams ≤ WORKERS
streams_in setup sized x Up = few_listed setup sized x
streams_in setup sized x Down = few_listed setup sized x
streams_in setup sized x Lost = omega arith

pub few_streams : (setup : Setup) → SetupFits setup → (x : NodeState) → length (view_of setup x).streams ≤ WORKERS
few_streams setup sized x = streams_in setup sized x x.state

-- rows that fit, if there are any, have tables that are there
pub rows_there : (tables : List Table) (rows : Option Rows) → IfSome rows (RowsFit tables)
    → All (λ (entry : (ℕ × ℕ) × List ℕ). entry.0.0 < length tables) (option_map_or entries rows [])
rows_there tables None fit = All-nil (λ (entry : (ℕ × ℕ) × List ℕ). entry.0.0 < length tables)
rows_there tables (Some rows) fit = tables_there tables rows fit

-- a node that is up has its replica's rows, and any other has none
pub up_rows : (x : NodeState) (state : State) → is_up state ≡ true → rows_in x state ≡ entries x.replica.rows
up_rows x Up h = refl
up_rows x Down h = absurd cc
up_rows x Lost h = absurd cc

pub away_rows : (x : NodeState) (state : State) → is_up state ≡ false → rows_in x state ≡ []
away_rows x Up h = absurd cc
away_rows x Down h = refl
away_rows x Lost h = refl

-- one map behind another
pub map_both : {X Y Z : Type 0} (g : Y → Z) (f : X → Y) (xs : List X) → map (λ x. g (f x)) xs ≡ map g (map f xs)
map_both g f [] = refl
map_both g f (x ∷ xs) = ap (λ ys. g (f x) ∷ ys) (map_both g f xs)

-- a node was shown
pub shows : (r : Run) (a : ℕ) (block : Block) (told : Told) (w : World) → StandsRun r w
    → block ≡ block_reported (setup_of r.setup).program.tables (block_of (setup_of r.setup) w a) → IsSimulated block
    → told ≡ record r.told { lines = r.told.lines ++ Shown block ∷ [] }
    → HasRun (with_told r told) (Ok (with_line w (NodeShown (block_of (setup_of r.setup) w a))))
shows r a block told w st is form same =
    let setup = setup_of r.setup in
    let tables : List Table = setup.program.tables in
    let line = NodeShown (block_of setup w a) in
    record {
      world = with_line w line;
      is = refl;
      stands = record {
        nodes = record { listed = st.nodes.listed; each = st.nodes.each };
        told = record {
          net = ap (λ (t : Told). t.net) same ∙ st.told.net;
          in_range = st.told.in_range;
          few = subst (λ (t : Told). bytes_sent t.net ≤ BYTES) (sym same) st.told.few;
          count = subst (λ (t : Told). t.sent ≡ length t.net) (sym same) st.told.count;
          released = ap (λ (t : Told). t.released) same ∙ st.told.released;
          lines = ap (λ (t : Told). t.lines) same ∙ ap (λ xs. xs ++ Shown block ∷ []) st.told.lines
              ∙ ap (λ (b : Block). flat_map (line_reported tables) w.lines ++ Shown b ∷ []) is
              ∙ sym (flat_map-append (line_reported tables) w.lines (line ∷ []));
          effects = subst (λ (t : Told). All IsEffect t.lines) (sym same)
              (All-append IsEffect r.told.lines (Shown block ∷ []) st.told.effects (All-cons IsEffect (Shown block) [] form (All-nil IsEffect)));
        };
      };
    }

-- what is reported of a node, as it is made
abbrev pub made_block : List Table → (a : ℕ) → NodeView → List ((ℕ × ℕ) × List ℕ) → Block
made_block tables a view rows = block_reported tables (record { node = a; view = view; rows = rows })

module _ (setup : Setup) (a : ℕ) (x : NodeState) (view : NodeView) (rows : List ((ℕ × ℕ) × List ℕ)) (shown : view ≡ view_of setup x) (held : rows ≡ rows_in x x.state) where
  pub block_made : (w : World) → x ≡ node_of setup w a → made_block setup.program.tables a view rows ≡ block_reported setup.program.tables (block_of setup w a)
  block_made w is =
      ap (λ (v : NodeView). made_block setup.program.tables a v rows) shown
      ∙ ap (made_block setup.program.tables a (view_of setup x)) held
      ∙ ap (λ (y : NodeState). made_block setup.program.tables a (view_of setup y) (rows_in y y.state)) is

  pub block_form : SetupFits setup → All (λ (entry : (ℕ × ℕ) × List ℕ). entry.0.0 < length setup.program.tables) rows
      → IsSimulated (made_block setup.program.tables a view rows)
  block_form sized there =
      subst (λ (v : NodeView). IsSimulated (made_block setup.program.tables a v rows)) (sym shown) (simulated setup sized a x rows held there)
