use Rattle.std.proofs.Common.{◌≡◌, ℕ, ◌+◌, [], ◌∷◌, ◌++◌, List, map, All, sym, ap, subst, ◌∙◌, arith}
use Rattle.std.specs.List.{range_with_len}
use Rattle.std.proofs.lemmas.List.Elements.{All-nil, All-cons, All-append}
use Rattle.std.proofs.lemmas.List.FromFn.{map-range_with_len_more}
use Rattle.rl_nodes.specs.Setups.{node_numbers}
use Rattle.rl_nodes.specs.World.{block_of}
use Rattle.rl_node.specs.SetupOf.{setup_of}
use Rattle.rl_report.specs.Forms.{IsSimulated}
use Rattle.rl_report.specs.declared.block.Block.{Block}
use Rattle.rl_world.specs.Reported.{block_reported}
use Rattle.rl_world.proofs.Showings.{map_both}
use Rattle.rl_world.proofs.run.Run.blocks.Goals as goal

one_more : (old new : List Block) (b : Block) (k : ℕ) (each : ℕ → Block) → new ≡ old ++ b ∷ [] → old ≡ map each (range_with_len 1 k) → b ≡ each (k + 1)
    → new ≡ map each (range_with_len 1 (k + 1))
one_more old new b k each more so_far next =
    let place : 1 + k ≡ k + 1 = omega arith in
    more ∙ ap (λ xs. xs ++ b ∷ []) so_far ∙ ap (λ x. map each (range_with_len 1 k) ++ x ∷ []) next ∙ sym (map-range_with_len_more each 1 k (k + 1) place)

one_formed : (old new : List Block) (b : Block) → new ≡ old ++ b ∷ [] → All IsSimulated old → IsSimulated b → All IsSimulated new
one_formed old new b more so_far next =
    subst (All IsSimulated) (sym more) (All-append IsSimulated old (b ∷ []) so_far (All-cons IsSimulated b [] next (All-nil IsSimulated)))

pub loop-before-preserved : goal.loop-before-preserved
loop-before-preserved c =
    let setup = setup_of c.args.self.now.setup in
    let i = c.loop-before.invariant in
    let k = c.loop-before.before in
    let b : Block = c.in_ok-block.field-0 in
    record {
      blocks = λ w st.
          let each : ℕ → Block = λ a. block_reported setup.program.tables (block_of setup w a) in
          one_more c.loop-before.blocks.items c.push.new.self.items b k each c.in_ok-push.ensures.items (i.blocks w st) (c.in_ok-block.ensures.block w st);
      form = one_formed c.loop-before.blocks.items c.push.new.self.items b c.in_ok-push.ensures.items i.form c.in_ok-block.ensures.form;
    }

pub returns-clause-blocks : goal.returns-clause-blocks
returns-clause-blocks c w st =
    let setup = setup_of c.args.self.now.setup in
    let each : ℕ → Block = λ a. block_reported setup.program.tables (block_of setup w a) in
    let all : c.loop-before.before ≡ setup.nodes = omega (arith, c.loop-before-test.false, c.loop-before.auto.before-end, c.nodes-before-end.ensures) in
    c.from_vec.ensures ∙ c.loop-before.invariant.blocks w st ∙ ap (λ n. map each (range_with_len 1 n)) all
    ∙ map_both (block_reported setup.program.tables) (block_of setup w) (node_numbers setup)
