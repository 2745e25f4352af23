-- One node of a run, changed.
use Rattle.std.proofs.Common.{◌≡◌, ℕ, ◌-◌, ◌<◌, List, length, set, get_or, sym, ap, subst, ◌∙◌, ⊎_elim, arith}
use Rattle.std.proofs.lemmas.Bool.{cases_eq}
use Rattle.std.proofs.lemmas.List.{get_or-set_same, get_or-set_other, length-set}
use Rattle.rl_nodes.specs.Nodes.{NodeState, new_node}
use Rattle.rl_nodes.specs.Setups.{Setup}
use Rattle.rl_nodes.specs.World.{World, node_of}
use Rattle.rl_node.specs.Standing.{Stands, IsNode}
use Rattle.rl_node.specs.declared.node.Node.{Node}
use Rattle.rl_world.specs.Standing.{answers, IsNumberOf, StandNodes}

-- the numbers of two nodes are those of their places
same_number : (setup : Setup) (a b : ℕ) → IsNumberOf setup a → IsNumberOf setup b → b - 1 ≡ a - 1 → b ≡ a
same_number setup a b p q e = let x = p.first in let y = q.first in omega arith

-- nodes where one has changed
pub node_changed : (setup : Setup) (nodes : List Node) (w new : World) (a : ℕ) (n : Node) (x : NodeState) → length nodes ≡ setup.nodes
    → IsNumberOf setup a → StandNodes setup nodes w → Stands setup a n (answers x) → new.nodes ≡ set w.nodes (a - 1) x → StandNodes setup (set nodes (a - 1) n) new
node_changed setup nodes w new a n x count is stand at e = record {
  listed = ap length e ∙ length-set w.nodes (a - 1) x ∙ stand.listed;
  each = λ b d there. ⊎_elim
      (λ same.
      let one : b ≡ a = same_number setup a b is there same in
      let within : a - 1 < length nodes = let p = is.first in let q = is.last in omega (arith, count) in
      let within' : a - 1 < length w.nodes = let p = is.first in let q = is.last in omega (arith, stand.listed) in
      let code : get_or (set nodes (a - 1) n) (b - 1) d ≡ n = ap (λ k. get_or (set nodes (a - 1) n) k d) same ∙ get_or-set_same nodes (a - 1) n d within in
      let spec : node_of setup new b ≡ x =
      ap (λ xs. get_or xs (b - 1) (new_node setup)) e ∙ ap (λ k. get_or (set w.nodes (a - 1) x) k (new_node setup)) same ∙ get_or-set_same w.nodes (a - 1) x (new_node setup) within' in
      subst (λ m. Stands setup b m (answers (node_of setup new b))) (sym code)
      (subst (λ y. Stands setup b n (answers y)) (sym spec) (subst (λ k. Stands setup k n (answers x)) (sym one) at)))
      (λ apart.
      let code : get_or (set nodes (a - 1) n) (b - 1) d ≡ get_or nodes (b - 1) d = get_or-set_other nodes (a - 1) (b - 1) n d apart in
      let spec : node_of setup new b ≡ node_of setup w b =
      ap (λ xs. get_or xs (b - 1) (new_node setup)) e ∙ get_or-set_other w.nodes (a - 1) (b - 1) x (new_node setup) apart in
      subst (λ m. Stands setup b m (answers (node_of setup new b))) (sym code)
      (subst (λ y. Stands setup b (get_or nodes (b - 1) d) (answers y)) (sym spec) (stand.each b d there)))
      (cases_eq (b - 1) (a - 1));
}

-- and each is a node still
pub still_nodes : (setup : Setup) (nodes : List Node) (a : ℕ) (n : Node) → length nodes ≡ setup.nodes → IsNumberOf setup a → IsNode setup n
    → ((b : ℕ) (d : Node) → IsNumberOf setup b → IsNode setup (get_or nodes (b - 1) d))
    → (b : ℕ) (d : Node) → IsNumberOf setup b → IsNode setup (get_or (set nodes (a - 1) n) (b - 1) d)
still_nodes setup nodes a n count is here each b d there =
    ⊎_elim
    (λ same.
    let within : a - 1 < length nodes = let p = is.first in let q = is.last in omega (arith, count) in
    subst (IsNode setup) (sym (ap (λ k. get_or (set nodes (a - 1) n) k d) same ∙ get_or-set_same nodes (a - 1) n d within)) here)
    (λ apart. subst (IsNode setup) (sym (get_or-set_other nodes (a - 1) (b - 1) n d apart)) (each b d there))
    (cases_eq (b - 1) (a - 1))
