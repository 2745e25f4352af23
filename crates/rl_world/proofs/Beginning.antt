-- A run that begins.
use Rattle.std.proofs.Common.{◌≡◌, ℕ, ◌+◌, ◌-◌, ◌<◌, ◌≤◌, List, [], ◌∷◌, ◌++◌, length, get_or, All, sym, ap, subst, ◌∙◌, ⊎_elim, arith}
use Rattle.std.proofs.lemmas.Bool.{cases_eq}
use Rattle.std.proofs.lemmas.List.{get_or-replicate, length-replicate}
use Rattle.std.proofs.lemmas.List.Elements.{All-nil}
use Rattle.rl_base.proofs.Prefixes.{get_end, prefix_more, prefix_get}
use Rattle.rl_base.specs.declared.limit.TheConstants.{BYTES}
use Rattle.rl_msg.specs.Ranges.{MsgInRange}
use Rattle.rl_net.specs.Messages.{bytes_sent}
use Rattle.rl_nodes.specs.Calls.{Standing}
use Rattle.rl_nodes.specs.Nodes.{new_node}
use Rattle.rl_nodes.specs.Setups.{Setup, SetupFits}
use Rattle.rl_nodes.specs.World.{Sent, new_world, node_of}
use Rattle.rl_tables.specs.Numbers.{sizes_of}
use Rattle.rl_node.specs.SetupOf.{setup_of}
use Rattle.rl_node.specs.Standing.{Stands}
use Rattle.rl_node.specs.declared.node.Node.{Node}
use Rattle.rl_report.specs.Forms.{IsEffect}
use Rattle.rl_world.specs.Standing.{answers, IsNumberOf, IsSafe, StandsRun}
use Rattle.rl_world.specs.declared.run.Run.{Run}
use Rattle.rl_world.specs.declared.told.Told.{Told}

-- nodes that all stand for the same, one more
pub one_more : (setup : Setup) (x : Standing) (nodes : List Node) (n : Node) (k : ℕ) → length nodes ≡ k
    → ((i : ℕ) (d : Node) → i < k → Stands setup (i + 1) (get_or nodes i d) x) → Stands setup (k + 1) n x
    → (i : ℕ) (d : Node) → i < k + 1 → Stands setup (i + 1) (get_or (nodes ++ n ∷ []) i d) x
one_more setup x nodes n k count each last i d below =
    ⊎_elim
    (λ same.
    let read : get_or (nodes ++ n ∷ []) i d ≡ n = ap (λ j. get_or (nodes ++ n ∷ []) j d) (same ∙ sym count) ∙ get_end d nodes n in
    subst (λ m. Stands setup (i + 1) m x) (sym read) (subst (λ j. Stands setup (j + 1) n x) (sym same) last))
    (λ apart.
    let within : i < k = omega (arith, below, apart) in
    let within' : i < length nodes = omega (arith, within, count) in
    subst (λ m. Stands setup (i + 1) m x) (sym (prefix_get d nodes (nodes ++ n ∷ []) i (prefix_more nodes (n ∷ [])) within')) (each i d within))
    (cases_eq i k)

module _ (r : Run) (fits : SetupFits (setup_of r.setup)) (count : length r.nodes.items ≡ (setup_of r.setup).nodes)
    (each : (i : ℕ) (d : Node) → i < (setup_of r.setup).nodes → Stands (setup_of r.setup) (i + 1) (get_or r.nodes.items i d) (answers (new_node (setup_of r.setup))))
    (told : r.told ≡ record { net = []; sent = 0; released = []; lines = [] }) (numbers : r.layout ≡ sizes_of (setup_of r.setup).program.tables) where
  at : (a : ℕ) (d : Node) → IsNumberOf (setup_of r.setup) a → Stands (setup_of r.setup) a (get_or r.nodes.items (a - 1) d) (answers (new_node (setup_of r.setup)))
  at a d is =
      let p = is.first in
      let q = is.last in
      let number : a - 1 + 1 ≡ a = omega arith in
      let within : a - 1 < (setup_of r.setup).nodes = omega arith in
      subst (λ k. Stands (setup_of r.setup) k (get_or r.nodes.items (a - 1) d) (answers (new_node (setup_of r.setup)))) number (each (a - 1) d within)

  no_bytes : bytes_sent r.told.net ≤ BYTES
  no_bytes =
      let none : bytes_sent r.told.net ≡ 0 = ap (λ (t : Told). bytes_sent t.net) told in omega (arith, none)

  pub new_safe : IsSafe r
  new_safe = record {
    fits = fits;
    layout = numbers;
    count = count;
    each = λ a d is. (a, answers (new_node (setup_of r.setup)), at a d is);
    few = no_bytes;
    sent = ap (λ (t : Told). t.sent) told ∙ sym (ap (λ (t : Told). length t.net) told);
  }

  pub new_stands : StandsRun r (new_world (setup_of r.setup))
  new_stands = record {
    nodes = record {
      listed = length-replicate (setup_of r.setup).nodes (new_node (setup_of r.setup));
      each = λ a d is.
          let setup = setup_of r.setup in
          let p = is.first in
          let q = is.last in
          let within : a - 1 < setup.nodes = omega arith in
          let one : node_of setup (new_world setup) a ≡ new_node setup = get_or-replicate setup.nodes (a - 1) (new_node setup) (new_node setup) within in
          subst (λ x. Stands setup a (get_or r.nodes.items (a - 1) d) (answers x)) (sym one) (at a d is);
    };
    told = record {
      net = ap (λ (t : Told). t.net) told;
      in_range = All-nil (λ (m : Sent). MsgInRange m.message);
      few = no_bytes;
      count = ap (λ (t : Told). t.sent) told ∙ sym (ap (λ (t : Told). length t.net) told);
      released = ap (λ (t : Told). t.released) told;
      lines = ap (λ (t : Told). t.lines) told;
      effects = subst (All IsEffect) (sym (ap (λ (t : Told). t.lines) told)) (All-nil IsEffect);
    };
  }
