use Rattle.std.proofs.Common.{◌≡◌, ℕ, List, map, All, refl, ap, sym, subst, ◌∙◌}
use Rattle.rl_txn.specs.Serial.{rows_after}
use Rattle.rl_families.specs.Families.{history}
use Rattle.rl_paxos.specs.Acceptors.{Acceptor}
use Rattle.rl_paxos.specs.Logs as bytes
use Rattle.rl_live.specs.declared.run.NodeRun.{NodeRun}
use Rattle.rl_live.specs.Reading.{CanReplay, KeepsRead}
use Rattle.rl_live.specs.Run.{acceptor_at}
use Rattle.rl_live.proofs.Finishing.{first_node, all_nodes}
use Rattle.rl_live.proofs.session.finish.Goals as goal

pub node_runs-requires-clause-replayed : goal.node_runs-requires-clause-replayed
node_runs-requires-clause-replayed g c κs within =
    let r = c.requires.read in
    let first = first_node c.args.script.now.nodes (map (acceptor_at r.0) r.1) c.get.result.now c.args.nodes r.3.rows_are c.get.ensures in
    let is = c.in_ok-family.ensures ∙ c.in_ok-logs.ensures r.0 r.1 r.2 (record { acceptors_are = first; read = r.3.read }) in
    subst (CanReplay c.args.script.now.schema) (sym is) r.3.replays

pub node_runs-requires-clause-read : goal.node_runs-requires-clause-read
node_runs-requires-clause-read g c κs within =
    let r = c.requires.read in
    let first = first_node c.args.script.now.nodes (map (acceptor_at r.0) r.1) c.get.result.now c.args.nodes r.3.rows_are c.get.ensures in
    let is = c.in_ok-family.ensures ∙ c.in_ok-logs.ensures r.0 r.1 r.2 (record { acceptors_are = first; read = r.3.read }) in
    subst (All (λ (node : List Acceptor). (e : ℕ) × (ls : List bytes.Log) × KeepsRead e ls c.in_ok-family.family node)) (sym c.into_vec.ensures)
    (subst (λ f. All (λ (node : List Acceptor). (e : ℕ) × (ls : List bytes.Log) × KeepsRead e ls f node) c.args.nodes) (sym is) (all_nodes c.args.script.now r.0 r.1 r.2 c.args.nodes r.3))

pub returns : goal.returns
returns g c = λ epoch logs family can.
    let first = first_node c.args.script.now.nodes (map (acceptor_at epoch) logs) c.get.result.now c.args.nodes can.rows_are c.get.ensures in
    let is = c.in_ok-family.ensures ∙ c.in_ok-logs.ensures epoch logs family (record { acceptors_are = first; read = can.read }) in
    record {
      items_are = c.in_ok-items.ensures.history ∙ ap history is;
      acceptors_are = c.in_ok-nodes.ensures.acceptors ∙ c.into_vec.ensures;
      maps = subst (λ f. All (λ (n : NodeRun). n.map ≡ rows_after c.args.script.now.rows (history f)) c.in_ok-nodes.nodes) is c.in_ok-nodes.ensures.maps;
      closed_is = refl;
    }
