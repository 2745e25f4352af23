use Rattle.std.proofs.Common.{◌≡◌, ℕ, List, [], ◌∷◌, ◌++◌, map, All, ap, sym, subst, ◌∙◌}
use Rattle.std.proofs.lemmas.List.{append_assoc}
use Rattle.std.specs.Vec.Iter.{into_iter_items}
use Rattle.rl_txn.specs.Serial.{rows_after}
use Rattle.rl_families.specs.Families.{history}
use Rattle.rl_paxos.specs.Acceptors.{Acceptor}
use Rattle.rl_paxos.specs.Logs.{Log}
use Rattle.rl_shared_replay.proofs.Wholes.{all_middle, all_more}
use Rattle.rl_live.specs.declared.run.NodeRun.{NodeRun}
use Rattle.rl_live.specs.Reading.{KeepsRead}
use Rattle.rl_live.proofs.Firsts.{map_more}
use Rattle.rl_live.proofs.tables.node_runs.Goals as goal

pub node_run-requires-clause-read : goal.node_run-requires-clause-read
node_run-requires-clause-read g c κs within =
    let y = c.loop-acceptors.yielded in
    let x = c.in-Some.acceptors in
    let rest = into_iter_items c.next.new.self in
    let family = c.args.family.now in
    let P = λ (node : List Acceptor). (epoch : ℕ) × (logs : List Log) × KeepsRead epoch logs family node in
    let whole : y ++ (x ∷ rest) ≡ c.args.nodes.items = ap (λ z. y ++ z) (sym c.in-Some.ensures.steps.0) ∙ c.loop-acceptors.invariant.all in
    all_middle P y x rest (subst (All P) (sym whole) c.requires.read)

pub loop-acceptors-preserved : goal.loop-acceptors-preserved
loop-acceptors-preserved g c =
    let i = c.loop-acceptors.invariant in
    let y = c.loop-acceptors.yielded in
    let x = c.in-Some.acceptors in
    let rest = into_iter_items c.next.new.self in
    let runs = c.loop-acceptors.runs in
    let run = c.in_ok-node_run.field-0 in
    let P = λ (r : NodeRun). r.map ≡ rows_after c.args.script.now.rows (history c.args.family.now) in
    record {
      all = append_assoc y (x ∷ []) rest ∙ (ap (λ z. y ++ z) (sym c.in-Some.ensures.steps.0) ∙ i.all);
      acceptors = ap (map (λ (r : NodeRun). r.acceptors)) c.in_ok-push.ensures.ok ∙ (map_more (λ (r : NodeRun). r.acceptors) runs run ∙ (ap (λ z. z ++ run.acceptors ∷ []) i.acceptors ∙ ap (λ z. y ++ z ∷ []) c.in_ok-node_run.ensures.acceptors));
      maps = subst (All P) (sym c.in_ok-push.ensures.ok) (all_more P runs run i.maps c.in_ok-node_run.ensures.maps);
    }
