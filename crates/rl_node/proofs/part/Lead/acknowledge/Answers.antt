use Rattle.std.proofs.Common.{◌∙◌, ap}
use Rattle.rl_paxos.specs.Leaders.{Leading}
use Rattle.rl_node.specs.SetupOf.{setup_of}
use Rattle.rl_node.proofs.Leaders.{behind_rises, behind_encodes}
use Rattle.rl_node.proofs.part.Lead.acknowledge.Goals as goal

pub append_slots-requires-clause-rising : goal.append_slots-requires-clause-rising
append_slots-requires-clause-rising c =
    behind_rises (setup_of c.args.setup.now) c.args.self.now c.args.stream c.args.counted.before c.args.counted.after c.requires.behind
    c.log.result.now (c.log.ensures.kept ∙ ap (λ (x : Leading). x.log) c.stream_at-leading.ensures)

pub append_slots-requires-clause-batches : goal.append_slots-requires-clause-batches
append_slots-requires-clause-batches c =
    behind_encodes (setup_of c.args.setup.now) c.args.self.now c.args.stream c.args.counted.before c.args.counted.after c.requires.behind
    c.log.result.now (c.log.ensures.kept ∙ ap (λ (x : Leading). x.log) c.stream_at-leading.ensures)
