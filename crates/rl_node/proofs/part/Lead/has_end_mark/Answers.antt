use Rattle.std.proofs.Common.{◌≡◌, ◌-◌, ◌∙◌, length, Some, ap, subst}
use Rattle.std.specs.Prelude.{slice_get}
use Rattle.std.proofs.lemmas.Result.{IfOk-weaker}
use Rattle.rl_batch.specs.Ranges.{BatchInRange}
use Rattle.rl_paxos.specs.Leaders.{Leading}
use Rattle.rl_nodes.specs.Nodes.{has_end_mark}
use Rattle.rl_node.specs.Idling.{is_end_mark}
use Rattle.rl_node.specs.SetupOf.{setup_of}
use Rattle.rl_node.specs.Standing.{lead_with, log_of}
use Rattle.rl_node.proofs.Flushes.{opened_with}
use Rattle.rl_node.proofs.Logs.{is_right}
use Rattle.rl_node.proofs.Marks.{some_batch, last_tells}
use Rattle.rl_node.proofs.Streams.{encodes_at}
use Rattle.rl_node.proofs.part.Lead.has_end_mark.Goals as goal

pub is_end_mark-requires : goal.is_end_mark-requires
is_end_mark-requires c =
    let setup = setup_of c.args.setup.now in
    let l = c.args.self.now in
    let s = c.args.stream in
    let log : c.log-log.result.now ≡ log_of l s = c.log-log.ensures.kept ∙ ap (λ (x : Leading). x.log) c.stream_at.ensures in
    encodes_at (log_of l s) (c.len.result - 1) c.get.result.now (is_right setup.program.tables s l.epoch (log_of l s) (c.requires.fits.each s c.requires.stream).log.right).batches
    (subst (λ z. slice_get z (c.len.result - 1) ≡ Some c.get.result.now) log c.get.ensures)

pub returns : goal.returns
returns c = λ core.
    let setup = setup_of c.args.setup.now in
    let l = c.args.self.now in
    let s = c.args.stream in
    let log : c.log-log.result.now ≡ log_of l s = c.log-log.ensures.kept ∙ ap (λ (x : Leading). x.log) c.stream_at.ensures in
    let at : slice_get (log_of l s) (c.len.result - 1) ≡ Some c.get.result.now = subst (λ z. slice_get z (c.len.result - 1) ≡ Some c.get.result.now) log c.get.ensures in
    let size : c.len.result ≡ length (log_of l s) = c.len.ensures ∙ ap length log in
    let last : slice_get (log_of l s) (length (log_of l s) - 1) ≡ Some c.get.result.now = subst (λ k. slice_get (log_of l s) (k - 1) ≡ Some c.get.result.now) size at in
    let b = some_batch c.get.result.now (encodes_at (log_of l s) (c.len.result - 1) c.get.result.now
    (is_right setup.program.tables s l.epoch (log_of l s) (c.requires.fits.each s c.requires.stream).log.right).batches at) in
    let o = opened_with setup l c.requires.open.0 l.works c.requires.open.1 in
    IfOk-weaker c.is_end_mark.result (λ is. (is ≡ is_end_mark l.epoch b.0) × BatchInRange b.0) (λ has. has ≡ has_end_mark (lead_with l core) s)
    (λ is h. h.0 ∙ last_tells c.turns.ensures.below c.turns.ensures.in_range setup l o.0 c.requires.open.0 s c.requires.stream o.2 c.get.result.now b.0 last b.1 h.1)
    (c.is_end_mark.ensures b.0 b.1)
