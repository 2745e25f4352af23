use Rattle.std.proofs.Common.{◌≡◌, ◌-◌, ◌+◌, ◌≤◌, ◌++◌, ◌∷◌, [], length, take, ap, sym, ◌∙◌, arith}
use Rattle.std.specs.Prelude.{slice_set}
use Rattle.std.proofs.lemmas.Result.{err_from_is_err_and}
use Rattle.rl_node.specs.Knowing.{HasFront}
use Rattle.rl_nodes.specs.Batches.{batches_of}
use Rattle.rl_node.proofs.Streams.{batch_rises, batch_goes_on, encodes_at, front_more, family_more, family_there, family_length}
use Rattle.rl_node.proofs.Learning.{on_err}
use Rattle.rl_node.proofs.reading.append_slots.Goals as goal

pub read-requires : goal.read-requires
read-requires c = encodes_at c.args.log.now c.loop-slot.slot c.get.result.now c.requires.batches c.get.ensures

pub append-requires-clause-rising : goal.append-requires-clause-rising
append-requires-clause-rising c =
    batch_rises c.args.log.now c.loop-slot.slot c.get.result.now c.in_ok-batch.batch c.requires.rising c.get.ensures c.in_ok-batch.ensures.batch

pub append-requires-clause-free : goal.append-requires-clause-free
append-requires-clause-free c =
    batch_goes_on c.args.log.now c.loop-slot.slot c.get.result.now c.in_ok-batch.batch c.requires.rising c.get.ensures c.in_ok-batch.ensures.batch
    c.loop-slot.family c.args.stream c.loop-slot.invariant.there

pub loop-slot-preserved : goal.loop-slot-preserved
loop-slot-preserved c =
    let first = c.args.family.now in
    let before = c.loop-slot.family in
    let after = c.append.new.family in
    let s = c.args.stream in
    let old = batches_of (take c.loop-slot.slot c.args.log.now) in
    let new = batches_of (take (c.loop-slot.slot + 1) c.args.log.now) in
    let more = front_more c.args.log.now c.loop-slot.slot c.get.result.now c.in_ok-batch.batch c.requires.rising c.get.ensures c.in_ok-batch.ensures.batch in
    let low : 1 ≤ s = c.requires.first in
    let high : s ≤ length before = (let streams = c.loop-slot.invariant.streams in omega (arith, c.requires.last, streams)) in
    let changed : after ≡ slice_set before (s - 1) new =
    c.in_ok-append.ensures.ok ∙ ap (λ log. slice_set before (s - 1) log) (ap (λ log. log ++ c.in_ok-batch.batch ∷ []) c.loop-slot.invariant.there ∙ sym more) in
    record {
      family = family_more first before after s old new low high changed c.loop-slot.invariant.family;
      there = family_there first before after s old new low high changed;
      streams = family_length first before after s old new low high changed ∙ c.loop-slot.invariant.streams;
    }

-- after an error in the loop the log is that of the slots before
pub returns-in_err-batch : goal.returns-in_err-batch
returns-in_err-batch c =
    let p = err_from_is_err_and c.from_residual.result c.from_residual.ensures.1 in
    on_err (λ _. c.loop-slot.family ≡ slice_set c.args.family.now (c.args.stream - 1) (batches_of (take c.args.to c.args.log.now)))
    (HasFront c.args.family.now c.loop-slot.family c.args.stream c.args.log.now c.args.from c.args.to) c.from_residual.result p.0 p.1 (record {
      len = c.loop-slot.slot;
      from_low = omega arith;
      to_high = omega arith;
      family = c.loop-slot.invariant.family;
    })
