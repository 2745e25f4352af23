use Rattle.std.proofs.lemmas.Result.{on_ok_weaker}
use Rattle.rl_batch.proofs.Appends.{appended_item}
use Rattle.rl_batch.proofs.item.push_item.Goals as goal

pub returns-clause-encoded : goal.returns-clause-encoded
returns-clause-encoded c = on_ok_weaker c.push_writes.result
    (λ last. appended_item c.args.item.now c.args.out.now c.push_u64.new.out c.push_u32.new.out c.push_u8.new.out c.push_numbers.new.out c.push_writes.new.out
    c.end_number.result c.as_slice.result.now c.as_slice-2.result.now c.end_number.ensures c.as_slice.ensures c.as_slice-2.ensures
    c.in_ok-push_u64.ensures.ok c.in_ok-push_u32.ensures.ok c.in_ok-push_u8.ensures.ok c.in_ok-push_numbers.ensures.encoded last)
    c.push_writes.ensures.encoded
