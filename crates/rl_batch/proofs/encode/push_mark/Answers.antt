use Rattle.std.proofs.lemmas.Result.{on_ok_weaker}
use Rattle.byteorder.specs.Endian.{big_bytes}
use Rattle.rl_fields.proofs.Appends.{appended}
use Rattle.rl_batch.proofs.encode.push_mark.Goals as goal

pub returns : goal.returns
returns c = on_ok_weaker c.push_u64.result (λ last. appended c.args.out.now c.push_u32.new.out c.push_u64.new.out (big_bytes 4 c.args.stamp.epoch) (big_bytes 8 c.args.stamp.seq) c.in_ok-push_u32.ensures.ok last) c.push_u64.ensures.ok
