use Rattle.std.proofs.Common.{ap, ◌∙◌, arith}
use Rattle.rl_fields.proofs.DecodeLaws.{decoded_encoded, decoded_in_range}
use Rattle.rl_batch.specs.Encoding.{batch_bytes}
use Rattle.rl_batch.specs.Ranges.{BatchInRange}
use Rattle.rl_batch.specs.Reading.{batch, read_batch}
use Rattle.rl_batch.proofs.BatchLaws.{batch_reader, reads_back}
use Rattle.rl_batch.proofs.decode.decode_batch.Goals as goal

pub returns-clause-encoded : goal.returns-clause-encoded
returns-clause-encoded c = decoded_encoded batch batch_bytes BatchInRange batch_reader c.args.x.now c.read.result (λ i. omega (arith, c.type_inv.x i)) c.read.ensures

pub returns-clause-in_range : goal.returns-clause-in_range
returns-clause-in_range c = decoded_in_range batch batch_bytes BatchInRange batch_reader c.args.x.now c.read.result (λ i. omega (arith, c.type_inv.x i)) c.read.ensures

pub returns-clause-read_back : goal.returns-clause-read_back
returns-clause-read_back c = λ b range words e. ap read_batch e ∙ reads_back b range words
