use Rattle.rl_fields.proofs.DecodeLaws.{read_encoded}
use Rattle.rl_batch.specs.Encoding.{batch_bytes}
use Rattle.rl_batch.specs.Ranges.{BatchInRange}
use Rattle.rl_batch.specs.Reading.{batch}
use Rattle.rl_batch.proofs.BatchLaws.{batch_reader, reads_back}
use Rattle.rl_batch.proofs.laws.reads_back.Goals as goal

pub returns-clause-read_back : goal.returns-clause-read_back
returns-clause-read_back c = λ b range words. reads_back b range words

pub returns-clause-only : goal.returns-clause-only
returns-clause-only c = λ bytes b fits e. read_encoded batch batch_bytes BatchInRange batch_reader bytes b fits e
