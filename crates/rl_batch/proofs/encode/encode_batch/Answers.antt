use Rattle.rl_batch.proofs.BatchLaws.{encoded_reads}
use Rattle.rl_batch.proofs.Sizes.{answer_size}
use Rattle.rl_batch.proofs.encode.encode_batch.Goals as goal

pub returns-clause-read_back : goal.returns-clause-read_back
returns-clause-read_back c = encoded_reads c.encode.result c.args.b.now c.requires c.encode.ensures.words c.encode.ensures.encoded

pub returns-clause-some : goal.returns-clause-some
returns-clause-some c = (answer_size c.encode.result c.args.b.now c.requires c.encode.ensures.encoded).0

pub returns-clause-short : goal.returns-clause-short
returns-clause-short c = (answer_size c.encode.result c.args.b.now c.requires c.encode.ensures.encoded).1
