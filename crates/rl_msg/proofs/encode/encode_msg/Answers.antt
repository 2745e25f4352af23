use Rattle.rl_fields.proofs.DecodeLaws.{encoded_reads}
use Rattle.rl_msg.specs.Encoding.{msg_bytes}
use Rattle.rl_msg.specs.Reading.{read_msg}
use Rattle.rl_msg.proofs.MsgLaws.{reads_back}
use Rattle.rl_msg.proofs.encode.encode_msg.Goals as goal

pub returns-clause-read_back : goal.returns-clause-read_back
returns-clause-read_back c = encoded_reads read_msg msg_bytes c.args.m.now c.encode.result (reads_back c.args.m.now c.requires) c.encode.ensures
