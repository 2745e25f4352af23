use Rattle.std.proofs.Common.{ap, ◌∙◌, arith}
use Rattle.rl_fields.proofs.DecodeLaws.{decoded_encoded, decoded_in_range}
use Rattle.rl_msg.specs.Encoding.{msg_bytes}
use Rattle.rl_msg.specs.Ranges.{MsgInRange}
use Rattle.rl_msg.specs.Reading.{msg, read_msg}
use Rattle.rl_msg.proofs.MsgLaws.{msg_reader, reads_back}
use Rattle.rl_msg.proofs.decode.decode_msg.Goals as goal

pub returns-clause-encoded : goal.returns-clause-encoded
returns-clause-encoded c = decoded_encoded msg msg_bytes MsgInRange msg_reader c.args.x.now c.read.result (λ i. omega (arith, c.type_inv.x i)) c.read.ensures

pub returns-clause-in_range : goal.returns-clause-in_range
returns-clause-in_range c = decoded_in_range msg msg_bytes MsgInRange msg_reader c.args.x.now c.read.result (λ i. omega (arith, c.type_inv.x i)) c.read.ensures

pub returns-clause-read_back : goal.returns-clause-read_back
returns-clause-read_back c = λ m range e. ap read_msg e ∙ reads_back m range
