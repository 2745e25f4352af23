use Rattle.rl_fields.proofs.DecodeLaws.{read_encoded}
use Rattle.rl_msg.specs.Encoding.{msg_bytes}
use Rattle.rl_msg.specs.Ranges.{MsgInRange}
use Rattle.rl_msg.specs.Reading.{msg}
use Rattle.rl_msg.proofs.MsgLaws.{msg_reader, reads_back}
use Rattle.rl_msg.proofs.laws.reads_back.Goals as goal

pub returns-clause-read_back : goal.returns-clause-read_back
returns-clause-read_back c = λ m range. reads_back m range

pub returns-clause-only : goal.returns-clause-only
returns-clause-only c = λ bytes m fits e. read_encoded msg msg_bytes MsgInRange msg_reader bytes m fits e
