use Rattle.rl_report.proofs.Both.{read_is_printed, printed_is_read}
use Rattle.rl_report.proofs.laws.texts.Goals as goal

pub returns-clause-read : goal.returns-clause-read
returns-clause-read c = read_is_printed

pub returns-clause-printed : goal.returns-clause-printed
returns-clause-printed c = printed_is_read
