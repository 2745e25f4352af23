use Rattle.rl_replay.proofs.Standing.{longer_logs_begin}
use Rattle.rl_replay.proofs.laws.logs_grow.Goals as goal

pub returns : goal.returns
returns c = longer_logs_begin
