use Rattle.rl_replay.proofs.Following.{replicas_begin, replicas_go_on, play_keeps, memory_keeps, applied_identified, rows_at_watermark}
use Rattle.rl_replay.proofs.laws.replicas_follow.Goals as goal

pub returns : goal.returns
returns c = record {
  begin = replicas_begin;
  go_on = replicas_go_on;
  play = play_keeps;
  memory = memory_keeps;
  identified = applied_identified;
  rows = rows_at_watermark;
}
