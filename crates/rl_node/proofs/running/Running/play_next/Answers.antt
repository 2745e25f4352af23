use Rattle.std.proofs.Common.{◌≡◌, ℕ, ◌-◌, ◌<◌, List, length, take, ap, sym, ◌∙◌, subst, arith}
use Rattle.rl_families.specs.Streams.{log_at}
use Rattle.rl_replay.specs.Replay.{next_entry, play_answer, after_answer, HasFailed}
use Rattle.rl_txn.specs.declared.batch.Batch.{Batch}
use Rattle.rl_node.specs.Replaying.{HasPlayedNext}
use Rattle.rl_node.proofs.Replays.{take_all, begins_all, stays_played, stays_failed, played_next}
use Rattle.rl_node.proofs.running.Running.play_next.Goals as goal

pub returns-in_err-played-clause-stays : goal.returns-in_err-played-clause-stays
returns-in_err-played-clause-stays c =
    let old = c.args.self.now.replica in
    let new = c.play.new.self in
    let family = c.args.self.now.known in
    let s = c.args.stream in
    let log : List Batch = take c.len.result c.log-log.result.now in
    let all : log ≡ log_at family s = ap (λ k. take k c.log-log.result.now) c.len.ensures ∙ take_all c.log-log.result.now ∙ c.log-log.ensures in
    let h = c.in_err-played.ensures in
    stays_failed c.rows.ensures.fit family s old new (play_answer (next_entry old.replaying s (log_at family s)) c.next_bound-bound.result c.watermark-watermark.result.1)
    h.streams (begins_all family s old new log all h.begins h.others)
    (subst (λ (l : List Batch). HasFailed (play_answer (next_entry old.replaying s l) c.next_bound-bound.result c.watermark-watermark.result.1) (next_entry old.replaying s l) old.replaying new.replaying) all h.err)

pub returns-clause-stays : goal.returns-clause-stays
returns-clause-stays c =
    let old = c.args.self.now.replica in
    let new = c.play.new.self in
    let family = c.args.self.now.known in
    let s = c.args.stream in
    let log : List Batch = take c.len.result c.log-log.result.now in
    let all : log ≡ log_at family s = ap (λ k. take k c.log-log.result.now) c.len.ensures ∙ take_all c.log-log.result.now ∙ c.log-log.ensures in
    let h = c.in_ok-played.ensures in
    stays_played c.rows.ensures.fit family s old new c.in_ok-played.played h.streams (begins_all family s old new log all h.begins h.others)
    (subst (λ (l : List Batch). new.replaying ≡ after_answer old.replaying s (next_entry old.replaying s l) c.in_ok-played.played) all h.state)

pub returns-clause-next : goal.returns-clause-next
returns-clause-next c =
    let old = c.args.self.now.replica in
    let new = c.play.new.self in
    let family = c.args.self.now.known in
    let s = c.args.stream in
    let log : List Batch = take c.len.result c.log-log.result.now in
    let all : log ≡ log_at family s = ap (λ k. take k c.log-log.result.now) c.len.ensures ∙ take_all c.log-log.result.now ∙ c.log-log.ensures in
    let h = c.in_ok-played.ensures in
    let state : new.replaying ≡ after_answer old.replaying s (next_entry old.replaying s (log_at family s)) c.in_ok-played.played =
    subst (λ (l : List Batch). new.replaying ≡ after_answer old.replaying s (next_entry old.replaying s l) c.in_ok-played.played) all h.state in
    let is : c.in_ok-played.played ≡ play_answer (next_entry old.replaying s (log_at family s)) c.next_bound-bound.result c.watermark-watermark.result.1 =
    subst (λ (l : List Batch). c.in_ok-played.played ≡ play_answer (next_entry old.replaying s l) c.next_bound-bound.result c.watermark-watermark.result.1) all h.answer in
    let inside : s - 1 < length old.replaying.played = (let first = c.requires.first in let last = c.requires.last in let streams = c.requires.streams in omega (arith, first, last, streams)) in
    subst (HasPlayedNext family s old new) (sym c.is_played.ensures)
    (played_next family s old new inside
    (stays_played c.rows.ensures.fit family s old new c.in_ok-played.played h.streams (begins_all family s old new log all h.begins h.others) state)
    c.next_bound-bound.result c.watermark-watermark.result.1 c.in_ok-played.played c.next_bound-bound.ensures
    (ap (λ (w : ℕ × ℕ). w.1) c.watermark-watermark.ensures) is state)
