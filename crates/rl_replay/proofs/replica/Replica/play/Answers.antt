use Rattle.std.proofs.Common.{◌≡◌, ◌+◌, ◌-◌, ap, sym, subst, ◌∙◌, arith, take}
use Rattle.std.specs.Prelude.{slice_get, slice_index, IfOk, OnErr}
use Rattle.std.proofs.lemmas.Option.{slice_get_within}
use Rattle.rl_replay.specs.Cursors.{next_cursor, StandsBehind}
use Rattle.rl_replay.specs.Entries.{entries_of, entry_at}
use Rattle.rl_replay.specs.Replay.{next_entry, play_answer, after_answer, HasFailed}
use Rattle.rl_replay.specs.declared.played.Played.TheVariants.{Empty}
use Rattle.rl_replay.proofs.Answering.{still, state_replays}
use Rattle.rl_replay.proofs.Standing.{found_entry, behind_found, begins_after, others_after, replaying_after, streams_after}
use Rattle.rl_replay.proofs.replica.Replica.play.Goals as goal

next_is : (c : goal.After-play_at) → slice_get (entries_of c.in-Some.batch.now) c.in-Some.at.index ≡ next_entry c.args.self.now.replaying c.args.stream (take c.args.known c.args.log.now)
next_is c =
    let n = slice_index c.args.self.now.replaying.played (c.args.stream - 1) in
    found_entry c.first_batches-known.result.now n c.in-Some.batch.now c.in-Some.at c.in-Some.ensures.found ∙ ap (λ z. entry_at z n) c.first_batches-known.ensures

behind : (c : goal.After-play_at) → StandsBehind (slice_index c.args.self.now.replaying.played (c.args.stream - 1) + 1) (take c.args.known c.args.log.now) (next_cursor c.in-Some.at)
behind c =
    let n = slice_index c.args.self.now.replaying.played (c.args.stream - 1) in
    let known = c.first_batches-known.result.now in
    let within = slice_get_within known c.in-Some.at.batch c.in-Some.batch.now c.in-Some.ensures.found.has in
    subst (λ z. StandsBehind (n + 1) z (next_cursor c.in-Some.at)) c.first_batches-known.ensures (behind_found known n c.in-Some.batch.now c.in-Some.at (omega arith) c.in-Some.ensures.found)

pub returns-in-Some-clause-answer : goal.returns-in-Some-clause-answer
returns-in-Some-clause-answer c = subst (λ o. IfOk c.play_at.result (λ p. p ≡ play_answer o c.args.bound c.args.watermark)) (next_is c) c.play_at.ensures.answer

replaying : (c : goal.After-play_at) → IfOk c.play_at.result (λ p. c.play_at.new.self.replaying ≡ after_answer c.args.self.now.replaying c.args.stream (slice_get (entries_of c.in-Some.batch.now) c.in-Some.at.index) p)
replaying c = replaying_after c.play_at.result c.args.self.now c.play_at.new.self c.args.stream (slice_get (entries_of c.in-Some.batch.now) c.in-Some.at.index) (next_cursor c.in-Some.at) c.play_at.ensures.state

pub returns-in-Some-clause-state : goal.returns-in-Some-clause-state
returns-in-Some-clause-state c = subst (λ o. IfOk c.play_at.result (λ p. c.play_at.new.self.replaying ≡ after_answer c.args.self.now.replaying c.args.stream o p)) (next_is c) (replaying c)

pub returns-in-Some-clause-streams : goal.returns-in-Some-clause-streams
returns-in-Some-clause-streams c =
    let next = slice_get (entries_of c.in-Some.batch.now) c.in-Some.at.index in
    streams_after c.play_at.result c.args.self.now.replaying c.play_at.new.self.replaying c.args.stream next (play_answer next c.args.bound c.args.watermark) (replaying c) c.play_at.ensures.err

pub returns-in-Some-clause-begins : goal.returns-in-Some-clause-begins
returns-in-Some-clause-begins c =
    let next = slice_get (entries_of c.in-Some.batch.now) c.in-Some.at.index in
    begins_after c.args.self.now c.args.stream (take c.args.known c.args.log.now) (next_cursor c.in-Some.at) c.requires.first_stream c.requires.last_stream c.requires.begins
    c.play_at.new.self next (play_answer next c.args.bound c.args.watermark) c.play_at.result c.play_at.ensures.state c.play_at.ensures.err c.play_at.ensures.stands (behind c)

pub returns-in-Some-clause-others : goal.returns-in-Some-clause-others
returns-in-Some-clause-others c =
    let next = slice_get (entries_of c.in-Some.batch.now) c.in-Some.at.index in
    others_after c.args.self.now c.args.stream (take c.args.known c.args.log.now) (next_cursor c.in-Some.at) c.requires.first_stream c.requires.last_stream c.requires.begins
    c.play_at.new.self next (play_answer next c.args.bound c.args.watermark) c.play_at.result c.play_at.ensures.state c.play_at.ensures.err c.play_at.ensures.stands

pub returns-in-Some-clause-replay : goal.returns-in-Some-clause-replay
returns-in-Some-clause-replay c = state_replays c.play_at.result c.args.self.now.replaying c.play_at.new.self.replaying c.args.stream (slice_get (entries_of c.in-Some.batch.now) c.in-Some.at.index) (replaying c)

pub returns-in-Some-clause-err : goal.returns-in-Some-clause-err
returns-in-Some-clause-err c = subst (λ o. OnErr c.play_at.result (HasFailed (play_answer o c.args.bound c.args.watermark) o c.args.self.now.replaying c.play_at.new.self.replaying)) (next_is c) c.play_at.ensures.err

pub returns-in-None-clause-state : goal.returns-in-None-clause-state
returns-in-None-clause-state c =
    let n = slice_index c.args.self.now.replaying.played (c.args.stream - 1) in
    still c.args.self.now.replaying c.args.stream
    ∙ ap (λ o. after_answer c.args.self.now.replaying c.args.stream o Empty) (ap (λ z. entry_at z n) (sym c.first_batches-known.ensures) ∙ c.in-None.ensures.found)
