use Rattle.std.proofs.Common.{sym, ◌∙◌, arith}
use Rattle.rl_events.specs.Words.{number}
use Rattle.rl_script.proofs.Each.{each_wrong, failed}
use Rattle.rl_script.proofs.draft.numbers.Goals as goal

pub returns-in-Err-clause-numbers : goal.returns-in-Err-clause-numbers
returns-in-Err-clause-numbers c =
    failed _ c.in-Err.kind _ c.into.ensures (sym c.loop-word.invariant.same ∙ each_wrong number c.loop-word.numbers.items c.args.words.now c.loop-word.word-index _ c.in-Err.kind (omega arith) (sym c.in-Err.ensures))
