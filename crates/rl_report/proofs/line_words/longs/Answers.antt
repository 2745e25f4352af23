use Rattle.std.proofs.Common.{sym, ◌∙◌, arith}
use Rattle.rl_report.proofs.NumbersRead.{numbers_wrong, failed}
use Rattle.rl_report.proofs.line_words.longs.Goals as goal

pub returns-in-Err-clause-longs : goal.returns-in-Err-clause-longs
returns-in-Err-clause-longs c =
    failed _ c.in-Err.kind _ c.into.ensures (sym c.loop-word.invariant.same ∙ numbers_wrong c.loop-word.numbers.items c.args.words.now c.loop-word.word-index _ c.in-Err.kind (omega arith) (sym c.in-Err.ensures.number))
