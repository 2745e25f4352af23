use Rattle.std.proofs.Common.{sym, ◌∙◌, arith, length-append, [], ◌∷◌}
use Rattle.std.proofs.lemmas.List.Elements.{All-push}
use Rattle.rl_txn.specs.Fits.{OperandFits}
use Rattle.rl_script.specs.Words.{operand}
use Rattle.rl_script.proofs.Each.{each_more, each_wrong, failed}
use Rattle.rl_script.proofs.operation.operands.Goals as goal

pub returns-in-Err-clause-operands : goal.returns-in-Err-clause-operands
returns-in-Err-clause-operands c =
    failed _ c.in-Err.kind _ c.into.ensures (sym c.loop-word.invariant.same ∙ each_wrong operand c.loop-word.operands c.args.words.now c.loop-word.word-index _ c.in-Err.kind (omega arith) (sym c.in-Err.ensures.operand))

pub loop-word-preserved : goal.loop-word-preserved
loop-word-preserved c = rw c.in_ok-push-in-Ok.ensures.ok (record {
  counted = omega (arith, length-append c.loop-word.operands (c.in-Ok.a ∷ []), c.loop-word.invariant.counted);
  same = sym (each_more operand c.loop-word.operands c.args.words.now c.loop-word.word-index _ c.in-Ok.a (omega arith) (sym c.in-Ok.ensures.operand)) ∙ c.loop-word.invariant.same;
  fit = All-push OperandFits c.loop-word.operands c.in-Ok.a c.loop-word.invariant.fit c.in-Ok.ensures.fits;
})
