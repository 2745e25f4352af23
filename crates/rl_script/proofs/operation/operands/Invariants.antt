use Rattle.std.proofs.Common.{◌≡◌, map, drop, length, All}
use Rattle.rl_txn.specs.Fits.{OperandFits}
use Rattle.rl_script.specs.Operations.{each_word}
use Rattle.rl_script.specs.Words.{operand}
use Rattle.rl_script.proofs.Each.{onto}
use Rattle.rl_script.proofs.operation.operands.Given as goal

abbrev pub invariant-loop-word : goal.invariant-loop-word
invariant-loop-word l =
    record {
      counted : length l.operands ≡ l.word-index;
      same : onto l.operands (each_word operand (map (λ w. w.now) (drop l.word-index l.words))) ≡ each_word operand (map (λ w. w.now) l.words);
      fit : All OperandFits l.operands;
    }
