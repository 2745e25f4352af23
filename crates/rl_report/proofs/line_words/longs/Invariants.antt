use Rattle.std.proofs.Common.{◌≡◌, map, drop, vec_len}
use Rattle.rl_report.specs.Words.{longs}
use Rattle.rl_report.proofs.NumbersRead.{numbers_onto}
use Rattle.rl_report.proofs.line_words.longs.Given as goal

abbrev pub invariant-loop-word : goal.invariant-loop-word
invariant-loop-word l =
    record {
      counted : vec_len l.numbers ≡ l.word-index;
      same : numbers_onto l.numbers.items (longs (map (λ w. w.now) (drop l.word-index l.words))) ≡ longs (map (λ w. w.now) l.words);
    }
