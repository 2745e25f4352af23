use Rattle.std.proofs.Common.{◌≡◌, All, map, drop, vec_len}
use Rattle.rl_text.specs.Numbers.{IsNumber}
use Rattle.rl_events.specs.Words.{number}
use Rattle.rl_script.specs.Operations.{each_word}
use Rattle.rl_script.proofs.Each.{onto}
use Rattle.rl_script.proofs.draft.numbers.Given as goal

abbrev pub invariant-loop-word : goal.invariant-loop-word
invariant-loop-word l =
    record {
      counted : vec_len l.numbers ≡ l.word-index;
      same : onto l.numbers.items (each_word number (map (λ w. w.now) (drop l.word-index l.words))) ≡ each_word number (map (λ w. w.now) l.words);
      each : All IsNumber l.numbers.items;
    }
