use Rattle.std.proofs.Common.{◌≡◌, ◌≤◌, ◌++◌, length, map, take}
use denote.Text.{Utf8}
use denote.Shadow.{shadow}
use Rattle.rl_text.specs.Text.{words_of}
use Rattle.rl_text.proofs.text.first_words.Given as goal

abbrev pub invariant-words : goal.invariant-words
invariant-words l =
    record {
      text : shadow (Utf8 l.rest);
      room : l.count ≤ 5;
      five : length l.words ≡ 5;
      same : map (λ w. w.now) (take l.count l.words) ++ words_of l.rest ≡ words_of l.line;
    }

abbrev pub decreases-words : goal.decreases-words
decreases-words l = length l.rest
