use Rattle.std.proofs.Common.{◌≡◌, ◌++◌, length, map}
use denote.Text.{Utf8}
use denote.Shadow.{shadow}
use Rattle.rl_text.specs.Text.{words_of}
use Rattle.rl_text.proofs.text.words.Given as goal

abbrev pub invariant-words : goal.invariant-words
invariant-words l =
    record {
      text : shadow (Utf8 l.rest);
      same : map (λ w. w.now) l.words.items ++ words_of l.rest ≡ words_of l.line;
    }

abbrev pub decreases-words : goal.decreases-words
decreases-words l = length l.rest
