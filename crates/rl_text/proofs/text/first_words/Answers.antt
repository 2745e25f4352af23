use Rattle.std.proofs.Common.{rules, arith, sym, ◌∙◌, map, take, ◌≡◌, ◌<◌, ◌==◌, false, length}
use Rattle.std.proofs.lemmas.List.{length-map, length-take-le, length-set}
use Rattle.rl_text.proofs.FirstWords.{go_on, more_words, first_five, no_bytes}
use Rattle.rl_text.proofs.text.first_words.Goals as goal
use Rattle.rl_text.proofs.text.first_words.Goals.{then-words-test+else-not-is_empty, else-words-test}

pub words-preserved-then-not-is_empty-2 : goal.words-preserved-then-not-is_empty-2
words-preserved-then-not-is_empty-2 c =
    let within : c.words.count < length c.words.words = omega arith in
    let some : (length c.first_piece.result.0.now == 0) ≡ false = sym c.is_empty-in-words.ensures ∙ c.if-not-is_empty-2.true in
    record {
      text = search rules;
      room = omega arith;
      five = length-set c.words.words c.words.count c.first_piece.result.0 ∙ c.words.invariant.five;
      same = go_on (map (λ w. w.now) (take c.words.count c.words.words)) _ c.first_piece.result.0.now c.words.rest.now c.first_piece.result.1.now c.args.line.now (more_words (λ w. w.now) c.words.words c.words.count c.first_piece.result.0 within) c.words.invariant.same c.first_piece.ensures.words some;
    }

pub returns-clause-words : goal.returns-clause-words
returns-clause-words c =
    let count : length (map (λ w. w.now) (take c.words.count c.words.words)) ≡ c.words.count = length-map (take c.words.count c.words.words) (λ w. w.now) ∙ length-take-le c.words.count c.words.words (omega arith) in
    first_five (map (λ w. w.now) (take c.words.count c.words.words)) _ c.words.rest.now c.words.invariant.same (omega arith) (λ few. elim c.words-test.branch [
      | then-words-test+else-not-is_empty w ↦ no_bytes c.words.rest.now (sym w.is_empty.ensures ∙ w.if-not-is_empty.false)
      | else-words-test w ↦ absurd (omega arith)
    ])
