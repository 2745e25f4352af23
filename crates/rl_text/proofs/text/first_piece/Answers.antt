use Rattle.std.proofs.Common.{Some, None, lit<}
use Rattle.std.proofs.lemmas.Str.Pattern.{split_parts}
use Rattle.rl_text.proofs.FirstWords.{words_more, words_one, after_shorter}
use Rattle.rl_text.proofs.text.first_piece.Goals as goal

pub returns-in-Some-clause-words : goal.returns-in-Some-clause-words
returns-in-Some-clause-words c =
    let parts = split_parts 32 c.args.line.now (Some c.in-Some.pieces) c.in-Some.ensures.cases (lit< tt) in
    words_more _ _ _ parts.0 parts.1

pub returns-in-Some-clause-shorter : goal.returns-in-Some-clause-shorter
returns-in-Some-clause-shorter c =
    let parts = split_parts 32 c.args.line.now (Some c.in-Some.pieces) c.in-Some.ensures.cases (lit< tt) in
    after_shorter _ _ _ parts.0

pub returns-in-None-clause-words : goal.returns-in-None-clause-words
returns-in-None-clause-words c = words_one _ (split_parts 32 c.args.line.now None c.in-None.ensures.cases (lit< tt))
