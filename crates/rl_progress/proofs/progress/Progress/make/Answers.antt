use Rattle.std.proofs.Common.{rules}
use Rattle.rl_progress.proofs.Keeping.{opens}
use Rattle.rl_progress.proofs.progress.Progress.make.Goals as goal

pub of_words-requires : goal.of_words-requires
of_words-requires c = opens c.args.streams c.as_slice.result.now (search (rules, c.as_slice.ensures.value, c.in_ok-words.ensures.items_if_clones_equal))
