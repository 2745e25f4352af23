use Rattle.std.proofs.Common.{◌-◌, length, ap, ◌∙◌}
use Rattle.std.specs.Prelude.{slice_get}
use Rattle.rl_cut.proofs.Folds.{last_of_stamps}
use Rattle.rl_cut.proofs.lasts.last_of_lasts.Goals as goal

pub returns : goal.returns
returns c = c.copied.ensures ∙ c.last.ensures.value ∙ ap (λ xs. slice_get xs (length xs - 1)) c.as_slice.ensures ∙ last_of_stamps c.args.lasts.now
