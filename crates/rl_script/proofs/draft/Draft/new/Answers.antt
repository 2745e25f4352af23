use Rattle.std.proofs.Common.{refl}
use Rattle.rl_script.proofs.FitsLemmas.{fits_opening}
use Rattle.rl_script.proofs.draft.Draft.new.Goals as goal

pub returns-clause-fits : goal.returns-clause-fits
returns-clause-fits c = fits_opening _ (rw (c.new.ensures.settings, c.new-2.ensures, c.new-3.ensures, c.new-4.ensures, c.in_ok-empty.ensures) refl)
