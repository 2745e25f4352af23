use Rattle.std.proofs.Common.{sym, ◌∙◌}
use Rattle.rl_script.proofs.FitsLemmas.{fits_ended}
use Rattle.rl_script.proofs.draft.Draft.end.Goals as goal

pub returns-clause-fits : goal.returns-clause-fits
returns-clause-fits c =
    rw c.take.ensures.after (fits_ended c.args.self.now c.in-Some.field-0 c.push.new.self (sym c.take.ensures.value ∙ c.in-Some.is) c.in_ok-push.ensures.ok c.requires.fits)
