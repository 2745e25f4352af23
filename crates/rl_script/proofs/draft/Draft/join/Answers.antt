use Rattle.rl_script.proofs.FitsLemmas.{fits_with_table, free}
use Rattle.rl_script.proofs.draft.Draft.join.Goals as goal

pub returns-in-Ok-clause-fits : goal.returns-in-Ok-clause-fits
returns-in-Ok-clause-fits c =
    let asked = c.requires in
    fits_with_table c.args.self.now _ c.declare.new.self asked.fits asked.first
    (record { named = asked.name; some_keys = asked.some_keys; few_keys = asked.few_keys; some_columns = asked.some_columns; few_columns = asked.few_columns })
    (free _ c.declare.result _ c.declare.ensures.refused c.in-Ok.is) c.in-Ok.ensures.declared
