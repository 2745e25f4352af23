use Rattle.rl_app.proofs.Opened.{opened}
use Rattle.rl_app.proofs.run.Run.open.Goals as goal
use Rattle.std.proofs.Common.{◌∙◌, ap, replicate, sum}

pub returns : goal.returns
returns c =
    opened c.args.script.now c.in_ok-words.words c.in_ok-workers.field-0 c.new.result c.new-2.result c.in_ok-stamps.stamps c.requires.fits
    c.in_ok-words.ensures.records c.in_ok-words.ensures.next c.in_ok-words.ensures.fits
    (c.in_ok-stamps.ensures ∙ ap (λ n. replicate n 0) (c.count.ensures.count ∙ ap sum c.requires.layout))
    c.in_ok-workers.ensures.count c.in_ok-workers.ensures.each c.new.ensures.items c.new-2.ensures
