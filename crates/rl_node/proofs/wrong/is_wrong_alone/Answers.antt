use Rattle.std.proofs.Common.{◌∙◌, sym}
use Rattle.rl_node.proofs.Wrongs.{wrong_alone}
use Rattle.rl_node.proofs.wrong.is_wrong_alone.Goals as goal

pub returns-in-Some : goal.returns-in-Some
returns-in-Some c = λ bytes e.
    c.is_wrong_batch.ensures ∙ wrong_alone c.args.schema.now c.args.place.stream c.args.place.epoch bytes c.in-Some.batch (sym e ∙ c.in-Some.is)
