use Rattle.std.proofs.Common.{◌≡◌, subst, IfOk}
use Rattle.rl_node.proofs.Wrongs.{wrong_by_batches}
use Rattle.rl_node.proofs.wrong.is_wrong.Goals as goal

pub returns : goal.returns
returns c =
    let place = c.args.place in
    subst (λ v. IfOk c.is_wrong_behind.result (λ wrong. wrong ≡ v)) (wrong_by_batches c.args.schema.now place.stream place.epoch c.args.log.now)
    c.is_wrong_behind.ensures
