use Rattle.std.proofs.Common.{◌≡◌, ap, ◌∙◌, rules}
use Rattle.std.specs.Option.{option_map, option_copied}
use Rattle.rl_txn.specs.declared.item.Item.{Item}
use Rattle.rl_cut.proofs.Folds.{last_item}
use Rattle.rl_cut.proofs.stamps.last_of_items.Goals as goal

pub returns : goal.returns
returns c =
    let mapped : c.map.result ≡ option_map (λ (x : Item). x.stamp) (option_copied c.last.result) = search rules in
    mapped ∙ ap (option_map (λ (x : Item). x.stamp)) c.last.ensures.value ∙ last_item c.args.items.now
