use Rattle.std.proofs.Common.{◌≡◌, ap, sym, subst, ◌∙◌, min, Some, rules}
use Rattle.std.specs.Option.{option_map_or}
use Rattle.rl_families.specs.Logs.{last_seq_among}
use Rattle.rl_cut.specs.Kept.{AreByEpoch}
use Rattle.rl_cut.proofs.Folds.{found_more}
use Rattle.rl_cut.proofs.lasts.least_seq.Goals as goal

pub last_seq-last-requires : goal.last_seq-last-requires
last_seq-last-requires c = subst AreByEpoch (sym (c.as_slice.ensures ∙ c.lasts-item.is)) (c.requires c.loop-lasts.lasts-index c.lasts-item.result c.loop-lasts-test.true)

pub loop-lasts-preserved : goal.loop-lasts-preserved
loop-lasts-preserved c =
    let more = found_more (λ ss. last_seq_among ss c.args.epoch) c.args.reached.now c.loop-lasts.lasts-index c.lasts-item.result c.loop-lasts-test.true c.lasts-item.is in
    let lesser : c.map_or.result ≡ option_map_or (λ l. min l c.last_seq-last.result) c.loop-lasts.least c.last_seq-last.result = search rules in
    let seq : c.last_seq-last.result ≡ last_seq_among c.lasts-item.result c.args.epoch = c.last_seq-last.ensures ∙ ap (λ ss. last_seq_among ss c.args.epoch) c.as_slice.ensures in
    ap Some (lesser ∙ ap (λ n. option_map_or (λ l. min l n) c.loop-lasts.least n) seq
    ∙ ap (λ o. option_map_or (λ l. min l (last_seq_among c.lasts-item.result c.args.epoch)) o (last_seq_among c.lasts-item.result c.args.epoch)) c.loop-lasts.invariant) ∙ more
