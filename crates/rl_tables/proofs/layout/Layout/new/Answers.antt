use Rattle.rl_tables.proofs.Sizes.{sizes_more}
use Rattle.std.proofs.Common.{arith, ◌≡◌, ◌++◌, ◌∷◌, [], ap, ◌∙◌}
use Rattle.rl_tables.proofs.layout.Layout.new.Goals as goal

pub loop-t-preserved : goal.loop-t-preserved
loop-t-preserved c =
    let within = sizes_more c.args.schema.now c.loop-t.t c.size.result (omega arith) c.size.ensures.size in
    let more : c.push.new.self.items ≡ c.loop-t.sizes.items ++ c.size.result ∷ [] = c.in_ok-push.ensures.items in
    more ∙ ap (λ z. z ++ c.size.result ∷ []) c.loop-t.invariant ∙ within
