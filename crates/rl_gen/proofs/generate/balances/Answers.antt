use Rattle.std.proofs.Common.{ap, ◌∙◌}
use Rattle.std.specs.FinMap as finite
use Rattle.rl_gen.specs.Generated.{balances}
use Rattle.rl_gen.proofs.Balances.{one_more_account}
use Rattle.rl_gen.proofs.generate.balances.Goals as goal

pub loop-account-init : goal.loop-account-init
unfolding balances
loop-account-init c = c.new-rows.ensures

pub loop-account-preserved : goal.loop-account-preserved
loop-account-preserved c =
    c.in_ok-put.ensures.ok ∙ ap (λ rows. finite.insert rows (0, c.loop-account.account) c.from_slice.result) c.loop-account.invariant
    ∙ ap (λ row. finite.insert (balances c.loop-account.account) (0, c.loop-account.account) row) c.from_slice.ensures ∙ one_more_account c.loop-account.account
