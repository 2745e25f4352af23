use Rattle.std.proofs.Common.{◌≡◌, ◌+◌, ◌-◌, length, sum_by, ap, ◌∙◌, arith}
use Rattle.rl_script.proofs.FitsLemmas.{sum-with_last}
use Rattle.rl_script.proofs.requests.RequestLists.push.Goals as goal

pub invariant_of-self-2 : goal.invariant_of-self-2
invariant_of-self-2 c =
    let inside = c.self.inside in
    let more : sum_by (λ l. length l) c.push_at.new.self ≡ sum_by (λ l. length l) inside.lists + 1 =
    ap (sum_by (λ l. length l)) c.in_ok-push_at.ensures.ok ∙ sum-with_last inside.lists (c.args.worker - 1) c.args.txn (omega (arith, c.requires.some, rw (← c.self.view_is) at c.requires.there)) in
    (omega (arith, c.self.invariant.0), omega (arith, c.self.invariant.0, rw (← c.self.view_is) at c.requires.room))
