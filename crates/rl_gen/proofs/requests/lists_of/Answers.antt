use Rattle.std.proofs.Common.{length, ap, ◌∙◌, arith}
use Rattle.std.proofs.lemmas.Nat.{mod_below}
use Rattle.rl_gen.proofs.Dealt.{no_requests, list_count}
use Rattle.rl_gen.proofs.requests.lists_of.Goals as goal

pub loop-done-init : goal.loop-done-init
loop-done-init c = c.in_ok-lists.ensures ∙ no_requests c.args.seed c.args.workers

pub push_at-requires : goal.push_at-requires
push_at-requires c =
    omega (arith, mod_below c.loop-done.done c.args.workers, ap length c.loop-done.invariant, list_count c.args.seed c.args.workers c.loop-done.done)
