use Rattle.std.proofs.Common.{◌-◌, sym, subst, IfSome, IfNone}
use Rattle.rl_net.specs.Messages.{NonePending}
use Rattle.rl_net.proofs.Ranges.{least_found, none_found}
use Rattle.rl_net.proofs.net.Net.next_pending.Goals as goal

pub returns-clause-least : goal.returns-clause-least
returns-clause-least c =
    subst (λ x. IfSome c.copied.result (λ number. NonePending x c.args.after (number - 1))) c.self.view_is
    (subst (λ o. IfSome o (λ number. NonePending c.self.inside.messages.items c.args.after (number - 1))) (sym c.copied.ensures)
    (least_found c.self.inside.messages.items c.self.inside.pending c.self.invariant.listed c.args.after c.args.upto c.new.result.start c.new.result.end c.range.result
    c.new.ensures.start c.new.ensures.end (c.range.ensures.in_range c.new.ensures.exhausted) c.next.result _ c.next.ensures.steps))

pub returns-clause-none : goal.returns-clause-none
returns-clause-none c =
    subst (λ x. IfNone c.copied.result (NonePending x c.args.after c.args.upto)) c.self.view_is
    (subst (λ o. IfNone o (NonePending c.self.inside.messages.items c.args.after c.args.upto)) (sym c.copied.ensures)
    (none_found c.self.inside.messages.items c.self.inside.pending c.self.invariant.listed c.args.after c.args.upto c.new.result.start c.new.result.end c.range.result
    c.new.ensures.start c.new.ensures.end (c.range.ensures.in_range c.new.ensures.exhausted) c.next.result _ c.next.ensures.steps))
