use Rattle.std.proofs.Common.{ℕ, ◌+◌, ap, sym, ◌∙◌, subst, arith}
use Rattle.atomic_table.specs.Table.{Splits}
use Rattle.rl_progress.specs.declared.rule.View.{View}
use Rattle.rl_progress.specs.Rule.{ProgressRule, dealer, publisher, rest_of, dealt}
use Rattle.rl_progress.proofs.Keeping.{deals}
use Rattle.rl_progress.proofs.progress.Progress.deal_one.Goals as goal

pub split_seat-inner-requires : goal.split_seat-inner-requires
split_seat-inner-requires c =
    let words = ap (λ z. z.words) c.self.view_is in
    let id = c.args.undealt.now.id in
    let k = c.args.stream in (
      c.requires.table ∙ sym c.self.view_is,
      omega (arith, words, c.requires.stream),
      subst (λ (x : View). Splits (ProgressRule c.self.inside.table.shared.key) id x (rest_of x) (dealt x)) (sym (ap (λ m. m.0) c.requires.view))
          (subst (λ (n : ℕ). Splits (ProgressRule n) id (dealer c.args.self.now.words k) (dealer c.args.self.now.words (k + 1)) (publisher c.args.self.now.words k)) (sym (c.self.invariant ∙ words)) (deals c.args.self.now.words id k c.requires.stream)),
    )
