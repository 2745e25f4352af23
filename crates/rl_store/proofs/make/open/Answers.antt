use Rattle.std.proofs.Common.{ℕ, List, [], sym, subst}
use Rattle.atomic_table.specs.Table.{opening}
use Rattle.rl_store.specs.declared.rule.Start.{Start}
use Rattle.rl_store.specs.Opening.{opening_of, made_of, first_view}
use Rattle.rl_store.specs.Rule.{StoreRule}
use Rattle.rl_store.proofs.Opens.{opens}
use Rattle.rl_store.proofs.make.open.Goals as goal

pub of_words-requires : goal.of_words-requires
of_words-requires c = subst (λ (p : Start × List ℕ). StoreRule (opening_of (made_of p.0)) (opening p.1 [] (first_view p.0.tries))) (λ i. (sym c.of-key.ensures i, sym c.as_slice.ensures.value i)) (opens (made_of c.args.start) c.requires.ready)
