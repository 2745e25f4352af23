use Rattle.std.proofs.Common.{rules}
use Rattle.std.proofs.lemmas.List.Sorted.{answers_always}
use Rattle.rl_txn.specs.RowSets.{place_at}
use Rattle.rl_txn.proofs.RowSets.{searched}
use Rattle.rl_txn.proofs.row_set.search.Goals as goal

pub returns-clause-found : goal.returns-clause-found
returns-clause-found c =
    (searched c.args.rows.now (c.args.table, c.args.key) c.binary_search_by_key.result c.requires
    (c.binary_search_by_key.ensures.position place_at (answers_always _ _ _ (λ f a r g called. search rules)))).found

pub returns-clause-between : goal.returns-clause-between
returns-clause-between c =
    (searched c.args.rows.now (c.args.table, c.args.key) c.binary_search_by_key.result c.requires
    (c.binary_search_by_key.ensures.position place_at (answers_always _ _ _ (λ f a r g called. search rules)))).between
