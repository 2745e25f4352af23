use Rattle.std.proofs.Common.{sym}
use Rattle.rl_value.proofs.SchemaLemmas.{table_at}
use Rattle.rl_value.proofs.schema.Schema.columns.Goals as goal

pub returns-clause-some : goal.returns-clause-some
returns-clause-some c =
    (table_at c.self.inside.tables.entries c.args.t _ (sym (rw c.unwrap.ensures at c.get_index.ensures.entry)) c.self.invariant.0.each).some_columns

pub returns-clause-few : goal.returns-clause-few
returns-clause-few c =
    (table_at c.self.inside.tables.entries c.args.t _ (sym (rw c.unwrap.ensures at c.get_index.ensures.entry)) c.self.invariant.0.each).few_columns
