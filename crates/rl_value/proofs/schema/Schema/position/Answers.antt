use Rattle.std.proofs.Common.{ap, ◌∙◌}
use Rattle.rl_value.specs.Tables.{table_named}
use Rattle.rl_value.proofs.SchemaLemmas.{find_table}
use Rattle.rl_value.proofs.schema.Schema.position.Goals as goal

pub returns-clause-found : goal.returns-clause-found
returns-clause-found c =
    c.get_index_of.ensures.index ∙ find_table c.args.name.now c.self.inside.tables.entries ∙ ap (table_named c.args.name.now) c.self.view_is
