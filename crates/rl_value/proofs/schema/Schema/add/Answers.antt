use Rattle.std.proofs.Common.{ap, ◌∙◌, [], ◌∷◌, ◌++◌}
use Rattle.rl_value.specs.Entries.{tables_of}
use Rattle.rl_value.proofs.SchemaLemmas.{tables_push, declared_tables}
use Rattle.rl_value.proofs.schema.Schema.add.Goals as goal

pub invariant_of-self-2 : goal.invariant_of-self-2
invariant_of-self-2 c =
    let inside = c.self.inside in
    declared_tables inside.tables c.in_ok-from_str.field-0 c.args.name.now c.args.size c.args.columns inside.records _ c.in_ok-from_str.ensures.ok c.self.invariant (rw (← c.self.view_is) at c.requires.free) c.requires.table c.in_ok-insert.ensures.entries

pub returns-clause-declared : goal.returns-clause-declared
returns-clause-declared c =
    let inside = c.self.inside in
    ap tables_of c.in_ok-insert.ensures.entries
    ∙ tables_push inside.tables c.in_ok-from_str.field-0 c.args.name.now c.args.size c.args.columns c.in_ok-from_str.ensures.ok (rw (← c.self.view_is) at c.requires.free)
    ∙ ap (λ tables. tables ++ record { name = c.args.name.now; size = c.args.size; columns = c.args.columns } ∷ []) c.self.view_is
