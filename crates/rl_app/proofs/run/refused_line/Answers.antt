use Rattle.std.proofs.Common.{◌≡◌, ℕ, ◌<◌, List, length, sym, ap, subst, ◌∙◌, arith}
use Rattle.std.proofs.lemmas.List.{length-map}
use Rattle.rl_value.specs.Tables.{Table, name_of}
use Rattle.rl_tables.specs.Numbers.{sizes_of}
use Rattle.rl_report.specs.Forms.{IsWord, IsRefused}
use Rattle.rl_app.proofs.Names.{name_of_word}
use Rattle.rl_app.proofs.run.refused_line.Goals as goal
use Rattle.rl_app.proofs.run.refused_line.Goals.{in-Locked, in-Changed}

pub returns-clause-named : goal.returns-clause-named
returns-clause-named c =
    let tables : List Table = c.args.schema.now in
    let count : length (sizes_of tables) ≡ length tables = simp length-map in
    let sizes : length c.args.layout.now ≡ length (sizes_of tables) = ap (λ (x : List ℕ). length x) c.requires.layout in
    let there : c.place-t.result.0 < length tables = omega (arith, count, sizes, c.place-t.ensures.is.table) in
    let named : c.in_ok-table.table ≡ name_of tables c.place-t.result.0 = c.in_ok-table.ensures ∙ c.as_bytes.ensures.value ∙ c.name.ensures in
    let word : IsWord c.in_ok-table.table = subst IsWord (sym named) (name_of_word tables c.place-t.result.0 c.requires.schema.each there) in
    elim c.match-refusal.branch [ in-Locked w ↦ subst IsRefused (sym w.result-is) word | in-Changed w ↦ subst IsRefused (sym w.result-is) word ]
