-- The lines of the tables are read as the tables again.
use Rattle.std.proofs.Common.{◌≡◌, ℕ, ◌+◌, ◌<◌, ◌≤◌, true, List, [], ◌∷◌, ◌++◌, length, map, get_or, Option, None, Some, Result, Ok, Err, codes, refl, ap, sym, subst, ◌∙◌, arith, append-nil, length-append, if◌then◌else◌}
use Rattle.std.specs.Fmt.{decimal}
use Rattle.std.specs.Option.{option_map_or}
use Rattle.std.specs.Str.{bytes_eq}
use Rattle.std.proofs.lemmas.Bool.Decides.{nat_tests}
use Rattle.std.proofs.lemmas.List.{append_assoc}
use Rattle.std.proofs.lemmas.List.Sums.{sum_by-cons, sum_by-append}
use Rattle.rl_base.specs.Results.{◌>>=◌}
use Rattle.rl_base.proofs.ListsLemmas.{get_last}
use Rattle.rl_value.specs.Declare.{refusal}
use Rattle.rl_value.specs.Tables.{Table, IsTable, IsSchema, name_of, table_named, record_count}
use Rattle.rl_value.proofs.SchemaLemmas.{found_earlier}
use Rattle.rl_events.specs.Words.{within}
use Rattle.rl_events.specs.declared.kind.Kind.TheVariants.{Name}
use Rattle.rl_events.proofs.ReadBack.{within_back}
use Rattle.rl_script.specs.declared.draft.Draft.{Draft}
use Rattle.rl_script.specs.declared.draft.Section.{Section}
use Rattle.rl_script.specs.declared.draft.Section.TheVariants as section
use Rattle.rl_script.specs.declared.line.LineKind.TheVariants as line
use Rattle.rl_events.specs.declared.kind.Kind.{Kind}
use Rattle.rl_script.specs.Problems.{as_problem}
use Rattle.rl_script.specs.Sections.{is_before_requests}
use Rattle.rl_script.specs.Printed.{table_line}
use Rattle.rl_script.specs.Read.{read_kind, read_table, with_table}
use Rattle.rl_script.proofs.LinesBack.{reads, kind_line, no_lines, one_line}

-- a table whose name is its own is none of those before it
new_name : (front : List Table) (x : Table) (more : List Table) → IsSchema (front ++ x ∷ more) → table_named x.name front ≡ None
new_name front x more all = go (table_named x.name front) refl
  where
    name_is : name_of (front ++ x ∷ more) (length front) ≡ x.name
    name_is = ap (λ o. option_map_or (λ table. table.name) o []) (get_last front x more)

    own : table_named x.name (front ++ x ∷ more) ≡ Some (length front)
    own = subst (λ (name : List ℕ). table_named name (front ++ x ∷ more) ≡ Some (length front)) name_is (all.names (length front) (omega (arith, length-append front (x ∷ more))))

    go : (o : Option ℕ) → table_named x.name front ≡ o → o ≡ None
    go None h = refl
    go (Some k) h =
        let there = found_earlier (λ t. bytes_eq x.name t.name) 0 k front (x ∷ more) h in
        let same : k ≡ length front = let e : Some k ≡ Some (length front) = sym there.0 ∙ own in cc in
        absurd (omega (arith, there.1))

-- nothing keeps a new table from being declared where there is room
none_refused : (name : List ℕ) (size : ℕ) (tables : List Table) → table_named name tables ≡ None → length tables < 16 → record_count tables + size ≤ 65536 → refusal name size tables ≡ None
none_refused name size tables new few fits = grind (arith, nat_tests)

-- the draft with one more table
abbrev declared_with : Draft → Table → Draft
declared_with draft table = record draft { section = section.Tables; schema = draft.schema ++ table ∷ [] }

joined_back : (draft : Draft) (table : Table) → table_named table.name draft.schema ≡ None → length draft.schema < 16 → record_count draft.schema + table.size ≤ 65536 → with_table draft table ≡ Ok (declared_with draft table)
joined_back draft table new few fits = rw (none_refused table.name table.size draft.schema new few fits, with_table) refl

line_back : (table : Table) → IsTable table → read_table table.name (decimal table.size) (decimal table.columns) ≡ Ok table
unfolding read_table
line_back table ok =
    ap (λ b. (if b then Ok table.name else Err Name) >>= λ name. within 1 65536 (decimal table.size) >>= λ size. within 1 4 (decimal table.columns) >>= λ columns. made name size columns) ok.named
    ∙ ap (λ r. r >>= λ size. within 1 4 (decimal table.columns) >>= λ columns. made table.name size columns) (within_back 1 65536 table.size ok.some_keys ok.few_keys (omega (arith, ok.few_keys)))
    ∙ ap (λ r. r >>= λ columns. made table.name table.size columns) (within_back 1 4 table.columns ok.some_columns ok.few_columns (omega (arith, ok.few_columns)))
  where
    made : List ℕ → ℕ → ℕ → Result Table Kind
    made name size columns = Ok (record { name = name; size = size; columns = columns })

declared_back : (draft : Draft) (table : Table) → IsTable table → table_named table.name draft.schema ≡ None → length draft.schema < 16 → record_count draft.schema + table.size ≤ 65536
    → read_kind draft line.Table (table.name ∷ decimal table.size ∷ decimal table.columns ∷ []) ≡ Ok (declared_with draft table)
declared_back draft table ok new few fits = ap (λ r. as_problem r >>= with_table draft) (line_back table ok) ∙ joined_back draft table new few fits

-- what the lines of some tables are read as
pub record TablesRead (draft : Draft) (tables : List Table) : Type 0 where
  pub at : Section
  pub early : is_before_requests at ≡ true
  pub kept : draft.section ≡ section.Tables → at ≡ section.Tables
  pub there : 0 < length tables → at ≡ section.Tables
  pub is : reads draft (map table_line tables) ≡ Ok (record draft { section = at; schema = draft.schema ++ tables })

pub tables_back : (draft : Draft) (tables all : List Table) → is_before_requests draft.section ≡ true → draft.schema ++ tables ≡ all → IsSchema all → TablesRead draft tables
tables_back draft [] all early whole ok = record {
  at = draft.section;
  early = early;
  kept = λ same. same;
  there = λ some. absurd (omega arith);
  is = no_lines draft ∙ ap (λ schema. Ok (record draft { schema = schema })) (sym (append-nil draft.schema));
}
tables_back draft (x ∷ tables) all early whole ok =
    let parts : IsSchema (draft.schema ++ x ∷ tables) = subst IsSchema (sym whole) ok in
    let one : IsTable x = subst IsTable (element draft.schema x tables) (parts.each (length draft.schema) x (omega (arith, length-append draft.schema (x ∷ tables)))) in
    let few : length draft.schema < 16 = omega (arith, parts.few, length-append draft.schema (x ∷ tables)) in
    let fits : record_count draft.schema + x.size ≤ 65536 = omega (arith, parts.records, sum_by-append (λ (t : Table). t.size) draft.schema (x ∷ tables), sum_by-cons (λ (t : Table). t.size) x tables) in
    let next : Draft = declared_with draft x in
    let rest = tables_back next tables all refl (append_assoc draft.schema (x ∷ []) tables ∙ whole) ok in
    record {
      at = rest.at;
      early = rest.early;
      kept = λ same. rest.kept refl;
      there = λ some. rest.kept refl;
      is =
          one_line draft next (table_line x) (map table_line tables) (kind_line draft (codes "table") (x.name ∷ decimal x.size ∷ decimal x.columns ∷ []) line.Table refl refl early ∙ declared_back draft x one (new_name draft.schema x tables parts) few fits)
          ∙ rest.is ∙ ap (λ schema. Ok (record draft { section = rest.at; schema = schema })) (append_assoc draft.schema (x ∷ []) tables);
    }
  where
    element : (front : List Table) (x : Table) (more : List Table) → get_or (front ++ x ∷ more) (length front) x ≡ x
    element [] x more = refl
    element (y ∷ front) x more = element front x more
