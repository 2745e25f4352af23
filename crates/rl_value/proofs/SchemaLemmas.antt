-- Tables that are kept as entries under their names.
use Rattle.std.proofs.Common.{◌≢◌, ◌<◌, ◌≤◌, length, slice_get, subst, inl, inr, arith, length-append, All, ◌≡◌, ℕ, ◌+◌, List, [], ◌∷◌, ◌++◌, map, Bool, true, false, cond, position, Some, None, String, Global, zero, suc, refl, ap, sym, ◌∙◌}
use Rattle.std.specs.List.{position_from}
use Rattle.std.specs.Map.{lookup}
use Rattle.std.specs.HashMap.{HashMap}
use Rattle.std.specs.Str.{bytes_eq}
use Rattle.std.specs.String.{string_bytes, string_eq}
use Rattle.std.proofs.lemmas.Iterator.Adapters.{position_from-zero}
use Rattle.std.proofs.lemmas.List.{map-append}
use Rattle.std.proofs.lemmas.List.Elements.{All-push}
use Rattle.std.proofs.lemmas.List.Sums.{sum_by_push}
use Rattle.std.proofs.lemmas.Option.{slice_get-map, slice_get_cases}
use Rattle.std.specs.Option.{option_map, option_map_or}
use Rattle.indexmap.specs.IndexMap.{insert_entry}
use Rattle.indexmap.proofs.CallerLemmas.{insert_entry-new}
use Rattle.rl_base.proofs.ListsLemmas.{get_before, get_last}
use Rattle.rl_value.specs.declared.schema.Shape.{Shape}
use Rattle.std.proofs.lemmas.Bool.{cases_lt}
use Rattle.std.proofs.lemmas.Bool.Decides.{nat_tests}
use Rattle.rl_value.specs.Declare.{refusal}
use Rattle.rl_value.specs.Tables.{Table, IsTable, IsSchema, HaveNamesOfTheirOwn, name_of, table_named, record_count}
use Rattle.rl_value.specs.Entries.{table_of, tables_of}

abbrev pub Entry : Type 0
Entry = String Global × Shape

entry_position : (p : List ℕ → Bool) (i : ℕ) (es : List Entry) → position_from (λ (k : String Global). p (string_bytes k)) i (map (λ e. e.0) es) ≡ position_from (λ (t : Table). p t.name) i (map table_of es)
entry_position p i [] = refl
entry_position p i (e ∷ es) = ap (cond (p (string_bytes e.0)) (Some i)) (entry_position p (i + 1) es)

pub find_table : (name : List ℕ) (es : List Entry) → position (λ (k : String Global). bytes_eq name (string_bytes k)) (map (λ e. e.0) es) ≡ table_named name (map table_of es)
find_table name es = position_from-zero (λ (k : String Global). bytes_eq name (string_bytes k)) (map (λ e. e.0) es) ∙ entry_position (bytes_eq name) 0 es

absent : (k : String Global) (i : ℕ) (es : List Entry) → position_from (λ t. bytes_eq (string_bytes k) t.name) i (map table_of es) ≡ None → lookup (string_eq k) es ≡ None
absent k i [] h = refl
absent k i (e ∷ es) h =
    elim (bytes_eq (string_bytes k) (string_bytes e.0)) as (λ b. cond b (Some i) (position_from (λ t. bytes_eq (string_bytes k) t.name) (i + 1) (map table_of es)) ≡ None → cond b (Some e.1) (lookup (string_eq k) es) ≡ None) [
      | true ↦ λ h. cc
      | false ↦ λ h. absent k (i + 1) es h
    ] h

pub add_table : {S : Type 0} (m : HashMap (String Global) Shape S) (k : String Global) (shape : Shape) → table_named (string_bytes k) (map table_of m.entries) ≡ None → map table_of (insert_entry string_eq m.entries k shape) ≡ map table_of m.entries ++ table_of (k, shape) ∷ []
add_table m k shape h = ap (map table_of) (insert_entry-new string_eq m k shape (absent k 0 m.entries h)) ∙ map-append table_of m.entries ((k, shape) ∷ [])

-- each table of a list has what all of them have
pub table_at : (entries : List Entry) (t : ℕ) (e : Entry) → slice_get entries t ≡ Some e → All IsTable (tables_of entries) → IsTable (table_of e)
table_at entries t e at all =
    let there : slice_get (tables_of entries) t ≡ Some (table_of e) = slice_get-map table_of entries t ∙ ap (option_map table_of) at in
    elim (slice_get_cases (tables_of entries) t).1 [
      | inl (table, within, is, same) ↦
          let table_is : table ≡ table_of e = cc in
          subst IsTable (same ∙ table_is) (all t table within)
      | inr (past, none) ↦ cc
    ]

-- the place at which a list has something, in a longer list
pub found_earlier : (p : Table → Bool) (i k : ℕ) (tables more : List Table) → position_from p i tables ≡ Some k → (position_from p i (tables ++ more) ≡ Some k) × (k < i + length tables)
found_earlier p i k [] more h = absurd (let e : None ≡ Some k = h in cc)
found_earlier p i k (t ∷ tables) more h = go (p t) h (λ later. found_earlier p (i + 1) k tables more later)
  where
    go : (b : Bool) → cond b (Some i) (position_from p (i + 1) tables) ≡ Some k → (position_from p (i + 1) tables ≡ Some k → (position_from p (i + 1) (tables ++ more) ≡ Some k) × (k < i + 1 + length tables)) → (cond b (Some i) (position_from p (i + 1) (tables ++ more)) ≡ Some k) × (k < i + suc (length tables))
    go true here later = (here, let same : i ≡ k = cc in omega arith)
    go false here later = ((later here).0, omega (arith, (later here).1))

-- one more table is found where its name is new
found_last : (p : Table → Bool) (i : ℕ) (tables : List Table) (x : Table) → position_from p i tables ≡ None → p x ≡ true → position_from p i (tables ++ x ∷ []) ≡ Some (i + length tables)
found_last p i [] x h is = ap (λ b. cond b (Some i) None) is ∙ ap Some (omega arith)
found_last p i (t ∷ tables) x h is =
    elim (p t) as (λ b. cond b (Some i) (position_from p (i + 1) tables) ≡ None → cond b (Some i) (position_from p (i + 1) (tables ++ x ∷ [])) ≡ Some (i + suc (length tables))) [
      | true ↦ λ h. cc
      | false ↦ λ h. found_last p (i + 1) tables x h is ∙ ap Some (omega arith)
    ] h

same_bytes : (name : List ℕ) → bytes_eq name name ≡ true
same_bytes [] = refl
same_bytes (b ∷ name) = grind (arith, nat_tests, same_bytes name)

names_push : (tables : List Table) (x : Table) → HaveNamesOfTheirOwn tables → table_named x.name tables ≡ None → HaveNamesOfTheirOwn (tables ++ x ∷ [])
names_push tables x own new t within = elim (cases_lt t (length tables)) [
  | inl before ↦
      let name : name_of (tables ++ x ∷ []) t ≡ name_of tables t = ap (λ o. option_map_or (λ table. table.name) o []) (get_before tables x t before) in
      rw name (found_earlier (λ t'. bytes_eq (name_of tables t) t'.name) 0 t tables (x ∷ []) (own t before)).0
  | inr not_before ↦
      let last : t ≡ length tables = omega (arith, length-append tables (x ∷ [])) in
      let name : name_of (tables ++ x ∷ []) t ≡ x.name = ap (λ n. name_of (tables ++ x ∷ []) n) last ∙ ap (λ o. option_map_or (λ table. table.name) o []) (get_last tables x []) in
      rw (name, last) (found_last (λ t'. bytes_eq x.name t'.name) 0 tables x new (same_bytes x.name) ∙ ap Some (omega arith))
]

-- one more table within the limits
pub schema_push : (tables : List Table) (t : Table) → IsSchema tables → IsTable t → table_named t.name tables ≡ None → length tables < 16 → record_count tables + t.size ≤ 65536 → IsSchema (tables ++ t ∷ [])
schema_push tables t ok one new few fits = record {
  names = names_push tables t ok.names new;
  few = omega (arith, length-append tables (t ∷ []));
  records = omega (arith, sum_by_push (λ t. t.size) tables t);
  each = All-push IsTable tables t ok.each one;
}

-- where nothing keeps a table from being declared
pub record Fits (name : List ℕ) (size : ℕ) (tables : List Table) : Type 0 where
  pub new : table_named name tables ≡ None
  pub few : length tables ≢ 16
  pub records : record_count tables + size ≤ 65536

pub fits : (name : List ℕ) (size : ℕ) (tables : List Table) → refusal name size tables ≡ None → Fits name size tables
fits name size tables h = record {
  new = grind (arith, nat_tests);
  few = grind (arith, nat_tests);
  records = grind (arith, nat_tests);
}

-- the tables after one more entry
pub tables_push : {S : Type 0} (m : HashMap (String Global) Shape S) (k : String Global) (name : List ℕ) (size columns : ℕ) → string_bytes k ≡ name → refusal name size (tables_of m.entries) ≡ None
    → tables_of (insert_entry string_eq m.entries k (record { size = size; columns = columns })) ≡ tables_of m.entries ++ record { name = name; size = size; columns = columns } ∷ []
tables_push m k name size columns named free =
    let shape : Shape = record { size = size; columns = columns } in
    add_table m k shape (subst (λ (n : List ℕ). table_named n (tables_of m.entries) ≡ None) (sym named) (fits name size (tables_of m.entries) free).new)
    ∙ ap (λ (n : List ℕ). tables_of m.entries ++ record { name = n; size = size; columns = columns } ∷ []) named

-- they keep the limits
pub declared_tables : {S : Type 0} (m : HashMap (String Global) Shape S) (k : String Global) (name : List ℕ) (size columns records : ℕ) (new : List Entry) → string_bytes k ≡ name
    → IsSchema (tables_of m.entries) × (records ≡ record_count (tables_of m.entries)) → refusal name size (tables_of m.entries) ≡ None → IsTable (record { name = name; size = size; columns = columns })
    → new ≡ insert_entry string_eq m.entries k (record { size = size; columns = columns }) → IsSchema (tables_of new) × (records + size ≡ record_count (tables_of new))
declared_tables m k name size columns records new named ok free table is =
    let tables = tables_of m.entries in
    let t : Table = record { name = name; size = size; columns = columns } in
    let room = fits name size tables free in
    let few : length tables < 16 = omega (arith, ok.0.few, room.few) in
    let more : tables_of new ≡ tables ++ t ∷ [] = ap tables_of is ∙ tables_push m k name size columns named free in
    let count : record_count (tables ++ t ∷ []) ≡ record_count tables + size = sum_by_push (λ t. t.size) tables t in
    (subst IsSchema (sym more) (schema_push tables t ok.0 table room.new few room.records), ap (λ n. n + size) ok.1 ∙ sym count ∙ sym (ap record_count more))
