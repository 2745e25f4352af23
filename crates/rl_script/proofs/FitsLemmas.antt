-- What the lines so far keep, over one more line.
use Rattle.std.proofs.Common.{◌≡◌, ℕ, ◌+◌, ◌-◌, ◌<◌, ◌≤◌, ◌==◌, ◌&&◌, cond, List, [], ◌∷◌, ◌++◌, length, All, sum_by, slice_get, Bool, true, false, Option, Some, None, IfSome, Result, Ok, Err, zero, suc, refl, ap, sym, ◌∙◌, subst, arith, length-append}
use Rattle.std.specs.Option.{option_map_or}
use Rattle.std.specs.Ordering.{eq_by_cmp}
use Rattle.std.specs.FinMap as finite
use Rattle.std.proofs.lemmas.Bool.{and_parts}
use Rattle.std.proofs.lemmas.Bool.Decides.{nat_tests}
use Rattle.std.proofs.lemmas.List.Elements.{All-head, All-tail, All-cons, All-push}
use Rattle.std.proofs.lemmas.Option.{get_or_from_slice_get, slice_get_within}
use Rattle.std.proofs.lemmas.List.Sums.{sum_by-cons, sum_by-append}
use Rattle.rl_base.specs.Lists.{with_last}
use Rattle.rl_base.proofs.ListsLemmas.{get_before}
use Rattle.rl_value.specs.Declare.{refusal}
use Rattle.rl_value.specs.declared.schema.DeclareError.{DeclareError}
use Rattle.rl_value.specs.Fits.{RowsFit}
use Rattle.rl_value.specs.Rows.{Rows, place_cmp}
use Rattle.rl_value.specs.Tables.{Table, IsTable, IsSchema, size_of, columns_of}
use Rattle.rl_value.proofs.PlacesLemmas.{places_total}
use Rattle.rl_value.proofs.SchemaLemmas.{fits, schema_push}
use Rattle.rl_txn.specs.Fits.{TxnFits}
use Rattle.rl_txn.specs.declared.op.Op.{Op}
use Rattle.rl_text.specs.Numbers.{IsWithin, IsNumber}
use Rattle.rl_events.specs.Fits.{EventFits}
use Rattle.rl_events.specs.declared.event.Event.{Event}
use Rattle.rl_script.specs.declared.draft.Draft.{Draft}
use Rattle.rl_script.specs.declared.draft.OpenTxn.{OpenTxn}
use Rattle.rl_script.specs.declared.draft.Section.{Section}
use Rattle.rl_script.specs.declared.draft.Section.TheVariants as section
use Rattle.rl_script.specs.Drafts.{DraftFits}
use Rattle.rl_script.specs.Fits.{ColumnsFit}
use Rattle.rl_script.specs.Sections.{is_before_requests, is_events}
use Rattle.rl_script.specs.Read.{opening_draft}

-- one more event counts as many as it is
pub one_more_event : (f : Event → ℕ) (events : List Event) (event : Event) → sum_by f (events ++ event ∷ []) ≡ sum_by f events + f event
one_more_event f events event = omega (arith, sum_by-append f events (event ∷ []), sum_by-cons f event [])

length-with_last : {X : Type 0} → (lists : List (List X)) (i : ℕ) (x : X) → length (with_last lists i x) ≡ length lists
length-with_last [] i x = refl
length-with_last (list ∷ lists) zero x = refl
length-with_last (list ∷ lists) (suc i) x = ap suc (length-with_last lists i x)

pub sum-with_last : {X : Type 0} → (lists : List (List X)) (i : ℕ) (x : X) → i < length lists → sum_by (λ l. length l) (with_last lists i x) ≡ sum_by (λ l. length l) lists + 1
sum-with_last [] i x within = absurd (omega arith)
sum-with_last (list ∷ lists) zero x within = omega (arith, sum_by-cons (λ l. length l) (list ++ x ∷ []) lists, sum_by-cons (λ l. length l) list lists, length-append list (x ∷ []))
sum-with_last (list ∷ lists) (suc i) x within = omega (arith, sum_by-cons (λ l. length l) list (with_last lists i x), sum_by-cons (λ l. length l) list lists, sum-with_last lists i x (omega arith))

All-with_last : {X : Type 0} (P : X → Type 0) → (lists : List (List X)) (i : ℕ) (x : X) → All (All P) lists → P x → All (All P) (with_last lists i x)
All-with_last P [] i x all here = all
All-with_last P (list ∷ lists) zero x all here = All-cons (All P) (list ++ x ∷ []) lists (All-push P list x (All-head (All P) list lists all) here) (All-tail (All P) list lists all)
All-with_last P (list ∷ lists) (suc i) x all here = All-cons (All P) list (with_last lists i x) (All-head (All P) list lists all) (All-with_last P lists i x (All-tail (All P) list lists all) here)

-- the first sections
pub before_events : (s : Section) → is_before_requests s ≡ true → is_events s ≡ false
before_events section.Settings h = refl
before_events section.Tables h = refl
before_events section.Transactions h = refl
before_events section.Events h = absurd (let e : false ≡ true = h in cc)

-- before all requests each list is empty
all_empty : {X : Type 0} (P : X → Type 0) → (lists : List (List X)) → sum_by (λ l. length l) lists ≡ 0 → All (All P) lists
all_empty P [] h = λ k d within. absurd (omega arith)
all_empty P ([] ∷ lists) h = All-cons (All P) [] lists (λ k d within. absurd (omega arith)) (all_empty P lists (omega (arith, sum_by-cons (λ l. length l) [] lists)))
all_empty P ((x ∷ list) ∷ lists) h = absurd (omega (arith, sum_by-cons (λ l. length l) (x ∷ list) lists))

-- what holds of a transaction that is open holds where none is
if_none : (P : OpenTxn → Type 0) → (current : Option OpenTxn) → current ≡ None → IfSome current P
if_none P current is = subst (λ (o : Option OpenTxn). IfSome o P) (sym is) tt

no_element : {X : Type 0} (P : X → Type 0) → All P []
no_element P = λ k d within. absurd (omega arith)

rows_with_table : (tables : List Table) (x : Table) (rows : Rows) → RowsFit tables rows → RowsFit (tables ++ x ∷ []) rows
rows_with_table tables x rows f t k row at =
    let old = f t k row at in
    let same : slice_get (tables ++ x ∷ []) t ≡ slice_get tables t = get_before tables x t old.0 in (
      omega (arith, length-append tables (x ∷ []), old.0),
      subst (λ n. k < n) (sym (ap (λ o. option_map_or (λ table. table.size) o 0) same)) old.1,
      old.2 ∙ sym (ap (λ o. option_map_or (λ table. table.columns) o 0) same),
    )

-- nothing keeps a table from being declared that was declared
pub free : (o : Option DeclareError) (r : Result ℕ DeclareError) (t : ℕ) → IfSome o (λ e. r ≡ Err e) → r ≡ Ok t → o ≡ None
free None r t refused is = refl
free (Some e) r t refused is = absurd (let same : Ok t ≡ Err e = sym is ∙ refused in cc)

-- a table
pub fits_with_table : (draft : Draft) (x : Table) (tables : List Table) → DraftFits draft → is_before_requests draft.section ≡ true → IsTable x → refusal x.name x.size draft.schema ≡ None → tables ≡ draft.schema ++ x ∷ [] → DraftFits (record draft { section = section.Tables; schema = tables })
fits_with_table draft x tables f early one declared is =
    let none = f.tables_first early in
    let open_none : draft.current ≡ None = none.1 in
    let no_ops : sum_by (λ l. length l) draft.lists ≡ 0 = none.0 in
    let room = fits x.name x.size draft.schema declared in
    record {
      tables = rw is (schema_push draft.schema x f.tables one room.new (omega (arith, f.tables.few, room.few)) room.records);
      settings = f.settings;
      rows = rw is (rows_with_table draft.schema x draft.rows f.rows);
      columns = f.columns;
      requests = record {
        each = all_empty (TxnFits tables) draft.lists no_ops;
        one_list_each = f.requests.one_list_each;
        few = f.requests.few;
        open_fits = if_none _ draft.current open_none;
      };
      tables_first = λ h. none;
      events = f.events;
      events_last = λ h. f.events_last (before_events draft.section early);
    }

pub at_place : (a b c d : ℕ) → eq_by_cmp place_cmp (a, b) (c, d) ≡ ((a == c) && (b == d))
at_place a b c d = grind (arith, nat_tests)

pub is_same : (a b : ℕ) → (a == b) ≡ true → a ≡ b
is_same a b h = grind (arith, nat_tests)

rows_with_row : (tables : List Table) (rows : Rows) (t k : ℕ) (cells : List ℕ) → RowsFit tables rows → t < length tables → k < size_of tables t → length cells ≡ columns_of tables t → RowsFit tables (finite.insert rows (t, k) cells)
rows_with_row tables rows t k cells f there within all q j row at =
    go (eq_by_cmp place_cmp (q, j) (t, k)) refl (sym (finite.get-insert places_total rows (t, k) cells (q, j)) ∙ at)
  where
    go : (b : Bool) → eq_by_cmp place_cmp (q, j) (t, k) ≡ b → cond b (Some cells) (finite.get rows (q, j)) ≡ Some row → (q < length tables) × (j < size_of tables q) × (length row ≡ columns_of tables q)
    go false here is = f q j row is
    go true here is =
        let parts = and_parts (q == t) (j == k) (sym (at_place q j t k) ∙ here) in
        let same_t : q ≡ t = is_same q t parts.0 in
        let same_k : j ≡ k = is_same j k parts.1 in
        let same_row : row ≡ cells = cc in
        (rw same_t there, rw (same_t, same_k) within, rw (same_t, same_row) all)

columns_with_row : (rows : Rows) (t k : ℕ) (cells : List ℕ) → ColumnsFit rows → All IsNumber cells → ColumnsFit (finite.insert rows (t, k) cells)
columns_with_row rows t k cells f numbers q j row at =
    go (eq_by_cmp place_cmp (q, j) (t, k)) (sym (finite.get-insert places_total rows (t, k) cells (q, j)) ∙ at)
  where
    go : (b : Bool) → cond b (Some cells) (finite.get rows (q, j)) ≡ Some row → All IsNumber row
    go false is = f q j row is
    go true is = let same : cells ≡ row = cc in subst (All IsNumber) same numbers

-- a row
pub fits_with_row : (draft : Draft) (t k : ℕ) (cells : List ℕ) (rows : Rows) → DraftFits draft → is_before_requests draft.section ≡ true → t < length draft.schema → k < size_of draft.schema t → length cells ≡ columns_of draft.schema t → All IsNumber cells → rows ≡ finite.insert draft.rows (t, k) cells → DraftFits (record draft { section = section.Tables; rows = rows })
fits_with_row draft t k cells rows f early there within all numbers is = record {
  tables = f.tables;
  settings = f.settings;
  rows = rw is (rows_with_row draft.schema draft.rows t k cells f.rows there within all);
  columns = rw is (columns_with_row draft.rows t k cells f.columns numbers);
  requests = f.requests;
  tables_first = λ h. f.tables_first early;
  events = f.events;
  events_last = λ h. f.events_last (before_events draft.section early);
}

-- the open transaction becomes a request
pub fits_ended : (draft : Draft) (current : OpenTxn) (lists : List (List (List Op))) → draft.current ≡ Some current → lists ≡ with_last draft.lists (current.worker - 1) current.txn → DraftFits draft → DraftFits (record draft { lists = lists; current = None })
fits_ended draft current lists is more f =
    let now = rw is at f.requests.open_fits in
    let within : current.worker - 1 < length draft.lists = omega (arith, now.1.0, now.1.1) in
    let room : sum_by (λ l. length l) draft.lists + 1 ≤ 8192 = rw is at f.requests.few in
    record {
      tables = f.tables;
      settings = f.settings;
      rows = f.rows;
      columns = f.columns;
      requests = record {
        each = rw more (All-with_last (TxnFits draft.schema) draft.lists (current.worker - 1) current.txn f.requests.each now.0);
        one_list_each = ap length more ∙ length-with_last draft.lists (current.worker - 1) current.txn ∙ f.requests.one_list_each;
        few = let sums : sum_by (λ l. length l) lists ≡ sum_by (λ l. length l) draft.lists + 1 = ap (sum_by (λ l. length l)) more ∙ sum-with_last draft.lists (current.worker - 1) current.txn within in omega arith;
        open_fits = tt;
      };
      tables_first = λ early. absurd (let none : Some current ≡ None = sym is ∙ (f.tables_first early).1 in cc);
      events = f.events;
      events_last = f.events_last;
    }

-- before all lines
pub fits_opening : (draft : Draft) → draft ≡ opening_draft → DraftFits draft
fits_opening draft is = subst DraftFits (sym is) (record {
  tables = record { names = λ t within. absurd (omega arith); few = omega arith; records = omega arith; each = no_element IsTable };
  settings = record { nodes = (omega arith, omega arith); workers = (omega arith, omega arith); batch = (omega arith, omega arith); loss = omega arith; seed = omega arith; stops = no_element (IsWithin 1 1000000); few_stops = omega arith };
  rows = λ t k row at. absurd (let e : None ≡ Some row = sym (finite.get-empty place_cmp (t, k)) ∙ at in cc);
  columns = λ t k row at. absurd (let e : None ≡ Some row = sym (finite.get-empty place_cmp (t, k)) ∙ at in cc);
  requests = record { each = All-cons (All (TxnFits [])) [] [] (no_element (TxnFits [])) (no_element (All (TxnFits []))); one_list_each = refl; few = omega arith; open_fits = tt };
  tables_first = λ h. (refl, refl);
  events = record { each = no_element (EventFits 1 1); counted = omega arith; elections = omega arith };
  events_last = λ h. refl;
})

-- no table has more keys than one may have
pub few_keys : (tables : List Table) → IsSchema tables → (t : ℕ) → size_of tables t ≤ 65536
few_keys tables ok t = go (slice_get tables t) refl
  where
    go : (o : Option Table) → slice_get tables t ≡ o → option_map_or (λ (table : Table). table.size) o 0 ≤ 65536
    go None is = omega arith
    go (Some table) is = (subst IsTable (get_or_from_slice_get tables t table table is) (ok.each t table (slice_get_within tables t table is))).few_keys
