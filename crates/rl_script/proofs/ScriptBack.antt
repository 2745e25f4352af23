-- The printed form of a script is read as the script again.
use Rattle.std.proofs.Common.{◌≡◌, ℕ, ◌+◌, ◌<◌, ◌≤◌, ◌⊎◌, inl, inr, true, false, List, [], ◌∷◌, ◌++◌, All, length, map, replicate, sum_by, Option, None, Some, Ok, codes, not, ◌&&◌, is_some, zero, suc, refl, ap, sym, subst, ◌∙◌, arith}
use Rattle.std.specs.FinMap as finite
use Rattle.std.specs.List.{flat_map, range_with_len}
use Rattle.std.proofs.lemmas.Bool.{cases_lt}
use Rattle.std.proofs.lemmas.List.{length-replicate}
use Rattle.std.proofs.lemmas.List.Elements.{All-tail}
use Rattle.std.proofs.lemmas.List.Sums.{sum_by-cons}
use Rattle.rl_base.specs.Results.{◌>>=◌}
use Rattle.rl_value.specs.Fits.{RowsFit}
use Rattle.rl_value.specs.Rows.{Rows, place_cmp}
use Rattle.rl_value.specs.Tables.{Table, IsSchema}
use Rattle.rl_value.proofs.PlacesLemmas.{places_total}
use Rattle.rl_txn.specs.declared.op.Op.{Op}
use Rattle.rl_txn.proofs.RowSets.{same_place}
use Rattle.rl_text.specs.Printed.{Line}
use Rattle.rl_text.proofs.WordsBack.{IsWord, lines_of_text}
use Rattle.rl_events.specs.Fits.{EventFits, count_of, elections_of}
use Rattle.rl_events.specs.Printed.{event_words}
use Rattle.rl_events.specs.declared.event.Event.{Event}
use Rattle.rl_script.specs.declared.draft.Draft.{Draft}
use Rattle.rl_script.specs.declared.draft.Section.{Section}
use Rattle.rl_script.specs.declared.draft.Section.TheVariants as section
use Rattle.rl_script.specs.declared.line.LineKind.TheVariants as line
use Rattle.rl_script.specs.declared.script.Script.{Script}
use Rattle.rl_script.specs.declared.settings.Settings.{Settings}
use Rattle.rl_script.specs.Fits.{ScriptFits}
use Rattle.rl_script.specs.Sections.{is_events}
use Rattle.rl_script.specs.Printed.{event_lines, header_line, list_lines, printed, rows_of_table, script_lines, setting_lines, table_line}
use Rattle.rl_script.specs.Read.{in_order, opening_draft, read, read_text, script_of, with_settings}
use Rattle.rl_script.specs.Settings.{nodes_of, workers_of}
use Rattle.rl_script.proofs.EventsBack.{events_back}
use Rattle.rl_script.proofs.FitsLemmas.{before_events, few_keys}
use Rattle.rl_script.proofs.LinesBack.{reads, kind_line, lines_back, more_lines, no_lines, one_line}
use Rattle.rl_script.proofs.RowsBack.{RowsFor, Upto, every_table}
use Rattle.rl_script.proofs.SettingsBack.{all_settings, settings_back}
use Rattle.rl_script.proofs.TablesBack.{tables_back}
use Rattle.rl_script.proofs.TxnsBack.{TxnsFor, lists_back}
use Rattle.rl_script.proofs.WordsBack.{lines_are_words}

-- the draft that has all of a script, in some section
abbrev whole : Script → Section → Draft
whole script at = record {
  section = at;
  settings = all_settings script;
  schema = script.schema;
  rows = script.rows;
  lists = script.lists;
  current = None;
  events = script.events;
}

-- the rows

all_rows : (tables : List Table) (now rows : Rows) (t : ℕ) → t ≡ length tables → RowsFit tables rows → Upto now rows t 0 → now ≡ rows
all_rows tables now rows t all fit upto = finite.same_map places_total same_place now rows (λ q. at q.0 q.1)
  where
    no_row : (a b : ℕ) → length tables ≤ a → (o : Option (List ℕ)) → finite.get rows (a, b) ≡ o → o ≡ None
    no_row a b past None is = refl
    no_row a b past (Some row) is = absurd (omega (arith, (fit a b row is).0))

    at : (a b : ℕ) → finite.get now (a, b) ≡ finite.get rows (a, b)
    at a b = elim (cases_lt a t) [
      | inl less ↦ upto.before a b (inl less)
      | inr not_less ↦ upto.behind a b (past a not_less) ∙ sym (no_row a b (omega arith) (finite.get rows (a, b)) refl)
    ]
      where
        past : (a : ℕ) → t ≤ a → (t < a) ⊎ ((a ≡ t) × (0 ≤ b))
        past a h = elim (cases_lt t a) [
          | inl more ↦ inl more
          | inr not_more ↦ inr (omega arith, omega arith)
        ]

no_rows_yet : (rows : Rows) → Upto finite.empty rows 0 0
no_rows_yet rows = record {
  before = λ q j h. absurd (none q j h);
  behind = λ q j h. finite.get-empty place_cmp (q, j);
}
  where
    none : (q j : ℕ) → (q < 0) ⊎ ((q ≡ 0) × (j < 0)) → ⊥
    none q j (inl h) = omega arith
    none q j (inr h) = omega (arith, h.1)

rows_back : (script : Script) (draft : Draft) → ScriptFits script → IsSchema script.schema → draft.schema ≡ script.schema → draft.rows ≡ finite.empty → (0 < length script.schema → draft.section ≡ section.Tables)
    → reads draft (flat_map (rows_of_table script.schema script.rows) (range_with_len 0 (length script.schema))) ≡ Ok (record draft { rows = script.rows })
rows_back script draft fits ok same none there = elim (cases_lt 0 (length script.schema)) [
  | inl some ↦
      let for_it : RowsFor script.schema script.rows draft = record { schema = ok; fit = fits.rows; columns = fits.columns; same = same; there = there some } in
      let read = every_table script.schema script.rows draft 0 (length script.schema) for_it (few_keys script.schema ok) (subst (λ (now : Rows). Upto now script.rows 0 0) (sym none) (no_rows_yet script.rows)) in
      read.is ∙ ap (λ rows. Ok (record draft { rows = rows })) (all_rows script.schema read.next script.rows (0 + length script.schema) (omega arith) fits.rows read.upto)
  | inr not_some ↦
      let count : length script.schema ≡ 0 = omega arith in
      ap (λ n. reads draft (flat_map (rows_of_table script.schema script.rows) (range_with_len 0 n))) count ∙ no_lines draft
      ∙ ap (λ rows. Ok (record draft { rows = rows })) (none ∙ all_rows script.schema finite.empty script.rows 0 (sym count) fits.rows (no_rows_yet script.rows))
]

-- the events

schedule_back : (script : Script) (draft : Draft) → ScriptFits script → draft.settings ≡ all_settings script → draft.events ≡ [] → draft.current ≡ None → is_events draft.section ≡ false
    → record { at : Section; is : reads draft (event_lines script.events) ≡ Ok (record draft { section = at; events = script.events }) }
schedule_back script draft fits settings none rest early = go script.events fits.events.each fits.events.elections fits.events.counted
  where
    go : (events : List Event) → All (EventFits script.nodes script.workers) events → sum_by elections_of events ≤ 64 → sum_by count_of events ≤ 100000
        → record { at : Section; is : reads draft (event_lines events) ≡ Ok (record draft { section = at; events = events }) }
    go [] all elections counted = record { at = draft.section; is = no_lines draft ∙ ap (λ events. Ok (record draft { events = events })) none }
    go (e ∷ events) all elections counted =
        let next : Draft = record draft { section = section.Events } in
        let order : in_order draft line.Events ≡ true = (λ i. not (is_some (rest i)) && not (early i)) in
        let fit : All (EventFits (nodes_of draft.settings) (workers_of draft.settings)) (e ∷ events) = subst (λ (s : Settings). All (EventFits (nodes_of s) (workers_of s)) (e ∷ events)) (sym settings) all in
        record {
          at = section.Events;
          is = one_line draft next (codes "events" ∷ []) (map event_words (e ∷ events)) (kind_line draft (codes "events") [] line.Events refl refl order)
              ∙ events_back next (e ∷ events) refl (rw settings (omega (arith, fits.nodes.1))) (rw settings (omega (arith, fits.workers.1))) fit
              (rw none (omega (arith, elections))) (rw none (omega (arith, counted)))
              ∙ ap (λ before. Ok (record next { events = before ++ (e ∷ events) })) none;
        }

no_requests : (n : ℕ) → sum_by (λ (l : List (List Op)). length l) (replicate n []) ≡ 0
no_requests zero = refl
no_requests (suc n) = omega (arith, sum_by-cons (λ (l : List (List Op)). length l) [] (replicate n []), no_requests n)

-- all lines after the first

whole_back : (script : Script) → ScriptFits script → IsSchema script.schema
    → record { at : Section; is : reads opening_draft (setting_lines script ++ map table_line script.schema ++ flat_map (rows_of_table script.schema script.rows) (range_with_len 0 (length script.schema)) ++ list_lines script.schema 1 script.lists ++ event_lines script.events) ≡ Ok (whole script at) }
whole_back script fits ok =
    let settings : List Line = setting_lines script in
    let tables : List Line = map table_line script.schema in
    let rows : List Line = flat_map (rows_of_table script.schema script.rows) (range_with_len 0 (length script.schema)) in
    let txns : List Line = list_lines script.schema 1 script.lists in
    let events : List Line = event_lines script.events in
    let set : Draft = with_settings opening_draft (all_settings script) in
    let named = tables_back set script.schema script.schema refl refl ok in
    let declared : Draft = record set { section = named.at; schema = script.schema } in
    let filled : Draft = record declared { rows = script.rows } in
    let lists_are : filled.lists ≡ [] ++ replicate (length script.lists) [] = ap (λ n. replicate n []) (sym fits.one_list_each) in
    let for_txns : TxnsFor filled = record { schema = ok; none = refl; early = before_events named.at named.early; few = omega (arith, ap length lists_are, length-replicate {A = List (List Op)} (length script.lists) [], fits.lists.workers) } in
    let asked = lists_back filled 1 [] script.lists for_txns refl lists_are fits.lists.each (omega (arith, no_requests script.workers, fits.lists.requests)) in
    let requested : Draft = record filled { section = asked.at; lists = script.lists } in
    let scheduled = schedule_back script requested fits refl refl refl asked.early in
    let to_tables : reads opening_draft (settings ++ tables) ≡ Ok declared = more_lines opening_draft set settings tables (settings_back script fits) ∙ named.is in
    let to_rows : reads opening_draft (settings ++ tables ++ rows) ≡ Ok filled = more_lines opening_draft declared (settings ++ tables) rows to_tables ∙ rows_back script declared fits ok refl refl named.there in
    let to_txns : reads opening_draft (settings ++ tables ++ rows ++ txns) ≡ Ok requested = more_lines opening_draft filled (settings ++ tables ++ rows) txns to_rows ∙ asked.is in
    record {
      at = scheduled.at;
      is = more_lines opening_draft requested (settings ++ tables ++ rows ++ txns) events to_txns ∙ scheduled.is;
    }

pub script_back : (script : Script) → ScriptFits script → read (printed script) ≡ Ok script
unfolding read
script_back script fits =
    let ok = fits.tables in
    let all = lines_are_words script fits ok in
    let back = whole_back script fits ok in
    let rest : List Line = setting_lines script ++ map table_line script.schema ++ flat_map (rows_of_table script.schema script.rows) (range_with_len 0 (length script.schema)) ++ list_lines script.schema 1 script.lists ++ event_lines script.events in
    ap (λ lines. read_text lines >>= λ draft. Ok (script_of draft)) (lines_of_text (script_lines script) all)
    ∙ ap (λ r. r >>= λ draft. Ok (script_of draft)) (lines_back 2 opening_draft (whole script back.at) rest (All-tail (All IsWord) header_line rest all) back.is refl)
