-- A program's work over lists in the place of finite maps, which do not compute; and that it is the same work.
use Rattle.std.proofs.Common.{◌≡◌, ℕ, zero, suc, ◌+◌, ◌%◌, ◌^◌, List, [], ◌∷◌, ◌++◌, length, map, sum, filter, Bool, true, false, cond, not, nat_lt, nat_le, is_some, Option, Some, None, if◌then◌else◌, refl, ap, ap₂, sym, ◌∙◌, sum_by, arith}
use Rattle.std.specs.Option.{option_map, option_map_or}
use Rattle.std.specs.List.{range_with_len, find}
use Rattle.std.specs.FinMap as finite
use Rattle.std.specs.FinMap.Entries as list
use Rattle.std.specs.Ordering.{eq_by_cmp}
use Rattle.rl_value.specs.Cells.{cells_of, row_of}
use Rattle.rl_value.specs.Rows.{Rows, place_cmp}
use Rattle.rl_value.specs.Tables.{Table, size_of, columns_of}
use Rattle.rl_value.proofs.PlacesLemmas.{places_total}
use Rattle.rl_tables.specs.Numbers.{sizes_of, record_of, place_of}
use Rattle.rl_txn.specs.declared.op.Op.{Op}
use Rattle.rl_txn.specs.declared.op.Op.TheVariants.{Set, Add, Sub, Mul, Get, Has, Put, Del, Scan, Need, Skip, Out}
use Rattle.rl_txn.specs.declared.write.End.{End}
use Rattle.rl_txn.specs.declared.write.End.TheVariants.{Done, Declined}
use Rattle.rl_txn.specs.declared.write.Reply.{Reply}
use Rattle.rl_txn.specs.declared.write.Write.{Write}
use Rattle.rl_txn.specs.declared.item.Item.{Item}
use Rattle.rl_txn.specs.declared.eval.Wants as eval
use Rattle.rl_txn.specs.declared.eval.Wants.TheVariants.{Read as WantsRead, Ended as WantsEnded}
use Rattle.rl_txn.specs.Eval.{places_read, is_new, read_by, rows_from, rows_of, wants}
use Rattle.rl_txn.specs.Run.{Overlay, Progress, value_of, with_reg, with_row, holds, row_seen, column_of, scan_sum, only_if, op_done, passes, ops_done, beginning, write_of, writes_of, run}
use Rattle.rl_txn.specs.Serial.{put_or_remove, after_writes, rows_after, request}
use Rattle.rl_worker.specs.Acts.{opening_core}
use Rattle.std.specs.Prelude.{slice_index}
use Rattle.rl_worker.specs.Opening.{overlay_of, install_of, outcome_of, outcome, asks, setting_of, at_rest}
use Rattle.rl_worker.specs.Phases.{Read, Rec, Outcome, Wants, Ends, Setting}
use Rattle.rl_nodes.specs.Openings.{Program, Work, work_of, next_request}
use Rattle.rl_worker.specs.Stamping.{opening_stamps}

-- a row at each place, and what was written at some
abbrev pub Found : Type 0
Found = ℕ × ℕ → Option (List ℕ)

abbrev pub Written : Type 0
Written = List ((ℕ × ℕ) × Option (List ℕ))

-- the rows as a function, and what was written as a list
abbrev pub found : Rows → Found
found rows place = finite.get rows place

abbrev pub listed : Overlay → Written
listed m = finite.entries m

pub no_length : {A : Type 0} (es : List A) → length es ≡ 0 → es ≡ []
no_length [] e = refl
no_length (x ∷ es) e = absurd (omega arith)

empty_list : listed finite.empty ≡ []
empty_list = no_length _ (sym (finite.len-entries (finite.empty {K = ℕ × ℕ} {X = Option (List ℕ)} {R = place_cmp})) ∙ finite.len-empty place_cmp (Option (List ℕ)))

-- ---- one op ----

-- a row as a transaction sees it
abbrev seen : Found → Written → (t k : ℕ) → Option (List ℕ)
seen f ws t k = option_map_or (λ row. row) (list.find place_cmp (t, k) ws) (f (t, k))

seen_same : (rows : Rows) (m : Overlay) (t k : ℕ) → seen (found rows) (listed m) t k ≡ row_seen rows m t k
seen_same rows m t k = ap (λ o. option_map_or (λ row. row) o (finite.get rows (t, k))) (sym (finite.get-entries m (t, k)))

-- a progress, and what was written so far as a list
abbrev Pair : Type 0
Pair = Progress × Written

abbrev paired : Progress → Pair
paired p = (p, listed p.written)

abbrev only : Bool → Pair → Option Pair
only test x = if test then Some x else None

only_same : (test : Bool) (p : Progress) → only test (paired p) ≡ option_map paired (only_if test p)
only_same true p = refl
only_same false p = refl

abbrev total : Found → Written → (t k n c : ℕ) → ℕ
total f ws t k n c = sum_by (λ key. column_of (seen f ws t key) c) (range_with_len k n) % 2 ^ 64

abbrev with_value : Pair → (d x : ℕ) → Pair
with_value x d v = (with_reg x.0 d v, x.1)

abbrev with_written : Pair → (t k : ℕ) → Option (List ℕ) → Pair
with_written x t k row = (with_row x.0 t k row, list.put place_cmp (t, k) row x.1)

-- an op that looks at no row goes on as before
abbrev op_listed : List Table → Rows → Found → Op → Pair → Option Pair
op_listed tables rows f (Get t k c d) x =
    only (nat_lt (value_of x.0 k) (size_of tables t)) (with_value x d (column_of (seen f x.1 t (value_of x.0 k)) c))
op_listed tables rows f (Has t k d) x =
    only (nat_lt (value_of x.0 k) (size_of tables t)) (with_value x d (if is_some (seen f x.1 t (value_of x.0 k)) then 1 else 0))
op_listed tables rows f (Put t k values) x =
    only (nat_lt (value_of x.0 k) (size_of tables t)) (with_written x t (value_of x.0 k) (Some (map (value_of x.0) values)))
op_listed tables rows f (Del t k) x =
    only (nat_lt (value_of x.0 k) (size_of tables t)) (with_written x t (value_of x.0 k) None)
op_listed tables rows f (Scan t k n c d) x =
    only (nat_le (value_of x.0 k + n) (size_of tables t)) (with_value x d (total f x.1 t (value_of x.0 k) n c))
op_listed tables rows f (Need a rel b) x = only (holds rel (value_of x.0 a) (value_of x.0 b)) x
op_listed tables rows f op x = option_map (λ next. (next, x.1)) (op_done tables rows op x.0)

written_same : (p : Progress) (t k : ℕ) (row : Option (List ℕ)) → with_written (paired p) t k row ≡ paired (with_row p t k row)
written_same p t k row = ap {A = Written} {B = Pair} (λ ws. (with_row p t k row, ws)) (sym (finite.entries-insert places_total p.written (t, k) row))

op_same : (tables : List Table) (rows : Rows) (op : Op) (p : Progress)
    → op_listed tables rows (found rows) op (paired p) ≡ option_map paired (op_done tables rows op p)
unfolding op_done
op_same tables rows (Set d a) p = refl
op_same tables rows (Add d a b) p = refl
op_same tables rows (Sub d a b) p = refl
op_same tables rows (Mul d a b) p = refl
op_same tables rows (Get t k c d) p =
    ap (λ row. only (nat_lt (value_of p k) (size_of tables t)) (with_value (paired p) d (column_of row c))) (seen_same rows p.written t (value_of p k))
    ∙ only_same (nat_lt (value_of p k) (size_of tables t)) (with_reg p d (column_of (row_seen rows p.written t (value_of p k)) c))
op_same tables rows (Has t k d) p =
    ap (λ row. only (nat_lt (value_of p k) (size_of tables t)) (with_value (paired p) d (if is_some row then 1 else 0))) (seen_same rows p.written t (value_of p k))
    ∙ only_same (nat_lt (value_of p k) (size_of tables t)) (with_reg p d (if is_some (row_seen rows p.written t (value_of p k)) then 1 else 0))
op_same tables rows (Put t k values) p =
    ap (only (nat_lt (value_of p k) (size_of tables t))) (written_same p t (value_of p k) (Some (map (value_of p) values)))
    ∙ only_same (nat_lt (value_of p k) (size_of tables t)) (with_row p t (value_of p k) (Some (map (value_of p) values)))
op_same tables rows (Del t k) p =
    ap (only (nat_lt (value_of p k) (size_of tables t))) (written_same p t (value_of p k) None)
    ∙ only_same (nat_lt (value_of p k) (size_of tables t)) (with_row p t (value_of p k) None)
op_same tables rows (Scan t k n c d) p =
    (λ i. only (nat_le (value_of p k + n) (size_of tables t)) (with_value (paired p) d (sum_by (λ key. column_of (seen_same rows p.written t key i) c) (range_with_len (value_of p k) n) % 2 ^ 64)))
    ∙ only_same (nat_le (value_of p k + n) (size_of tables t)) (with_reg p d (scan_sum rows p.written t (value_of p k) n c))
op_same tables rows (Need a rel b) p = only_same (holds rel (value_of p a) (value_of p b)) p
op_same tables rows (Skip a rel b n) p = refl
op_same tables rows (Out a) p = refl

-- ---- a transaction ----

unfoldable pub ops_listed : List Table → Rows → Found → (number skipped : ℕ) → List Op → Pair → Pair × End
ops_listed tables rows f number skipped [] x = (x, Done)
ops_listed tables rows f number zero (op ∷ ops) x =
    option_map_or (λ next. ops_listed tables rows f (number + 1) (passes op x.0) ops next) (op_listed tables rows f op x) (x, Declined number)
ops_listed tables rows f number (suc skipped) (op ∷ ops) x = ops_listed tables rows f (number + 1) skipped ops x

abbrev paired_end : Progress × End → Pair × End
paired_end e = (paired e.0, e.1)

next_same : (g : Pair → Pair × End) (h : Progress → Progress × End) → ((p : Progress) → g (paired p) ≡ paired_end (h p))
    → (p : Progress) (number : ℕ) (o : Option Progress)
    → option_map_or g (option_map paired o) (paired p, Declined number) ≡ paired_end (option_map_or h o (p, Declined number))
next_same g h same p number None = refl
next_same g h same p number (Some q) = same q

ops_same : (tables : List Table) (rows : Rows) (number skipped : ℕ) (ops : List Op) (p : Progress)
    → ops_listed tables rows (found rows) number skipped ops (paired p) ≡ paired_end (ops_done tables rows number skipped ops p)
unfolding ops_listed ops_done
ops_same tables rows number skipped [] p = refl
ops_same tables rows number zero (op ∷ ops) p =
    ap (λ o. option_map_or (λ next. ops_listed tables rows (found rows) (number + 1) (passes op p) ops next) o (paired p, Declined number)) (op_same tables rows op p)
    ∙ next_same (λ next. ops_listed tables rows (found rows) (number + 1) (passes op p) ops next) (λ next. ops_done tables rows (number + 1) (passes op p) ops next)
    (λ q. ops_same tables rows (number + 1) (passes op p) ops q) p number (op_done tables rows op p)
ops_same tables rows number (suc skipped) (op ∷ ops) p = ops_same tables rows (number + 1) skipped ops p

abbrev writes_listed : Written → End → List Write
writes_listed ws Done = map write_of ws
writes_listed ws (Declined op) = []

abbrev answer_of : Pair × End → Reply × List Write
answer_of e = (record { outs = e.0.0.outs; end = e.1 }, writes_listed e.0.1 e.1)

abbrev pub run_listed : List Table → Rows → Found → List Op → Reply × List Write
run_listed tables rows f txn = answer_of (ops_listed tables rows f 1 0 txn (beginning, []))

answer_same : (e : Progress × End) → answer_of (paired_end e) ≡ (record { outs = e.0.outs; end = e.1 }, writes_of e.0 e.1)
answer_same (p, Done) = refl
answer_same (p, Declined op) = refl

run_same : (tables : List Table) (rows : Rows) (txn : List Op) → run_listed tables rows (found rows) txn ≡ run tables txn rows
unfolding run
run_same tables rows txn =
    ap (λ ws. answer_of (ops_listed tables rows (found rows) 1 0 txn (beginning, ws))) (sym empty_list)
    ∙ ap answer_of (ops_same tables rows 1 0 txn beginning) ∙ answer_same (ops_done tables rows 1 0 txn beginning)

-- ---- what a transaction wants ----

abbrev is_new_listed : Written → ℕ × ℕ → Bool
is_new_listed ws place = not (is_some (list.find place_cmp place ws))

is_new_same : (m : Overlay) (place : ℕ × ℕ) → is_new_listed (listed m) place ≡ is_new m place
is_new_same m place = ap (λ o. not (is_some o)) (sym (finite.get-entries m place))

unfoldable pub read_listed : List Table → Rows → Found → (skipped : ℕ) → List Op → Pair → List (ℕ × ℕ)
read_listed tables rows f skipped [] x = []
read_listed tables rows f zero (op ∷ ops) x =
    filter (is_new_listed x.1) (places_read tables op x.0)
    ++ option_map_or (λ next. read_listed tables rows f (passes op x.0) ops next) (op_listed tables rows f op x) []
read_listed tables rows f (suc skipped) (op ∷ ops) x = read_listed tables rows f skipped ops x

more_same : (g : Pair → List (ℕ × ℕ)) (h : Progress → List (ℕ × ℕ)) → ((p : Progress) → g (paired p) ≡ h p) → (o : Option Progress)
    → option_map_or g (option_map paired o) [] ≡ option_map_or h o []
more_same g h same None = refl
more_same g h same (Some q) = same q

read_same : (tables : List Table) (rows : Rows) (skipped : ℕ) (ops : List Op) (p : Progress)
    → read_listed tables rows (found rows) skipped ops (paired p) ≡ read_by tables rows skipped ops p
unfolding read_listed read_by
read_same tables rows skipped [] p = refl
read_same tables rows zero (op ∷ ops) p =
    ap₂ ◌++◌ (λ i. filter (λ place. is_new_same p.written place i) (places_read tables op p))
    (ap (λ o. option_map_or (λ next. read_listed tables rows (found rows) (passes op p) ops next) o []) (op_same tables rows op p)
    ∙ more_same (λ next. read_listed tables rows (found rows) (passes op p) ops next) (λ next. read_by tables rows (passes op p) ops next)
    (λ q. read_same tables rows (passes op p) ops q) (op_done tables rows op p))
read_same tables rows (suc skipped) (op ∷ ops) p = read_same tables rows skipped ops p

-- the rows of some entries
abbrev pub found_in : Written → Found
found_in [] place = None
found_in (e ∷ es) place = cond (eq_by_cmp place_cmp place e.0) e.1 (found_in es place)

found_after : (rows : Rows) (at : ℕ × ℕ) (row : Option (List ℕ)) (place : ℕ × ℕ)
    → found (put_or_remove rows at row) place ≡ cond (eq_by_cmp place_cmp place at) row (found rows place)
found_after rows at None place = finite.get-remove places_total rows at place
found_after rows at (Some row) place = finite.get-insert places_total rows at row place

pub found_rows : (es : Written) (place : ℕ × ℕ) → found (rows_from es) place ≡ found_in es place
found_rows [] place = finite.get-empty place_cmp place
found_rows (e ∷ es) place =
    found_after (rows_from es) e.0 e.1 place ∙ ap (cond (eq_by_cmp place_cmp place e.0) e.1) (found_rows es place)

abbrev overlay_listed : List Table → List Read → Written
overlay_listed tables [] = []
overlay_listed tables (x ∷ xs) = list.put place_cmp (place_of (sizes_of tables) x.rec) (row_of x.row) (overlay_listed tables xs)

overlay_same : (tables : List Table) (reads : List Read) → listed (overlay_of tables reads) ≡ overlay_listed tables reads
overlay_same tables [] = empty_list
overlay_same tables (x ∷ xs) =
    finite.entries-insert places_total (overlay_of tables xs) (place_of (sizes_of tables) x.rec) (row_of x.row)
    ∙ ap (list.put place_cmp (place_of (sizes_of tables) x.rec) (row_of x.row)) (overlay_same tables xs)

-- the rows that were read, as a function of the reads
rows_read : (tables : List Table) (reads : List Read) → found (rows_of (overlay_of tables reads)) ≡ found_in (overlay_listed tables reads)
rows_read tables reads = λ i place.
    (found_rows (listed (overlay_of tables reads)) place ∙ ap (λ ws. found_in ws place) (overlay_same tables reads)) i

abbrev run_read : List Table → List Op → List Read → Reply × List Write
run_read tables txn reads = run_listed tables (rows_of (overlay_of tables reads)) (found_in (overlay_listed tables reads)) txn

run_read_same : (tables : List Table) (txn : List Op) (reads : List Read)
    → run_read tables txn reads ≡ run tables txn (rows_of (overlay_of tables reads))
run_read_same tables txn reads =
    ap (λ f. run_listed tables (rows_of (overlay_of tables reads)) f txn) (sym (rows_read tables reads))
    ∙ run_same tables (rows_of (overlay_of tables reads)) txn

abbrev wants_listed : List Table → List Op → List Read → eval.Wants
wants_listed tables txn reads =
    let ws = overlay_listed tables reads in
    option_map_or (λ q. WantsRead q.0 q.1)
    (find (is_new_listed ws) (read_listed tables (rows_of (overlay_of tables reads)) (found_in ws) 0 txn (beginning, [])))
    (WantsEnded (run_read tables txn reads).0.end)

abbrev wants_by : (ℕ × ℕ → Bool) → List (ℕ × ℕ) → Reply × List Write → eval.Wants
wants_by test reads answer = option_map_or (λ q. WantsRead q.0 q.1) (find test reads) (WantsEnded answer.0.end)

new_same : (tables : List Table) (reads : List Read) → is_new_listed (overlay_listed tables reads) ≡ is_new (overlay_of tables reads)
new_same tables reads = λ i place.
    (ap (λ ws. is_new_listed ws place) (sym (overlay_same tables reads)) ∙ is_new_same (overlay_of tables reads) place) i

all_read_same : (tables : List Table) (txn : List Op) (reads : List Read)
    → read_listed tables (rows_of (overlay_of tables reads)) (found_in (overlay_listed tables reads)) 0 txn (beginning, [])
    ≡ read_by tables (rows_of (overlay_of tables reads)) 0 txn beginning
all_read_same tables txn reads =
    let rows : Rows = rows_of (overlay_of tables reads) in
    ap (λ f. read_listed tables rows f 0 txn (beginning, [])) (sym (rows_read tables reads))
    ∙ ap (λ ws. read_listed tables rows (found rows) 0 txn (beginning, ws)) (sym empty_list)
    ∙ read_same tables rows 0 txn beginning

wants_same : (tables : List Table) (txn : List Op) (reads : List Read)
    → wants_listed tables txn reads ≡ wants tables txn (overlay_of tables reads)
wants_same tables txn reads =
    λ i. wants_by (new_same tables reads i) (all_read_same tables txn reads i) (run_read_same tables txn reads i)

abbrev outcome_by : List Table → Reply × List Write → eval.Wants → Outcome
outcome_by tables answer (WantsRead t k) = Wants (record_of (sizes_of tables) t k)
outcome_by tables answer (WantsEnded end) = Ends answer (map (install_of tables) answer.1)

outcome_by_same : (tables : List Table) (txn : List Op) (reads : List Read) (w : eval.Wants)
    → outcome_by tables (run tables txn (rows_of (overlay_of tables reads))) w ≡ outcome_of tables txn reads w
outcome_by_same tables txn reads (WantsRead t k) = refl
outcome_by_same tables txn reads (WantsEnded end) = refl

abbrev outcome_listed : List Table → List Read → List Op → Outcome
outcome_listed tables reads txn = outcome_by tables (run_read tables txn reads) (wants_listed tables txn reads)

outcome_same : (tables : List Table) (reads : List Read) (txn : List Op) → outcome_listed tables reads txn ≡ outcome tables txn reads
outcome_same tables reads txn =
    (λ i. outcome_by tables (run_read_same tables txn reads i) (wants_same tables txn reads i))
    ∙ outcome_by_same tables txn reads (wants tables txn (overlay_of tables reads))

abbrev asks_listed : List Table → List (List (List Op)) → (w q : ℕ) → List Read → Outcome
asks_listed tables lists w q reads = option_map_or (outcome_listed tables reads) (request lists w q) (Wants 0)

asks_same : (tables : List Table) (lists : List (List (List Op))) → asks_listed tables lists ≡ asks tables lists
asks_same tables lists = λ i w q reads. option_map_or (λ txn. outcome_same tables reads txn i) (request lists w q) (Wants 0)

-- ---- how a leader opens ----

abbrev found_after_writes : Found → List Write → Found
found_after_writes f [] = f
found_after_writes f (w ∷ ws) = found_after_writes (λ place. cond (eq_by_cmp place_cmp place (w.table, w.key)) w.row (f place)) ws

abbrev found_after_items : Found → List Item → Found
found_after_items f [] = f
found_after_items f (x ∷ xs) = found_after_items (found_after_writes f x.writes) xs

writes_same : (rows : Rows) (writes : List Write) → found_after_writes (found rows) writes ≡ found (after_writes rows writes)
writes_same rows [] = refl
writes_same rows (w ∷ ws) =
    ap (λ f. found_after_writes f ws) (sym {A = Found} (λ i place. found_after rows (w.table, w.key) w.row place i))
    ∙ writes_same (put_or_remove rows (w.table, w.key) w.row) ws

items_same : (rows : Rows) (items : List Item) → found_after_items (found rows) items ≡ found (rows_after rows items)
items_same rows [] = refl
items_same rows (x ∷ xs) =
    ap (λ f. found_after_items f xs) (writes_same rows x.writes) ∙ items_same (after_writes rows x.writes) xs

abbrev rec_listed : List Table → Found → (stamps : List ℕ) → (r : ℕ) → Rec
rec_listed tables f stamps r =
    let place = place_of (sizes_of tables) r in
    record { stamp = slice_index stamps r; holder = None; cells = cells_of (columns_of tables place.0) (f place) }

abbrev recs_listed : List Table → Found → (stamps : List ℕ) → List Rec
recs_listed tables f stamps = map (rec_listed tables f stamps) (range_with_len 0 (sum (sizes_of tables)))

-- ---- the work of a program ----

abbrev setting_listed : List Table → List (List (List Op)) → (epoch : ℕ) → Setting
setting_listed tables lists epoch = record (setting_of tables lists epoch) { ask = asks_listed tables lists }

setting_same : (tables : List Table) (lists : List (List (List Op))) (epoch : ℕ) → setting_listed tables lists epoch ≡ setting_of tables lists epoch
setting_same tables lists epoch = λ i. record (setting_of tables lists epoch) { ask = asks_same tables lists i }

-- the work of a program whose opening rows are those of some entries
abbrev pub work_listed : List Table → Written → List (List (List Op)) → Work
work_listed tables rows lists = record {
  opening = λ epoch items. opening_core (setting_listed tables lists epoch)
      (recs_listed tables (found_after_items (found_in rows) items) (opening_stamps (sizes_of tables) items))
      (at_rest (map (next_request items) (range_with_len 1 (length lists))));
  setting = setting_listed tables lists;
}

abbrev pub program_of : List Table → Written → List (List (List Op)) → Program
program_of tables rows lists = record { tables = tables; rows = rows_from rows; lists = lists }

opening_rows : (rows : Written) (items : List Item) → found_after_items (found_in rows) items ≡ found (rows_after (rows_from rows) items)
opening_rows rows items =
    ap (λ f. found_after_items f items) (sym {A = Found} (λ i place. found_rows rows place i)) ∙ items_same (rows_from rows) items

pub work_same : (tables : List Table) (rows : Written) (lists : List (List (List Op)))
    → work_listed tables rows lists ≡ work_of (program_of tables rows lists)
work_same tables rows lists = λ i. record {
  opening = λ epoch items. opening_core (setting_same tables lists epoch i)
      (recs_listed tables (opening_rows rows items i) (opening_stamps (sizes_of tables) items))
      (at_rest (map (next_request items) (range_with_len 1 (length lists))));
  setting = λ epoch. setting_same tables lists epoch i;
}
