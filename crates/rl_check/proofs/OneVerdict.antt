-- A right text has no other verdict.
use Rattle.std.proofs.Common.{◌≡◌, ◌≢◌, ℕ, zero, suc, ◌+◌, ◌-◌, ◌<◌, ◌==◌, true, cond, List, [], ◌∷◌, ◌++◌, length, map, filter, take, get_or, slice_get, All, Option, Some, None, Ok, IsSomeAnd, refl, sym, ap, subst, ◌∙◌, arith, length-append}
use Rattle.std.specs.List.{range_with_len}
use Rattle.std.specs.List.Sorted.{IsStrictlyIncreasing}
use Rattle.std.proofs.Math.ListN.{get_or-append}
use Rattle.std.proofs.Math.Seq.{get_or-append_seam}
use Rattle.std.proofs.lemmas.Bool.Decides.{nat_tests}
use Rattle.std.proofs.lemmas.List.{length-map, map-append, take_all}
use Rattle.std.proofs.lemmas.List.Elements.{filter-append, All-nil, All-cons, All-head, All-tail, All-from_get_or}
use Rattle.std.proofs.lemmas.List.FromFn.{get_or-range_with_len, length-map-range_with_len}
use Rattle.rl_base.specs.Stamps.{packed}
use Rattle.rl_value.specs.Rows.{Rows}
use Rattle.rl_value.specs.Tables.{Table}
use Rattle.rl_txn.specs.Run.{run}
use Rattle.rl_txn.specs.Serial.{request, request_of, rows_after, after_writes, Runs, indexes_of, IsInLists, IsWhole}
use Rattle.rl_txn.specs.declared.item.Item.{Item}
use Rattle.rl_txn.specs.declared.op.Op.{Op}
use Rattle.rl_txn.specs.declared.write.Reply.{Reply}
use Rattle.rl_txn.specs.declared.write.Write.{Write}
use Rattle.rl_script.specs.Fits.{ScriptFits}
use Rattle.rl_script.specs.declared.script.Script.{Script}
use Rattle.rl_report.specs.Lines.{item_line}
use Rattle.rl_report.specs.Read.{read_report}
use Rattle.rl_report.specs.declared.block.Block.{Block}
use Rattle.rl_report.specs.declared.line.ItemLine.{ItemLine}
use Rattle.rl_report.specs.declared.report.Report.{Report}
use Rattle.rl_check.specs.declared.verdict.Verdict.{Verdict}
use Rattle.rl_check.specs.declared.verdict.Verdict.TheVariants.{Yes, No}
use Rattle.rl_check.specs.declared.verdict.Why.TheVariants as why
use Rattle.rl_check.specs.Right.{MayGive, MayDecide, IsRight, node_after, live_report}
use Rattle.rl_check.specs.Verdicts.{MayFollow, IsNextOf, AnswersOther, FirstWrongItem, AllDecided, AllThere, FirstWrongRow, OtherNodes, rows_due, IsVerdict}
use Rattle.rl_check.proofs.ItemLemmas.{All_right}
use Rattle.rl_check.proofs.RerunLemmas.{Requests}
use Rattle.rl_check.proofs.RightLemmas.{live_is_read}

-- ---- lines tell items ----

abbrev Ran : List Table → Requests → Rows → Item → Type 0
Ran tables lists rows x = IsSomeAnd (request_of lists x) (λ txn. run tables txn rows ≡ (x.reply, x.writes))

abbrev item_of : (x : Item) → List Write → Item
item_of x writes = record { stamp = x.stamp; worker = x.worker; index = x.index; reply = x.reply; writes = writes }

-- the writes of an item follow from its line
same_writes : (tables : List Table) (lists : Requests) (rows : Rows) (x y : Item) → (o p : Option (List Op)) → o ≡ p → IsSomeAnd o (λ txn. run tables txn rows ≡ (x.reply, x.writes)) → IsSomeAnd p (λ txn. run tables txn rows ≡ (y.reply, y.writes)) → x.writes ≡ y.writes
same_writes tables lists rows x y (Some t) (Some u) same a b =
    let txn : t ≡ u = cc in
    let both : ◌≡◌ {A = Reply × List Write} (x.reply, x.writes) (y.reply, y.writes) = sym a ∙ ap (λ v. run tables v rows) txn ∙ b in
    ap (λ (r : Reply × List Write). r.1) both
same_writes tables lists rows x y (Some t) None same a b = absurd b
same_writes tables lists rows x y None p same a b = absurd a

same_item : (tables : List Table) (lists : Requests) (rows : Rows) (x y : Item) → item_line x ≡ item_line y → Ran tables lists rows x → Ran tables lists rows y → x ≡ y
same_item tables lists rows x y line a b =
    let request : request_of lists x ≡ request_of lists y = ap (λ (l : ItemLine). request lists l.worker l.index) line in
    let writes = same_writes tables lists rows x y (request_of lists x) (request_of lists y) request a b in
    ap (item_of x) writes ∙ ap (λ (l : ItemLine). record { stamp = l.stamp; worker = l.worker; index = l.index; reply = l.reply; writes = y.writes }) line

-- items that lines begin with begin the items of all lines
prefix_same : (tables : List Table) (lists : Requests) (rows : Rows) (xs ys : List Item) → Runs tables lists rows xs → Runs tables lists rows ys → take (length xs) (map item_line ys) ≡ map item_line xs → take (length xs) ys ≡ xs
prefix_same tables lists rows [] ys a b lines = refl
prefix_same tables lists rows (x ∷ xs) [] a b lines = cc
prefix_same tables lists rows (x ∷ xs) (y ∷ ys) a b lines =
    let line : item_line y ≡ item_line x = cc in
    let later : take (length xs) (map item_line ys) ≡ map item_line xs = cc in
    let here : y ≡ x = same_item tables lists rows y x line b.0 a.0 in
    let rest : Runs tables lists (after_writes rows x.writes) ys = subst (λ (z : Item). Runs tables lists (after_writes rows z.writes) ys) here b.1 in
    ap (λ (z : Item). z ∷ take (length xs) ys) here ∙ ap (λ zs. x ∷ zs) (prefix_same tables lists (after_writes rows x.writes) xs ys a.1 rest later)

same_items : (tables : List Table) (lists : Requests) (rows : Rows) (xs ys : List Item) → Runs tables lists rows xs → Runs tables lists rows ys → map item_line ys ≡ map item_line xs → ys ≡ xs
same_items tables lists rows xs ys a b lines =
    let count : length ys ≡ length xs = sym (length-map ys item_line) ∙ ap (λ (zs : List ItemLine). length zs) lines ∙ length-map xs item_line in
    let mapped : length (map item_line ys) ≡ length ys = length-map ys item_line in
    sym (take_all (length xs) ys (omega (arith, count)))
    ∙ prefix_same tables lists rows xs ys a b (take_all (length xs) (map item_line ys) (omega (arith, count, mapped)) ∙ lines)

-- the item of the line behind some
item_behind : (n : ℕ) (ys : List Item) (x : ItemLine) → slice_get (map item_line ys) n ≡ Some x → (y : Item) × (later : List Item) × (ys ≡ take n ys ++ y ∷ later) × (x ≡ item_line y)
item_behind n [] x there = cc
item_behind zero (y ∷ ys) x there = (y, ys, refl, (let e : x ≡ item_line y = cc in e))
item_behind (suc n) (y ∷ ys) x there =
    let b = item_behind n ys x there in
    (b.0, b.1, ap (λ zs. y ∷ zs) b.2, b.3)

-- ---- what is true of an item among others ----

runs_there : (tables : List Table) (lists : Requests) (rows : Rows) (xs : List Item) (y : Item) (later : List Item) → Runs tables lists rows (xs ++ y ∷ later) → Ran tables lists (rows_after rows xs) y
runs_there tables lists rows [] y later r = r.0
runs_there tables lists rows (x ∷ xs) y later r = runs_there tables lists (after_writes rows x.writes) xs y later r.1

far : (ns : List ℕ) → IsStrictlyIncreasing ns → (i d : ℕ) → i + 1 + d < length ns → get_or ns i 0 < get_or ns (i + 1 + d) 0
far ns rise i zero within =
    let at : i + 1 + 0 ≡ i + 1 = omega arith in
    let step : get_or ns i 0 < get_or ns (i + 1) 0 = rise i (omega (arith, within)) in
    let same : get_or ns (i + 1 + 0) 0 ≡ get_or ns (i + 1) 0 = ap (λ n. get_or ns n 0) at in
    omega (arith, step, same)
far ns rise i (suc d) within =
    let at : i + 1 + suc d ≡ i + 1 + d + 1 = omega arith in
    let before = far ns rise i d (omega (arith, within)) in
    let step : get_or ns (i + 1 + d) 0 < get_or ns (i + 1 + d + 1) 0 = rise (i + 1 + d) (omega (arith, within)) in
    let same : get_or ns (i + 1 + suc d) 0 ≡ get_or ns (i + 1 + d + 1) 0 = ap (λ n. get_or ns n 0) at in
    omega (arith, before, step, same)

below_there : (ns : List ℕ) (n : ℕ) (more : List ℕ) → IsStrictlyIncreasing (ns ++ n ∷ more) → All (λ x. x < n) ns
below_there ns n more rise = All-from_get_or (λ x. x < n) ns 0 (λ i within.
    let all = ns ++ n ∷ more in
    let d = length ns - (i + 1) in
    let count : length all ≡ length ns + length {A = ℕ} (n ∷ more) = length-append ns (n ∷ more) in
    let at : i + 1 + d ≡ length ns = omega (arith, within) in
    let less = far all rise i d (omega (arith, at, count)) in
    let mine : get_or all i 0 ≡ get_or ns i 0 = get_or-append ns (n ∷ more) 0 i within in
    let last : get_or all (i + 1 + d) 0 ≡ n = ap (λ k. get_or all k 0) at ∙ get_or-append_seam ns n more 0 in
    omega (arith, less, mine, last))

stamps_below : (xs : List Item) (y : Item) (later : List Item) → IsStrictlyIncreasing (map (λ (i : Item). packed i.stamp) (xs ++ y ∷ later)) → All (λ (i : Item). packed i.stamp < packed y.stamp) xs
stamps_below xs y later rise =
    from_map xs (below_there (map (λ (i : Item). packed i.stamp) xs) (packed y.stamp) (map (λ (i : Item). packed i.stamp) later)
    (subst IsStrictlyIncreasing (map-append (λ (i : Item). packed i.stamp) xs (y ∷ later)) rise))
  where
    from_map : (xs : List Item) → All (λ n. n < packed y.stamp) (map (λ (i : Item). packed i.stamp) xs) → All (λ (i : Item). packed i.stamp < packed y.stamp) xs
    from_map [] all = All-nil (λ (i : Item). packed i.stamp < packed y.stamp)
    from_map (x ∷ xs) all = All-cons (λ (i : Item). packed i.stamp < packed y.stamp) x xs
        (All-head (λ n. n < packed y.stamp) (packed x.stamp) (map (λ (i : Item). packed i.stamp) xs) all)
        (from_map xs (All-tail (λ n. n < packed y.stamp) (packed x.stamp) (map (λ (i : Item). packed i.stamp) xs) all))

-- the index of an item is the next one of its worker
index_there : (xs : List Item) (y : Item) (later : List Item) → IsInLists (xs ++ y ∷ later) → y.index ≡ length (indexes_of y.worker xs) + 1
index_there xs y later is =
    let w = y.worker in
    let front = indexes_of w xs in
    let own : (y.worker == w) ≡ true = grind (arith, nat_tests) in
    let rest = indexes_of w later in
    let parts : indexes_of w (xs ++ y ∷ later) ≡ front ++ y.index ∷ rest =
    ap (map (λ (i : Item). i.index)) (filter-append (λ (i : Item). i.worker == w) xs (y ∷ later)) ∙ map-append (λ (i : Item). i.index) (filter (λ (i : Item). i.worker == w) xs) (filter (λ (i : Item). i.worker == w) (y ∷ later))
    ∙ ap (λ b. front ++ map (λ (i : Item). i.index) (cond b (y ∷ filter (λ (i : Item). i.worker == w) later) (filter (λ (i : Item). i.worker == w) later))) own in
    let n = length (indexes_of w (xs ++ y ∷ later)) in
    let count : n ≡ length front + length {A = ℕ} (y.index ∷ rest) = ap (λ (zs : List ℕ). length zs) parts ∙ length-append front (y.index ∷ rest) in
    let range : front ++ y.index ∷ rest ≡ range_with_len 1 n = sym parts ∙ is w in
    let at : y.index ≡ 1 + length front = sym (get_or-append_seam front y.index rest 0) ∙ ap (λ (zs : List ℕ). get_or zs (length front) 0) range ∙ get_or-range_with_len 1 n (length front) 0 (omega (arith, count)) in
    omega (arith, at)

-- ---- verdicts ----

module _ (script : Script) (text : List ℕ) (items : List Item) (fits : ScriptFits script) (right : IsRight script text items) where
  decided : MayDecide script items
  decided = right.decided

  live : Report
  live = live_report script items

  read : read_report text ≡ Ok (live_report script items)
  read = ap read_report right.prints ∙ live_is_read script fits items right.decided

  report_is : (r : Report) → read_report text ≡ Ok r → r ≡ live_report script items
  report_is r is = let same = sym is ∙ read in cc

  -- the items of the report, whatever is said of them
  items_are : (r : Report) → read_report text ≡ Ok r → (xs : List Item) → AllDecided script r.items xs → xs ≡ items
  items_are r is xs all =
      same_items script.schema script.lists script.rows items xs right.decided.serial.runs all.decided.serial.runs (sym all.of_items ∙ ap (λ (r : Report). r.items) (report_is r is))

  -- an item that is said to be wrong is among them
  module _ (xs : List Item) (y : Item) (later : List Item) (are : items ≡ xs ++ y ∷ later) where
    there : MayDecide script (xs ++ y ∷ later)
    there = subst (MayDecide script) are right.decided

    follows : MayFollow script.stops xs y.stamp
    follows = record {
      given = All-head (λ (i : Item). MayGive script.stops i.stamp) y later (All_right (λ (i : Item). MayGive script.stops i.stamp) xs (y ∷ later) there.stamps);
      above = stamps_below xs y later there.serial.rising;
    }

    ran : Ran script.schema script.lists (rows_after script.rows xs) y
    ran = runs_there script.schema script.lists script.rows xs y later there.serial.runs

    next : (txn : List Op) → request_of script.lists y ≡ Some txn → IsNextOf script xs (item_line y) txn
    next txn of = record { request = of; next = index_there xs y later there.in_lists }

    -- it has a request
    some : (o : Option (List Op)) → request_of script.lists y ≡ o → IsSomeAnd o (λ txn. run script.schema txn (rows_after script.rows xs) ≡ (y.reply, y.writes)) → (txn : List Op) × (request_of script.lists y ≡ Some txn)
    some (Some txn) of r = (txn, of)
    some None of r = absurd r

    -- and answers as that does
    answers : (txn : List Op) → (o : Option (List Op)) → o ≡ Some txn → IsSomeAnd o (λ txn. run script.schema txn (rows_after script.rows xs) ≡ (y.reply, y.writes)) → (run script.schema txn (rows_after script.rows xs)).0 ≡ y.reply
    answers txn (Some t) of r =
        let same : t ≡ txn = cc in
        ap (λ t. (run script.schema t (rows_after script.rows xs)).0) (sym same) ∙ ap (λ (p : Reply × List Write). p.0) r
    answers txn None of r = absurd r

    not_stamp : (MayFollow script.stops xs y.stamp → ⊥) → ⊥
    not_stamp never = never follows

    not_request : ((txn : List Op) → IsNextOf script xs (item_line y) txn → ⊥) → ⊥
    not_request never = let t = some (request_of script.lists y) refl ran in never t.0 (next t.0 t.1)

    not_reply : (txn : List Op) → IsNextOf script xs (item_line y) txn → (run script.schema txn (rows_after script.rows xs)).0 ≢ y.reply → ⊥
    not_reply txn n other = other (answers txn (request_of script.lists y) n.request ran)

  module _ (r : Report) (is : read_report text ≡ Ok r) where
    -- the item of the first line that is said to be wrong
    split : (xs : List Item) (x : ItemLine) → MayDecide script xs → take (length xs) r.items ≡ map item_line xs → slice_get r.items (length xs) ≡ Some x → (y : Item) × (later : List Item) × (items ≡ xs ++ y ∷ later) × (x ≡ item_line y)
    split xs x of before at =
        let lines : r.items ≡ map item_line items = ap (λ (r : Report). r.items) (report_is r is) in
        let b = item_behind (length xs) items x (ap (λ (zs : List ItemLine). slice_get zs (length xs)) (sym lines) ∙ at) in
        let front = prefix_same script.schema script.lists script.rows xs items of.serial.runs right.decided.serial.runs (ap (take (length xs)) (sym lines) ∙ before) in
        (b.0, b.1, b.2 ∙ ap (λ zs. zs ++ b.0 ∷ b.1) front, b.3)

    no_stamp : (line : ℕ) → FirstWrongItem script r.items line why.Stamp → ⊥
    no_stamp line w =
        let s = split w.items w.x w.decided w.before w.there in
        not_stamp w.items s.0 s.1 s.2 (subst (λ (x : ItemLine). MayFollow script.stops w.items x.stamp → ⊥) s.3 w.wrong)

    no_request : (line : ℕ) → FirstWrongItem script r.items line why.Request → ⊥
    no_request line w =
        let s = split w.items w.x w.decided w.before w.there in
        not_request w.items s.0 s.1 s.2 (subst (λ (x : ItemLine). (txn : List Op) → IsNextOf script w.items x txn → ⊥) s.3 w.wrong.1)

    no_reply : (line : ℕ) → FirstWrongItem script r.items line why.Reply → ⊥
    no_reply line w =
        let s = split w.items w.x w.decided w.before w.there in
        let a = subst (λ (x : ItemLine). AnswersOther script w.items x w.wrong.1.0) s.3 w.wrong.1.1 in
        not_reply w.items s.0 s.1 s.2 w.wrong.1.0 a.next a.other

    no_row : (xs : List Item) (line : ℕ) → AllThere script r.items xs → FirstWrongRow script.nodes (rows_due script xs) r line → ⊥
    no_row xs line all w =
        let same = items_are r is xs all.all in
        let blocks : r.blocks ≡ map (node_after script items) (range_with_len 1 script.nodes) = ap (λ (r : Report). r.blocks) (report_is r is) in
        let rows : w.block.rows ≡ rows_due script items = block_rows (range_with_len 1 script.nodes) w.node w.block (ap (λ (bs : List Block). slice_get bs w.node) (sym blocks) ∙ w.there) in
        w.differs.differ (ap (λ rs. slice_get rs w.row) (rows ∙ ap (rows_due script) (sym same)))
      where
        block_rows : (ns : List ℕ) (i : ℕ) (b : Block) → slice_get (map (node_after script items) ns) i ≡ Some b → b.rows ≡ rows_due script items
        block_rows [] i b at = cc
        block_rows (n ∷ ns) zero b at = ap (λ (b : Block). b.rows) (let e : b ≡ node_after script items n = cc in e)
        block_rows (n ∷ ns) (suc i) b at = block_rows ns i b at

    no_nodes : (xs : List Item) (line : ℕ) → OtherNodes script.nodes (rows_due script xs) r line → ⊥
    no_nodes xs line w =
        w.other (ap (λ (r : Report). length r.blocks) (report_is r is) ∙ length-map-range_with_len (node_after script items) 1 script.nodes)

  -- the verdict is yes
  pub is_yes : (v : Verdict) → IsVerdict script text v → v ≡ Yes (length items)
  is_yes (Yes n) is =
      let other = ap read_report is.1.prints ∙ live_is_read script fits is.0 is.1.decided in
      let lines : map item_line is.0 ≡ map item_line items = ap (λ (r : Report). r.items) (report_is (live_report script is.0) other) in
      ap Yes (is.2 ∙ sym (length-map is.0 item_line) ∙ ap (λ (zs : List ItemLine). length zs) lines ∙ length-map items item_line)
  is_yes (No line why.Form) is = let same = sym is.1 ∙ read in absurd (cc)
  is_yes (No line why.Title) is = absurd (is.2 (ap (λ (r : Report). r.title) (report_is is.0 is.1)))
  is_yes (No line why.Stamp) is = absurd (no_stamp is.0 is.1 line is.3)
  is_yes (No line why.Request) is = absurd (no_request is.0 is.1 line is.3)
  is_yes (No line why.Reply) is = absurd (no_reply is.0 is.1 line is.3)
  is_yes (No line why.Missing) is =
      let m = is.3 in
      absurd (m.2 (subst (IsWhole script.lists) (sym (items_are is.0 is.1 m.0 m.1)) right.whole))
  is_yes (No line why.Table) is = absurd (no_row is.0 is.1 is.3.0 line is.3.1 is.3.2)
  is_yes (No line why.Nodes) is = absurd (no_nodes is.0 is.1 is.3.0 line is.3.2)
