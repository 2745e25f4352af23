-- Rows that stay in their text, and the title of what was read.
use Rattle.std.proofs.Common.{◌≡◌, ℕ, zero, suc, ◌+◌, ◌-◌, ◌<◌, Bool, true, false, cond, List, [], ◌∷◌, ◌++◌, length, Result, Ok, Err, refl, sym, ap, ◌∙◌, append_assoc, append-nil, arith}
use Rattle.rl_base.specs.Results.{◌>>=◌}
use Rattle.rl_text.specs.Printed.{Line}
use Rattle.rl_report.specs.declared.fault.Fault.{Fault}
use Rattle.rl_report.specs.declared.block.Block.{Block}
use Rattle.rl_report.specs.declared.block.Head.{Head}
use Rattle.rl_report.specs.declared.block.Head.TheVariants.{Plain}
use Rattle.rl_report.specs.declared.line.ItemLine.{ItemLine}
use Rattle.rl_report.specs.declared.line.RowLine.{RowLine}
use Rattle.rl_report.specs.declared.line.StreamLine.{StreamLine}
use Rattle.rl_report.specs.declared.middle.Middle.{Middle}
use Rattle.rl_report.specs.declared.report.Report.{Report}
use Rattle.rl_report.specs.declared.report.Title.{Title}
use Rattle.rl_report.specs.declared.report.Title.TheVariants.{Serial, Steps, Sim, Live}
use Rattle.rl_report.specs.LineForms.{row, node, simulated}
use Rattle.rl_report.specs.Read.{OfLines, one, items, rows, tables, parts, block, nodes, refusals, effects, body}
use Rattle.rl_report.specs.Readers.{always, both, many, made}
use Rattle.rl_report.specs.Words.{exactly, whole}
use Rattle.rl_report.specs.Rows.{read_or_none, rows_there, AreRows}
use Rattle.rl_report.proofs.ReaderLaws.{ok_is}
use Rattle.rl_report.proofs.WordLaws.{exactly_reader, whole_reader}
use Rattle.rl_report.proofs.LineLaws.{plain_reader, node_reader}
use Rattle.rl_report.proofs.Loops.{onto, onto_nothing, one_more, one_wrong, no_more}
use Rattle.rl_report.proofs.Shorter.{more_rows, read_row, rows_shorter}

abbrev Rows : Type 0
Rows = Result (List RowLine × List Line) Fault

abbrev then_more : ℕ → ℕ → Result (RowLine × List Line) Fault → Rows
then_more most n z = z >>= λ a. many most more_rows read_row n a.1 >>= λ vs. Ok (a.0 ∷ vs.0, vs.1)

-- the numbers of rows say nothing
any_number : (k n m : ℕ) (xs : List Line) → many k more_rows read_row n xs ≡ many k more_rows read_row m xs
unfolding many
any_number zero n m xs = refl
any_number (suc k) n m xs = ap (λ (z : Rows). cond (more_rows 0 xs) z (Ok ([], xs))) (go (one row xs) (any_number k (n + 1) (m + 1)))
  where
    go : (z : Result (RowLine × List Line) Fault) → ((ys : List Line) → many k more_rows read_row (n + 1) ys ≡ many k more_rows read_row (m + 1) ys) → then_more k (n + 1) z ≡ then_more k (m + 1) z
    go (Ok a) same = ap (λ (r : Rows). r >>= λ vs. Ok (a.0 ∷ vs.0, vs.1)) (same a.1)
    go (Err e) same = refl

rows_more : (lines rest : List Line) (a : RowLine) → more_rows 1 lines ≡ true → one row lines ≡ Ok (a, rest) → rows lines ≡ onto (a ∷ []) (rows rest)
unfolding rows
rows_more lines rest a comes is =
    sym (ap (onto (a ∷ [])) (any_number (length rest + 1) 1 2 rest) ∙ one_more more_rows read_row rows_shorter 1 2 [] (a ∷ []) a lines rest comes is refl refl ∙ onto_nothing (rows lines))

rows_wrong : (lines : List Line) (e : Fault) → more_rows 1 lines ≡ true → one row lines ≡ Err e → rows lines ≡ Err e
unfolding rows
rows_wrong lines e comes wrong = sym (onto_nothing (rows lines)) ∙ one_wrong more_rows read_row rows_shorter 1 [] lines e comes wrong

rows_done : (lines : List Line) → more_rows 1 lines ≡ false → rows lines ≡ Ok ([], lines)
unfolding rows
rows_done lines ends = sym (onto_nothing (rows lines)) ∙ no_more more_rows read_row rows_shorter 1 [] lines ends

onto_onto : (before : List RowLine) (a : RowLine) (r : Rows) → onto before (onto (a ∷ []) r) ≡ onto (before ++ a ∷ []) r
onto_onto before a (Ok x) = ap (λ xs. Ok (xs, x.1)) (sym (append_assoc before (a ∷ []) x.0))
onto_onto before a (Err e) = refl

-- ---- one row after another ----

-- all rows of some lines: those before, and those that still come
abbrev pub Left : (lines rest : List Line) (before : List RowLine) → Type 0
Left lines rest before = onto before (rows rest) ≡ rows lines

pub left_first : (lines : List Line) → Left lines lines []
left_first lines = onto_nothing (rows lines)

pub left_next : (lines rest after : List Line) (before : List RowLine) (a : RowLine) → Left lines rest before → more_rows 1 rest ≡ true → one row rest ≡ Ok (a, after) → Left lines after (before ++ a ∷ [])
left_next lines rest after before a left comes is = sym (onto_onto before a (rows after)) ∙ ap (onto before) (sym (rows_more rest after a comes is)) ∙ left

pub left_fault : (lines rest : List Line) (before : List RowLine) (e : Fault) → Left lines rest before → more_rows 1 rest ≡ true → one row rest ≡ Err e → rows lines ≡ Err e
left_fault lines rest before e left comes wrong = sym left ∙ ap (onto before) (rows_wrong rest e comes wrong)

pub left_end : (lines rest : List Line) (before : List RowLine) → Left lines rest before → more_rows 1 rest ≡ false → rows lines ≡ Ok (before, rest)
left_end lines rest before left ends = sym left ∙ ap (onto before) (rows_done rest ends) ∙ ap (λ (xs : List RowLine). Ok (xs, rest)) (append-nil before)

pub there_is : (lines rest : List Line) (before : List RowLine) → rows lines ≡ Ok (before, rest) → rows_there lines ≡ before
there_is lines rest before is = ap read_or_none is

pub all_there : (lines rest : List Line) (before : List RowLine) → rows lines ≡ Ok (before, rest) → rows lines ≡ Ok (rows_there lines, rest)
all_there lines rest before is = is ∙ ap (λ (xs : List RowLine). Ok (xs, rest)) (sym (there_is lines rest before is))

pub are_rows : (lines rest : List Line) (before : List RowLine) (n : ℕ) → rows lines ≡ Ok (before, rest) → n ≡ length before → AreRows lines n
are_rows lines rest before n is counted = record {
  rest = rest;
  read = all_there lines rest before is;
  counted = counted ∙ ap length (sym (there_is lines rest before is));
}

clash : (r : Rows) (x : List RowLine × List Line) (e : Fault) → r ≡ Ok x → r ≡ Err e → ⊥
clash r x e right wrong = let both : ◌≡◌ {A = Rows} (Ok x) (Err e) = sym right ∙ wrong in cc

-- ---- the first row ----

module _ (lines : List Line) (n : ℕ) (are : AreRows lines n) (some : 0 < n) where
  comes : more_rows 1 lines ≡ true
  comes = go (more_rows 1 lines) refl
    where
      go : (b : Bool) → more_rows 1 lines ≡ b → more_rows 1 lines ≡ true
      go true is = is
      go false is =
          let none : rows_there lines ≡ [] = there_is lines lines [] (rows_done lines is) in
          absurd (omega (arith, some, are.counted, ap length none))

  pub no_fault : (e : Fault) → one row lines ≡ Err e → ⊥
  no_fault e wrong = clash (rows lines) (rows_there lines, are.rest) e are.read (rows_wrong lines e comes wrong)

  module _ (a : RowLine) (after : List Line) (is : one row lines ≡ Ok (a, after)) where
    behind : (z : Rows) → rows after ≡ z → rows lines ≡ onto (a ∷ []) z → (rest : List Line) × (behind : List RowLine) × (rows after ≡ Ok (behind, rest)) × (rows_there lines ≡ a ∷ behind)
    behind (Ok x) there all = (x.1, x.0, there, there_is lines x.1 (a ∷ x.0) all)
    behind (Err e) there all = absurd (clash (rows lines) (rows_there lines, are.rest) e are.read all)

    first_parts : (rest : List Line) × (behind : List RowLine) × (rows after ≡ Ok (behind, rest)) × (rows_there lines ≡ a ∷ behind)
    first_parts = behind (rows after) refl (rows_more lines after a comes is)

    pub first_is : rows_there lines ≡ a ∷ rows_there after
    first_is = let p = first_parts in p.3 ∙ ap (λ (xs : List RowLine). a ∷ xs) (sym (there_is after p.0 p.1 p.2))

    pub are_behind : AreRows after (n - 1)
    are_behind =
        let p = first_parts in
        are_rows after p.0 p.1 (n - 1) p.2 (omega (arith, are.counted, ap length p.3))

-- ---- the title ----

module _ {A : Type 0} (t : Title) (f : A → Report) (r : OfLines A) (each : (a : A) → (f a).title ≡ t) where
  abbrev of : Result (A × List Line) Fault → Result (Report × List Line) Fault
  of z = z >>= λ a. Ok (f a.0, a.1)

  made_title : (lines : List Line) (x : Report × List Line) → made f r lines ≡ Ok x → x.0.title ≡ t
  made_title lines x is = go (r lines) is
    where
      go : (z : Result (A × List Line) Fault) → of z ≡ Ok x → x.0.title ≡ t
      go (Ok a) e = sym (ap (λ (y : Report × List Line). y.0.title) (ok_is {E = Fault} (f a.0, a.1) x e)) ∙ each a.0
      go (Err e) wrong = absurd (cc)

-- what is read behind a title has that title
pub body_title : (t : Title) (lines : List Line) (x : Report × List Line) → body t lines ≡ Ok x → x.0.title ≡ t
unfolding body
body_title Serial lines x is =
    made_title Serial (λ (x : List ItemLine × List RowLine). record { title = Serial; middle = []; items = x.0; tables = x.1; blocks = [] }) (both items tables) (λ a. refl) lines x is
body_title Steps lines x is =
    made_title Steps (λ (x : List Middle × (List ItemLine × List RowLine)). record { title = Steps; middle = x.0; items = x.1.0; tables = x.1.1; blocks = [] }) (both refusals (both items tables)) (λ a. refl) lines x is
body_title Sim lines x is =
    made_title Sim (λ (x : List Middle × (List ItemLine × List Block)). record { title = Sim; middle = x.0; items = x.1.0; tables = []; blocks = x.1.1 }) (both effects (both items (nodes simulated))) (λ a. refl) lines x is
body_title Live lines x is =
    made_title Live (λ (x : List ItemLine × List Block). record { title = Live; middle = []; items = x.0; tables = []; blocks = x.1 }) (both items (nodes (always Plain))) (λ a. refl) lines x is

-- ---- a node ----

-- nothing is said of the state of a node in a run of threads
pub plain_head : (n : ℕ) (words : Line) (m : ℕ) (h : Head) → whole (node (exactly n) (always Plain)) words ≡ Ok (m, h) → whole (node (exactly n) (always Plain)) words ≡ Ok (m, Plain)
plain_head n words m h is =
    let plain : h ≡ Plain = ((whole_reader (node_reader (exactly_reader n) plain_reader) tt).takes words (m, h) is).1.1 in
    is ∙ ap (λ (head : Head). Ok (m, head)) plain

abbrev no_streams : Rows → Result ((List StreamLine × List RowLine) × List Line) Fault
no_streams z = z >>= λ b. Ok (([], b.0), b.1)

abbrev then_rows : (m : ℕ) → Rows → Result (Block × List Line) Fault
then_rows m z = no_streams z >>= λ a. Ok (record { node = m; head = Plain; streams = a.0.0; rows = a.0.1 }, a.1)

behind_node : (n m : ℕ) (lines behind : List Line) → one (node (exactly n) (always Plain)) lines ≡ Ok ((m, Plain), behind) → block (node (exactly n) (always Plain)) lines ≡ then_rows m (rows behind)
unfolding block parts
behind_node n m lines behind is = ap (λ (z : Result ((ℕ × Head) × List Line) Fault). z >>= λ x. parts x.0.0 x.0.1 x.1) is

pub lent_read : (n m : ℕ) (lines behind rest : List Line) (rs : List RowLine) → one (node (exactly n) (always Plain)) lines ≡ Ok ((m, Plain), behind) → rows behind ≡ Ok (rs, rest)
    → block (node (exactly n) (always Plain)) lines ≡ Ok (record { node = m; head = Plain; streams = []; rows = rs }, rest)
lent_read n m lines behind rest rs is there = behind_node n m lines behind is ∙ ap (then_rows m) there

pub lent_wrong : (n m : ℕ) (lines behind : List Line) (e : Fault) → one (node (exactly n) (always Plain)) lines ≡ Ok ((m, Plain), behind) → rows behind ≡ Err e
    → block (node (exactly n) (always Plain)) lines ≡ Err e
lent_wrong n m lines behind e is wrong = behind_node n m lines behind is ∙ ap (then_rows m) wrong
