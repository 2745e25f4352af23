-- Whole reports: what is read was printed so, and what is printed is read again.
use Rattle.std.proofs.Common.{◌≡◌, ℕ, Bool, true, false, cond, List, [], ◌∷◌, ◌++◌, All, codes, Option, Some, None, ok_or, Result, Ok, refl, sym, ap, subst, ◌∙◌, append_assoc, append-nil, arith}
use Rattle.std.specs.List.{flat_map}
use Rattle.std.specs.Str.{bytes_eq}
use Rattle.rl_base.specs.Results.{◌>>=◌}
use Rattle.rl_text.specs.Meanings.{meaning}
use Rattle.rl_text.specs.Printed.{Line}
use Rattle.rl_report.specs.declared.fault.Fault.{Fault}
use Rattle.rl_report.specs.declared.fault.ReportFault.{ReportFault}
use Rattle.rl_report.specs.declared.fault.ReportFault.TheVariants as fault
use Rattle.rl_report.specs.declared.line.ItemLine.{ItemLine}
use Rattle.rl_report.specs.declared.line.RowLine.{RowLine}
use Rattle.rl_report.specs.declared.block.Block.{Block}
use Rattle.rl_report.specs.declared.block.Head.{Head}
use Rattle.rl_report.specs.declared.block.Head.TheVariants.{Plain}
use Rattle.rl_report.specs.declared.middle.Middle.{Middle}
use Rattle.rl_report.specs.declared.report.Title.{Title}
use Rattle.rl_report.specs.declared.report.Title.TheVariants.{Serial, Steps, Sim, Live}
use Rattle.rl_report.specs.declared.report.Report.{Report}
use Rattle.rl_report.specs.Printed.{block_lines, middle_lines, title_word, table_lines, report_lines}
use Rattle.rl_report.specs.Readers.{always, both}
use Rattle.rl_report.specs.LineForms.{title_of, simulated}
use Rattle.rl_report.specs.Read.{one_line, no_line_left, items, tables, nodes, refusals, effects, body, read_lines}
use Rattle.rl_report.proofs.ReaderLaws.{bind_ok, ok_is, guard_ok, Any, IsReader, both_reader, made_reader}
use Rattle.rl_report.proofs.WordLaws.{IsLineReader, same_word}
use Rattle.rl_report.proofs.LineLaws.{SmallHead, simulated_reader, IsPlainHead, plain_reader, SmallRow, IsRefusal}
use Rattle.rl_report.proofs.SectionLaws.{line_reader, NoRow, NoItem, CountComes, NoLine, SmallItems, items_reader, items_lines, tables_reader, SmallNodes, nodes_reader, SmallMiddle, refusals_reader, effects_reader}

-- ---- titles ----

abbrev title_words : Title → Line
title_words t = codes "rolis" ∷ title_word t ∷ []

abbrev AnyTitle : Title → Type 0
AnyTitle t = Unit {0}

abbrev commands : List (List ℕ × Title)
commands = (codes "serial", Serial) ∷ (codes "steps", Steps) ∷ (codes "sim", Sim) ∷ (codes "live", Live) ∷ []

some_is : (x y : Title) → Some x ≡ Some y → x ≡ y
some_is x y e = cc

-- each command is listed with the title whose word it is
abbrev Own : List (List ℕ × Title) → Type 0
Own [] = Unit {0}
Own (entry ∷ entries) = (title_word entry.1 ≡ entry.0) × Own entries

command_is : (entries : List (List ℕ × Title)) (word : List ℕ) (t : Title) → Own entries → meaning entries word ≡ Some t → word ≡ title_word t
command_is [] word t own e = absurd cc
command_is (entry ∷ entries) word t own e = go (bytes_eq word entry.0) refl e (command_is entries word t own.1)
  where
    go : (b : Bool) → bytes_eq word entry.0 ≡ b → cond b (Some entry.1) (meaning entries word) ≡ Some t → (meaning entries word ≡ Some t → word ≡ title_word t) → word ≡ title_word t
    go true h e later = same_word word entry.0 h ∙ sym own.0 ∙ ap title_word (some_is entry.1 t e)
    go false h e later = later e

title_line : IsLineReader title_of title_words AnyTitle
title_line = record { takes = takes; again = again }
  where
    named : (o : Option Title) (t : Title) → ok_or o fault.Title ≡ Ok t → o ≡ Some t
    named None t e = absurd cc
    named (Some x) t e = ap Some (ok_is {E = ReportFault} x t e)

    takes : (line : Line) (t : Title) → title_of line ≡ Ok t → (line ≡ title_words t) × AnyTitle t
    takes (rolis ∷ command ∷ []) t e =
        let g = guard_ok (bytes_eq rolis (codes "rolis")) fault.Title (ok_or (meaning commands command) fault.Title) t e in
        let word = command_is commands command t (refl, (refl, (refl, (refl, tt)))) (named (meaning commands command) t g.1) in
        (ap (λ w. w ∷ command ∷ []) (same_word rolis (codes "rolis") g.0) ∙ ap (λ w. codes "rolis" ∷ w ∷ []) word, tt)
    takes line t e = absurd cc

    again : (t : Title) → AnyTitle t → title_of (title_words t) ≡ Ok t
    again Serial h = refl
    again Steps h = refl
    again Sim h = refl
    again Live h = refl

-- ---- what a report of each title has ----

abbrev pub body_lines : Report → List Line
body_lines r = flat_map middle_lines r.middle ++ items_lines r.items ++ table_lines r.title r.tables ++ flat_map block_lines r.blocks

pub record SerialParts (r : Report) : Type 0 where
  pub title : r.title ≡ Serial
  pub middle : r.middle ≡ []
  pub items : SmallItems r.items
  pub tables : All SmallRow r.tables
  pub blocks : r.blocks ≡ []

pub record StepsParts (r : Report) : Type 0 where
  pub title : r.title ≡ Steps
  pub middle : All IsRefusal r.middle
  pub items : SmallItems r.items
  pub tables : All SmallRow r.tables
  pub blocks : r.blocks ≡ []

pub record SimParts (r : Report) : Type 0 where
  pub title : r.title ≡ Sim
  pub middle : All SmallMiddle r.middle
  pub items : SmallItems r.items
  pub tables : r.tables ≡ []
  pub blocks : SmallNodes SmallHead r.blocks

pub record LiveParts (r : Report) : Type 0 where
  pub title : r.title ≡ Live
  pub middle : r.middle ≡ []
  pub items : SmallItems r.items
  pub tables : r.tables ≡ []
  pub blocks : SmallNodes IsPlainHead r.blocks

abbrev pub PartsOf : Title → Report → Type 0
PartsOf Serial r = SerialParts r
PartsOf Steps r = StepsParts r
PartsOf Sim r = SimParts r
PartsOf Live r = LiveParts r

-- a report's parts, and others that are the same
same_report : (r : Report) (title : Title) (middle : List Middle) (xs : List ItemLine) (rows : List RowLine) (blocks : List Block)
    → r.title ≡ title → r.middle ≡ middle → r.items ≡ xs → r.tables ≡ rows → r.blocks ≡ blocks
    → ◌≡◌ {A = Report} (record { title = title; middle = middle; items = xs; tables = rows; blocks = blocks }) r
same_report r title middle xs rows blocks a b c d e =
    λ i. record { title = (sym a) i; middle = (sym b) i; items = (sym c) i; tables = (sym d) i; blocks = (sym e) i }

abbrev tables_part : List RowLine → List Line
tables_part rows = table_lines Serial rows

serial_reader : IsReader (body Serial) body_lines SerialParts NoRow
unfolding body
serial_reader = made_reader _ body_lines SerialParts
    (both_reader items tables items_lines tables_part SmallItems (All SmallRow) NoItem NoRow items_reader tables_reader (λ rows rest all stop. refl))
    (λ a h. (append-nil (items_lines a.0 ++ tables_part a.1), record { title = refl; middle = refl; items = h.0; tables = h.1; blocks = refl }))
    (λ r h. ((r.items, r.tables), (h.items, h.tables), same_report r Serial [] r.items r.tables [] h.title h.middle refl refl h.blocks))

steps_reader : IsReader (body Steps) body_lines StepsParts NoRow
unfolding body
steps_reader = made_reader _ body_lines StepsParts
    (both_reader refusals (both items tables) (flat_map middle_lines) (λ x. items_lines x.0 ++ tables_part x.1) (All IsRefusal) (λ x. SmallItems x.0 × All SmallRow x.1) CountComes NoRow refusals_reader
    (both_reader items tables items_lines tables_part SmallItems (All SmallRow) NoItem NoRow items_reader tables_reader (λ rows rest all stop. refl)) (λ x rest fits stop. refl))
    (λ a h. (append-nil (flat_map middle_lines a.0 ++ items_lines a.1.0 ++ tables_part a.1.1) ∙ append_assoc (flat_map middle_lines a.0) (items_lines a.1.0) (tables_part a.1.1), record { title = refl; middle = h.0; items = h.1.0; tables = h.1.1; blocks = refl }))
    (λ r h. ((r.middle, (r.items, r.tables)), (h.middle, (h.items, h.tables)), same_report r Steps r.middle r.items r.tables [] h.title refl refl refl h.blocks))

no_item_first : (H : Head → Type 0) (blocks : List Block) (rest : List Line) → SmallNodes H blocks → NoItem (flat_map block_lines blocks ++ rest)
no_item_first H [] rest fits = absurd (omega (arith, fits.1))
no_item_first H (b ∷ blocks) rest fits = refl

sim_reader : IsReader (body Sim) body_lines SimParts NoLine
unfolding body
sim_reader = made_reader _ body_lines SimParts
    (both_reader effects (both items (nodes simulated)) (flat_map middle_lines) (λ x. items_lines x.0 ++ flat_map block_lines x.1) (All SmallMiddle) (λ x. SmallItems x.0 × SmallNodes SmallHead x.1) CountComes NoLine effects_reader
    (both_reader items (nodes simulated) items_lines (flat_map block_lines) SmallItems (SmallNodes SmallHead) NoItem NoLine items_reader (nodes_reader simulated_reader) (λ blocks rest fits stop. no_item_first SmallHead blocks rest fits)) (λ x rest fits stop. refl))
    (λ a h. (
      ap (λ ls. ls ++ flat_map block_lines a.1.1) (append-nil (flat_map middle_lines a.0 ++ items_lines a.1.0)) ∙ append_assoc (flat_map middle_lines a.0) (items_lines a.1.0) (flat_map block_lines a.1.1),
      record { title = refl; middle = h.0; items = h.1.0; tables = refl; blocks = h.1.1 },
    ))
    (λ r h. ((r.middle, (r.items, r.blocks)), (h.middle, (h.items, h.blocks)), same_report r Sim r.middle r.items [] r.blocks h.title refl refl h.tables refl))

live_reader : IsReader (body Live) body_lines LiveParts NoLine
unfolding body
live_reader = made_reader _ body_lines LiveParts
    (both_reader items (nodes (always Plain)) items_lines (flat_map block_lines) SmallItems (SmallNodes IsPlainHead) NoItem NoLine items_reader (nodes_reader plain_reader) (λ blocks rest fits stop. no_item_first IsPlainHead blocks rest fits))
    (λ a h. (ap (λ ls. ls ++ flat_map block_lines a.1) (append-nil (items_lines a.0)), record { title = refl; middle = refl; items = h.0; tables = refl; blocks = h.1 }))
    (λ r h. ((r.items, r.blocks), (h.items, h.blocks), same_report r Live [] r.items [] r.blocks h.title h.middle refl h.tables refl))

-- ---- the whole ----

-- what is read of a body that is the whole rest
module _ (t : Title) (r : Report) (F : Report → Type 0) (S : List Line → Type 0) (reads : IsReader (body t) body_lines F S) (stop : S []) where
  whole_takes : (lines : List Line) → (body t lines >>= λ x. no_line_left x.0 x.1) ≡ Ok r → (lines ≡ body_lines r) × F r
  whole_takes lines e =
      let x = bind_ok (body t lines) (λ x. no_line_left x.0 x.1) r e in
      let one = reads.takes lines x.0 x.1 in
      let last = left_is x.0.0 x.0.1 x.2 in
      subst (λ (r : Report). (lines ≡ body_lines r) × F r) last.0 (one.0 ∙ ap (λ ls. body_lines x.0.0 ++ ls) last.1 ∙ append-nil (body_lines x.0.0), one.1)
    where
      left_is : (q : Report) (lines : List Line) → no_line_left q lines ≡ Ok r → (q ≡ r) × (lines ≡ [])
      left_is q [] e = (ok_is {E = Fault} q r e, refl)
      left_is q (line ∷ lines) e = absurd cc

  whole_again : F r → (body t (body_lines r) >>= λ x. no_line_left x.0 x.1) ≡ Ok r
  whole_again fits =
      ap (λ ls. body t ls >>= λ x. no_line_left x.0 x.1) (sym (append-nil (body_lines r))) ∙ ap (λ (z : Result (Report × List Line) Fault). z >>= λ x. no_line_left x.0 x.1) (reads.again r [] fits stop)

abbrev titled : Title → List Line → Result Report Fault
titled t lines = body t lines >>= λ x. no_line_left x.0 x.1

body_takes : (t : Title) (r : Report) (lines : List Line) → titled t lines ≡ Ok r → (lines ≡ body_lines r) × PartsOf t r
body_takes Serial r lines e = whole_takes Serial r SerialParts NoRow serial_reader refl lines e
body_takes Steps r lines e = whole_takes Steps r StepsParts NoRow steps_reader refl lines e
body_takes Sim r lines e = whole_takes Sim r SimParts NoLine sim_reader refl lines e
body_takes Live r lines e = whole_takes Live r LiveParts NoLine live_reader refl lines e

body_again : (t : Title) (r : Report) → PartsOf t r → titled t (body_lines r) ≡ Ok r
body_again Serial r fits = whole_again Serial r SerialParts NoRow serial_reader refl fits
body_again Steps r fits = whole_again Steps r StepsParts NoRow steps_reader refl fits
body_again Sim r fits = whole_again Sim r SimParts NoLine sim_reader refl fits
body_again Live r fits = whole_again Live r LiveParts NoLine live_reader refl fits

title_is : (t : Title) (r : Report) → PartsOf t r → r.title ≡ t
title_is Serial r h = h.title
title_is Steps r h = h.title
title_is Sim r h = h.title
title_is Live r h = h.title

title_reader : IsReader (one_line title_of) (λ t. title_words t ∷ []) AnyTitle Any
title_reader = line_reader title_line

pub lines_taken : (lines : List Line) (r : Report) → read_lines lines ≡ Ok r → (lines ≡ report_lines r) × PartsOf r.title r
unfolding read_lines
lines_taken lines r e =
    let t = bind_ok (one_line title_of lines) (λ t. titled t.0 t.1) r e in
    let front = title_reader.takes lines t.0 t.1 in
    let rest = body_takes t.0.0 r t.0.1 t.2 in
    let is = title_is t.0.0 r rest.1 in
    (front.0 ∙ ap (λ t'. title_words t' ∷ t.0.1) (sym is) ∙ ap (λ ls. title_words r.title ∷ ls) rest.0, subst (λ t'. PartsOf t' r) (sym is) rest.1)

pub lines_again : (r : Report) → PartsOf r.title r → read_lines (report_lines r) ≡ Ok r
unfolding read_lines
lines_again r fits =
    ap (λ (z : Result (Title × List Line) Fault). z >>= λ t. titled t.0 t.1) (title_reader.again r.title (body_lines r) tt tt) ∙ body_again r.title r fits
