-- What a text is read as is printed so, and what is printed is read as the report again.
use Rattle.std.proofs.Common.{◌≡◌, ℕ, ◌+◌, ◌-◌, ◌^◌, ◌==◌, ◌&&◌, not, if◌then◌else◌, Bool, true, false, cond, List, [], ◌∷◌, ◌++◌, All, codes, length, map, Result, Ok, Err, refl, sym, ap, subst, ◌∙◌, arith}
use Rattle.std.specs.Fmt.{decimal}
use Rattle.std.specs.List.{flat_map, list_all}
use Rattle.std.proofs.lemmas.List.Elements.{All-nil, All-cons, All-head, All-tail, All-append, All-weaker, All-map}
use Rattle.std.specs.Prelude.{nat_le}
use Rattle.rl_base.proofs.Tests.{both}
use Rattle.rl_text.specs.Numbers.{IsNumber}
use Rattle.rl_text.specs.Printed.{Line, text_of}
use Rattle.rl_text.proofs.WordsBack.{IsWord, decimal_is_word, numbers_are_words}
use Rattle.rl_txn.specs.declared.write.End.{End}
use Rattle.rl_txn.specs.declared.write.End.TheVariants.{Done, Declined}
use Rattle.rl_report.specs.declared.fault.Fault.{Fault}
use Rattle.rl_report.specs.declared.fault.ReportFault.{ReportFault}
use Rattle.rl_report.specs.declared.fault.ReportFault.TheVariants as fault
use Rattle.rl_report.specs.declared.line.ItemLine.{ItemLine}
use Rattle.rl_report.specs.declared.line.RowLine.{RowLine}
use Rattle.rl_report.specs.declared.line.StreamLine.{StreamLine}
use Rattle.rl_report.specs.declared.block.RoleLine.{RoleLine}
use Rattle.rl_report.specs.declared.block.RoleLine.TheVariants.{Follower, Candidate, Opening, Leading}
use Rattle.rl_report.specs.declared.block.Head.{Head}
use Rattle.rl_report.specs.declared.block.Head.TheVariants.{Up, Down, Lost, Plain}
use Rattle.rl_report.specs.declared.block.Block.{Block}
use Rattle.rl_report.specs.declared.middle.Middle.{Middle}
use Rattle.rl_report.specs.declared.middle.Middle.TheVariants.{Locked, Changed, DeniedPromised, DeniedBallot, DeniedOrder, NoMessage, Opened, Shown}
use Rattle.rl_report.specs.declared.report.Title.{Title}
use Rattle.rl_report.specs.declared.report.Title.TheVariants.{Serial, Steps, Sim, Live}
use Rattle.rl_report.specs.declared.report.Report.{Report}
use Rattle.rl_report.specs.Forms.{IsReport}
use Rattle.rl_report.specs.Numbers.{HasNumbers}
use Rattle.rl_report.specs.Printed.{end_words, item_words, row_words, stream_words, role_words, at_word, head_words, block_lines, middle_lines, title_word, table_lines, report_lines, printed}
use Rattle.rl_report.specs.Read.{read_lines, read_report, numbered_fault}
use Rattle.rl_report.specs.Words.{lines_in, is_ended}
use Rattle.rl_report.proofs.ReaderLaws.{ok_is, AllFrom}
use Rattle.rl_report.proofs.WordLaws.{UpTo, Is, IsName}
use Rattle.rl_report.proofs.LineLaws.{Short, Long, SmallEnd, SmallItem, SmallRow, SmallStream, SmallRole, SmallHead, IsPlainHead, IsRefusal}
use Rattle.rl_report.proofs.SectionLaws.{SmallParts, SmallBlock, SmallNodes, SmallItems, SmallMiddle, items_lines}
use Rattle.rl_report.proofs.ReportLaws.{PartsOf, lines_taken, lines_again}
use Rattle.rl_report.proofs.FormLaws.{report_parts, is_report}
use Rattle.rl_report.proofs.TextLaws.{HasWords, IsThere, lines_back, text_ended, text_is}

-- ---- each word of a printed line is a word ----

abbrev Words : Line → Type 0
Words line = All IsWord line

fixed : (word : List ℕ) (words : Line) → IsWord word → Words words → Words (word ∷ words)
fixed word words is all = All-cons IsWord word words is all

short : (n : ℕ) (words : Line) → Short n → Words words → Words (decimal n ∷ words)
short n words small all = fixed (decimal n) words (decimal_is_word n (omega arith)) all

long : (n : ℕ) (words : Line) → Long n → Words words → Words (decimal n ∷ words)
long n words small all = fixed (decimal n) words (decimal_is_word n (omega arith)) all

none : Words []
none = All-nil IsWord

name : (word : List ℕ) (words : Line) → IsName word → Words words → Words (word ∷ words)
name [] words is all = absurd (cc)
name (b ∷ word) words is all = fixed (b ∷ word) words (omega arith, (both (not (length (b ∷ word) == 0)) (list_all (λ b. nat_le 33 b && nat_le b 126) (b ∷ word)) is).1) all

numbers : (ns : List ℕ) → All (UpTo (2 ^ 64 - 1)) ns → Words (map decimal ns)
numbers ns all = numbers_are_words ns (All-weaker (UpTo (2 ^ 64 - 1)) IsNumber (λ n small. omega arith) ns all)

ended : (e : End) → SmallEnd e → Words (end_words e)
ended Done h = fixed (codes "done") [] (omega arith, refl) none
ended (Declined op) h = fixed (codes "declined") (decimal op ∷ []) (omega arith, refl) (short op [] h none)

item : (x : ItemLine) → SmallItem x → HasWords (item_words x)
item x h =
    let tail : Line = end_words x.reply.end ++ map decimal x.reply.outs in
    let more = All-append IsWord (end_words x.reply.end) (map decimal x.reply.outs) (ended x.reply.end h.end) (numbers x.reply.outs h.outs) in
    fixed (codes "item") (decimal x.stamp.epoch ∷ decimal x.stamp.seq ∷ decimal x.worker ∷ decimal x.index ∷ tail) (omega arith, refl)
    (short x.stamp.epoch (decimal x.stamp.seq ∷ decimal x.worker ∷ decimal x.index ∷ tail) h.epoch
    (long x.stamp.seq (decimal x.worker ∷ decimal x.index ∷ tail) h.seq
    (short x.worker (decimal x.index ∷ tail) h.worker (short x.index tail h.index more))))

row : (x : RowLine) → SmallRow x → HasWords (row_words x)
row x h =
    let tail : Line = map decimal x.row in
    fixed (codes "row") (x.table ∷ decimal x.key ∷ tail) (omega arith, refl) (name x.table (decimal x.key ∷ tail) h.table (short x.key tail h.key (numbers x.row h.row.numbers)))

stream : (n : ℕ) (x : StreamLine) → SmallStream n x → HasWords (stream_words x)
stream n x h =
    fixed (codes "stream") (decimal x.stream ∷ codes "ballot" ∷ decimal x.ballot ∷ codes "len" ∷ decimal x.len ∷ codes "known" ∷ decimal x.known ∷ []) (omega arith, refl) (short x.stream (codes "ballot" ∷ decimal x.ballot ∷ codes "len" ∷ decimal x.len ∷ codes "known" ∷ decimal x.known ∷ []) h.stream.1
    (fixed (codes "ballot") (decimal x.ballot ∷ codes "len" ∷ decimal x.len ∷ codes "known" ∷ decimal x.known ∷ []) (omega arith, refl)
    (short x.ballot (codes "len" ∷ decimal x.len ∷ codes "known" ∷ decimal x.known ∷ []) h.ballot
    (fixed (codes "len") (decimal x.len ∷ codes "known" ∷ decimal x.known ∷ []) (omega arith, refl)
    (short x.len (codes "known" ∷ decimal x.known ∷ []) h.len (fixed (codes "known") (decimal x.known ∷ []) (omega arith, refl) (short x.known [] h.known none)))))))

role : (r : RoleLine) → SmallRole r → Words (role_words r)
role Follower h = fixed (codes "follower") [] (omega arith, refl) none
role (Candidate e have need) h =
    fixed (codes "candidate") (decimal e ∷ decimal have ∷ decimal need ∷ []) (omega arith, refl) (short e (decimal have ∷ decimal need ∷ []) h.0 (short have (decimal need ∷ []) h.1.0 (short need [] h.1.1 none)))
role (Opening e) h = fixed (codes "leader") (decimal e ∷ codes "opening" ∷ []) (omega arith, refl) (short e (codes "opening" ∷ []) h (fixed (codes "opening") [] (omega arith, refl) none))
role (Leading e) h = fixed (codes "leader") (decimal e ∷ codes "open" ∷ []) (omega arith, refl) (short e (codes "open" ∷ []) h (fixed (codes "open") [] (omega arith, refl) none))

arrived : (b : Bool) → IsWord (at_word b)
arrived true = (omega arith, refl)
arrived false = (omega arith, refl)

head : (x : Head) → SmallHead x → Words (head_words x)
head (Up promised r watermark at) h =
    let tail : Line = codes "watermark" ∷ decimal watermark.0 ∷ decimal watermark.1 ∷ at_word at ∷ [] in
    let more : Words tail = fixed (codes "watermark") (decimal watermark.0 ∷ decimal watermark.1 ∷ at_word at ∷ []) (omega arith, refl)
    (short watermark.0 (decimal watermark.1 ∷ at_word at ∷ []) h.1.1.0 (long watermark.1 (at_word at ∷ []) h.1.1.1.0 (fixed (at_word at) [] (arrived at) none))) in
    fixed (codes "up") (codes "promised" ∷ decimal promised ∷ (role_words r ++ tail)) (omega arith, refl)
    (fixed (codes "promised") (decimal promised ∷ (role_words r ++ tail)) (omega arith, refl) (short promised (role_words r ++ tail) h.0 (All-append IsWord (role_words r) tail (role r h.1.0) more)))
head (Down promised) h = fixed (codes "down") (codes "promised" ∷ decimal promised ∷ []) (omega arith, refl) (fixed (codes "promised") (decimal promised ∷ []) (omega arith, refl) (short promised [] h none))
head Lost h = fixed (codes "lost") [] (omega arith, refl) none
head Plain h = none

-- ---- each line of a report has words ----

abbrev Lines : List Line → Type 0
Lines lines = All HasWords lines

no_lines : Lines []
no_lines = All-nil HasWords

over : {A : Type 0} (P : A → Type 0) (f : A → List Line) → ((x : A) → P x → Lines (f x)) → (xs : List A) → All P xs → Lines (flat_map f xs)
over P f each [] all = no_lines
over P f each (x ∷ xs) all = All-append HasWords (f x) (flat_map f xs) (each x (All-head P x xs all)) (over P f each xs (All-tail P x xs all))

lines_over : {A : Type 0} (P : A → Type 0) (f : A → Line) → ((x : A) → P x → HasWords (f x)) → (xs : List A) → All P xs → Lines (map f xs)
lines_over P f each xs all = All-map HasWords f xs (All-weaker P (λ x. HasWords (f x)) each xs all)

by_number : {A : Type 0} (F : ℕ → A → Type 0) (f : A → List Line) → ((n : ℕ) (x : A) → F n x → Lines (f x)) → (n : ℕ) (xs : List A) → AllFrom F n xs → Lines (flat_map f xs)
by_number F f each n [] all = no_lines
by_number F f each n (x ∷ xs) all = All-append HasWords (f x) (flat_map f xs) (each n x all.0) (by_number F f each (n + 1) xs all.1)

streams : (n : ℕ) (ss : List StreamLine) → AllFrom SmallStream n ss → Lines (map stream_words ss)
streams n [] all = no_lines
streams n (s ∷ ss) all = All-cons HasWords (stream_words s) (map stream_words ss) (stream n s all.0) (streams (n + 1) ss all.1)

parts : (x : Head) (ss : List StreamLine) (rs : List RowLine) → SmallParts x ss rs → Lines (map stream_words ss ++ map row_words rs)
parts (Up promised r watermark at) ss rs h = All-append HasWords (map stream_words ss) (map row_words rs) (streams 1 ss h.0.0) (lines_over SmallRow row_words row rs h.1)
parts (Down promised) ss rs h = All-append HasWords (map stream_words ss) (map row_words rs) (streams 1 ss h.0.0) (subst (λ (rs : List RowLine). Lines (map row_words rs)) (sym h.1) no_lines)
parts Lost ss rs h = All-append HasWords (map stream_words ss) (map row_words rs) (subst (λ (ss : List StreamLine). Lines (map stream_words ss)) (sym h.0) no_lines) (subst (λ (rs : List RowLine). Lines (map row_words rs)) (sym h.1) no_lines)
parts Plain ss rs h = All-append HasWords (map stream_words ss) (map row_words rs) (subst (λ (ss : List StreamLine). Lines (map stream_words ss)) (sym h.0) no_lines) (lines_over SmallRow row_words row rs h.1)

block : (N : ℕ → Type 0) (H : Head → Type 0) → ((n : ℕ) → N n → Short n) → ((x : Head) → H x → Words (head_words x)) → (b : Block) → SmallBlock N H b → Lines (block_lines b)
block N H number words b h =
    All-cons HasWords (codes "node" ∷ decimal b.node ∷ head_words b.head) (map stream_words b.streams ++ map row_words b.rows)
    (fixed (codes "node") (decimal b.node ∷ head_words b.head) (omega arith, refl) (short b.node (head_words b.head) (number b.node h.0.0) (words b.head h.0.1)))
    (parts b.head b.streams b.rows h.1)

nodes : (H : Head → Type 0) → ((x : Head) → H x → Words (head_words x)) → (bs : List Block) → SmallNodes H bs → Lines (flat_map block_lines bs)
nodes H words bs h = by_number (λ n. SmallBlock (Is n) H) block_lines (λ n b fits. block (Is n) H (λ m is. is.1) words b fits) 1 bs h.0

plain_words : (x : Head) → IsPlainHead x → Words (head_words x)
plain_words x is = subst (λ (x : Head). Words (head_words x)) (sym is) none

one : (line : Line) → HasWords line → Lines (line ∷ [])
one line h = All-cons HasWords line [] h no_lines

denied : (why : List ℕ) (m d kept : ℕ) → IsWord why → Long m × (Short d × Short kept) → Lines ((codes "denied" ∷ decimal m ∷ decimal d ∷ why ∷ decimal kept ∷ []) ∷ [])
denied why m d kept is h =
    one (codes "denied" ∷ decimal m ∷ decimal d ∷ why ∷ decimal kept ∷ []) (fixed (codes "denied") (decimal m ∷ decimal d ∷ why ∷ decimal kept ∷ []) (omega arith, refl)
    (long m (decimal d ∷ why ∷ decimal kept ∷ []) h.0 (short d (why ∷ decimal kept ∷ []) h.1.0 (fixed why (decimal kept ∷ []) is (short kept [] h.1.1 none)))))

middle : (m : Middle) → SmallMiddle m → Lines (middle_lines m)
middle (Locked e w i t k word) h =
    let last : Line = decimal word ∷ [] in
    let key : Line = decimal k ∷ last in
    let cause : Line = codes "locked" ∷ t ∷ key in
    one (codes "refused" ∷ decimal e ∷ decimal w ∷ decimal i ∷ cause) (fixed (codes "refused") (decimal e ∷ decimal w ∷ decimal i ∷ cause) (omega arith, refl)
    (short e (decimal w ∷ decimal i ∷ cause) h.0 (short w (decimal i ∷ cause) h.1.0 (short i cause h.1.1.0 (fixed (codes "locked") (t ∷ key) (omega arith, refl) (name t key h.1.1.1.0 (short k last h.1.1.1.1.0 (long word [] h.1.1.1.1.1 none))))))))
middle (Changed e w i t k seen found) h =
    let last : Line = decimal seen ∷ decimal found ∷ [] in
    let key : Line = decimal k ∷ last in
    let cause : Line = codes "changed" ∷ t ∷ key in
    one (codes "refused" ∷ decimal e ∷ decimal w ∷ decimal i ∷ cause) (fixed (codes "refused") (decimal e ∷ decimal w ∷ decimal i ∷ cause) (omega arith, refl)
    (short e (decimal w ∷ decimal i ∷ cause) h.0 (short w (decimal i ∷ cause) h.1.0 (short i cause h.1.1.0 (fixed (codes "changed") (t ∷ key) (omega arith, refl) (name t key h.1.1.1.0 (short k last h.1.1.1.1.0 (long seen (decimal found ∷ []) h.1.1.1.1.1.0 (long found [] h.1.1.1.1.1.1 none)))))))))
middle (DeniedPromised m d kept) h = denied (codes "promised") m d kept (omega arith, refl) h
middle (DeniedBallot m d kept) h = denied (codes "ballot") m d kept (omega arith, refl) h
middle (DeniedOrder m d kept) h = denied (codes "order") m d kept (omega arith, refl) h
middle (NoMessage m) h = one (codes "nomessage" ∷ decimal m ∷ []) (fixed (codes "nomessage") (decimal m ∷ []) (omega arith, refl) (long m [] h none))
middle (Opened e d count) h = one (codes "opened" ∷ decimal e ∷ decimal d ∷ decimal count ∷ []) (fixed (codes "opened") (decimal e ∷ decimal d ∷ decimal count ∷ []) (omega arith, refl) (short e (decimal d ∷ decimal count ∷ []) h.0 (short d (decimal count ∷ []) h.1.0 (short count [] h.1.1 none))))
middle (Shown b) h = block Short SmallHead (λ n small. small) head b h

refusal : (m : Middle) → IsRefusal m → SmallMiddle m
refusal (Locked e w i t k word) h = h
refusal (Changed e w i t k seen found) h = h
refusal m h = absurd h

items : (xs : List ItemLine) → SmallItems xs → Lines (items_lines xs)
items xs h =
    All-cons HasWords (codes "items" ∷ decimal (length xs) ∷ []) (map item_words xs) (fixed (codes "items") (decimal (length xs) ∷ []) (omega arith, refl) (long (length xs) [] h.0 none)) (lines_over SmallItem item_words item xs h.1)

title : (t : Title) → HasWords (codes "rolis" ∷ title_word t ∷ [])
title Serial = fixed (codes "rolis") (codes "serial" ∷ []) (omega arith, refl) (fixed (codes "serial") [] (omega arith, refl) none)
title Steps = fixed (codes "rolis") (codes "steps" ∷ []) (omega arith, refl) (fixed (codes "steps") [] (omega arith, refl) none)
title Sim = fixed (codes "rolis") (codes "sim" ∷ []) (omega arith, refl) (fixed (codes "sim") [] (omega arith, refl) none)
title Live = fixed (codes "rolis") (codes "live" ∷ []) (omega arith, refl) (fixed (codes "live") [] (omega arith, refl) none)

tables : (rs : List RowLine) → All SmallRow rs → Lines ((codes "tables" ∷ []) ∷ map row_words rs)
tables rs all = All-cons HasWords (codes "tables" ∷ []) (map row_words rs) (fixed (codes "tables") [] (omega arith, refl) none) (lines_over SmallRow row_words row rs all)

record Sections (r : Report) : Type 0 where
  middle : Lines (flat_map middle_lines r.middle)
  items : Lines (items_lines r.items)
  tables : Lines (table_lines r.title r.tables)
  blocks : Lines (flat_map block_lines r.blocks)

no_middle : (ms : List Middle) → ms ≡ [] → Lines (flat_map middle_lines ms)
no_middle ms is = subst (λ (ms : List Middle). Lines (flat_map middle_lines ms)) (sym is) no_lines

no_blocks : (bs : List Block) → bs ≡ [] → Lines (flat_map block_lines bs)
no_blocks bs is = subst (λ (bs : List Block). Lines (flat_map block_lines bs)) (sym is) no_lines

sections : (t : Title) (r : Report) → r.title ≡ t → PartsOf t r → Sections r
sections Serial r is h = record { middle = no_middle r.middle h.middle; items = items r.items h.items; tables = subst (λ t. Lines (table_lines t r.tables)) (sym is) (tables r.tables h.tables); blocks = no_blocks r.blocks h.blocks }
sections Steps r is h = record {
  middle = over IsRefusal middle_lines (λ m fits. middle m (refusal m fits)) r.middle h.middle;
  items = items r.items h.items;
  tables = subst (λ t. Lines (table_lines t r.tables)) (sym is) (tables r.tables h.tables);
  blocks = no_blocks r.blocks h.blocks;
}
sections Sim r is h = record { middle = over SmallMiddle middle_lines middle r.middle h.middle; items = items r.items h.items; tables = subst (λ t. Lines (table_lines t r.tables)) (sym is) no_lines; blocks = nodes SmallHead head r.blocks h.blocks }
sections Live r is h = record { middle = no_middle r.middle h.middle; items = items r.items h.items; tables = subst (λ t. Lines (table_lines t r.tables)) (sym is) no_lines; blocks = nodes IsPlainHead plain_words r.blocks h.blocks }

all_lines : (r : Report) → PartsOf r.title r → Lines (report_lines r)
all_lines r h =
    let s = sections r.title r refl h in
    let first : List Line = (codes "rolis" ∷ title_word r.title ∷ []) ∷ flat_map middle_lines r.middle in
    All-append HasWords (first ++ items_lines r.items ++ table_lines r.title r.tables) (flat_map block_lines r.blocks)
    (All-append HasWords (first ++ items_lines r.items) (table_lines r.title r.tables)
    (All-append HasWords first (items_lines r.items) (All-cons HasWords (codes "rolis" ∷ title_word r.title ∷ []) (flat_map middle_lines r.middle) (title r.title) s.middle) s.items) s.tables) s.blocks

there : (line : Line) → HasWords line → IsThere line
there [] h = h
there (w ∷ words) h = tt

-- ---- both ways ----

pub read_is_printed : (text : List ℕ) (r : Report) → read_report text ≡ Ok r → (text ≡ printed r) × IsReport r
read_is_printed text r e = go (read_lines (lines_in text)) refl e
  where
    kept : (b : Bool) (q : Report) (d : ℕ × ReportFault) → cond b (Ok q) (Err d) ≡ Ok r → (b ≡ true) × (q ≡ r)
    kept true q d e = (refl, ok_is {E = ℕ × ReportFault} q r e)
    kept false q d e = absurd cc

    go : (z : Result Report Fault) → read_lines (lines_in text) ≡ z → ◌≡◌ {A = Result Report (ℕ × ReportFault)} (elim z [
      | Ok report ↦ if is_ended text then Ok report else Err (length (lines_in text), fault.End)
      | Err f ↦ Err (numbered_fault (length (lines_in text)) (is_ended text) f)
    ]) (Ok r) → (text ≡ printed r) × IsReport r
    go (Err f) is e = absurd cc
    go (Ok q) is e =
        let k = kept (is_ended text) q (length (lines_in text), fault.End) e in
        let taken = lines_taken (lines_in text) q is in
        let have = subst (λ (ls : List Line). All IsThere ls) (sym taken.0) (All-weaker HasWords IsThere there (report_lines q) (all_lines q taken.1)) in
        subst (λ (q : Report). (text ≡ printed q) × IsReport q) k.1 (text_is text k.0 have ∙ ap text_of taken.0, is_report q taken.1)

pub printed_is_read : (r : Report) → IsReport r → HasNumbers r → read_report (printed r) ≡ Ok r
printed_is_read r form small =
    let fits = report_parts r form small in
    let lines : lines_in (printed r) ≡ report_lines r = lines_back (report_lines r) (all_lines r fits) in
    let read : read_lines (lines_in (printed r)) ≡ Ok r = ap read_lines lines ∙ lines_again r fits in
    ap (λ (z : Result Report Fault). elim z [
      | Ok report ↦ if is_ended (printed r) then Ok report else Err (length (lines_in (printed r)), fault.End)
      | Err f ↦ Err (numbered_fault (length (lines_in (printed r))) (is_ended (printed r)) f)
    ]) read ∙ ap (λ b. cond b (Ok r) (Err (length (lines_in (printed r)), fault.End))) (text_ended (report_lines r))

-- a text whose lines are read, and which is ended
read_so : (text : List ℕ) (r : Report) (ended : Bool) → ended ≡ is_ended text → ended ≡ true → read_lines (lines_in text) ≡ Ok r → read_report text ≡ Ok r
read_so text r ended is all lines =
    ap (λ (z : Result Report Fault). elim z [
      | Ok report ↦ if is_ended text then Ok report else Err (length (lines_in text), fault.End)
      | Err f ↦ Err (numbered_fault (length (lines_in text)) (is_ended text) f)
    ]) lines ∙ ap (λ b. cond b (Ok r) (Err (length (lines_in text), fault.End))) (sym is ∙ all)

pub printed_so : (text : List ℕ) (r : Report) (ended : Bool) → ended ≡ is_ended text → ended ≡ true → read_lines (lines_in text) ≡ Ok r → text ≡ printed r
printed_so text r ended is all lines = (read_is_printed text r (read_so text r ended is all lines)).0

pub form_so : (text : List ℕ) (r : Report) (ended : Bool) → ended ≡ is_ended text → ended ≡ true → read_lines (lines_in text) ≡ Ok r → IsReport r
form_so text r ended is all lines = (read_is_printed text r (read_so text r ended is all lines)).1
