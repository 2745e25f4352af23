-- The sections of a report: what is read was printed so, and what is printed is read again.
use Rattle.std.proofs.Common.{◌≡◌, ◌⊎◌, inl, inr, ℕ, suc, ◌+◌, ◌<◌, ◌==◌, ◌||◌, not, Bool, true, false, cond, List, [], ◌∷◌, ◌++◌, All, codes, length, map, Result, Ok, Err, refl, sym, ap, subst, ◌∙◌, arith, length-append}
use Rattle.std.specs.Fmt.{decimal}
use Rattle.std.specs.List.{flat_map}
use Rattle.std.specs.Str.{bytes_eq}
use Rattle.std.proofs.lemmas.Bool.Decides.{nat_tests}
use Rattle.std.proofs.lemmas.List.Concat.{flat_map_single}
use Rattle.std.proofs.lemmas.List.Elements.{All-nil, All-cons, All-head, All-tail}
use Rattle.rl_base.specs.Results.{◌>>=◌}
use Rattle.rl_text.specs.Printed.{Line}
use Rattle.rl_report.specs.declared.fault.Fault.{Fault}
use Rattle.rl_report.specs.declared.fault.ReportFault.{ReportFault}
use Rattle.rl_report.specs.declared.fault.ReportFault.TheVariants.{Count}
use Rattle.rl_report.specs.declared.line.ItemLine.{ItemLine}
use Rattle.rl_report.specs.declared.line.RowLine.{RowLine}
use Rattle.rl_report.specs.declared.line.StreamLine.{StreamLine}
use Rattle.rl_report.specs.declared.block.Block.{Block}
use Rattle.rl_report.specs.declared.block.Head.{Head}
use Rattle.rl_report.specs.declared.block.Head.TheVariants.{Up, Down, Lost, Plain}
use Rattle.rl_report.specs.declared.middle.Middle.{Middle}
use Rattle.rl_report.specs.declared.middle.Middle.TheVariants.{Locked, Changed, DeniedPromised, DeniedBallot, DeniedOrder, NoMessage, Opened, Shown}
use Rattle.rl_report.specs.Printed.{item_words, row_words, stream_words, head_words, block_lines, middle_lines}
use Rattle.rl_report.specs.Readers.{Reader, always, both, made, several, many}
use Rattle.rl_report.specs.Words.{OfWords, begins, short, exactly, whole}
use Rattle.rl_report.specs.LineForms.{item, row, stream, simulated, node, refused, effect}
use Rattle.rl_report.specs.Read.{OfLines, fault_at, told, one_line, one, next_begins, due_item, no_more_items, count, items, rows, tables_line, tables, streams, parts, block, nodes, refusals, any_effect, effects}
use Rattle.rl_report.proofs.ReaderLaws.{bind_ok, ok_is, guard_ok, Any, IsReader, always_reader, both_reader, made_reader, reprinted, choice_reader, several_reader, AllFrom, many_takes, many_some, many_again, fewer}
use Rattle.rl_report.proofs.WordLaws.{Is, IsLineReader, behind_reader, short_reader, long_reader, exactly_reader, whole_reader, same_word}
use Rattle.rl_report.proofs.LineLaws.{Short, Long, SmallItem, item_reader, SmallRow, row_reader, SmallStream, stream_reader, SmallHead, simulated_reader, node_words, node_reader, effect_words, SmallEffect, IsRefusal, refused_reader, effect_reader}

-- ---- lines ----

told_is : {A : Type 0} (lines rest : List Line) (r : Result A ReportFault) (a : A × List Line) → told lines rest r ≡ Ok a → (r ≡ Ok a.0) × (rest ≡ a.1)
told_is {A} lines rest (Ok x) a e = let same : (x, rest) ≡ a = ok_is {E = Fault} (x, rest) a e in (ap (λ (a : A × List Line). Ok a.0) same, ap (λ (a : A × List Line). a.1) same)
told_is lines rest (Err kind) a e = absurd cc

pub line_reader : {A : Type 0} {read : Line → Result A ReportFault} {p : A → Line} {F : A → Type 0} → IsLineReader read p F → IsReader (one_line read) (λ a. p a ∷ []) F Any
unfolding one_line
line_reader {A} {read} {p} {F} reads = record { takes = takes; again = again }
  where
    takes : (lines : List Line) (a : A × List Line) → one_line read lines ≡ Ok a → (lines ≡ p a.0 ∷ a.1) × F a.0
    takes [] a e = absurd cc
    takes (line ∷ lines) a e =
        let t = told_is (line ∷ lines) lines (read line) a e in
        let one = reads.takes line a.0 t.0 in
        (ap (λ l. l ∷ lines) one.0 ∙ ap (λ ls. p a.0 ∷ ls) t.1, one.1)

    again : (a : A) (rest : List Line) → F a → Any rest → one_line read (p a ∷ rest) ≡ Ok (a, rest)
    again a rest fits stop = ap (told (p a ∷ rest) rest) (reads.again a fits)

stops_less : {X E A : Type 0} {r : Reader X E A} {p : A → List X} {F : A → Type 0} {S : List X → Type 0} (T : List X → Type 0) → IsReader r p F S → ((rest : List X) → T rest → S rest) → IsReader r p F T
stops_less T reads less = record { takes = reads.takes; again = λ a rest fits stop. reads.again a rest fits (less rest stop) }

-- ---- several lines, as long as they come ----

-- numbered values up to one that does not come; C is what their number keeps
module _ {A : Type 0} (more : ℕ → List Line → Bool) (read : ℕ → OfLines A) (p : A → List Line) (F : ℕ → A → Type 0) (C : List A → Type 0) (S T : List Line → Type 0)
    (reads : (n : ℕ) → IsReader (read n) p (F n) S) (stop_less : (rest : List Line) → T rest → S rest)
    (some : (n : ℕ) (a : A) → F n a → 0 < length (p a))
    (goes : (n : ℕ) (a : A) (tail : List Line) → F n a → S tail → (more n (p a ++ tail) ≡ true) × S (p a ++ tail))
    (ends : (vs : List A) (rest : List Line) → C vs → T rest → more (1 + length vs) rest ≡ false)
    (counts : (lines : List Line) (y : List A × List Line) → many (length lines + 1) more read 1 lines ≡ Ok y → C y.0) where
  pub lines_reader : IsReader (λ lines. many (length lines + 1) more read 1 lines) (flat_map p) (λ vs. AllFrom F 1 vs × C vs) T
  lines_reader = record { takes = takes; again = again }
    where
      takes : (lines : List Line) (y : List A × List Line) → many (length lines + 1) more read 1 lines ≡ Ok y → (lines ≡ flat_map p y.0 ++ y.1) × (AllFrom F 1 y.0 × C y.0)
      takes lines y e = let t = many_takes more read p F S reads (length lines + 1) 1 lines y e in (t.0, (t.1, counts lines y e))

      again : (vs : List A) (rest : List Line) → AllFrom F 1 vs × C vs → T rest → many (length (flat_map p vs ++ rest) + 1) more read 1 (flat_map p vs ++ rest) ≡ Ok (vs, rest)
      again vs rest fits stop =
          (many_again more read p F S reads (length (flat_map p vs ++ rest) + 1) 1 vs rest fits.0 (stop_less rest stop)
          (omega (arith, length-append (flat_map p vs) rest, fewer more read p F S reads vs 1 fits.0 some)) (ends vs rest fits.1 stop) goes).0

alike : {A : Type 0} (P : A → Type 0) (n : ℕ) (vs : List A) → AllFrom (λ m. P) n vs → All P vs
alike P n [] all = All-nil P
alike P n (a ∷ vs) all = All-cons P a vs all.0 (alike P (n + 1) vs all.1)

from_alike : {A : Type 0} (P : A → Type 0) (n : ℕ) (vs : List A) → All P vs → AllFrom (λ m. P) n vs
from_alike P n [] all = tt
from_alike P n (a ∷ vs) all = (All-head P a vs all, from_alike P (n + 1) vs (All-tail P a vs all))

abbrev Uncounted : {A : Type 0} → List A → Type 0
Uncounted vs = Unit {0}

abbrev pub NoRow : List Line → Type 0
NoRow rest = next_begins (codes "row") rest ≡ false

abbrev pub NoStream : List Line → Type 0
NoStream rest = next_begins (codes "stream") rest ≡ false

abbrev pub NoItem : List Line → Type 0
NoItem rest = next_begins (codes "item") rest ≡ false

abbrev pub NoPart : List Line → Type 0
NoPart rest = NoRow rest × NoStream rest

pub rows_reader : IsReader rows (map row_words) (All SmallRow) NoRow
unfolding rows
rows_reader = reprinted (map row_words) (All SmallRow)
    (lines_reader (λ n. next_begins (codes "row")) (λ n. one row) (λ x. row_words x ∷ []) (λ n. SmallRow) Uncounted Any NoRow
    (λ n. line_reader (whole_reader row_reader refl)) (λ rest stop. tt) (λ n a fits. omega arith) (λ n a tail fits stop. (refl, tt)) (λ vs rest c stop. stop) (λ lines y e. tt))
    (λ xs all. (sym (flat_map_single row_words xs), alike SmallRow 1 xs all.0))
    (λ xs all. (from_alike SmallRow 1 xs all, tt))

or_true : (b : Bool) → (b || true) ≡ true
or_true true = refl
or_true false = refl

-- streams from the first on, of which there is one
abbrev pub SmallStreams : List StreamLine → Type 0
SmallStreams xs = AllFrom SmallStream 1 xs × (0 < length xs)

abbrev more_streams : ℕ → List Line → Bool
more_streams n lines = (n == 1) || next_begins (codes "stream") lines

pub streams_reader : IsReader streams (map stream_words) SmallStreams NoStream
unfolding streams
streams_reader = reprinted (map stream_words) SmallStreams
    (lines_reader more_streams (λ n. one (stream n)) (λ x. stream_words x ∷ []) SmallStream (λ xs. 0 < length xs) Any NoStream
    (λ n. line_reader (whole_reader (stream_reader n) tt)) (λ rest stop. tt) (λ n a fits. omega arith) (λ n a tail fits stop. (or_true (n == 1), tt)) ends counts)
    (λ xs all. (sym (flat_map_single stream_words xs), all)) (λ xs all. all)
  where
    ends : (vs : List StreamLine) (rest : List Line) → 0 < length vs → NoStream rest → more_streams (1 + length vs) rest ≡ false
    ends vs rest some stop = let later : (1 + length vs == 1) ≡ false = grind (arith, nat_tests) in rw (later, stop) refl

    counts : (lines : List Line) (y : List StreamLine × List Line) → many (length lines + 1) more_streams (λ n. one (stream n)) 1 lines ≡ Ok y → 0 < length y.0
    counts lines y e =
        many_some more_streams (λ n. one (stream n)) (λ x. stream_words x ∷ []) SmallStream Any (λ n. line_reader (whole_reader (stream_reader n) tt)) (length lines) 1 lines y refl
        (ap (λ n. many n more_streams (λ n. one (stream n)) 1 lines) (omega arith) ∙ e)

-- ---- nodes ----

-- what a node has, by its state
abbrev pub SmallParts : Head → List StreamLine → List RowLine → Type 0
SmallParts (Up promised role watermark at) ss rs = SmallStreams ss × All SmallRow rs
SmallParts (Down promised) ss rs = SmallStreams ss × (rs ≡ [])
SmallParts Lost ss rs = (ss ≡ []) × (rs ≡ [])
SmallParts Plain ss rs = (ss ≡ []) × All SmallRow rs

abbrev pub parts_lines : Block → List Line
parts_lines b = map stream_words b.streams ++ map row_words b.rows

pub record PartsOf (node : ℕ) (head : Head) (b : Block) : Type 0 where
  pub own_node : b.node ≡ node
  pub own_head : b.head ≡ head
  pub parts : SmallParts head b.streams b.rows

rows_first : (rs : List RowLine) (rest : List Line) → All SmallRow rs → NoPart rest → NoStream (map row_words rs ++ rest)
rows_first [] rest all stop = stop.1
rows_first (r ∷ rs) rest all stop = refl

abbrev IsNone : {A : Type 0} → List A → Type 0
IsNone xs = xs ≡ []

no_streams : IsReader {E = Fault} (always []) (map stream_words) IsNone NoPart
no_streams = reprinted (map stream_words) IsNone (always_reader [] NoPart) (λ xs is. (ap (map stream_words) is, is)) (λ xs is. is)

no_rows : IsReader {E = Fault} (always []) (map row_words) IsNone NoPart
no_rows = reprinted (map row_words) IsNone (always_reader [] NoPart) (λ xs is. (ap (map row_words) is, is)) (λ xs is. is)

some_rows : IsReader rows (map row_words) (All SmallRow) NoPart
some_rows = stops_less NoPart rows_reader (λ rest stop. stop.0)

-- streams and rows are those of a block
made_block : (node : ℕ) (head : Head) (r : OfLines (List StreamLine)) (s : OfLines (List RowLine)) (F : List StreamLine → Type 0) (G : List RowLine → Type 0)
    → IsReader (both r s) (λ x. map stream_words x.0 ++ map row_words x.1) (λ x. F x.0 × G x.1) NoPart
    → ((ss : List StreamLine) (rs : List RowLine) → F ss → G rs → SmallParts head ss rs) → ((ss : List StreamLine) (rs : List RowLine) → SmallParts head ss rs → F ss × G rs)
    → IsReader (made (λ x. record { node = node; head = head; streams = x.0; rows = x.1 }) (both r s)) parts_lines (PartsOf node head) NoPart
made_block node head r s F G reads to from = made_reader _ parts_lines (PartsOf node head) reads
    (λ a h. (refl, record { own_node = refl; own_head = refl; parts = to a.0 a.1 h.0 h.1 }))
    (λ b h. ((b.streams, b.rows), from b.streams b.rows h.parts, λ i. record { node = (sym h.own_node) i; head = (sym h.own_head) i; streams = b.streams; rows = b.rows }))

parts_reader : (node : ℕ) (head : Head) → IsReader (parts node head) parts_lines (PartsOf node head) NoPart
unfolding parts
parts_reader node (Up promised role watermark at) =
    made_block node (Up promised role watermark at) streams rows SmallStreams (All SmallRow)
    (both_reader streams rows (map stream_words) (map row_words) SmallStreams (All SmallRow) NoStream NoPart streams_reader some_rows rows_first)
    (λ ss rs f g. (f, g)) (λ ss rs h. h)
parts_reader node (Down promised) =
    made_block node (Down promised) streams (always []) SmallStreams IsNone
    (both_reader streams (always []) (map stream_words) (map row_words) SmallStreams IsNone NoStream NoPart streams_reader no_rows (λ rs rest is stop. subst (λ (rs : List RowLine). NoStream (map row_words rs ++ rest)) (sym is) stop.1))
    (λ ss rs f g. (f, g)) (λ ss rs h. h)
parts_reader node Lost =
    made_block node Lost (always []) (always []) IsNone IsNone
    (both_reader (always []) (always []) (map stream_words) (map row_words) IsNone IsNone NoPart NoPart no_streams no_rows (λ rs rest is stop. subst (λ (rs : List RowLine). NoPart (map row_words rs ++ rest)) (sym is) stop))
    (λ ss rs f g. (f, g)) (λ ss rs h. h)
parts_reader node Plain =
    made_block node Plain (always []) rows IsNone (All SmallRow)
    (both_reader (always []) rows (map stream_words) (map row_words) IsNone (All SmallRow) Any NoPart (reprinted (map stream_words) IsNone (always_reader [] Any) (λ xs is. (ap (map stream_words) is, is)) (λ xs is. is)) some_rows (λ rs rest all stop. tt))
    (λ ss rs f g. (f, g)) (λ ss rs h. h)

-- a node whose number and state fit, with what it has
abbrev pub SmallBlock : (ℕ → Type 0) → (Head → Type 0) → Block → Type 0
SmallBlock N H b = (N b.node × H b.head) × SmallParts b.head b.streams b.rows

pub block_reader : {r : OfWords (ℕ × Head)} (N : ℕ → Type 0) (H : Head → Type 0) → IsReader r node_words (λ x. N x.0 × H x.1) Any → IsReader (block r) block_lines (SmallBlock N H) NoPart
unfolding block
block_reader {r} N H reads = record { takes = takes; again = again }
  where
    first : IsReader (one r) (λ x. node_words x ∷ []) (λ x. N x.0 × H x.1) Any
    first = line_reader (whole_reader reads tt)

    takes : (lines : List Line) (b : Block × List Line) → block r lines ≡ Ok b → (lines ≡ block_lines b.0 ++ b.1) × SmallBlock N H b.0
    takes lines b e =
        let x = bind_ok (one r lines) (λ x. parts x.0.0 x.0.1 x.1) b e in
        let head = first.takes lines x.0 x.1 in
        let rest = (parts_reader x.0.0.0 x.0.0.1).takes x.0.1 b x.2 in
        let line : node_words x.0.0 ≡ node_words (b.0.node, b.0.head) = ap (λ n. node_words (n, x.0.0.1)) (sym rest.1.own_node) ∙ ap (λ h. node_words (b.0.node, h)) (sym rest.1.own_head) in (
          head.0 ∙ ap (λ l. l ∷ x.0.1) line ∙ ap (λ ls. node_words (b.0.node, b.0.head) ∷ ls) rest.0,
          ((subst N (sym rest.1.own_node) head.1.0, subst H (sym rest.1.own_head) head.1.1), subst (λ (h : Head). SmallParts h b.0.streams b.0.rows) (sym rest.1.own_head) rest.1.parts),
        )

    again : (b : Block) (rest : List Line) → SmallBlock N H b → NoPart rest → block r (block_lines b ++ rest) ≡ Ok (b, rest)
    again b rest fits stop =
        ap (λ (z : Result ((ℕ × Head) × List Line) Fault). z >>= λ x. parts x.0.0 x.0.1 x.1) (first.again (b.node, b.head) (parts_lines b ++ rest) fits.0 tt)
        ∙ (parts_reader b.node b.head).again b rest (record { own_node = refl; own_head = refl; parts = fits.1 }) stop

not_none : (n : ℕ) → (suc n == 0) ≡ false
not_none n = grind (arith, nat_tests)

abbrev more_nodes : ℕ → List Line → Bool
more_nodes n lines = (n == 1) || not (length lines == 0)

abbrev pub NoLine : List Line → Type 0
NoLine rest = rest ≡ []

-- nodes from the first on, of which there is one
abbrev pub SmallNodes : (Head → Type 0) → List Block → Type 0
SmallNodes H bs = AllFrom (λ n. SmallBlock (Is n) H) 1 bs × (0 < length bs)

pub nodes_reader : {head : OfWords Head} {H : Head → Type 0} → IsReader head head_words H Any → IsReader (nodes head) (flat_map block_lines) (SmallNodes H) NoLine
unfolding nodes
nodes_reader {head} {H} reads =
    lines_reader more_nodes (λ n. block (node (exactly n) head)) block_lines (λ n. SmallBlock (Is n) H) (λ bs. 0 < length bs) NoPart NoLine each
    (λ rest is. subst NoPart (sym is) (refl, refl)) (λ n b fits. omega arith) (λ n b tail fits stop. (comes n b tail, (refl, refl))) ends counts
  where
    each : (n : ℕ) → IsReader (block (node (exactly n) head)) block_lines (SmallBlock (Is n) H) NoPart
    each n = block_reader (Is n) H (node_reader (exactly_reader n) reads)

    comes : (n : ℕ) (b : Block) (tail : List Line) → more_nodes n (block_lines b ++ tail) ≡ true
    comes n b tail = ap (λ t. (n == 1) || not t) (not_none (length (parts_lines b ++ tail))) ∙ or_true (n == 1)

    ends : (bs : List Block) (rest : List Line) → 0 < length bs → NoLine rest → more_nodes (1 + length bs) rest ≡ false
    ends bs rest some is = let later : (1 + length bs == 1) ≡ false = grind (arith, nat_tests) in ap (λ b. b || not (length rest == 0)) later ∙ ap (λ ls. not (length ls == 0)) is

    counts : (lines : List Line) (y : List Block × List Line) → many (length lines + 1) more_nodes (λ n. block (node (exactly n) head)) 1 lines ≡ Ok y → 0 < length y.0
    counts lines y e =
        many_some more_nodes (λ n. block (node (exactly n) head)) block_lines (λ n. SmallBlock (Is n) H) NoPart each (length lines) 1 lines y refl
        (ap (λ n. many n more_nodes (λ n. block (node (exactly n) head)) 1 lines) (omega arith) ∙ e)

-- ---- items ----

due_item_reader : IsLineReader due_item item_words SmallItem
due_item_reader = record { takes = takes; again = λ x fits. whole_item.again x fits }
  where
    whole_item : IsLineReader (whole item) item_words SmallItem
    whole_item = whole_reader item_reader refl

    takes : (line : Line) (x : ItemLine) → due_item line ≡ Ok x → (line ≡ item_words x) × SmallItem x
    takes line x e = whole_item.takes line x (guard_ok (begins (codes "item") line) Count (whole item line) x e).1

abbrev count_line : ℕ → Line
count_line n = codes "items" ∷ decimal n ∷ []

abbrev pub items_lines : List ItemLine → List Line
items_lines xs = count_line (length xs) ∷ map item_words xs

-- few enough items, each of whose numbers is one of its field
abbrev pub SmallItems : List ItemLine → Type 0
SmallItems xs = Long (length xs) × All SmallItem xs

guard_not : {A E : Type 0} (b : Bool) (d : E) (x y : A) → cond b (Err d) (Ok x) ≡ Ok y → (b ≡ false) × (x ≡ y)
guard_not true d x y e = absurd cc
guard_not false d x y e = (refl, cc)

count_reader : IsReader count (λ n. count_line n ∷ []) Long Any
count_reader = line_reader (whole_reader (behind_reader (codes "items") long_reader) tt)

one_item : IsReader (one_line due_item) (λ x. item_words x ∷ []) SmallItem Any
one_item = line_reader due_item_reader

pub items_reader : IsReader items items_lines SmallItems NoItem
unfolding items
items_reader = record { takes = takes; again = again }
  where
    takes : (lines : List Line) (y : List ItemLine × List Line) → items lines ≡ Ok y → (lines ≡ items_lines y.0 ++ y.1) × SmallItems y.0
    takes lines y e =
        let n = bind_ok (count lines) (λ n. several n.0 (one_line due_item) n.1 >>= no_more_items) y e in
        let xs = bind_ok (several n.0.0 (one_line due_item) n.0.1) no_more_items y n.2 in
        let g = guard_not (next_begins (codes "item") xs.0.1) (fault_at xs.0.1 Count) xs.0 y xs.2 in
        let front = count_reader.takes lines n.0 n.1 in
        let more = (several_reader (one_line due_item) (λ x. item_words x ∷ []) SmallItem one_item n.0.0).takes n.0.1 xs.0 xs.1 in
        let number : count_line n.0.0 ≡ count_line (length xs.0.0) = ap count_line (sym more.1.0) in
        subst (λ (y : List ItemLine × List Line). (lines ≡ items_lines y.0 ++ y.1) × SmallItems y.0) g.1
        (front.0 ∙ ap (λ l. l ∷ n.0.1) number ∙ ap (λ ls. count_line (length xs.0.0) ∷ ls) (more.0 ∙ ap (λ ls. ls ++ xs.0.1) (flat_map_single item_words xs.0.0)), (subst Long (sym more.1.0) front.1, more.1.1))

    again : (xs : List ItemLine) (rest : List Line) → SmallItems xs → NoItem rest → items (items_lines xs ++ rest) ≡ Ok (xs, rest)
    again xs rest fits stop =
        let text : map item_words xs ++ rest ≡ flat_map (λ x. item_words x ∷ []) xs ++ rest = ap (λ ls. ls ++ rest) (sym (flat_map_single item_words xs)) in
        ap (λ (z : Result (ℕ × List Line) Fault). z >>= λ n. several n.0 (one_line due_item) n.1 >>= no_more_items) (count_reader.again (length xs) (map item_words xs ++ rest) fits.0 tt)
        ∙ ap (λ (z : Result (List ItemLine × List Line) Fault). z >>= no_more_items)
        (ap (several (length xs) (one_line due_item)) text ∙ (several_reader (one_line due_item) (λ x. item_words x ∷ []) SmallItem one_item (length xs)).again xs rest (refl, fits.1) tt)
        ∙ ap (λ b. cond b (Err (fault_at rest Count)) (Ok (xs, rest))) stop

-- ---- tables ----

abbrev tables_words : Line
tables_words = codes "tables" ∷ []

pub tables_reader : IsReader tables (λ rs. tables_words ∷ map row_words rs) (All SmallRow) NoRow
unfolding tables
tables_reader = record { takes = takes; again = again }
  where
    first : IsReader (one tables_line) (λ x. tables_words ∷ []) (λ x. x ≡ tt) Any
    first = line_reader (whole_reader (behind_reader (codes "tables") (always_reader {A = Unit {0}} tt Any)) tt)

    takes : (lines : List Line) (y : List RowLine × List Line) → tables lines ≡ Ok y → (lines ≡ tables_words ∷ (map row_words y.0 ++ y.1)) × All SmallRow y.0
    takes lines y e =
        let x = bind_ok (one tables_line lines) (λ x. rows x.1) y e in
        let front = first.takes lines x.0 x.1 in
        let more = rows_reader.takes x.0.1 y x.2 in
        (front.0 ∙ ap (λ ls. tables_words ∷ ls) more.0, more.1)

    again : (rs : List RowLine) (rest : List Line) → All SmallRow rs → NoRow rest → tables (tables_words ∷ (map row_words rs ++ rest)) ≡ Ok (rs, rest)
    again rs rest fits stop =
        ap (λ (z : Result (Unit {0} × List Line) Fault). z >>= λ x. rows x.1) (first.again tt (map row_words rs ++ rest) refl tt) ∙ rows_reader.again rs rest fits stop

-- ---- what became of events ----

abbrev pub CountComes : List Line → Type 0
CountComes rest = next_begins (codes "items") rest ≡ true

abbrev before_items : ℕ → List Line → Bool
before_items n lines = not (next_begins (codes "items") lines)

pub refusals_reader : IsReader refusals (flat_map middle_lines) (All IsRefusal) CountComes
unfolding refusals
refusals_reader = reprinted (flat_map middle_lines) (All IsRefusal)
    (lines_reader before_items (λ n. one refused) middle_lines (λ n. IsRefusal) Uncounted Any CountComes
    (λ n. reprinted middle_lines IsRefusal (line_reader (whole_reader refused_reader tt)) (λ m fits. (spelled m fits, fits)) (λ m fits. fits))
    (λ rest stop. tt) some (λ n m tail fits stop. (comes m tail fits, tt)) (λ ms rest c stop. ap not stop) (λ lines y e. tt))
    (λ ms all. (refl, alike IsRefusal 1 ms all.0)) (λ ms all. (from_alike IsRefusal 1 ms all, tt))
  where
    spelled : (m : Middle) → IsRefusal m → middle_lines m ≡ effect_words m ∷ []
    spelled (Locked e w i t k word) h = refl
    spelled (Changed e w i t k seen found) h = refl
    spelled m h = absurd h

    some : (n : ℕ) (m : Middle) → IsRefusal m → 0 < length (middle_lines m)
    some n (Locked e w i t k word) h = omega arith
    some n (Changed e w i t k seen found) h = omega arith
    some n m h = absurd h

    comes : (m : Middle) (tail : List Line) → IsRefusal m → before_items 1 (middle_lines m ++ tail) ≡ true
    comes (Locked e w i t k word) tail h = refl
    comes (Changed e w i t k seen found) tail h = refl
    comes m tail h = absurd h

-- what became of an event, with a shown node
abbrev pub SmallMiddle : Middle → Type 0
SmallMiddle (Shown b) = SmallBlock Short SmallHead b
SmallMiddle m = SmallEffect m

abbrev IsShown : Middle → Type 0
IsShown (Shown b) = SmallBlock Short SmallHead b
IsShown m = ⊥

shown_reader : IsReader (made Shown (block (node short simulated))) middle_lines IsShown NoPart
shown_reader = made_reader Shown middle_lines IsShown (block_reader Short SmallHead (node_reader short_reader simulated_reader)) (λ b h. (refl, h)) from
  where
    from : (m : Middle) → IsShown m → (b : Block) × (SmallBlock Short SmallHead b) × (Shown b ≡ m)
    from (Shown b) h = (b, h, refl)
    from m h = absurd h

effect_spelled : (m : Middle) → SmallEffect m → middle_lines m ≡ effect_words m ∷ []
effect_spelled (Locked e w i t k word) h = refl
effect_spelled (Changed e w i t k seen found) h = refl
effect_spelled (DeniedPromised n d promised) h = refl
effect_spelled (DeniedBallot n d ballot) h = refl
effect_spelled (DeniedOrder n d len) h = refl
effect_spelled (NoMessage n) h = refl
effect_spelled (Opened e n count) h = refl
effect_spelled (Shown b) h = absurd h

line_effect_reader : IsReader (one effect) middle_lines SmallEffect NoPart
line_effect_reader = stops_less NoPart (reprinted middle_lines SmallEffect (line_reader (whole_reader effect_reader tt)) (λ m fits. (effect_spelled m fits, fits)) (λ m fits. fits)) (λ rest stop. tt)

pub any_effect_reader : IsReader any_effect middle_lines SmallMiddle NoPart
unfolding any_effect
any_effect_reader = choice_reader (next_begins (codes "node")) SmallMiddle shown_reader line_effect_reader chooses passes one two either
  where
    chooses : (m : Middle) (rest : List Line) → IsShown m → NoPart rest → next_begins (codes "node") (middle_lines m ++ rest) ≡ true
    chooses (Shown b) rest h stop = refl
    chooses m rest h stop = absurd h

    passes : (m : Middle) (rest : List Line) → SmallEffect m → NoPart rest → next_begins (codes "node") (middle_lines m ++ rest) ≡ false
    passes (Locked e w i t k word) rest h stop = refl
    passes (Changed e w i t k seen found) rest h stop = refl
    passes (DeniedPromised n d promised) rest h stop = refl
    passes (DeniedBallot n d ballot) rest h stop = refl
    passes (DeniedOrder n d len) rest h stop = refl
    passes (NoMessage n) rest h stop = refl
    passes (Opened e n count) rest h stop = refl
    passes (Shown b) rest h stop = absurd h

    one : (m : Middle) → IsShown m → SmallMiddle m
    one (Shown b) h = h
    one m h = absurd h

    two : (m : Middle) → SmallEffect m → SmallMiddle m
    two (Shown b) h = absurd h
    two m h = h

    either : (m : Middle) → SmallMiddle m → IsShown m ⊎ SmallEffect m
    either (Shown b) h = inl h
    either m h = inr h

begins_one : (due other : List ℕ) (rest : List Line) → next_begins due rest ≡ true → bytes_eq due other ≡ false → next_begins other rest ≡ false
begins_one due other [] h apart = absurd (cc)
begins_one due other ([] ∷ rest) h apart = absurd (cc)
begins_one due other ((w ∷ words) ∷ rest) h apart = ap (λ v. bytes_eq v other) (same_word w due h) ∙ apart

pub some_lines : (m : Middle) → SmallMiddle m → 0 < length (middle_lines m)
some_lines (Locked e w i t k word) h = omega arith
some_lines (Changed e w i t k seen found) h = omega arith
some_lines (DeniedPromised m d promised) h = omega arith
some_lines (DeniedBallot m d ballot) h = omega arith
some_lines (DeniedOrder m d len) h = omega arith
some_lines (NoMessage m) h = omega arith
some_lines (Opened e d count) h = omega arith
some_lines (Shown b) h = omega arith

pub effects_reader : IsReader effects (flat_map middle_lines) (All SmallMiddle) CountComes
unfolding effects
effects_reader = reprinted (flat_map middle_lines) (All SmallMiddle)
    (lines_reader before_items (λ n. any_effect) middle_lines (λ n. SmallMiddle) Uncounted NoPart CountComes (λ n. any_effect_reader)
    (λ rest stop. (begins_one (codes "items") (codes "row") rest stop refl, begins_one (codes "items") (codes "stream") rest stop refl))
    (λ n m fits. some_lines m fits) goes (λ ms rest c stop. ap not stop) (λ lines y e. tt))
    (λ ms all. (refl, alike SmallMiddle 1 ms all.0)) (λ ms all. (from_alike SmallMiddle 1 ms all, tt))
  where
    goes : (n : ℕ) (m : Middle) (tail : List Line) → SmallMiddle m → NoPart tail → (before_items n (middle_lines m ++ tail) ≡ true) × NoPart (middle_lines m ++ tail)
    goes n (Locked e w i t k word) tail h stop = (refl, (refl, refl))
    goes n (Changed e w i t k seen found) tail h stop = (refl, (refl, refl))
    goes n (DeniedPromised m d promised) tail h stop = (refl, (refl, refl))
    goes n (DeniedBallot m d ballot) tail h stop = (refl, (refl, refl))
    goes n (DeniedOrder m d len) tail h stop = (refl, (refl, refl))
    goes n (NoMessage m) tail h stop = (refl, (refl, refl))
    goes n (Opened e d count) tail h stop = (refl, (refl, refl))
    goes n (Shown b) tail h stop = (refl, (refl, refl))
