-- Reports of one of the four forms are those whose parts are read so.
use Rattle.std.proofs.Common.{◌≡◌, ℕ, ◌+◌, ◌-◌, ◌^◌, ◌<◌, ◌≤◌, ◌==◌, ◌&&◌, not, true, List, [], ◌∷◌, All, length, map, refl, sym, ap, subst, ◌∙◌, arith}
use Rattle.std.specs.Prelude.{nat_le}
use Rattle.std.specs.List.{list_all, range_with_len}
use Rattle.std.proofs.lemmas.Bool.Decides.{nat_tests}
use Rattle.std.proofs.lemmas.List.Elements.{All-nil, All-cons, All-head, All-tail, All-weaker}
use Rattle.rl_base.proofs.Tests.{both, both_true}
use Rattle.rl_txn.specs.declared.write.End.{End}
use Rattle.rl_txn.specs.declared.write.End.TheVariants.{Done, Declined}
use Rattle.rl_report.specs.declared.line.ItemLine.{ItemLine}
use Rattle.rl_report.specs.declared.line.RowLine.{RowLine}
use Rattle.rl_report.specs.declared.line.StreamLine.{StreamLine}
use Rattle.rl_report.specs.declared.block.RoleLine.{RoleLine}
use Rattle.rl_report.specs.declared.block.RoleLine.TheVariants.{Follower, Candidate, Opening, Leading}
use Rattle.rl_report.specs.declared.block.Head.{Head}
use Rattle.rl_report.specs.declared.block.Head.TheVariants.{Up, Down, Lost, Plain}
use Rattle.rl_report.specs.declared.block.Block.{Block}
use Rattle.rl_report.specs.declared.middle.Middle.{Middle}
use Rattle.rl_report.specs.declared.middle.Middle.TheVariants.{Locked, Changed, DeniedPromised, DeniedBallot, DeniedOrder, NoMessage, Opened, Shown}
use Rattle.rl_report.specs.declared.report.Title.{Title}
use Rattle.rl_report.specs.declared.report.Title.TheVariants.{Serial, Steps, Sim, Live}
use Rattle.rl_report.specs.declared.report.Report.{Report}
use Rattle.rl_report.specs.Forms.{IsWord, AreNamed, AreStreams, HasParts, IsSimulated, IsPlain, IsRefused, IsEffect, AreNodes, HasForm, IsReport}
use Rattle.rl_report.specs.Numbers.{IsShort, IsLong, EndHasNumbers, ItemHasNumbers, RowHasNumbers, StreamHasNumbers, RoleHasNumbers, HeadHasNumbers, BlockHasNumbers, MiddleHasNumbers, HasNumbers}
use Rattle.rl_report.proofs.ReaderLaws.{AllFrom}
use Rattle.rl_report.proofs.WordLaws.{UpTo, Is, IsName}
use Rattle.rl_report.proofs.LineLaws.{Short, Long, SmallEnd, SmallItem, SmallRow, SmallStream, SmallRole, SmallHead, IsPlainHead, IsRefusal}
use Rattle.rl_report.proofs.SectionLaws.{SmallParts, SmallBlock, SmallNodes, SmallItems, SmallMiddle}
use Rattle.rl_report.proofs.ReportLaws.{PartsOf}

each : {A : Type 0} (P Q R : A → Type 0) → ((x : A) → P x → Q x → R x) → (xs : List A) → All P xs → All Q xs → All R xs
each P Q R f [] p q = All-nil R
each P Q R f (x ∷ xs) p q = All-cons R x xs (f x (All-head P x xs p) (All-head Q x xs q)) (each P Q R f xs (All-tail P x xs p) (All-tail Q x xs q))

-- ---- words ----

all_seen : (word : List ℕ) → list_all (λ b. nat_le 33 b && nat_le b 126) word ≡ true → All (λ b. (33 ≤ b) × (b ≤ 126)) word
all_seen [] h = All-nil (λ b. (33 ≤ b) × (b ≤ 126))
all_seen (b ∷ word) h =
    let parts = both (nat_le 33 b && nat_le b 126) (list_all (λ b. nat_le 33 b && nat_le b 126) word) h in
    All-cons (λ b. (33 ≤ b) × (b ≤ 126)) b word (byte b parts.0) (all_seen word parts.1)
  where
    byte : (b : ℕ) → (nat_le 33 b && nat_le b 126) ≡ true → (33 ≤ b) × (b ≤ 126)
    byte b h = let two = both (nat_le 33 b) (nat_le b 126) h in (grind (arith, nat_tests), grind (arith, nat_tests))

seen_all : (word : List ℕ) → All (λ b. (33 ≤ b) × (b ≤ 126)) word → list_all (λ b. nat_le 33 b && nat_le b 126) word ≡ true
seen_all [] all = refl
seen_all (b ∷ word) all =
    let first = All-head (λ b. (33 ≤ b) × (b ≤ 126)) b word all in
    both_true (nat_le 33 b && nat_le b 126) (list_all (λ b. nat_le 33 b && nat_le b 126) word) (byte b first.0 first.1) (seen_all word (All-tail (λ b. (33 ≤ b) × (b ≤ 126)) b word all))
  where
    byte : (b : ℕ) → 33 ≤ b → b ≤ 126 → (nat_le 33 b && nat_le b 126) ≡ true
    byte b low high = grind (arith, nat_tests)

some_bytes : (word : List ℕ) → 0 < length word → not (length word == 0) ≡ true
some_bytes word some = grind (arith, nat_tests)

word_of : (word : List ℕ) → IsName word → IsWord word
word_of [] h = absurd (cc)
word_of (b ∷ word) h = (omega arith, all_seen (b ∷ word) (both (not (length (b ∷ word) == 0)) (list_all (λ b. nat_le 33 b && nat_le b 126) (b ∷ word)) h).1)

name_of : (word : List ℕ) → IsWord word → IsName word
name_of word h = both_true (not (length word == 0)) (list_all (λ b. nat_le 33 b && nat_le b 126) word) (some_bytes word h.0) (seen_all word h.1)

-- ---- numbers ----

short : (n : ℕ) → IsShort n → Short n
short n h = omega arith

long : (n : ℕ) → IsLong n → Long n
long n h = omega arith

longs : (ns : List ℕ) → All IsLong ns → All (UpTo (2 ^ 64 - 1)) ns
longs ns all = All-weaker IsLong (UpTo (2 ^ 64 - 1)) long ns all

-- ---- items and rows ----

small_end : (e : End) → EndHasNumbers e → SmallEnd e
small_end Done h = tt
small_end (Declined op) h = short op h

small_item : (x : ItemLine) → ItemHasNumbers x → SmallItem x
small_item x h = record { epoch = short _ h.epoch; seq = long _ h.seq; worker = short _ h.worker; index = short _ h.index; end = small_end _ h.end; outs = longs _ h.outs }

small_items : (xs : List ItemLine) → IsLong (length xs) → All ItemHasNumbers xs → SmallItems xs
small_items xs count all = (long _ count, All-weaker ItemHasNumbers SmallItem small_item xs all)

small_row : (x : RowLine) → IsWord x.table → RowHasNumbers x → SmallRow x
small_row x word h = record { table = name_of x.table word; key = short _ h.key; row = record { numbers = longs _ h.columns; some = h.some; few = h.few } }

small_rows : (xs : List RowLine) → AreNamed xs → All RowHasNumbers xs → All SmallRow xs
small_rows xs named all = each (λ x. IsWord x.table) RowHasNumbers SmallRow small_row xs named all

named : (xs : List RowLine) → All SmallRow xs → AreNamed xs
named xs all = All-weaker SmallRow (λ x. IsWord x.table) (λ x h. word_of x.table h.table) xs all

-- ---- streams and nodes by their numbers ----

heads : (x y : ℕ) (xs ys : List ℕ) → x ∷ xs ≡ y ∷ ys → (x ≡ y) × (xs ≡ ys)
heads x y xs ys e = (cc, cc)

small_streams : (n : ℕ) (ss : List StreamLine) → map (λ s. s.stream) ss ≡ range_with_len n (length ss) → All StreamHasNumbers ss → AllFrom SmallStream n ss
small_streams n [] is all = tt
small_streams n (s ∷ ss) is all =
    let parts = heads s.stream n (map (λ s. s.stream) ss) (range_with_len (n + 1) (length ss)) is in
    let h = All-head StreamHasNumbers s ss all in
    (record { stream = (parts.0, short _ h.stream); ballot = short _ h.ballot; len = short _ h.len; known = short _ h.known }, small_streams (n + 1) ss parts.1 (All-tail StreamHasNumbers s ss all))

by_number : (n : ℕ) (ss : List StreamLine) → AllFrom SmallStream n ss → map (λ s. s.stream) ss ≡ range_with_len n (length ss)
by_number n [] all = refl
by_number n (s ∷ ss) all = ap (λ m. m ∷ map (λ s. s.stream) ss) all.0.stream.0 ∙ ap (λ ms. n ∷ ms) (by_number (n + 1) ss all.1)

small_role : (r : RoleLine) → RoleHasNumbers r → SmallRole r
small_role Follower h = tt
small_role (Candidate e have need) h = (short _ h.0, (short _ h.1, short _ h.2))
small_role (Opening e) h = short _ h
small_role (Leading e) h = short _ h

-- a node of a simulated run
small_simulated : (N : ℕ → Type 0) (b : Block) → N b.node → IsSimulated b → BlockHasNumbers b → SmallBlock N SmallHead b
small_simulated N b number is h = go b.head is.parts h.head
  where
    go : (x : Head) → HasParts x b.streams b.rows → HeadHasNumbers x → (N b.node × SmallHead x) × SmallParts x b.streams b.rows
    go (Up promised role watermark at) parts n = ((number, (short _ n.0, (small_role role n.1, (short _ n.2, (long _ n.3, tt))))), ((small_streams 1 b.streams is.streams h.streams, parts), small_rows b.rows is.named h.rows))
    go (Down promised) parts n = ((number, short _ n), ((small_streams 1 b.streams is.streams h.streams, parts.0), parts.1))
    go Lost parts n = ((number, tt), parts)
    go Plain parts n = absurd parts

-- what a node has, by its state
has_parts : (x : Head) (ss : List StreamLine) (rs : List RowLine) → SmallHead x → SmallParts x ss rs → HasParts x ss rs × AreStreams ss × AreNamed rs
has_parts (Up promised role watermark at) ss rs head parts = (parts.0.1, by_number 1 ss parts.0.0, named rs parts.1)
has_parts (Down promised) ss rs head parts = ((parts.0.1, parts.1), by_number 1 ss parts.0.0, subst AreNamed (sym parts.1) (All-nil (λ x. IsWord x.table)))
has_parts Lost ss rs head parts = (parts, subst AreStreams (sym parts.0) refl, subst AreNamed (sym parts.1) (All-nil (λ x. IsWord x.table)))
has_parts Plain ss rs head parts = absurd head

simulated : (N : ℕ → Type 0) (b : Block) → SmallBlock N SmallHead b → IsSimulated b
simulated N b h = let parts = has_parts b.head b.streams b.rows h.0.1 h.1 in record { parts = parts.0; streams = parts.1; named = parts.2 }

small_plain : (N : ℕ → Type 0) (b : Block) → N b.node → IsPlain b → BlockHasNumbers b → SmallBlock N IsPlainHead b
small_plain N b number is h = ((number, is.head), subst (λ (x : Head). SmallParts x b.streams b.rows) (sym is.head) (is.streams, small_rows b.rows is.named h.rows))

plain : (N : ℕ → Type 0) (b : Block) → SmallBlock N IsPlainHead b → IsPlain b
plain N b h =
    let parts = subst (λ (x : Head). SmallParts x b.streams b.rows) h.0.1 h.1 in
    record { head = h.0.1; streams = parts.0; named = named b.rows parts.1 }

-- nodes by their numbers
module _ (H : Head → Type 0) (P : Block → Type 0) (small : (N : ℕ → Type 0) (b : Block) → N b.node → P b → BlockHasNumbers b → SmallBlock N H b) (fits : (N : ℕ → Type 0) (b : Block) → SmallBlock N H b → P b) where
  numbered : (n : ℕ) (bs : List Block) → map (λ b. b.node) bs ≡ range_with_len n (length bs) → All P bs → All BlockHasNumbers bs → AllFrom (λ n. SmallBlock (Is n) H) n bs
  numbered n [] is all numbers = tt
  numbered n (b ∷ bs) is all numbers =
      let parts = heads b.node n (map (λ b. b.node) bs) (range_with_len (n + 1) (length bs)) is in
      let h = All-head BlockHasNumbers b bs numbers in
      (small (Is n) b (parts.0, short _ h.node) (All-head P b bs all) h, numbered (n + 1) bs parts.1 (All-tail P b bs all) (All-tail BlockHasNumbers b bs numbers))

  numbers : (n : ℕ) (bs : List Block) → AllFrom (λ n. SmallBlock (Is n) H) n bs → map (λ b. b.node) bs ≡ range_with_len n (length bs)
  numbers n [] all = refl
  numbers n (b ∷ bs) all = ap (λ m. m ∷ map (λ b. b.node) bs) all.0.0.0.0 ∙ ap (λ ms. n ∷ ms) (numbers (n + 1) bs all.1)

  all_fit : (n : ℕ) (bs : List Block) → AllFrom (λ n. SmallBlock (Is n) H) n bs → All P bs
  all_fit n [] all = All-nil P
  all_fit n (b ∷ bs) all = All-cons P b bs (fits (Is n) b all.0) (all_fit (n + 1) bs all.1)

  to_nodes : (bs : List Block) → AreNodes P bs → All BlockHasNumbers bs → SmallNodes H bs
  to_nodes bs is has = (numbered 1 bs is.1 is.2 has, is.0)

  from_nodes : (bs : List Block) → SmallNodes H bs → AreNodes P bs
  from_nodes bs h = (h.1, numbers 1 bs h.0, all_fit 1 bs h.0)

-- ---- what became of events ----

refusal : (m : Middle) → IsRefused m → MiddleHasNumbers m → IsRefusal m
refusal (Locked e w i t k word) is n = (short _ n.0, (short _ n.1, (short _ n.2, (name_of t is, (short _ n.3, long _ n.4)))))
refusal (Changed e w i t k seen found) is n = (short _ n.0, (short _ n.1, (short _ n.2, (name_of t is, (short _ n.3, (long _ n.4, long _ n.5))))))
refusal m is n = absurd is

refused : (m : Middle) → IsRefusal m → IsRefused m
refused (Locked e w i t k word) h = word_of t h.1.1.1.0
refused (Changed e w i t k seen found) h = word_of t h.1.1.1.0
refused m h = absurd h

effect : (m : Middle) → IsEffect m → MiddleHasNumbers m → SmallMiddle m
effect (Locked e w i t k word) is n = (short _ n.0, (short _ n.1, (short _ n.2, (name_of t is, (short _ n.3, long _ n.4)))))
effect (Changed e w i t k seen found) is n = (short _ n.0, (short _ n.1, (short _ n.2, (name_of t is, (short _ n.3, (long _ n.4, long _ n.5))))))
effect (DeniedPromised m d promised) is n = (long _ n.0, (short _ n.1, short _ n.2))
effect (DeniedBallot m d ballot) is n = (long _ n.0, (short _ n.1, short _ n.2))
effect (DeniedOrder m d len) is n = (long _ n.0, (short _ n.1, short _ n.2))
effect (NoMessage m) is n = long _ n
effect (Opened e d count) is n = (short _ n.0, (short _ n.1, short _ n.2))
effect (Shown b) is n = small_simulated Short b (short _ n.node) is n

an_effect : (m : Middle) → SmallMiddle m → IsEffect m
an_effect (Locked e w i t k word) h = word_of t h.1.1.1.0
an_effect (Changed e w i t k seen found) h = word_of t h.1.1.1.0
an_effect (Shown b) h = simulated Short b h
an_effect m h = tt

-- ---- reports ----

parts_of : (title : Title) (r : Report) → r.title ≡ title → HasForm title r → HasNumbers r → PartsOf title r
parts_of Serial r is form h = record { title = is; middle = form.0; items = small_items r.items h.count h.items; tables = small_rows r.tables form.1 h.tables; blocks = form.2 }
parts_of Steps r is form h = record { title = is; middle = each IsRefused MiddleHasNumbers IsRefusal refusal r.middle form.0 h.middle; items = small_items r.items h.count h.items; tables = small_rows r.tables form.1 h.tables; blocks = form.2 }
parts_of Sim r is form h = record {
  title = is;
  middle = each IsEffect MiddleHasNumbers SmallMiddle effect r.middle form.0 h.middle;
  items = small_items r.items h.count h.items;
  tables = form.1;
  blocks = to_nodes SmallHead IsSimulated small_simulated simulated r.blocks form.2 h.blocks;
}
parts_of Live r is form h = record {
  title = is;
  middle = form.0;
  items = small_items r.items h.count h.items;
  tables = form.1;
  blocks = to_nodes IsPlainHead IsPlain small_plain plain r.blocks form.2 h.blocks;
}

form_of : (title : Title) (r : Report) → PartsOf title r → HasForm title r
form_of Serial r h = (h.middle, named r.tables h.tables, h.blocks)
form_of Steps r h = (All-weaker IsRefusal IsRefused refused r.middle h.middle, named r.tables h.tables, h.blocks)
form_of Sim r h = (All-weaker SmallMiddle IsEffect an_effect r.middle h.middle, h.tables, from_nodes SmallHead IsSimulated small_simulated simulated r.blocks h.blocks)
form_of Live r h = (h.middle, h.tables, from_nodes IsPlainHead IsPlain small_plain plain r.blocks h.blocks)

pub report_parts : (r : Report) → IsReport r → HasNumbers r → PartsOf r.title r
report_parts r form h = parts_of r.title r refl form h

pub is_report : (r : Report) → PartsOf r.title r → IsReport r
is_report r h = form_of r.title r h
