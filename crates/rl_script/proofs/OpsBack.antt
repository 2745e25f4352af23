-- The line of an op is read as the op again.
use Rattle.std.proofs.Common.{◌≡◌, ℕ, ◌-◌, ◌<◌, ◌≤◌, ◌==◌, List, [], ◌∷◌, All, length, map, slice_index, true, false, Some, is_some, Result, Ok, Err, codes, zero, suc, refl, ap, ◌∙◌, arith}
use Rattle.std.specs.Prelude.{ok_or, option_map}
use Rattle.std.specs.List.{list_all}
use Rattle.std.specs.Fmt.{decimal}
use Rattle.std.proofs.lemmas.Bool.Decides.{nat_tests}
use Rattle.std.proofs.lemmas.List.{length-map}
use Rattle.std.proofs.lemmas.List.Elements.{All-head, All-tail, All-cons, All-from_recursion}
use Rattle.rl_base.specs.Results.{◌>>=◌}
use Rattle.rl_value.specs.Names.{is_name, is_name_byte}
use Rattle.rl_value.specs.Tables.{Table, IsTable, IsSchema, name_of, columns_of, table_named}
use Rattle.rl_txn.specs.Fits.{OperandFits, OpFits}
use Rattle.rl_txn.specs.declared.op.Op.{Op}
use Rattle.rl_txn.specs.declared.op.Op.TheVariants as op
use Rattle.rl_txn.specs.declared.op.Operand.{Operand}
use Rattle.rl_txn.specs.declared.op.Operand.TheVariants.{Reg, Num}
use Rattle.rl_txn.specs.declared.op.Rel.{Rel}
use Rattle.rl_txn.specs.declared.op.Rel.TheVariants.{Eq, Ne, Lt, Le, Gt, Ge}
use Rattle.rl_text.specs.Numbers.{number_of, IsNumber}
use Rattle.rl_text.proofs.WordsBack.{IsWord, is_seen, decimal_is_word, each_is_word, number_of_decimal, number_within_decimal}
use Rattle.rl_events.specs.Words.{number, within}
use Rattle.rl_events.specs.declared.kind.Kind.{Kind}
use Rattle.rl_events.specs.declared.kind.Kind.TheVariants.{Register, UnknownTable}
use Rattle.rl_events.specs.Forms.{three_words, four_words}
use Rattle.rl_events.proofs.FormsBack.{one_word_back, two_words_back, three_words_back, four_words_back}
use Rattle.rl_events.proofs.ReadBack.{number_back, within_back}
use Rattle.rl_script.specs.Lines.{line_kind}
use Rattle.rl_script.specs.Operations.{column, each_word, known_table, table_for, read_op}
use Rattle.rl_script.specs.Printed.{register_word, operand_word, relation_word, op_words}
use Rattle.rl_script.specs.Read.{read_words, with_op}
use Rattle.rl_script.specs.Words.{operand, register, relation}
use Rattle.rl_script.specs.declared.draft.Draft.{Draft}
use Rattle.rl_script.specs.declared.line.LineKind.TheVariants as line
use Rattle.rl_script.specs.declared.line.OpWord.{OpWord}
use Rattle.rl_script.specs.declared.line.OpWord.TheVariants as word

-- registers and operands

pub register_read : (r : ℕ) → r < 16 → register (register_word r) ≡ Ok r
unfolding register
register_read r small = number_within_decimal 0 15 Register Register r (omega arith) (omega arith) (omega arith)

-- a number begins with a digit, and a register does not
no_register : (word : List ℕ) (n : ℕ) → number_of word ≡ Some n → register word ≡ Err Register
unfolding register
no_register [] n is = refl
no_register (b ∷ word) n is = let other : (b == 114) ≡ false = grind (arith, nat_tests) in rw other refl

pub operand_back : (a : Operand) → OperandFits a → operand (operand_word a) ≡ Ok a
operand_back (Reg r) small =
    ap (λ (o : Result ℕ Kind). elim o [ Ok r ↦ Ok (Reg r) | Err kind ↦ ok_or (option_map Num (number_of (register_word r))) Register ]) (register_read r small)
operand_back (Num n) small =
    ap (λ (o : Result ℕ Kind). elim o [ Ok r ↦ Ok (Reg r) | Err kind ↦ ok_or (option_map Num (number_of (decimal n))) Register ]) (no_register (decimal n) n (number_of_decimal n small))
    ∙ ap (λ o. ok_or (option_map Num o) Register) (number_of_decimal n small)

pub relation_back : (rel : Rel) → relation (relation_word rel) ≡ Ok rel
relation_back Eq = refl
relation_back Ne = refl
relation_back Lt = refl
relation_back Le = refl
relation_back Gt = refl
relation_back Ge = refl

-- lists of operands and numbers

one_back : {A : Type 0} (read : List ℕ → Result A Kind) → (word : List ℕ) (words : List (List ℕ)) (x : A) (xs : List A) → read word ≡ Ok x → each_word read words ≡ Ok xs → each_word read (word ∷ words) ≡ Ok (x ∷ xs)
unfolding each_word
one_back read word words x xs is rest =
    ap (λ r. r >>= λ x. each_word read words >>= λ xs. Ok (x ∷ xs)) is ∙ ap (λ r. r >>= λ xs. Ok (x ∷ xs)) rest

none_back : {A : Type 0} (read : List ℕ → Result A Kind) → each_word read [] ≡ Ok []
unfolding each_word
none_back read = refl

-- words that are read as what they were printed from
pub each_back : {A : Type 0} (read : List ℕ → Result A Kind) → (word_of : A → List ℕ) (Fits : A → Type 0) → ((x : A) → Fits x → read (word_of x) ≡ Ok x) → (xs : List A) → All Fits xs → each_word read (map word_of xs) ≡ Ok xs
each_back read word_of Fits back [] all = none_back read
each_back read word_of Fits back (x ∷ xs) all =
    one_back read (word_of x) (map word_of xs) x xs (back x (All-head Fits x xs all)) (each_back read word_of Fits back xs (All-tail Fits x xs all))

pub each_operand_back : (values : List Operand) → All OperandFits values → each_word operand (map operand_word values) ≡ Ok values
each_operand_back values all = each_back operand operand_word OperandFits operand_back values all

pub each_number_back : (row : List ℕ) → All IsNumber row → each_word number (map decimal row) ≡ Ok row
each_number_back row all = each_back number decimal IsNumber number_back row all

-- names of tables

seen_name : (name : List ℕ) → list_all is_name_byte name ≡ true → list_all is_seen name ≡ true
seen_name [] h = refl
seen_name (b ∷ name) h = let rest = seen_name name (grind (arith, nat_tests)) in grind (arith, nat_tests)

name_parts : (name : List ℕ) → is_name name ≡ true → (0 < length name) × (list_all is_name_byte name ≡ true)
name_parts name h = (grind (arith, nat_tests), grind (arith, nat_tests))

pub name_is_word : (name : List ℕ) → is_name name ≡ true → IsWord name
name_is_word name h = let parts = name_parts name h in (parts.0, seen_name name parts.1)

pub name_found : (tables : List Table) (t : ℕ) → IsSchema tables → t < length tables → table_named (name_of tables t) tables ≡ Some t
name_found tables t schema there = schema.names t there

named_at : (tables : List Table) (t : ℕ) → All IsTable tables → t < length tables → is_name (name_of tables t) ≡ true
named_at [] t all there = absurd (omega arith)
named_at (x ∷ tables) zero all there = (All-head IsTable x tables all).named
named_at (x ∷ tables) (suc t) all there = named_at tables t (All-tail IsTable x tables all) (omega arith)

few_columns_at : (tables : List Table) (t : ℕ) → All IsTable tables → t < length tables → columns_of tables t ≤ 4
few_columns_at [] t all there = absurd (omega arith)
few_columns_at (x ∷ tables) zero all there = (All-head IsTable x tables all).few_columns
few_columns_at (x ∷ tables) (suc t) all there = few_columns_at tables t (All-tail IsTable x tables all) (omega arith)

pub table_name_is_word : (tables : List Table) (t : ℕ) → IsSchema tables → t < length tables → IsWord (name_of tables t)
table_name_is_word tables t schema there = name_is_word (name_of tables t) (named_at tables t schema.each there)

pub known_back : (tables : List Table) (t : ℕ) → IsSchema tables → t < length tables → known_table tables (name_of tables t) ≡ Ok t
known_back tables t schema there = ap (λ o. ok_or o UnknownTable) (name_found tables t schema there)

-- the table of a line that gives as many columns as it has
pub table_for_back : (tables : List Table) (t count : ℕ) → IsSchema tables → t < length tables → count ≡ columns_of tables t → table_for tables (name_of tables t) count ≡ Ok t
table_for_back tables t count schema there all = let found = name_found tables t schema there in grind (arith, nat_tests)

pub column_back : (tables : List Table) (t c : ℕ) → IsSchema tables → t < length tables → c < columns_of tables t → within 0 (columns_of tables t - 1) (decimal c) ≡ Ok c
column_back tables t c schema there within_table =
    let few = few_columns_at tables t schema.each there in
    within_back 0 (columns_of tables t - 1) c (omega arith) (omega arith) (omega (arith, few))

-- the ops

get_back : (tables : List Table) (t : ℕ) (k : Operand) (c d : ℕ) → IsSchema tables → OpFits tables (op.Get t k c d) → read_op tables word.Get (name_of tables t ∷ operand_word k ∷ decimal c ∷ register_word d ∷ []) ≡ Ok (op.Get t k c d)
get_back tables t k c d schema fits =
    ap (λ r. r >>= λ t. three_words (op.Get t) operand (column tables t) register (operand_word k ∷ decimal c ∷ register_word d ∷ [])) (known_back tables t schema fits.0)
    ∙ three_words_back (op.Get t) operand (column tables t) register (operand_word k) (decimal c) (register_word d) k c d (operand_back k fits.1) (column_back tables t c schema fits.0 fits.2) (register_read d fits.3)

scan_back : (tables : List Table) (t : ℕ) (k : Operand) (n c d : ℕ) → IsSchema tables → OpFits tables (op.Scan t k n c d) → read_op tables word.Scan (name_of tables t ∷ operand_word k ∷ decimal n ∷ decimal c ∷ register_word d ∷ []) ≡ Ok (op.Scan t k n c d)
scan_back tables t k n c d schema fits =
    ap (λ r. r >>= λ t. four_words (op.Scan t) operand (within 1 256) (column tables t) register (operand_word k ∷ decimal n ∷ decimal c ∷ register_word d ∷ [])) (known_back tables t schema fits.0)
    ∙ four_words_back (op.Scan t) operand (within 1 256) (column tables t) register (operand_word k) (decimal n) (decimal c) (register_word d) k n c d
    (operand_back k fits.1) (within_back 1 256 n fits.2 fits.3 (omega (arith, fits.3))) (column_back tables t c schema fits.0 fits.4) (register_read d fits.5)

put_back : (tables : List Table) (t : ℕ) (k : Operand) (values : List Operand) → IsSchema tables → OpFits tables (op.Put t k values) → read_op tables word.Put (name_of tables t ∷ operand_word k ∷ map operand_word values) ≡ Ok (op.Put t k values)
put_back tables t k values schema fits =
    ap (λ r. r >>= λ t. operand (operand_word k) >>= λ k. each_word operand (map operand_word values) >>= λ values. Ok (op.Put t k values))
    (table_for_back tables t (length (map operand_word values)) schema fits.0 (length-map values operand_word ∙ fits.5))
    ∙ ap (λ r. r >>= λ k. each_word operand (map operand_word values) >>= λ values. Ok (op.Put t k values)) (operand_back k fits.1)
    ∙ ap (λ r. r >>= λ values. Ok (op.Put t k values)) (each_operand_back values fits.2)

-- the three words of a sum, a difference or a product
terms_back : (make : ℕ → Operand → Operand → Op) (d : ℕ) (a b : Operand) → d < 16 → OperandFits a → OperandFits b → three_words make register operand operand (register_word d ∷ operand_word a ∷ operand_word b ∷ []) ≡ Ok (make d a b)
terms_back make d a b low first second =
    three_words_back make register operand operand (register_word d) (operand_word a) (operand_word b) d a b (register_read d low) (operand_back a first) (operand_back b second)

-- a line that begins with an op's word, inside a transaction
op_joins : (draft : Draft) (first : List ℕ) (w : OpWord) (words : List (List ℕ)) (op : Op) → (slice_index first 0 == 35) ≡ false → line_kind draft.section first ≡ Some (line.Op w) → is_some draft.current ≡ true → read_op draft.schema w words ≡ Ok op → read_words draft (first ∷ words) ≡ with_op draft op
unfolding read_words
op_joins draft first w words op no_comment kind opened is = rw (no_comment, kind, opened, is) refl

pub op_line_back : (draft : Draft) (op : Op) → IsSchema draft.schema → OpFits draft.schema op → is_some draft.current ≡ true → read_words draft (op_words draft.schema op) ≡ with_op draft op
op_line_back draft (op.Set d a) schema fits opened = op_joins draft (codes "set") word.Set _ _ refl refl opened
    (two_words_back op.Set register operand (register_word d) (operand_word a) d a (register_read d fits.0) (operand_back a fits.1))
op_line_back draft (op.Add d a b) schema fits opened = op_joins draft (codes "add") word.Add _ _ refl refl opened (terms_back op.Add d a b fits.0 fits.1 fits.2)
op_line_back draft (op.Sub d a b) schema fits opened = op_joins draft (codes "sub") word.Sub _ _ refl refl opened (terms_back op.Sub d a b fits.0 fits.1 fits.2)
op_line_back draft (op.Mul d a b) schema fits opened = op_joins draft (codes "mul") word.Mul _ _ refl refl opened (terms_back op.Mul d a b fits.0 fits.1 fits.2)
op_line_back draft (op.Get t k c d) schema fits opened = op_joins draft (codes "get") word.Get _ _ refl refl opened (get_back draft.schema t k c d schema fits)
op_line_back draft (op.Has t k d) schema fits opened = op_joins draft (codes "has") word.Has _ _ refl refl opened
    (three_words_back op.Has (known_table draft.schema) operand register (name_of draft.schema t) (operand_word k) (register_word d) t k d (known_back draft.schema t schema fits.0) (operand_back k fits.1) (register_read d fits.2))
op_line_back draft (op.Put t k values) schema fits opened = op_joins draft (codes "put") word.Put _ _ refl refl opened (put_back draft.schema t k values schema fits)
op_line_back draft (op.Del t k) schema fits opened = op_joins draft (codes "del") word.Del _ _ refl refl opened
    (two_words_back op.Del (known_table draft.schema) operand (name_of draft.schema t) (operand_word k) t k (known_back draft.schema t schema fits.0) (operand_back k fits.1))
op_line_back draft (op.Scan t k n c d) schema fits opened = op_joins draft (codes "scan") word.Scan _ _ refl refl opened (scan_back draft.schema t k n c d schema fits)
op_line_back draft (op.Need a rel b) schema fits opened = op_joins draft (codes "need") word.Need _ _ refl refl opened
    (three_words_back op.Need operand relation operand (operand_word a) (relation_word rel) (operand_word b) a rel b (operand_back a fits.0) (relation_back rel) (operand_back b fits.1))
op_line_back draft (op.Skip a rel b n) schema fits opened = op_joins draft (codes "skip") word.Skip _ _ refl refl opened
    (four_words_back op.Skip operand relation operand (within 1 64) (operand_word a) (relation_word rel) (operand_word b) (decimal n) a rel b n (operand_back a fits.0) (relation_back rel) (operand_back b fits.1) (within_back 1 64 n fits.2 fits.3 (omega arith)))
op_line_back draft (op.Out a) schema fits opened = op_joins draft (codes "out") word.Out _ _ refl refl opened (one_word_back op.Out operand (operand_word a) a (operand_back a fits))

-- the words of an op are words

pub register_is_word : (r : ℕ) → r < 16 → IsWord (register_word r)
register_is_word r small = (omega arith, (decimal_is_word r (omega arith)).1)

pub operand_is_word : (a : Operand) → OperandFits a → IsWord (operand_word a)
operand_is_word (Reg r) small = register_is_word r small
operand_is_word (Num n) small = decimal_is_word n small

pub relation_is_word : (rel : Rel) → IsWord (relation_word rel)
relation_is_word Eq = (omega arith, refl)
relation_is_word Ne = (omega arith, refl)
relation_is_word Lt = (omega arith, refl)
relation_is_word Le = (omega arith, refl)
relation_is_word Gt = (omega arith, refl)
relation_is_word Ge = (omega arith, refl)

pub operands_are_words : (values : List Operand) → All OperandFits values → All IsWord (map operand_word values)
operands_are_words values all = each_is_word operand_word OperandFits operand_is_word values all

pub op_words_are_words : (tables : List Table) (op : Op) → IsSchema tables → OpFits tables op → All IsWord (op_words tables op)
op_words_are_words tables (op.Set d a) schema fits =
    All-from_recursion IsWord (op_words tables (op.Set d a)) ((omega arith, refl), (register_is_word d fits.0, (operand_is_word a fits.1, tt)))
op_words_are_words tables (op.Add d a b) schema fits =
    All-from_recursion IsWord (op_words tables (op.Add d a b)) ((omega arith, refl), (register_is_word d fits.0, (operand_is_word a fits.1, (operand_is_word b fits.2, tt))))
op_words_are_words tables (op.Sub d a b) schema fits =
    All-from_recursion IsWord (op_words tables (op.Sub d a b)) ((omega arith, refl), (register_is_word d fits.0, (operand_is_word a fits.1, (operand_is_word b fits.2, tt))))
op_words_are_words tables (op.Mul d a b) schema fits =
    All-from_recursion IsWord (op_words tables (op.Mul d a b)) ((omega arith, refl), (register_is_word d fits.0, (operand_is_word a fits.1, (operand_is_word b fits.2, tt))))
op_words_are_words tables (op.Get t k c d) schema fits =
    let few = few_columns_at tables t schema.each fits.0 in
    All-from_recursion IsWord (op_words tables (op.Get t k c d))
    ((omega arith, refl), (table_name_is_word tables t schema fits.0, (operand_is_word k fits.1, (decimal_is_word c (omega (arith, few, fits.2)), (register_is_word d fits.3, tt)))))
op_words_are_words tables (op.Has t k d) schema fits =
    All-from_recursion IsWord (op_words tables (op.Has t k d)) ((omega arith, refl), (table_name_is_word tables t schema fits.0, (operand_is_word k fits.1, (register_is_word d fits.2, tt))))
op_words_are_words tables (op.Put t k values) schema fits =
    All-cons IsWord (codes "put") (name_of tables t ∷ operand_word k ∷ map operand_word values) (omega arith, refl)
    (All-cons IsWord (name_of tables t) (operand_word k ∷ map operand_word values) (table_name_is_word tables t schema fits.0)
    (All-cons IsWord (operand_word k) (map operand_word values) (operand_is_word k fits.1) (operands_are_words values fits.2)))
op_words_are_words tables (op.Del t k) schema fits =
    All-from_recursion IsWord (op_words tables (op.Del t k)) ((omega arith, refl), (table_name_is_word tables t schema fits.0, (operand_is_word k fits.1, tt)))
op_words_are_words tables (op.Scan t k n c d) schema fits =
    let few = few_columns_at tables t schema.each fits.0 in
    All-from_recursion IsWord (op_words tables (op.Scan t k n c d))
    ((omega arith, refl), (table_name_is_word tables t schema fits.0, (operand_is_word k fits.1, (decimal_is_word n (omega (arith, fits.3)), (decimal_is_word c (omega (arith, few, fits.4)), (register_is_word d fits.5, tt))))))
op_words_are_words tables (op.Need a rel b) schema fits =
    All-from_recursion IsWord (op_words tables (op.Need a rel b)) ((omega arith, refl), (operand_is_word a fits.0, (relation_is_word rel, (operand_is_word b fits.1, tt))))
op_words_are_words tables (op.Skip a rel b n) schema fits =
    All-from_recursion IsWord (op_words tables (op.Skip a rel b n))
    ((omega arith, refl), (operand_is_word a fits.0, (relation_is_word rel, (operand_is_word b fits.1, (decimal_is_word n (omega (arith, fits.3)), tt)))))
op_words_are_words tables (op.Out a) schema fits =
    All-from_recursion IsWord (op_words tables (op.Out a)) ((omega arith, refl), (operand_is_word a fits, tt))
