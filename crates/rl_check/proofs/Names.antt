-- The names of tables are words, so that their rows can be printed.
use Rattle.std.proofs.Common.{◌≡◌, ℕ, zero, suc, ◌+◌, ◌<◌, ◌≤◌, true, List, [], ◌∷◌, length, All, Option, Some, None, arith}
use Rattle.std.specs.FinMap as finite
use Rattle.std.specs.List.{flat_map, list_all, range_with_len}
use Rattle.std.proofs.lemmas.Bool.Decides.{nat_tests}
use Rattle.std.proofs.lemmas.List.Elements.{All-nil, All-cons, All-head, All-tail, All-append}
use Rattle.rl_base.proofs.Tests.{both, true_lt}
use Rattle.rl_value.specs.Names.{is_name, is_name_byte}
use Rattle.rl_value.specs.Rows.{Rows}
use Rattle.rl_value.specs.Tables.{Table, IsTable, name_of, size_of}
use Rattle.rl_report.specs.declared.line.RowLine.{RowLine}
use Rattle.rl_report.specs.Forms.{IsWord, AreNamed}
use Rattle.rl_report.specs.Lines.{row_line, row_lines_of_table, row_lines}

abbrev IsInWord : ℕ → Type 0
IsInWord b = (33 ≤ b) × (b ≤ 126)

name_byte : (b : ℕ) → is_name_byte b ≡ true → IsInWord b
name_byte b h = (low b h, high b h)
  where
    low : (b : ℕ) → is_name_byte b ≡ true → 33 ≤ b
    low b h = grind (arith, nat_tests)

    high : (b : ℕ) → is_name_byte b ≡ true → b ≤ 126
    high b h = grind (arith, nat_tests)

name_bytes : (word : List ℕ) → list_all is_name_byte word ≡ true → All IsInWord word
name_bytes [] h = All-nil IsInWord
name_bytes (b ∷ word) h =
    let e = both (is_name_byte b) (list_all is_name_byte word) h in
    All-cons IsInWord b word (name_byte b e.0) (name_bytes word e.1)

name_is_word : (word : List ℕ) → is_name word ≡ true → IsWord word
name_is_word word h =
    let whole = both _ _ h in
    let sizes = both _ _ (both _ _ whole.0).0 in
    (true_lt 0 (length word) sizes.0, name_bytes word whole.1)

-- the name of a table that is there
pub name_of_word : (tables : List Table) (t : ℕ) → All IsTable tables → t < length tables → IsWord (name_of tables t)
name_of_word [] t h there = absurd (omega arith)
name_of_word (x ∷ tables) zero h there = name_is_word x.name (All-head IsTable x tables h).named
name_of_word (x ∷ tables) (suc t) h there = name_of_word tables t (All-tail IsTable x tables h) (omega arith)

-- what holds of the parts of a list holds of all of it
over_range : {A : Type 0} (P : A → Type 0) (f : ℕ → List A) (first n : ℕ) → ((t : ℕ) → t < first + n → All P (f t)) → All P (flat_map f (range_with_len first n))
over_range P f first zero each = All-nil P
over_range P f first (suc n) each = All-append P (f first) (flat_map f (range_with_len (first + 1) n)) (each first (omega arith)) (over_range P f (first + 1) n (λ t l. each t (omega (arith, l))))

named_row : (name : List ℕ) (key : ℕ) (row : Option (List ℕ)) → IsWord name → AreNamed (row_line name key row)
named_row name key None is = All-nil (λ (x : RowLine). IsWord x.table)
named_row name key (Some row) is = All-cons (λ (x : RowLine). IsWord x.table) (record { table = name; key = key; row = row }) [] is (All-nil (λ (x : RowLine). IsWord x.table))

-- all rows of tables are named
pub rows_named : (tables : List Table) (rows : Rows) → All IsTable tables → AreNamed (row_lines tables rows)
rows_named tables rows all = over_range (λ (x : RowLine). IsWord x.table) (row_lines_of_table tables rows) 0 (length tables)
    (λ t l. over_range (λ (x : RowLine). IsWord x.table) (λ key. row_line (name_of tables t) key (finite.get rows (t, key))) 0 (size_of tables t)
    (λ key _. named_row (name_of tables t) key (finite.get rows (t, key)) (name_of_word tables t all (omega (arith, l)))))
