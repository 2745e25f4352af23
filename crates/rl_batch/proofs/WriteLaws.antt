-- Numbers, rows and writes: what is read is encoded so and in range, and what is encoded so is read again.
use Rattle.std.proofs.Common.{◌≡◌, ℕ, ◌+◌, ◌-◌, ◌^◌, ◌<◌, ◌≤◌, cond, ltb, eqb, List, [], ◌∷◌, ◌++◌, length, Option, Some, None, Result, Ok, Err, refl, sym, ap, subst, ◌∙◌, append_assoc, arith}
use Rattle.std.specs.Prelude.{IfSome, AllPairs}
use Rattle.std.specs.declared.cmp.Ordering.TheVariants.{Less}
use Rattle.std.specs.List.{flat_map, AllByRecursion}
use Rattle.std.proofs.lemmas.Bool.{ltb-false, le-ltb}
use Rattle.std.proofs.lemmas.Bool.Decides.{nat_tests}
use Rattle.std.proofs.lemmas.List.Elements.{recursion_from_All}
use Rattle.byteorder.specs.Endian.{big_bytes}
use Rattle.rl_base.specs.Numbers.{IsBytes}
use Rattle.rl_base.specs.Results.{◌>>=◌}
use Rattle.rl_base.specs.declared.limit.TheConstants.{TABLES, RECORDS}
use Rattle.rl_base.specs.declared.flaw.Flaw.TheVariants.{Order}
use Rattle.rl_value.specs.Rows.{place_cmp}
use Rattle.rl_txn.specs.declared.write.Write.{Write}
use Rattle.rl_fields.specs.declared.fault.Fault.{Fault}
use Rattle.rl_fields.specs.Faults.{fault_at}
use Rattle.rl_fields.specs.Fields.{number, within, series, several}
use Rattle.rl_fields.proofs.FieldLaws.{bind_ok, guard_not, ok_is, Takes, Takes-then, number_takes, number_again, within_takes, within_again}
use Rattle.rl_fields.proofs.SeriesLaws.{IsReader, series_takes, series_again, several_takes, several_again}
use Rattle.rl_batch.specs.Encoding.{numbers_bytes, columns_of_row, write_bytes, writes_bytes}
use Rattle.rl_batch.specs.Ranges.{WriteInRange, AreWords, WriteHasWords}
use Rattle.rl_txn.specs.Fits.{IsPlaceBelow}
use Rattle.rl_batch.specs.Reading.{rising, numbers, row_of_columns, row, least_key, write, place_after, writes}
use Rattle.rl_batch.proofs.Rising.{IsRise, chain_rises, rising_chain}

-- ---- a number that rises

pub rising_takes : (n low high least : ℕ) (field bytes : List ℕ) (x : ℕ × List ℕ) → IsBytes bytes → rising n low high least field bytes ≡ Ok x → Takes bytes (big_bytes n x.0) x.1 × (low ≤ x.0) × (x.0 ≤ high) × (least ≤ x.0)
unfolding rising
rising_takes n low high least field bytes x fits e =
    let a = bind_ok (within n low high bytes) (λ x. cond (ltb x.0 least) (Err (fault_at field Order)) (Ok x)) x e in
    let t = within_takes n low high bytes a.0 fits a.1 in
    let g = guard_not (ltb a.0.0 least) (fault_at field Order) a.0 x a.2 in
    subst (λ (y : ℕ × List ℕ). Takes bytes (big_bytes n y.0) y.1 × (low ≤ y.0) × (y.0 ≤ high) × (least ≤ y.0)) g.1 (t.0, t.1, t.2, ltb-false _ _ g.0)

pub rising_again : (n low high least x : ℕ) (field rest : List ℕ) → low ≤ x → x ≤ high → least ≤ x → x < 256 ^ n → rising n low high least field (big_bytes n x ++ rest) ≡ Ok (x, rest)
unfolding rising
rising_again n low high least x field rest above below from small =
    rw (within_again n low high x rest above below small, le-ltb x least from) refl

-- ---- numbers behind their count

pub numbers_takes : (most : ℕ) (bytes : List ℕ) (x : List ℕ × List ℕ) → IsBytes bytes → numbers most bytes ≡ Ok x → Takes bytes (numbers_bytes x.0) x.1 × (length x.0 ≤ most)
unfolding numbers
numbers_takes most bytes x fits e =
    let a = bind_ok (within 1 0 most bytes) (λ count. several (number 8) count.0 count.1) x e in
    let count = within_takes 1 0 most bytes a.0 fits a.1 in
    let each = several_takes (number 8) (λ v. big_bytes 8 v) (λ v. v < 256 ^ 8) (λ bytes y fits e. number_takes 8 bytes y fits e) a.0.0 a.0.1 x count.0.rest_fits a.2 in
    let whole = Takes-then bytes (big_bytes 1 a.0.0) a.0.1 (flat_map (λ v. big_bytes 8 v) x.0) x.1 count.0 each.0 in
    (subst (λ (k : ℕ). Takes bytes (big_bytes 1 k ++ flat_map (λ v. big_bytes 8 v) x.0) x.1) (sym each.1) whole, omega (arith, each.1, count.2))

pub numbers_again : (most : ℕ) (xs rest : List ℕ) → length xs ≤ most → most < 256 → AreWords xs → numbers most (numbers_bytes xs ++ rest) ≡ Ok (xs, rest)
unfolding numbers
numbers_again most xs rest few small words =
    let regrouped : numbers_bytes xs ++ rest ≡ big_bytes 1 (length xs) ++ (flat_map (λ v. big_bytes 8 v) xs ++ rest) = append_assoc (big_bytes 1 (length xs)) (flat_map (λ v. big_bytes 8 v) xs) rest in
    let count : within 1 0 most (big_bytes 1 (length xs) ++ (flat_map (λ v. big_bytes 8 v) xs ++ rest)) ≡ Ok (length xs, flat_map (λ v. big_bytes 8 v) xs ++ rest) = within_again 1 0 most (length xs) (flat_map (λ v. big_bytes 8 v) xs ++ rest) (omega arith) few (omega arith) in
    let each : several (number 8) (length xs) (flat_map (λ v. big_bytes 8 v) xs ++ rest) ≡ Ok (xs, rest) = several_again (number 8) (λ v. big_bytes 8 v) (λ v. v < 2 ^ 64) (λ v rest lt. number_again 8 v rest lt) xs rest (recursion_from_All (λ v. v < 2 ^ 64) xs words) in
    ap (numbers most) regrouped ∙ ap (λ (r : Result (ℕ × List ℕ) Fault). r >>= λ count. several (number 8) count.0 count.1) count ∙ each

-- ---- rows

cells-row : (cells : List ℕ) → columns_of_row (row_of_columns cells) ≡ cells
cells-row [] = refl
cells-row (cell ∷ cells) = refl

row-cells : (r : Option (List ℕ)) → IfSome r (λ row. 1 ≤ length row) → row_of_columns (columns_of_row r) ≡ r
row-cells None some = refl
row-cells (Some []) some = absurd (omega arith)
row-cells (Some (cell ∷ cells)) some = refl

row_some : (cells : List ℕ) → IfSome (row_of_columns cells) (λ row. 1 ≤ length row)
row_some [] = tt
row_some (cell ∷ cells) = omega arith

row_few : (cells : List ℕ) → length cells ≤ 4 → IfSome (row_of_columns cells) (λ row. length row ≤ 4)
row_few [] few = tt
row_few (cell ∷ cells) few = few

cells_few : (r : Option (List ℕ)) → IfSome r (λ row. length row ≤ 4) → length (columns_of_row r) ≤ 4
cells_few None few = omega arith
cells_few (Some row) few = few

cells_words : (r : Option (List ℕ)) → IfSome r AreWords → AreWords (columns_of_row r)
cells_words None words = λ k d within. absurd (omega arith)
cells_words (Some row) words = words

pub row_takes : (bytes : List ℕ) (x : Option (List ℕ) × List ℕ) → IsBytes bytes → row bytes ≡ Ok x → Takes bytes (numbers_bytes (columns_of_row x.0)) x.1 × IfSome x.0 (λ row. 1 ≤ length row) × IfSome x.0 (λ row. length row ≤ 4)
unfolding row
row_takes bytes x fits e =
    let a = bind_ok (numbers 4 bytes) (λ cells. Ok (row_of_columns cells.0, cells.1)) x e in
    let t = numbers_takes 4 bytes a.0 fits a.1 in
    let made : Option (List ℕ) × List ℕ = (row_of_columns a.0.0, a.0.1) in
    let whole : Takes bytes (numbers_bytes (columns_of_row (row_of_columns a.0.0))) a.0.1 = subst (λ (cells : List ℕ). Takes bytes (numbers_bytes cells) a.0.1) (sym (cells-row a.0.0)) t.0 in
    subst (λ (y : Option (List ℕ) × List ℕ). Takes bytes (numbers_bytes (columns_of_row y.0)) y.1 × IfSome y.0 (λ row. 1 ≤ length row) × IfSome y.0 (λ row. length row ≤ 4)) (ok_is {E = Fault} made x a.2) (whole, row_some a.0.0, row_few a.0.0 t.1)

pub row_again : (r : Option (List ℕ)) (rest : List ℕ) → IfSome r (λ row. 1 ≤ length row) → IfSome r (λ row. length row ≤ 4) → IfSome r AreWords → row (numbers_bytes (columns_of_row r) ++ rest) ≡ Ok (r, rest)
unfolding row
row_again r rest some few words =
    ap (λ (n : Result (List ℕ × List ℕ) Fault). n >>= λ cells. Ok (row_of_columns cells.0, cells.1)) (numbers_again 4 (columns_of_row r) rest (cells_few r few) (omega arith) (cells_words r words))
    ∙ ap (λ (r : Option (List ℕ)). Ok (r, rest)) (row-cells r some)

-- ---- writes

-- a write at the least place or above it
abbrev pub IsFrom : ℕ × ℕ → Write → Type 0
IsFrom least w = (least.0 ≤ w.table) × (least_key least w.table ≤ w.key)

abbrev pub MayWrite : ℕ × ℕ → Write → Type 0
MayWrite least w = WriteInRange w × IsFrom least w

less_table : (a b c d : ℕ) → place_cmp (a, b) (c, d) ≡ Less → a ≤ c
less_table a b c d less = grind (arith, nat_tests)

less_key : (a b c d : ℕ) → place_cmp (a, b) (c, d) ≡ Less → cond (eqb c a) (b + 1) 0 ≤ d
less_key a b c d less = grind (arith, nat_tests)

less_is : (a b c d : ℕ) → a ≤ c → cond (eqb c a) (b + 1) 0 ≤ d → place_cmp (a, b) (c, d) ≡ Less
less_is a b c d table key = grind (arith, nat_tests)

from_key : (a b c d e f : ℕ) → a ≤ c → cond (eqb c a) b 0 ≤ d → c ≤ e → cond (eqb e c) (d + 1) 0 ≤ f → cond (eqb e a) b 0 ≤ f
from_key a b c d e f p q r s = grind (arith, nat_tests)

pub places_rise : IsRise IsFrom place_after IsPlaceBelow
places_rise = record {
  on = λ told v w from below.
      let table = less_table v.table v.key w.table w.key below in
      let key = less_key v.table v.key w.table w.key below in
      (omega (arith, from.0), from_key told.0 told.1 v.table v.key w.table w.key from.0 from.1 table key);
  above = λ v w from. less_is v.table v.key w.table w.key from.0 from.1;
  back = λ v w below. (less_table v.table v.key w.table w.key below, less_key v.table v.key w.table w.key below);
}

write_takes : (told : ℕ × ℕ) (bytes : List ℕ) (x : Write × List ℕ) → IsBytes bytes → write told bytes ≡ Ok x → Takes bytes (write_bytes x.0) x.1 × MayWrite told x.0
unfolding write
write_takes told bytes x fits e =
    let a = bind_ok (rising 1 0 (TABLES - 1) told.0 bytes bytes) (λ table. rising 4 0 (RECORDS - 1) (least_key told table.0) bytes table.1 >>= λ key. row key.1 >>= λ row. Ok (record { table = table.0; key = key.0; row = row.0 }, row.1)) x e in
    let b = bind_ok (rising 4 0 (RECORDS - 1) (least_key told a.0.0) bytes a.0.1) (λ key. row key.1 >>= λ row. Ok (record { table = a.0.0; key = key.0; row = row.0 }, row.1)) x a.2 in
    let c = bind_ok (row b.0.1) (λ row. Ok (record { table = a.0.0; key = b.0.0; row = row.0 }, row.1)) x b.2 in
    let table = rising_takes 1 0 (TABLES - 1) told.0 bytes bytes a.0 fits a.1 in
    let key = rising_takes 4 0 (RECORDS - 1) (least_key told a.0.0) bytes a.0.1 b.0 table.0.rest_fits b.1 in
    let cells = row_takes b.0.1 c.0 key.0.rest_fits c.1 in
    let front = Takes-then bytes (big_bytes 1 a.0.0) a.0.1 (big_bytes 4 b.0.0) b.0.1 table.0 key.0 in
    let whole = Takes-then bytes (big_bytes 1 a.0.0 ++ big_bytes 4 b.0.0) b.0.1 (numbers_bytes (columns_of_row c.0.0)) c.0.1 front cells.0 in
    let made : Write × List ℕ = (record { table = a.0.0; key = b.0.0; row = c.0.0 }, c.0.1) in
    subst (λ (y : Write × List ℕ). Takes bytes (write_bytes y.0) y.1 × MayWrite told y.0) (ok_is {E = Fault} made x c.2) (whole, (record { table = table.2; key = key.2; some_columns = cells.1; few_columns = cells.2 }, (table.3, key.3)))

write_again : (told : ℕ × ℕ) (w : Write) (rest : List ℕ) → MayWrite told w → WriteHasWords w → write told (write_bytes w ++ rest) ≡ Ok (w, rest)
unfolding write
write_again told w rest may words =
    let cells = numbers_bytes (columns_of_row w.row) in
    let regrouped : write_bytes w ++ rest ≡ big_bytes 1 w.table ++ (big_bytes 4 w.key ++ (cells ++ rest)) = append_assoc (big_bytes 1 w.table ++ big_bytes 4 w.key) cells rest ∙ append_assoc (big_bytes 1 w.table) (big_bytes 4 w.key) (cells ++ rest) in
    let all = big_bytes 1 w.table ++ (big_bytes 4 w.key ++ (cells ++ rest)) in
    let range = may.0 in
    let from = may.1 in
    let table : rising 1 0 (TABLES - 1) told.0 all all ≡ Ok (w.table, big_bytes 4 w.key ++ (cells ++ rest)) = rising_again 1 0 (TABLES - 1) told.0 w.table all (big_bytes 4 w.key ++ (cells ++ rest)) (omega arith) range.table from.0 (omega (arith, range.table)) in
    let key : rising 4 0 (RECORDS - 1) (least_key told w.table) all (big_bytes 4 w.key ++ (cells ++ rest)) ≡ Ok (w.key, cells ++ rest) = rising_again 4 0 (RECORDS - 1) (least_key told w.table) w.key all (cells ++ rest) (omega arith) range.key from.1 (omega (arith, range.key)) in
    let columns : row (cells ++ rest) ≡ Ok (w.row, rest) = row_again w.row rest range.some_columns range.few_columns words in
    ap (write told) regrouped
    ∙ ap (λ (r : Result (ℕ × List ℕ) Fault). r >>= λ table. rising 4 0 (RECORDS - 1) (least_key told table.0) all table.1 >>= λ key. row key.1 >>= λ row. Ok (record { table = table.0; key = key.0; row = row.0 }, row.1)) table
    ∙ ap (λ (r : Result (ℕ × List ℕ) Fault). r >>= λ key. row key.1 >>= λ row. Ok (record { table = w.table; key = key.0; row = row.0 }, row.1)) key
    ∙ ap (λ (r : Result (Option (List ℕ) × List ℕ) Fault). r >>= λ row. Ok (record { table = w.table; key = w.key; row = row.0 }, row.1)) columns

write_reader : IsReader write write_bytes MayWrite WriteHasWords
write_reader = record { takes = write_takes; again = write_again }

pub writes_takes : (most : ℕ) (bytes : List ℕ) (x : List Write × List ℕ) → IsBytes bytes → writes most bytes ≡ Ok x
    → Takes bytes (writes_bytes x.0) x.1 × (length x.0 ≤ most) × AllByRecursion WriteInRange x.0 × AllPairs IsPlaceBelow x.0
unfolding writes
writes_takes most bytes x fits e =
    let a = bind_ok (within 1 0 most bytes) (λ count. series write place_after count.0 (0, 0) count.1) x e in
    let count = within_takes 1 0 most bytes a.0 fits a.1 in
    let each = series_takes write write_bytes MayWrite WriteHasWords place_after write_reader a.0.0 (0, 0) a.0.1 x count.0.rest_fits a.2 in
    let whole = Takes-then bytes (big_bytes 1 a.0.0) a.0.1 (flat_map write_bytes x.0) x.1 count.0 each.0 in
    let rise = chain_rises WriteInRange IsFrom place_after IsPlaceBelow places_rise (0, 0) x.0 each.2 in
    (subst (λ (k : ℕ). Takes bytes (big_bytes 1 k ++ flat_map write_bytes x.0) x.1) (sym each.1) whole, omega (arith, each.1, count.2), rise.0, rise.1)

least_of_all : (w : Write) → IsFrom (0, 0) w
least_of_all w = (omega arith, grind (arith, nat_tests))

all_from_least : (ws : List Write) → AllByRecursion (IsFrom (0, 0)) ws
all_from_least [] = tt
all_from_least (w ∷ ws) = (least_of_all w, all_from_least ws)

pub writes_again : (most : ℕ) (ws : List Write) (rest : List ℕ) → length ws ≤ most → most < 256 → AllByRecursion WriteInRange ws → AllPairs IsPlaceBelow ws → AllByRecursion WriteHasWords ws
    → writes most (writes_bytes ws ++ rest) ≡ Ok (ws, rest)
unfolding writes
writes_again most ws rest few small each below words =
    let regrouped : writes_bytes ws ++ rest ≡ big_bytes 1 (length ws) ++ (flat_map write_bytes ws ++ rest) = append_assoc (big_bytes 1 (length ws)) (flat_map write_bytes ws) rest in
    let count : within 1 0 most (big_bytes 1 (length ws) ++ (flat_map write_bytes ws ++ rest)) ≡ Ok (length ws, flat_map write_bytes ws ++ rest) = within_again 1 0 most (length ws) (flat_map write_bytes ws ++ rest) (omega arith) few (omega arith) in
    let chain = rising_chain WriteInRange IsFrom place_after IsPlaceBelow places_rise (0, 0) ws each below (all_from_least ws) in
    ap (writes most) regrouped ∙ ap (λ (r : Result (ℕ × List ℕ) Fault). r >>= λ count. series write place_after count.0 (0, 0) count.1) count
    ∙ series_again write write_bytes MayWrite WriteHasWords place_after write_reader ws (0, 0) rest chain words
