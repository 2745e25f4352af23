-- Sums of the sizes of tables, and the places of records.
use Rattle.std.proofs.Common.{◌≡◌, ℕ, ◌+◌, ◌-◌, ◌<◌, ◌≤◌, List, [], ◌∷◌, ◌++◌, length, sum, take, drop, get_or, slice_index, refl, ap, sym, ◌∙◌, zero, suc, arith}
use Rattle.std.proofs.lemmas.Bool.Decides.{nat_tests}
use Rattle.std.proofs.lemmas.List.{take_more, length-map}
use Rattle.std.proofs.lemmas.List.Sums.{sum-map, sum_by_more_le}
use Rattle.std.proofs.Math.Seq.{drop-cons}
use Rattle.rl_base.specs.declared.limit.TheConstants.{RECORDS, TABLES}
use Rattle.rl_value.specs.Tables.{Table, IsSchema, size_of}
use Rattle.rl_tables.specs.Numbers.{sizes_of, place_from}

-- the records of a table come within those of all
pub sum_before : (sizes : List ℕ) (t : ℕ) → t < length sizes → sum (take t sizes) + slice_index sizes t ≤ sum sizes
sum_before sizes t h = sum_by_more_le (λ x. x) sizes t 0 h

pub size_at : (tables : List Table) (t : ℕ) → slice_index (sizes_of tables) t ≡ size_of tables t
size_at [] t = refl
size_at (x ∷ xs) zero = refl
size_at (x ∷ xs) (suc t) = size_at xs t

-- one more size
pub sizes_more : (tables : List Table) (t size : ℕ) → t < length tables → size ≡ size_of tables t → take t (sizes_of tables) ++ size ∷ [] ≡ take (t + 1) (sizes_of tables)
sizes_more tables t size within is =
    let there : t < length (sizes_of tables) = simp length-map within in
    ap (λ n. take t (sizes_of tables) ++ n ∷ []) (is ∙ sym (size_at tables t)) ∙ sym (take_more (sizes_of tables) t 0 there)

-- the sizes of a schema's tables keep its limits
pub record Few (sizes : List ℕ) : Type 0 where
  pub tables : length sizes ≤ TABLES
  pub records : sum sizes ≤ RECORDS

pub sizes_few : (tables : List Table) → IsSchema tables → Few (sizes_of tables)
sizes_few tables ok = record {
  tables = simp length-map ok.few;
  records = simp sum-map ok.records;
}

-- a record past a table lies in a later one
pub place_past : (sizes : List ℕ) (t size rec : ℕ) → t < length sizes → size ≡ get_or sizes t size → size ≤ rec → place_from t (drop t sizes) rec ≡ place_from (t + 1) (drop (t + 1) sizes) (rec - size)
place_past sizes t size rec within is past = rw (drop-cons sizes t size within, ← is) (grind (arith, nat_tests))

pub place_here : (sizes : List ℕ) (t size rec : ℕ) → t < length sizes → size ≡ get_or sizes t size → rec < size → place_from t (drop t sizes) rec ≡ (t, rec)
place_here sizes t size rec within is here = rw (drop-cons sizes t size within, ← is) (grind (arith, nat_tests))
