-- The store of an epoch opens with the rows of its keys.
use Rattle.std.proofs.Common.{◌≡◌, ℕ, ◌<◌, List, length, sum, Some, None, Result, Ok, Err, sym, ap, ◌∙◌, subst, arith}
use Rattle.std.specs.Prelude.{slice_index, slice_index_or, IfOk}
use Rattle.std.specs.FinMap as finite
use Rattle.rl_value.specs.Fits.{RowsFit}
use Rattle.rl_value.specs.Rows.{Rows}
use Rattle.rl_value.specs.Tables.{Table, columns_of}
use Rattle.rl_tables.specs.Numbers.{sizes_of, record_of, place_of}
use Rattle.rl_tables.proofs.Places.{place_of_record}
use Rattle.rl_tables.proofs.Sizes.{sum_before, size_at}
use Rattle.rl_shared_replay.specs.Opening.{Wide}
use Rattle.rl_store.specs.Entries.{RowOf}
use Rattle.rl_store.specs.Layout.{FitsColumns, Shows, stamp_at}
use Rattle.rl_store.specs.Opening.{Made, OpensWith, opening_of}
use Rattle.rl_live.specs.Decided.{OpensWithRows}
use Rattle.rl_live.specs.Handing.{HasRows}
use Rattle.rl_live.proofs.Firsts.{map_long}

pub ok_two : {T E : Type 0} (r : Result T E) (P Q S : T → Type 0) → IfOk r P → IfOk r Q → ((v : T) → P v → Q v → S v) → IfOk r S
ok_two (Ok v) P Q S p q f = f v p q
ok_two (Err e) P Q S p q f = tt

module _ (tables : List Table) (rows : Rows) (columns : List ℕ) (list : List RowOf) (wide : Wide tables (sizes_of tables) (sum (sizes_of tables)) columns) (has : HasRows (sizes_of tables) rows (sum (sizes_of tables)) list) where
  abbrev sizes : List ℕ
  sizes = sizes_of tables

  pub fits_rows : RowsFit tables rows → (r : ℕ) → r < length columns → FitsColumns (slice_index columns r) (slice_index_or list r None)
  fits_rows fit r l =
      let n = wide.long in
      let inside : r < sum sizes = omega arith in
      subst (λ c. FitsColumns c (slice_index_or list r None)) (sym (wide.each r inside)) (by_row (slice_index_or list r None) (sym (has.each r inside)))
    where
      by_row : (o : RowOf) → finite.get rows (place_of sizes r) ≡ o → FitsColumns (columns_of tables (place_of sizes r).0) o
      by_row None e = tt
      by_row (Some row) e = (fit (place_of sizes r).0 (place_of sizes r).1 row e).2

  pub opens_rows : (made : Made) (stamps : List ℕ) → made.columns ≡ columns
      → ((r : ℕ) → r < length columns → OpensWith made r (slice_index stamps r) (slice_index_or list r None)) → OpensWithRows tables rows made
  opens_rows made stamps same opens = record {
    records = record {
      records = ap length same ∙ wide.long;
      columns = λ t k lt lk.
          let s = size_at tables t in
          let m = map_long (λ (x : Table). x.size) tables in
          let b = sum_before sizes t (omega arith) in
          let inside : record_of sizes t k < sum sizes = omega arith in
          ap (λ c. slice_index c (record_of sizes t k)) same ∙ (wide.each (record_of sizes t k) inside ∙ ap (λ (p : ℕ × ℕ). columns_of tables p.0) (place_of_record sizes t k (omega arith) (omega arith)));
    };
    shown = λ r l. (let n = wide.long in subst (λ row. Shows (opening_of made) made.words r row) (has.each r l) (opens r (omega arith)).shown);
  }

  pub zero_stamps : (made : Made) (stamps : List ℕ) → ((r : ℕ) → r < length columns → OpensWith made r (slice_index stamps r) (slice_index_or list r None))
      → ((r : ℕ) → r < sum sizes → slice_index stamps r ≡ 0) → (r : ℕ) → r < sum sizes → stamp_at made.words r ≡ 0
  zero_stamps made stamps opens zero r l = let n = wide.long in (opens r (omega arith)).stamped ∙ zero r l
